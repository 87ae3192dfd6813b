-- `screening::text::Text::put_field` meets its contract. The number is written where the word ends, and two texts put one after the other are their join
-- put at once.
use native.Mathlib.Omega.{arith}
use Rattle.screening.proofs.WritingLaws as writing
use Rattle.screening.proofs.text.Text.put_field.Goals as goal

pub returns : goal.returns
returns c = writing.then (let z = c.requires in omega arith) c.put_word.ensures c.put_number.ensures
