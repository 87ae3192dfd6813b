-- `screening::text::Text::put_line` meets its contract. The digits, and a line feed where they end.
use native.Mathlib.Omega.{arith}
use Rattle.screening.specs.Text.{digits}
use Rattle.screening.proofs.TextLaws as law
use Rattle.screening.proofs.WritingLaws as writing
use Rattle.screening.proofs.text.Text.put_line.Goals as goal

pub put_number-requires : goal.put_number-requires
put_number-requires c = omega (arith, law.line_length (digits c.args.n), c.requires)

pub put_byte-requires : goal.put_byte-requires
put_byte-requires c =
    omega (arith, law.line_length (digits c.args.n), c.requires, c.put_number.ensures.put.past, c.put_number.ensures.size)

pub returns : goal.returns
returns c = writing.number_line c.args.n c.requires c.put_number.ensures c.put_byte.ensures
