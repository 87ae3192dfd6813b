-- `screening::text::Text::put_lines` meets its contract. The invariant: the lines of the numbers before n are put.
use lib.ListN.{take}
use Rattle.screening.specs.Text.{lines}
use Rattle.screening.specs.Writing.{Puts}
use Rattle.screening.proofs.text.Text.put_lines.Given as goal

abbrev pub invariant-loop-n : goal.invariant-loop-n
invariant-loop-n l = Puts (lines (take l.n-index l.numbers)) l.fn.self l.self
