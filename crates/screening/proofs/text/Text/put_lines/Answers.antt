-- `screening::text::Text::put_lines` meets its contract. The invariant: the lines of the numbers before n are put.
use borrow.Author.Rules.{rules}
use Rattle.screening.proofs.WritingLaws as writing
use Rattle.screening.proofs.text.Text.put_lines.Goals as goal

pub loop-n-init : goal.loop-n-init
loop-n-init c = writing.lines_none c.args.self.now

pub put_line-requires : goal.put_line-requires
put_line-requires c =
    rw c.from.ensures (writing.line_room c.args.numbers.now c.loop-n.n-index (search rules) c.requires c.loop-n.invariant)

pub loop-n-preserved : goal.loop-n-preserved
loop-n-preserved c =
    writing.line_next c.args.numbers.now c.loop-n.n-index (search rules) c.requires c.loop-n.invariant (rw c.from.ensures at c.put_line.ensures)
