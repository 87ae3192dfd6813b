-- `placing::take::with_left_end` meets its contract: the tables tell which letters match (`over_known`).
use Rattle.rows.proofs.TableLaws.{over_known}
use Rattle.placing.proofs.take.with_left_end.Goals as goal

pub returns : goal.returns
returns c =
    over_known _ _ _ _ _ _ _ _ c.requires.from_lt_to c.requires.segment.1 c.args.motif.now.made c.letter_class-left.ensures c.letter_class-right.ensures
    c.over_entry.ensures
