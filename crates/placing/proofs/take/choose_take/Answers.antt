-- `placing::take::choose_take` meets its contract: what is taken with the left end is compared with what is taken without, and each return is a case of
-- `Takes`.
use mathlib.Core.Path.{refl}
use Rattle.placing.proofs.TakeLaws.{takes_inside, takes_left, takes_upon}
use Rattle.placing.proofs.take.choose_take.Goals as goal

pub returns-then-over-both : goal.returns-then-over-both
returns-then-over-both c =
    takes_inside _ _ _ _ _ _ _ _ _ c.requires.from_lt_to c.unit-both.ensures c.with_left_end-over.ensures c.if-over-both.true

pub returns-then-mate-from : goal.returns-then-mate-from
returns-then-mate-from c =
    takes_left _ _ _ _ _ _ _ _ _ c.requires.from_lt_to c.unit-both.ensures c.with_left_end-over.ensures c.if-over-both.false c.if-mate-from.true

pub returns-else-mate-from : goal.returns-else-mate-from
returns-else-mate-from c =
    takes_upon _ _ _ _ _ _ _ _ _ c.requires.from_lt_to c.unit-both.ensures c.with_left_end-over.ensures c.if-over-both.false _ refl c.if-mate-from.false
