-- `placing::take::write_take` meets its contract: two entries are set, for the ends that are taken.
use native.Mathlib.Omega.{arith}
use Rattle.placing.proofs.TakeLaws.{takes_end}
use Rattle.placing.proofs.take.write_take.Goals as goal

pub put-requires-2 : goal.put-requires-2
put-requires-2 c = (
  λ h. omega (arith, takes_end _ c.choose_take-t.ensures h, c.requires.from_lt_to, c.put.ensures.long),
  omega (arith, c.requires.l_lt_r),
)
