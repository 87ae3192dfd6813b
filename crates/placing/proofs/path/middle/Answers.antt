-- `placing::path::middle` meets its contract. The invariant: mid is l or halves the bases (`Between`).
use native.Mathlib.Omega.{arith}
use Rattle.placing.proofs.Levels.{between_start, between_next}
use Rattle.placing.proofs.path.middle.Goals as goal

pub returns-then-size-bases : goal.returns-then-size-bases
returns-then-size-bases c = between_start _ _ _ _ c.requires.l_lt_hi.1.1

pub loop-next-init : goal.loop-next-init
loop-next-init c = between_start _ _ _ _ c.requires.l_lt_hi.1.1

pub loop-next-preserved : goal.loop-next-preserved
loop-next-preserved c =
    between_next c.requires.nested (c.requires.nested.inside _ (omega (arith, c.requires.l_lt_hi))) c.loop-next.invariant c.in-Some.ensures.1
    c.in-Some.ensures.0 (omega (arith, c.if-size-least.false, c.size-in-Some.ensures.0, c.size-2.ensures.0))
