-- `window::search::Strands::last_start` meets its contract: the window from s carries the motif, and none from behind b (`StartsAt`).
use native.Mathlib.Omega.{arith}
use Rattle.window.proofs.CarryLaws.{starts_order, starts_last}
use Rattle.window.proofs.search.Strands.last_start.Goals as goal

pub returns-clause-starts_at_2 : goal.returns-clause-starts_at_2
returns-clause-starts_at_2 c =
    let S = c.loop-s.invariant.starts in
    let E = starts_order S in
    (starts_last S c.loop-s-test.false, (c.loop-s.invariant.within.0, omega (arith, E, c.loop-s.invariant.within.1)))
