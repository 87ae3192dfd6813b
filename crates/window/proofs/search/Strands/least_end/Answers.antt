-- `window::search::Strands::least_end` meets its contract: the window to e carries the motif, and none that ends before a (`EndsAt`).
use native.Mathlib.Omega.{arith}
use Rattle.window.proofs.CarryLaws.{ends_order, ends_least, ends_later}
use Rattle.window.proofs.search.Strands.least_end.Goals as goal

pub loop-a-preserved : goal.loop-a-preserved
loop-a-preserved c = record {
  ends = ends_later _ c.loop-a.invariant.ends (c.carries.ensures.tells.no c.if-carries.false);
  within = (omega arith, omega arith);
  tables_for = c.carries.ensures.tables_for;
  work_room = omega arith;
}

pub returns-clause-ends_at_2 : goal.returns-clause-ends_at_2
returns-clause-ends_at_2 c =
    let S = c.loop-a.invariant.ends in
    let E = ends_order S in
    (ends_least S c.loop-a-test.false, (omega (arith, E, c.loop-a.invariant.within.0), c.loop-a.invariant.within.1))
