-- `window::search::Strands::search_lent` meets its contract: what the search knows holds at first and after each step (`Seek`), `low` rises, and behind the
-- molecule's end, or where the best window has as many bases as the motif, the best is the tightest.
use native.Mathlib.Omega.{arith}
use Rattle.window.proofs.CarryLaws.{found_clear, found_short}
use Rattle.window.proofs.search.Strands.search_lent.Goals as goal

pub returns-then-limit-self : goal.returns-then-limit-self
returns-then-limit-self c = found_short c.loop-at.invariant.seek c.args.self.now.base (omega arith)

pub returns : goal.returns
returns c = found_clear c.loop-at.invariant.seek (omega (arith, c.loop-at-test.false))
