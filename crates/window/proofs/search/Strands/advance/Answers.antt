-- `window::search::Strands::advance` meets its contract: windows from before `from` that are shorter than the best would end before `low`, and none begins
-- from there to before `next` (`gone_on`).
use native.Mathlib.Omega.{arith}
use Rattle.window.proofs.CarryLaws.{gone_on}
use Rattle.window.proofs.search.Strands.advance.Goals as goal

pub returns : goal.returns
returns c =
    gone_on c.args.self.now.base c.args.self.now.proper.nested.inside c.requires.0 _ _ _ c.requires.1.0 (omega arith) c.next_begin-next.ensures
    (omega arith)
