-- `demands::window` meets its contract: the answer is `window_answer`, of which the demands speak; the work slice is as its contract says.
use Rattle.demands.proofs.Ties.{window_tied}
use Rattle.demands.proofs.window.Goals as goal

pub returns : goal.returns
returns c =
    let told = c.window.ensures in
    window_tied _ _ _ _ _ _ _ told.0 told.1
