-- `demands::show` meets its contract: the answer is `show_answer`, of which the demands speak; places and work slice are as its contract says.
use Rattle.demands.proofs.Ties.{show_tied}
use Rattle.demands.proofs.show.Goals as goal

pub returns : goal.returns
returns c =
    let told = c.show.ensures in
    show_tied _ _ _ _ _ _ _ _ _ told.0 told.1 told.2
