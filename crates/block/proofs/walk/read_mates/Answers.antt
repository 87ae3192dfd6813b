-- `block::walk::read_mates` meets its contract: out of range the mates are not nested; in range they are tested.
use Rattle.block.proofs.WalkLaws.{pass_err, not_inside}
use Rattle.block.proofs.walk.read_mates.Goals as goal

pub returns-in-Err : goal.returns-in-Err
returns-in-Err c =
    let out = c.weigh.ensures.outside _ c.in-Err.is in pass_err _ _ _ (not_inside _ out.0) out.1
