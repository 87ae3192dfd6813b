-- `capi::lakhido_batch` meets its contract. The outcome is that of `batch::batch`, its answer told as a struct of numbers; what is kept of the work
-- slice is said
-- by the same verdict.
use Rattle.interface.proofs.InterfaceLaws.{batch_in_c_lem}
use Rattle.capi.proofs.lakhido_batch.Goals as goal

pub returns : goal.returns
returns c = (batch_in_c_lem c.into.ensures c.batch.ensures.0, c.batch.ensures.1)
