-- `batch::refused` meets its contract: zeros beside the refusal.
use mathlib.Core.Path.{refl}
use Rattle.calls.specs.Batch.{not_batched}
use Rattle.batch.proofs.refused.Goals as goal

pub returns : goal.returns
unfolding not_batched
returns c = refl
