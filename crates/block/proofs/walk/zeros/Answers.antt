-- `block::walk::zeros` meets its contract: the part is tested, and zeros add nothing.
use mathlib.Core.Path.{◌∙◌}
use native.Mathlib.Omega.{arith}
use Rattle.block.proofs.WalkLaws.{hand_on, zeros_add}
use Rattle.block.proofs.walk.zeros.Goals as goal

pub returns : goal.returns
returns c =
    hand_on _ _ _ _ _ c.then_some.ensures c.all_zero.ensures (λ e. c.requires.sum_value ∙ zeros_add _ _ _ (omega arith) (omega arith) e)
