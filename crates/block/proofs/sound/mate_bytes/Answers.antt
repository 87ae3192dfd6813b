-- `block::sound::mate_bytes` meets its contract: nested mates, which need no high byte, and zeros behind them.
use mathlib.Core.Path.{sym, refl, ◌∙◌}
use native.Mathlib.Omega.{arith}
use Rattle.block.proofs.SoundLaws as laws
use Rattle.block.proofs.WalkLaws.{handed, not_handed, hand_none, hand_on, kept, nested_small}
use Rattle.block.proofs.sound.mate_bytes.Goals as goal

pub zeros-requires-clause-sum_value : goal.zeros-requires-clause-sum_value
zeros-requires-clause-sum_value c =
    (handed _ _ _ (sym c.in_ok-mates.was ∙ c.ok.ensures.value
    ∙ kept _ _ _ _ c.mates.ensures.tested (λ e. c.mates.ensures.summed (nested_small _ _ (omega arith) e)))).1

pub returns-in_err-mates : goal.returns-in_err-mates
returns-in_err-mates c =
    c.from_residual.ensures ∙ hand_none _ _ (sym (laws.not_nested _ _ _ _
    (not_handed _ _ (sym c.in_err-mates.was ∙ c.ok.ensures.value
    ∙ kept _ _ _ _ c.mates.ensures.tested (λ e. c.mates.ensures.summed (nested_small _ _ (omega arith) e))))))

pub returns : goal.returns
returns c =
    let mates = handed _ _ _ (sym c.in_ok-mates.was ∙ c.ok.ensures.value
    ∙ kept _ _ _ _ c.mates.ensures.tested (λ e. c.mates.ensures.summed (nested_small _ _ (omega arith) e))) in
    hand_on _ _ _ _ _ c.zeros.ensures (laws.nested_unused _ _ _ _ mates.0) (λ e. refl)
