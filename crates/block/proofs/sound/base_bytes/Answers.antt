-- `block::sound::base_bytes` meets its contract: each return is one rule on the bytes, and each stretch begins where the one before ended.
use mathlib.Core.Path.{sym, refl, ◌∙◌}
use Rattle.block.proofs.SumLaws.{sum_none}
use Rattle.block.proofs.SoundLaws as laws
use Rattle.block.proofs.WalkLaws.{handed, not_handed, hand_none, hand_on, kept}
use Rattle.block.proofs.sound.base_bytes.Goals as goal

pub gather-requires-clause-sum_value : goal.gather-requires-clause-sum_value
gather-requires-clause-sum_value c = sym (sum_none _)

pub returns-in_err-head : goal.returns-in_err-head
returns-in_err-head c =
    c.from_residual.ensures ∙ hand_none _ _ (sym (laws.head_not_blank _ _ _ _ _ _ (not_handed _ _ (sym c.in_err-head.was ∙ c.zeros.ensures))))

pub zeros-requires-2-clause-sum_value : goal.zeros-requires-2-clause-sum_value
zeros-requires-2-clause-sum_value c =
    (handed _ _ _ (sym c.in_ok-bases.was ∙ c.ok.ensures.value ∙ kept _ _ _ _ c.bases.ensures (λ e. c.bases.ensures))).1

pub returns-in_err-bases : goal.returns-in_err-bases
returns-in_err-bases c =
    let head = handed _ _ _ (sym c.in_ok-head.was ∙ c.zeros.ensures) in
    c.from_residual-in_err-bases.ensures
    ∙ hand_none _ _ (sym (laws.not_all_letters _ _ _ _ _ _ head.0
    (not_handed _ _ (sym c.in_err-bases.was ∙ c.ok.ensures.value ∙ kept _ _ _ _ c.bases.ensures (λ e. c.bases.ensures)))))

pub returns : goal.returns
returns c =
    let head = handed _ _ _ (sym c.in_ok-head.was ∙ c.zeros.ensures) in
    let bases = handed _ _ _ (sym c.in_ok-bases.was ∙ c.ok.ensures.value ∙ kept _ _ _ _ c.bases.ensures (λ e. c.bases.ensures)) in
    hand_on _ _ _ _ _ c.zeros-2.ensures (laws.all_but_unused _ _ _ _ _ _ head.0 bases.0) (λ e. refl)
