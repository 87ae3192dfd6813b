-- `block::sound::content` meets its contract: each return is one rule on the content.
use native.Mathlib.Omega.{arith}
use mathlib.Core.Path.{sym, ap, ◌∙◌}
use Rattle.block.specs.Content.{sum_to}
use Rattle.block.proofs.SoundLaws as laws
use Rattle.block.proofs.WalkLaws.{handed, not_handed, hand_none, hand_on}
use Rattle.block.proofs.sound.content.Goals as goal

pub returns-then-k-kind : goal.returns-then-k-kind
returns-then-k-kind c = hand_none _ _ (sym (laws.bytes_wrong _ _ (sym (laws.other_mark _ _ _ c.if-k-kind.true))))

pub returns-then-n-kind : goal.returns-then-n-kind
returns-then-n-kind c = hand_none _ _ (sym (laws.bytes_wrong _ _ (sym (laws.too_few_bases _ _ _ c.if-k-kind.false c.if-n-kind.true))))

pub returns-then-kind-n : goal.returns-then-kind-n
returns-then-kind-n c =
    hand_none _ _ (sym (laws.bytes_wrong _ _ (sym (laws.too_many_bases _ _ _ c.if-k-kind.false c.if-n-kind.false c.if-kind-n.true))))

pub returns-in_err-bases : goal.returns-in_err-bases
returns-in_err-bases c =
    let wrong = not_handed _ _ (sym c.in_err-bases.was ∙ c.base_bytes.ensures) in
    c.from_residual.ensures
    ∙ hand_none _ _ (sym (laws.bytes_wrong _ _ (sym (laws.bases_wrong _ _ _ c.if-k-kind.false c.if-n-kind.false c.if-kind-n.false wrong))))

pub returns : goal.returns
returns c =
    let bases = handed _ _ _ (sym c.in_ok-bases.was ∙ c.base_bytes.ensures) in
    hand_on _ _ _ _ _ c.mate_bytes.ensures (laws.content_mates _ _ c.if-k-kind.false c.if-n-kind.false c.if-kind-n.false bases.0)
    (λ e. ap (sum_to _) (omega arith))
