-- `matcher::judge_length` meets its contract: each return is the rule that is the first to refuse, or none.
use native.Mathlib.Omega.{arith}
use mathlib.Core.Path.{sym, ◌∙◌}
use Rattle.refusals.proofs.RuleLaws.{handed_on}
use Rattle.matcher.proofs.CallLaws.{pair_setting, length_pair, length_work, length_accepts}
use Rattle.matcher.proofs.judge_length.Goals as goal

pub returns-in_err-check_pair : goal.returns-in_err-check_pair
returns-in_err-check_pair c =
    handed_on _ c.from_residual.ensures.1 ∙ length_pair _ _ _ _ _ _ (sym c.check_pair.ensures ∙ c.in_err-check_pair.was)

pub overflow_mul-motif : goal.overflow_mul-motif
overflow_mul-motif c = let S = pair_setting _ _ _ _ (sym c.check_pair.ensures ∙ c.in_ok-check_pair.was) in omega (arith, S.segment.small, S.short)

pub overflow_mul-molecule : goal.overflow_mul-molecule
overflow_mul-molecule c = let S = pair_setting _ _ _ _ (sym c.check_pair.ensures ∙ c.in_ok-check_pair.was) in omega (arith, S.segment.small, S.short)

pub overflow_add-motif-2 : goal.overflow_add-motif-2
overflow_add-motif-2 c = let S = pair_setting _ _ _ _ (sym c.check_pair.ensures ∙ c.in_ok-check_pair.was) in omega (arith, S.segment.small, S.short)

pub returns-then-work-motif : goal.returns-then-work-motif
returns-then-work-motif c = c.refuse.ensures ∙ length_work _ _ _ _ _ (sym c.check_pair.ensures ∙ c.in_ok-check_pair.was) c.if-work-motif.true

pub returns : goal.returns
returns c = length_accepts _ _ _ _ _ (sym c.check_pair.ensures ∙ c.in_ok-check_pair.was) c.if-work-motif.false
