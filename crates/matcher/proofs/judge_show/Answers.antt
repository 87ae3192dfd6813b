-- `matcher::judge_show` meets its contract: each return is the rule that is the first to refuse, or none.
use native.Mathlib.Omega.{arith}
use mathlib.Core.Path.{sym, ◌∙◌}
use Rattle.refusals.proofs.RuleLaws.{handed_on}
use Rattle.matcher.proofs.CallLaws.{pair_setting, show_pair, show_places, show_work, show_accepts}
use Rattle.matcher.proofs.judge_show.Goals as goal

pub returns-in_err-check_pair : goal.returns-in_err-check_pair
returns-in_err-check_pair c =
    handed_on _ c.from_residual.ensures.1 ∙ show_pair _ _ _ _ _ _ _ (sym c.check_pair.ensures ∙ c.in_err-check_pair.was)

pub returns-then-places-motif : goal.returns-then-places-motif
returns-then-places-motif c = c.refuse.ensures ∙ show_places _ _ _ _ _ _ (sym c.check_pair.ensures ∙ c.in_ok-check_pair.was) c.if-places-motif.true

pub overflow_mul-motif : goal.overflow_mul-motif
overflow_mul-motif c = let S = pair_setting _ _ _ _ (sym c.check_pair.ensures ∙ c.in_ok-check_pair.was) in omega (arith, S.segment.small, S.short)

pub overflow_mul-molecule : goal.overflow_mul-molecule
overflow_mul-molecule c = let S = pair_setting _ _ _ _ (sym c.check_pair.ensures ∙ c.in_ok-check_pair.was) in omega (arith, S.segment.small, S.short)

pub overflow_add-motif-2 : goal.overflow_add-motif-2
overflow_add-motif-2 c = let S = pair_setting _ _ _ _ (sym c.check_pair.ensures ∙ c.in_ok-check_pair.was) in omega (arith, S.segment.small, S.short)

pub returns-then-work-motif : goal.returns-then-work-motif
returns-then-work-motif c =
    c.refuse-then-work-motif.ensures
    ∙ show_work _ _ _ _ _ _ (sym c.check_pair.ensures ∙ c.in_ok-check_pair.was) c.if-places-motif.false c.if-work-motif.true

pub returns : goal.returns
returns c = show_accepts _ _ _ _ _ _ (sym c.check_pair.ensures ∙ c.in_ok-check_pair.was) c.if-places-motif.false c.if-work-motif.false
