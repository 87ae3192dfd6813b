-- `embedding::judge` meets its contract: each return is the rule that is the first to refuse, or none.
use mathlib.Core.Path.{sym, ◌∙◌}
use Rattle.refusals.proofs.RuleLaws.{handed_on}
use Rattle.embedding.proofs.VerifyLaws.{judged_pair, judged_count, judged_pass}
use Rattle.embedding.proofs.judge.Goals as goal

pub returns-in_err-check_pair : goal.returns-in_err-check_pair
returns-in_err-check_pair c =
    handed_on _ c.from_residual.ensures.1 ∙ judged_pair _ _ _ _ _ _ (sym c.check_pair.ensures ∙ c.in_err-check_pair.was)

pub returns-then-places-motif : goal.returns-then-places-motif
returns-then-places-motif c = c.refuse.ensures ∙ judged_count _ _ _ _ _ (sym c.check_pair.ensures ∙ c.in_ok-check_pair.was) c.if-places-motif.true

pub returns : goal.returns
returns c = judged_pass _ _ _ _ _ (sym c.check_pair.ensures ∙ c.in_ok-check_pair.was) c.if-places-motif.false
