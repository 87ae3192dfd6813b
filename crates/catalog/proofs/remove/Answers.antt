-- `catalog::remove` meets its contract.
-- A refusal of the judge is the answer, and no buffer is written. Else the writers leave block d zeroed and every cache block cleaned
-- and without the number, and that is `remove_outcome`.
use mathlib.Core.Path.{sym, ap, ◌∙◌}
use Rattle.refusals.proofs.RuleLaws.{handed_on}
use Rattle.calls.specs.Calls.{effect}
use Rattle.calls.proofs.FactLaws as fact
use Rattle.calls.proofs.Claims as claim
use Rattle.calls.proofs.CallLaws as call
use Rattle.buffer.proofs.OutcomeLaws as outcome
use Rattle.catalog.proofs.remove.Goals as goal

pub returns-in_err-judge_remove : goal.returns-in_err-judge_remove
returns-in_err-judge_remove c =
    ap (λ r. effect r c.args.catalog.now c.args.cache.now) (handed_on _ c.from_residual.ensures.1)
    ∙ sym (claim.remove_refused c.args.catalog.now c.args.cache.now c.args.d _
    (sym c.judge_remove.ensures ∙ c.in_err-judge_remove.was))

pub returns : goal.returns
returns c =
    call.remove_done c.args.catalog.now c.args.cache.now c.args.d c.zero_at.new.buf
    c.clean_all.new.s c.forget_all.new.s
    (sym c.judge_remove.ensures ∙ c.in_ok-judge_remove.was) (outcome.zero_put_there c.args.d
    c.args.catalog.now c.zero_at.result c.zero_at.new.buf (fact.remove_facts c.args.catalog.now
    c.args.cache.now c.args.d (sym c.judge_remove.ensures ∙ c.in_ok-judge_remove.was)).0
    c.zero_at.ensures) c.clean_all.ensures c.forget_all.ensures
