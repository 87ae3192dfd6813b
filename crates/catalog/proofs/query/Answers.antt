-- `catalog::query` meets its contract.
-- A refusal of the judge is the answer, and no buffer is written. Else what the judge let pass is what the search asks, and the answer from
-- the slot's entry of the clean cache is `query_outcome`.
use native.Mathlib.Omega.{arith}
use mathlib.Core.Path.{sym, ap, ◌∙◌}
use Rattle.calls.specs.Calls.{queried}
use lib.ListN.{length}
use Rattle.catalog.proofs.ReadyLaws as ready
use Rattle.strand.specs.Lent.{lent}
use Rattle.calls.proofs.Claims as claim
use Rattle.calls.proofs.CallLaws as call
use Rattle.refusals.proofs.RuleLaws as rule
use Rattle.embedding.specs.Longest.{embeds}
use Rattle.catalog.proofs.query.Goals as goal

pub returns-in_err-judge_query : goal.returns-in_err-judge_query
returns-in_err-judge_query c = (
  ap (λ r. queried r c.args.cache.now c.args.hits.now) (rule.handed_on _ c.from_residual.ensures.1)
      ∙ sym (claim.query_refused embeds c.args.catalog.now c.args.cache.now (lent c.args.motif.now)
      (length c.args.work.now) c.args.hits.now _
      (sym c.judge_query.ensures ∙ c.in_err-judge_query.was)),
  rule.work_refused _ _ _ (sym c.judge_query.ensures ∙ c.in_err-judge_query.was),
)

pub answer-requires : goal.answer-requires
answer-requires c =
    let f = ready.query_ready c.args.catalog.now c.args.cache.now (lent c.args.motif.now)
    (length c.args.work.now) (length c.args.hits.now)
    (sym c.judge_query.ensures ∙ c.in_ok-judge_query.was) in (
      f.0,
      omega (arith, f.2, c.clean_all.auto.s),
      call.clean_sound c.args.cache.now c.clean_all.new.s c.clean_all.ensures,
      f.1,
    )

pub returns : goal.returns
returns c = (
  call.query_done embeds c.args.catalog.now c.args.cache.now (lent c.args.motif.now)
      (length c.args.work.now) c.args.hits.now c.answer.result _ _ c.clean_all.new.s
      (sym c.judge_query.ensures ∙ c.in_ok-judge_query.was) c.clean_all.ensures c.answer.ensures,
  rule.work_accepted _ _ _ (sym c.judge_query.ensures ∙ c.in_ok-judge_query.was) c.answer.auto.work,
)
