-- `batch::batch` meets its contract.
-- A refusal of the judge is the answer, and no buffer is written. Else the answer on the clean cache is that of the batch.
use mathlib.Core.Path.{sym, ap, ◌∙◌}
use lib.ListN.{length}
use Rattle.refusals.proofs.RuleLaws as rule
use Rattle.embedding.specs.Longest.{embeds}
use Rattle.calls.specs.declared.Batched.{Batched}
use Rattle.calls.specs.Batch.{batched}
use Rattle.calls.proofs.CallLaws.{clean_sound}
use Rattle.calls.proofs.BatchLaws.{batch_refused}
use Rattle.batch.proofs.Cleaned as laws
use Rattle.batch.proofs.batch.Goals as goal

pub returns-in-Err : goal.returns-in-Err
returns-in-Err c = (
  ap (λ (x : Batched). batched x c.args.cache.now c.args.hits.now) c.refused.ensures
      ∙ sym (batch_refused embeds c.args.catalog.now c.args.motifs.now (length c.args.work.now)
      c.args.cache.now c.args.hits.now c.in-Err.r
      (sym c.judge_batch.ensures ∙ c.in-Err.is)),
  rule.work_refused _ c.in-Err.r _ (sym c.judge_batch.ensures ∙ c.in-Err.is),
)

pub answer_accepted-requires : goal.answer_accepted-requires
answer_accepted-requires c = (
  laws.clean_verdict c.args.catalog.now c.args.cache.now c.args.motifs.now (length c.args.work.now)
      c.args.hits.now (sym c.judge_batch.ensures ∙ c.in_default.is) _ c.clean_all.ensures,
  clean_sound c.args.cache.now _ c.clean_all.ensures,
)

pub returns : goal.returns
returns c = (
  c.answer_accepted.ensures
      ∙ laws.clean_outcome c.args.catalog.now c.args.cache.now c.args.motifs.now (length c.args.work.now)
      c.args.hits.now (sym c.judge_batch.ensures ∙ c.in_default.is) _ c.clean_all.ensures,
  rule.work_accepted _ _ _ (sym c.judge_batch.ensures ∙ c.in_default.is)
      c.answer_accepted.auto.work,
)
