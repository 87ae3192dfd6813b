-- `judge::judge_query` meets its contract.
-- One return for each rule of `query_verdict`: those of the buffers, of the motif, 9, 8, or accepted.
use native.Mathlib.Omega.{arith}
use mathlib.Core.Path.{sym, ◌∙◌}
use Rattle.refusals.proofs.RuleLaws.{handed_on}
use Rattle.calls.specs.Buffers.{most_motif_bases}
use Rattle.calls.proofs.JudgeLaws as judge
use Rattle.refusals.specs.Rules.{motif_side}
use Rattle.strand.specs.Strands.{least_motif}
use Rattle.strand.specs.Lent.{lent}
use Rattle.strand.proofs.VerdictLaws.{accepted_proper}
use Rattle.judge.proofs.judge_query.Goals as goal

pub returns-in_err-judge_buffers : goal.returns-in_err-judge_buffers
returns-in_err-judge_buffers c =
    handed_on _ c.from_residual.ensures.1
    ∙ judge.query_buffers_refused c.args.catalog.now c.args.cache.now (lent c.args.motif.now)
    c.args.work c.args.room _
    (sym c.judge_buffers.ensures ∙ c.in_err-judge_buffers.was)

pub returns-in_err-check_strand : goal.returns-in_err-check_strand
returns-in_err-check_strand c =
    handed_on _ c.from_residual-in_err-check_strand.ensures.1
    ∙ judge.query_motif_refused c.args.catalog.now c.args.cache.now (lent c.args.motif.now)
    c.args.work c.args.room (sym c.judge_buffers.ensures ∙ c.in_ok-judge_buffers.was)
    _ (sym c.check_strand.ensures ∙ c.in_err-check_strand.was)

pub returns-then-room-block_count : goal.returns-then-room-block_count
returns-then-room-block_count c =
    c.refuse.ensures
    ∙ judge.query_few_hits c.args.catalog.now c.args.cache.now (lent c.args.motif.now)
    c.args.work c.args.room (sym c.judge_buffers.ensures ∙ c.in_ok-judge_buffers.was)
    (sym c.check_strand.ensures ∙ c.in_ok-check_strand.was) (omega arith)

pub overflow_mul-motif : goal.overflow_mul-motif
overflow_mul-motif c =
    omega (
      arith,
      (accepted_proper motif_side least_motif most_motif_bases c.args.motif.now.bases.now c.args.motif.now.mates.now
          (sym c.check_strand.ensures ∙ c.in_ok-check_strand.was)).small,
    )

pub overflow_add-motif-2 : goal.overflow_add-motif-2
overflow_add-motif-2 c =
    omega (
      arith,
      (accepted_proper motif_side least_motif most_motif_bases c.args.motif.now.bases.now c.args.motif.now.mates.now
          (sym c.check_strand.ensures ∙ c.in_ok-check_strand.was)).small,
    )

pub returns-then-work-motif : goal.returns-then-work-motif
returns-then-work-motif c =
    c.refuse-then-work-motif.ensures
    ∙ judge.query_short_work c.args.catalog.now c.args.cache.now (lent c.args.motif.now)
    c.args.work c.args.room (sym c.judge_buffers.ensures ∙ c.in_ok-judge_buffers.was)
    (sym c.check_strand.ensures ∙ c.in_ok-check_strand.was) (omega arith) c.if-work-motif.true

pub returns : goal.returns
returns c =
    judge.query_passes c.args.catalog.now c.args.cache.now (lent c.args.motif.now)
    c.args.work c.args.room (sym c.judge_buffers.ensures ∙ c.in_ok-judge_buffers.was)
    (sym c.check_strand.ensures ∙ c.in_ok-check_strand.was) (omega arith) c.if-work-motif.false
