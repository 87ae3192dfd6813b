-- `batch::rules::judge_batch` meets its contract.
-- One return for each rule of `batch_verdict`: those of the buffers, of the motifs, 9, 8, or accepted.
use native.Mathlib.Omega.{arith}
use native.Mathlib.Nat.{mul-le-mul}
use mathlib.Core.Path.{sym, ◌∙◌}
use Rattle.refusals.proofs.RuleLaws.{handed_on}
use Rattle.calls.proofs.FactLaws.{sized}
use Rattle.calls.proofs.MotifLaws.{motifs_usable, longest_bound}
use Rattle.calls.proofs.BatchLaws as law
use Rattle.batch.proofs.rules.judge_batch.Goals as goal

pub returns-in_err-judge_buffers : goal.returns-in_err-judge_buffers
returns-in_err-judge_buffers c =
    handed_on _ c.from_residual.ensures.1
    ∙ law.batch_buffers_refused c.args.catalog.now c.args.cache.now c.args.motifs.now c.args.work
    c.args.room _ (sym c.judge_buffers.ensures ∙ c.in_err-judge_buffers.was)

pub returns-in_err-judge : goal.returns-in_err-judge
returns-in_err-judge c =
    handed_on _ c.from_residual-in_err-judge.ensures.1
    ∙ law.batch_motifs_refused c.args.catalog.now c.args.cache.now c.args.motifs.now c.args.work
    c.args.room (sym c.judge_buffers.ensures ∙ c.in_ok-judge_buffers.was) _
    (sym c.judge.ensures ∙ c.in_err-judge.was)

pub overflow_mul-k : goal.overflow_mul-k
overflow_mul-k c =
    omega (
      arith,
      mul-le-mul {n₁ = c.block_count-k.result} {m₁ = c.block_count.result} {n₂ = 16} {m₂ = 512}
          (rw c.block_count-k.ensures (motifs_usable c.args.motifs.now (sym c.judge.ensures ∙ c.in_ok-judge.was)).most)
          (rw c.block_count.ensures (sized c.args.catalog.now c.args.cache.now (sym c.judge_buffers.ensures ∙ c.in_ok-judge_buffers.was)).most),
    )

pub returns-then-room-k : goal.returns-then-room-k
returns-then-room-k c =
    c.refuse.ensures
    ∙ law.batch_few_hits c.args.catalog.now c.args.cache.now c.args.motifs.now c.args.work
    c.args.room (sym c.judge_buffers.ensures ∙ c.in_ok-judge_buffers.was)
    (sym c.judge.ensures ∙ c.in_ok-judge.was) (rw (c.block_count-k.ensures, c.block_count.ensures) at c.if-room-k.true)

pub longest-longest-requires : goal.longest-longest-requires
longest-longest-requires c = motifs_usable c.args.motifs.now (sym c.judge.ensures ∙ c.in_ok-judge.was)

pub overflow_add-longest : goal.overflow_add-longest
overflow_add-longest c =
    omega (
      arith,
      c.longest-longest.ensures,
      longest_bound c.args.motifs.now 120 _
          (motifs_usable c.args.motifs.now (sym c.judge.ensures ∙ c.in_ok-judge.was)).short,
    )

pub overflow_mul-longest : goal.overflow_mul-longest
overflow_mul-longest c =
    omega (
      arith,
      c.longest-longest.ensures,
      longest_bound c.args.motifs.now 120 _
          (motifs_usable c.args.motifs.now (sym c.judge.ensures ∙ c.in_ok-judge.was)).short,
    )

pub overflow_add-longest-2 : goal.overflow_add-longest-2
overflow_add-longest-2 c =
    omega (
      arith,
      c.longest-longest.ensures,
      longest_bound c.args.motifs.now 120 _
          (motifs_usable c.args.motifs.now (sym c.judge.ensures ∙ c.in_ok-judge.was)).short,
    )

pub returns-then-work-longest : goal.returns-then-work-longest
returns-then-work-longest c =
    c.refuse-then-work-longest.ensures
    ∙ law.batch_short_work c.args.catalog.now c.args.cache.now c.args.motifs.now c.args.work
    c.args.room (sym c.judge_buffers.ensures ∙ c.in_ok-judge_buffers.was)
    (sym c.judge.ensures ∙ c.in_ok-judge.was) (rw (c.block_count-k.ensures, c.block_count.ensures) at c.if-room-k.false)
    (omega (arith, c.longest-longest.ensures, c.if-work-longest.true))

pub returns : goal.returns
returns c =
    law.batch_passes c.args.catalog.now c.args.cache.now c.args.motifs.now c.args.work c.args.room
    (sym c.judge_buffers.ensures ∙ c.in_ok-judge_buffers.was)
    (sym c.judge.ensures ∙ c.in_ok-judge.was) (rw (c.block_count-k.ensures, c.block_count.ensures) at c.if-room-k.false) (omega (
      arith,
      c.longest-longest.ensures,
      c.if-work-longest.false,
    ))
