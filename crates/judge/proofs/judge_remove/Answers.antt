-- `judge::judge_remove` meets its contract.
-- One return for each rule of `remove_verdict`: those of the buffers, 12, 14, or accepted.
use native.Mathlib.Omega.{arith}
use mathlib.Core.Path.{sym, ◌∙◌}
use Rattle.refusals.proofs.RuleLaws.{handed_on}
use Rattle.calls.proofs.JudgeLaws as judge
use Rattle.judge.proofs.SoundLaws.{all_sound}
use Rattle.judge.proofs.judge_remove.Goals as goal

pub returns-in_err-judge_buffers : goal.returns-in_err-judge_buffers
returns-in_err-judge_buffers c =
    handed_on _ c.from_residual.ensures.1
    ∙ judge.remove_buffers_refused c.args.catalog.now c.args.cache.now c.args.d _
    (sym c.judge_buffers.ensures ∙ c.in_err-judge_buffers.was)

pub returns-then-block_count-d : goal.returns-then-block_count-d
returns-then-block_count-d c =
    c.refuse.ensures
    ∙ judge.remove_number_large c.args.catalog.now c.args.cache.now c.args.d
    (sym c.judge_buffers.ensures ∙ c.in_ok-judge_buffers.was) (omega arith)

pub is_held-requires : goal.is_held-requires
is_held-requires c =
    (all_sound c.args.catalog.now c.args.cache.now
    (sym c.judge_buffers.ensures ∙ c.in_ok-judge_buffers.was))

pub returns-then-not-is_held : goal.returns-then-not-is_held
returns-then-not-is_held c =
    c.refuse-then-not-is_held.ensures
    ∙ judge.remove_not_held c.args.catalog.now c.args.cache.now c.args.d
    (sym c.judge_buffers.ensures ∙ c.in_ok-judge_buffers.was) (omega arith)
    (sym c.is_held.ensures ∙ c.if-not-is_held.true)

pub returns : goal.returns
returns c =
    judge.remove_passes c.args.catalog.now c.args.cache.now c.args.d
    (sym c.judge_buffers.ensures ∙ c.in_ok-judge_buffers.was) (omega arith)
    (sym c.is_held.ensures ∙ c.if-not-is_held.false)
