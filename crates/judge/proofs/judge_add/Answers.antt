-- `judge::judge_add` meets its contract.
-- One return for each rule of `add_verdict`: those of the buffers, 12, 13, then whatever the molecule's own rules come to.
use native.Mathlib.Omega.{arith}
use mathlib.Core.Path.{sym, ◌∙◌}
use Rattle.refusals.proofs.RuleLaws.{handed_on}
use Rattle.calls.proofs.JudgeLaws as judge
use Rattle.judge.proofs.SoundLaws.{all_sound}
use Rattle.strand.specs.Lent.{lent}
use Rattle.judge.proofs.judge_add.Goals as goal

pub returns-in_err-judge_buffers : goal.returns-in_err-judge_buffers
returns-in_err-judge_buffers c =
    handed_on _ c.from_residual.ensures.1
    ∙ judge.add_buffers_refused c.args.catalog.now c.args.cache.now c.args.d
    (lent c.args.molecule.now) _
    (sym c.judge_buffers.ensures ∙ c.in_err-judge_buffers.was)

pub returns-then-block_count-d : goal.returns-then-block_count-d
returns-then-block_count-d c =
    c.refuse.ensures
    ∙ judge.add_number_large c.args.catalog.now c.args.cache.now c.args.d
    (lent c.args.molecule.now)
    (sym c.judge_buffers.ensures ∙ c.in_ok-judge_buffers.was) (omega arith)

pub is_held-requires : goal.is_held-requires
is_held-requires c =
    (all_sound c.args.catalog.now c.args.cache.now
    (sym c.judge_buffers.ensures ∙ c.in_ok-judge_buffers.was))

pub returns-then-is_held : goal.returns-then-is_held
returns-then-is_held c =
    c.refuse-then-is_held.ensures
    ∙ judge.add_held c.args.catalog.now c.args.cache.now c.args.d
    (lent c.args.molecule.now)
    (sym c.judge_buffers.ensures ∙ c.in_ok-judge_buffers.was) (omega arith)
    (sym c.is_held.ensures ∙ c.if-is_held.true)

pub returns : goal.returns
returns c =
    c.check_strand.ensures
    ∙ judge.add_by_molecule c.args.catalog.now c.args.cache.now c.args.d
    (lent c.args.molecule.now)
    (sym c.judge_buffers.ensures ∙ c.in_ok-judge_buffers.was) (omega arith)
    (sym c.is_held.ensures ∙ c.if-is_held.false)
