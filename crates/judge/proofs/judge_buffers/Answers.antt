-- `judge::judge_buffers` meets its contract.
-- One return for each rule of `buffers_verdict`: 10 by the catalog, 10 by the cache, 11 at the lowest unsound block, or accepted.
use native.Mathlib.Omega.{arith}
use mathlib.Core.Path.{refl, sym, ◌∙◌}
use Rattle.block.specs.Block.{block_count}
use Rattle.calls.specs.Buffers.{unsound_at}
use Rattle.calls.proofs.JudgeLaws as judge
use Rattle.judge.proofs.FirstLaws.{is_lowest, no_lowest}
use Rattle.judge.proofs.judge_buffers.Goals as goal

pub returns-then-not-is_whole : goal.returns-then-not-is_whole
returns-then-not-is_whole c =
    c.refuse.ensures
    ∙ judge.catalog_not_whole c.args.catalog.now c.args.cache.now
    (sym c.is_whole.ensures ∙ c.if-not-is_whole.true)

pub returns-then-not-is_whole-2 : goal.returns-then-not-is_whole-2
returns-then-not-is_whole-2 c =
    c.refuse-then-not-is_whole-2.ensures
    ∙ judge.cache_not_whole c.args.catalog.now c.args.cache.now
    (sym c.is_whole.ensures ∙ c.if-not-is_whole.false) (sym c.is_whole-2.ensures ∙ c.if-not-is_whole-2.true)

pub returns-in-Some : goal.returns-in-Some
unfolding unsound_at
returns-in-Some c =
    let found = is_lowest (unsound_at c.args.catalog.now) (block_count c.args.catalog.now) _ c.first_unsound.ensures _ c.in-Some.is in
    c.refuse-in-Some.ensures
    ∙ judge.block_unsound c.args.catalog.now c.args.cache.now
    (sym c.is_whole.ensures ∙ c.if-not-is_whole.false) (sym c.is_whole-2.ensures ∙ c.if-not-is_whole-2.false)
    _ found.0 found.1

pub returns : goal.returns
unfolding unsound_at
returns c =
    let none = no_lowest (unsound_at c.args.catalog.now) (block_count c.args.catalog.now) _ c.first_unsound.ensures c.in_default.is in
    judge.buffers_pass c.args.catalog.now c.args.cache.now (sym c.is_whole.ensures ∙ c.if-not-is_whole.false)
    (sym c.is_whole-2.ensures ∙ c.if-not-is_whole-2.false) _ refl (omega (arith, none))
