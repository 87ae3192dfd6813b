-- `motifs::judge` meets its contract.
-- One return for each rule of `motifs_verdict`: 15 by the size, 15 at the lowest block without a motif, 3 at the lowest motif that is too long, or accepted.
use native.Mathlib.Omega.{arith}
use mathlib.Core.Path.{refl, sym, ◌∙◌}
use Rattle.block.specs.Block.{block_count}
use Rattle.calls.specs.Motifs.{no_motif_at, long_motif_at}
use Rattle.calls.proofs.MotifLaws as calls
use Rattle.judge.proofs.FirstLaws.{is_lowest, no_lowest}
use Rattle.motifs.proofs.ReadLaws as reading
use Rattle.motifs.proofs.judge.Goals as goal

pub returns-then-not-is_whole : goal.returns-then-not-is_whole
returns-then-not-is_whole c = c.refuse.ensures ∙ calls.motifs_not_whole c.args.motifs.now (sym c.is_whole.ensures ∙ c.if-not-is_whole.true)

pub returns-in-Some : goal.returns-in-Some
unfolding no_motif_at
returns-in-Some c =
    let found = is_lowest (no_motif_at c.args.motifs.now) (block_count c.args.motifs.now) _ c.first_without.ensures _ c.in-Some.is in
    c.refuse-in-Some.ensures ∙ calls.no_motif c.args.motifs.now (sym c.is_whole.ensures ∙ c.if-not-is_whole.false) _ found.0 found.1

pub first_long-requires : goal.first_long-requires
unfolding no_motif_at
first_long-requires c =
    reading.all_motifs c.args.motifs.now
    (no_lowest (no_motif_at c.args.motifs.now) (block_count c.args.motifs.now) _ c.first_without.ensures c.in_default.is)

pub returns-in-Some-first_long : goal.returns-in-Some-first_long
unfolding no_motif_at long_motif_at
returns-in-Some-first_long c =
    let none = no_lowest (no_motif_at c.args.motifs.now) (block_count c.args.motifs.now) _ c.first_without.ensures c.in_default.is in
    let found = is_lowest (long_motif_at c.args.motifs.now) (block_count c.args.motifs.now) _ c.first_long.ensures _ c.in-Some-first_long.is in
    c.refuse-in-Some-first_long.ensures
    ∙ calls.long_motif_lem c.args.motifs.now (sym c.is_whole.ensures ∙ c.if-not-is_whole.false) _ refl (omega (arith, none)) _ found.0 found.1

pub returns : goal.returns
unfolding no_motif_at long_motif_at
returns c =
    let none = no_lowest (no_motif_at c.args.motifs.now) (block_count c.args.motifs.now) _ c.first_without.ensures c.in_default.is in
    let short = no_lowest (long_motif_at c.args.motifs.now) (block_count c.args.motifs.now) _ c.first_long.ensures c.in_default-first_long.is in
    calls.motifs_pass c.args.motifs.now (sym c.is_whole.ensures ∙ c.if-not-is_whole.false) _ refl (omega (arith, none)) _ refl (omega (arith, short))
