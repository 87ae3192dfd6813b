-- `batch::answer::answer_all` meets its contract: before motif t cache and hits are as the queries before it leave them, and their counts are written.
use Prim.Native.Nat.{◌*◌}
use borrow.Author.Rules.{rules}
use native.Mathlib.Omega.{arith}
use mathlib.Core.Path.{◌≡◌, refl}
use lib.ListN.{length-set, replicate}
use Rattle.lists.proofs.ListLaws.{tab_none}
use Rattle.lists.proofs.Stretches.{length_stretch}
use Rattle.block.specs.Block.{block_count}
use Rattle.embedding.specs.Longest.{embeds}
use Rattle.calls.specs.Motifs.{most_motifs}
use Rattle.calls.specs.Batch.{batch_state, query_at, count_of}
use Rattle.batch.proofs.PlanLaws.{tab_next}
use Rattle.batch.proofs.AnswerLaws as laws
use Rattle.batch.proofs.answer.answer_all.Goals as goal

pub loop-t-init : goal.loop-t-init
loop-t-init c = (
  laws.cache_start c.requires,
  laws.hits_start c.requires,
  refl,
  tab_none (λ t. count_of (query_at embeds c.args.catalog.now c.args.motifs.now.blocks.now c.args.work
      (batch_state c.args.cache.now c.args.hits.now) t).answer) (replicate most_motifs 0),
)

pub slice_bounds-answer_motif-end-in-loop-t : goal.slice_bounds-answer_motif-end-in-loop-t
slice_bounds-answer_motif-end-in-loop-t c =
    rw c.block_count-n.ensures (laws.within_hits c.requires c.loop-t.t (search rules) c.loop-t.cache c.loop-t.hits c.loop-t.invariant.0 c.loop-t.invariant.1)

pub answer_motif-requires : goal.answer_motif-requires
answer_motif-requires c = (
  laws.answering_at c.requires c.loop-t.t (search rules) c.loop-t.cache c.loop-t.hits c.loop-t.invariant.0 c.loop-t.invariant.1,
  omega (
    arith,
    length_stretch (block_count c.args.catalog.now * c.loop-t.t) (block_count c.args.catalog.now) c.loop-t.hits
        (laws.within_hits c.requires c.loop-t.t (search rules) c.loop-t.cache c.loop-t.hits c.loop-t.invariant.0 c.loop-t.invariant.1),
  ),
)

pub loop-t-preserved : goal.loop-t-preserved
loop-t-preserved c = (
  laws.next_cache c.requires c.loop-t.t (search rules) c.loop-t.cache c.loop-t.hits c.loop-t.invariant.0 c.loop-t.invariant.1 _
      (rw c.block_count-n.ensures at c.answer_motif.ensures.1),
  rw c.block_count-n.ensures (laws.next_hits c.requires c.loop-t.t (search rules) c.loop-t.cache c.loop-t.hits c.loop-t.invariant.0 c.loop-t.invariant.1 _
      (rw c.block_count-n.ensures at c.answer_motif.ensures.2)),
  simp length-set c.loop-t.invariant.2,
  tab_next (λ t. count_of (query_at embeds c.args.catalog.now c.args.motifs.now.blocks.now c.args.work
      (batch_state c.args.cache.now c.args.hits.now) t).answer) c.loop-t.t (replicate most_motifs 0) _ _
      (omega (arith, c.count-t-end.ensures, laws.few_motifs c.requires)) c.loop-t.invariant.3
      (laws.next_count c.requires c.loop-t.t (search rules) c.loop-t.cache c.loop-t.hits c.loop-t.invariant.0 c.loop-t.invariant.1 _
      (rw c.block_count-n.ensures at c.answer_motif.ensures.0)),
)

pub returns : goal.returns
returns c =
    let last : c.loop-t.t ≡ block_count c.args.motifs.now.blocks.now = omega (arith, c.count-t-end.ensures) in (
      laws.cache_end c.requires c.loop-t.t c.loop-t.cache last c.loop-t.invariant.0,
      rw last at c.loop-t.invariant.1,
      rw last at c.loop-t.invariant.3,
    )
