-- `batch::answer::answer_motif` meets its contract: the hits known and found are those of the query, so count, list and entry are its own.
use borrow.Author.Rules.{rules}
use mathlib.Core.Path.{ap, ◌∙◌}
use Rattle.block.specs.Block.{sound_entry}
use Rattle.buffer.proofs.OutcomeLaws.{entry_put_there}
use Rattle.batch.proofs.MotifUse as motif
use Rattle.batch.proofs.PlanLaws.{held_size}
use Rattle.batch.proofs.AnswerLaws as laws
use Rattle.batch.proofs.answer.answer_motif.Goals as goal

pub slot-s-requires : goal.slot-s-requires
slot-s-requires c =
    let proper = motif.proper_at c.args.motifs.now.blocks.now c.args.motifs.now.usable c.args.t c.requires.0.below _ _
    c.motif_at-motif.ensures.0 c.motif_at-motif.ensures.1 in
    (proper.small, proper.same, rw c.block_count.ensures c.requires.0.planning.slots)

pub hits_of-hit-requires : goal.hits_of-hit-requires
hits_of-hit-requires c = (
  ap sound_entry c.block_at.ensures ∙ c.requires.0.planning.sound c.slot-s.result (rw c.block_count.ensures at c.slot-s.ensures.1),
  held_size c.requires.0.planning,
  c.requires.0.found_size,
)

pub returns : goal.returns
returns c =
    let proper = motif.proper_at c.args.motifs.now.blocks.now c.args.motifs.now.usable c.args.t c.requires.0.below _ _
    c.motif_at-motif.ensures.0 c.motif_at-motif.ensures.1 in
    laws.query_answered c.args.catalog.now c.args.motifs.now.blocks.now c.args.held.now c.args.found.now c.args.cache.now c.args.t c.requires.0
    _ _ (motif.strand_at c.args.motifs.now.blocks.now c.args.motifs.now.usable c.args.t c.requires.0.below _ _
    c.motif_at-motif.ensures.0 c.motif_at-motif.ensures.1)
    c.slot-s.result (rw c.block_count.ensures at c.slot-s.ensures.0) _ c.block_at.ensures c.args.hits.now c.hits_of-hit.result _ _ c.list_hits-count.result
    c.hits_of-hit.ensures (rw c.block_count-2.ensures at c.list_hits-count.ensures)
    (entry_put_there c.slot-s.result _ _ c.args.held.now c.hits_of-hit.result c.args.cache.now c.put_entry.result _ (rw c.block_count.ensures at
    c.slot-s.ensures.1)
    proper.small proper.same (held_size c.requires.0.planning) (search rules) c.put_entry.ensures)
