-- `batch::plan::plan_motif` meets its contract: the slot's entry is sound, so `keeps` tells whether it keeps the motif.
use mathlib.Core.Path.{sym, ap, ◌∙◌}
use Rattle.block.specs.Block.{sound_entry}
use Rattle.block.proofs.ContentLaws.{entry_size}
use Rattle.codec.proofs.OutcomeLaws.{keeps_sound}
use Rattle.buffer.proofs.OutcomeLaws.{entry_put_there}
use Rattle.batch.proofs.MotifUse as motif
use Rattle.batch.proofs.PlanLaws as laws
use Rattle.batch.proofs.plan.plan_motif.Goals as goal

pub slot-s-requires : goal.slot-s-requires
slot-s-requires c =
    let proper = motif.proper_at c.args.motifs.now.blocks.now c.args.motifs.now.usable c.args.t c.requires.1 _ _
    c.motif_at-motif.ensures.0 c.motif_at-motif.ensures.1 in
    (proper.small, proper.same, rw c.block_count.ensures c.requires.0.slots)

pub fill_todo-requires : goal.fill_todo-requires
fill_todo-requires c = (
  entry_size _ (ap sound_entry c.block_at-entry.ensures ∙ c.requires.0.sound c.slot-s.result (rw c.block_count.ensures at c.slot-s.ensures.1)),
  laws.held_size c.requires.0,
  c.requires.2,
)

pub returns : goal.returns
returns c =
    let strand = motif.strand_at c.args.motifs.now.blocks.now c.args.motifs.now.usable c.args.t c.requires.1 _ _
    c.motif_at-motif.ensures.0 c.motif_at-motif.ensures.1 in
    let proper = motif.proper_at c.args.motifs.now.blocks.now c.args.motifs.now.usable c.args.t c.requires.1 _ _
    c.motif_at-motif.ensures.0 c.motif_at-motif.ensures.1 in (
      rw (sym strand) (laws.todo_planned c.args.held.now c.args.cache.now _ c.slot-s.result (rw c.block_count.ensures at c.slot-s.ensures.0) _
          c.keeps-same.result _
          c.block_at-entry.ensures
          (c.keeps-same.ensures ∙ keeps_sound _ _ (ap sound_entry c.block_at-entry.ensures ∙ c.requires.0.sound c.slot-s.result (rw
          c.block_count.ensures at c.slot-s.ensures.1)))
          c.fill_todo.ensures),
      rw (sym strand) (laws.cache_planned c.args.held.now c.args.cache.now _ c.slot-s.result (rw c.block_count.ensures at c.slot-s.ensures.0) _ (entry_put_there
          c.slot-s.result _ _ c.args.held.now c.args.held.now c.args.cache.now c.put_entry.result _ (rw c.block_count.ensures at c.slot-s.ensures.1)
          proper.small proper.same
          (laws.held_size c.requires.0) (laws.held_size c.requires.0) c.put_entry.ensures)),
    )
