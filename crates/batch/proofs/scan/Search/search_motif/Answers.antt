-- `batch::scan::Search::search_motif` meets its contract: before number d the map has the hits below d. No motif asks for a number behind the blocks.
use borrow.Author.Rules.{rules}
use native.Mathlib.Omega.{arith}
use mathlib.Core.Path.{refl, sym, ◌∙◌}
use mathlib.Core.Bool.{false}
use Rattle.block.specs.Block.{block_count}
use Rattle.search.proofs.MarkLaws as marks
use Rattle.batch.specs.Steps.{hits_in}
use Rattle.batch.proofs.HitLaws as laws
use Rattle.batch.proofs.MoleculeUse.{was_read}
use Rattle.batch.proofs.scan.Search.search_motif.Goals as goal
use Rattle.batch.proofs.scan.Search.search_motif.Goals.{then-test+then-embeds_at, then-test+else-embeds_at, else-test}

pub loop-d-init : goal.loop-d-init
loop-d-init c = (
  marks.mark_start (λ x. false) (hits_in c.args.self.now.motifs.now.blocks.now c.args.self.now.todo.now c.args.self.now.catalog.now c.args.t) _
      (marks.none_there _ refl),
  c.requires.0,
)

pub embeds_at-requires : goal.embeds_at-requires
embeds_at-requires c = (
  c.loop-d.invariant.1,
  c.requires.1,
  was_read c.args.self.now.catalog.now c.args.self.now.motifs.now.blocks.now c.args.self.now.todo.now c.args.self.now.bonds.now
      c.args.self.now.searching c.args.t c.loop-d.d c.requires.1 (search rules) (sym c.test.ensures ∙ c.if-test.true),
)

pub loop-d-preserved : goal.loop-d-preserved
loop-d-preserved c =
    elim c.if-test.branch [
      | then-test+then-embeds_at w ↦ (
        rw w.hits-is (marks.mark_yes (λ x. false) _ c.loop-d.d c.loop-d.hits _ (omega (arith, c.args.self.now.searching.asked.most))
            (laws.is_hit_lem _ _ _ c.args.t c.loop-d.d (sym w.if-test.ensures) (sym w.embeds_at.ensures.0 ∙ w.if-embeds_at.true))
            c.loop-d.invariant.0 w.set.ensures),
        rw w.room-is w.embeds_at.ensures.1,
      )
      | then-test+else-embeds_at w ↦ (
        rw w.hits-is (marks.mark_none (λ x. false) _ c.loop-d.d c.loop-d.hits
            (laws.not_embedded _ _ _ c.args.t c.loop-d.d (sym w.embeds_at.ensures.0 ∙ w.if-embeds_at.false)) c.loop-d.invariant.0),
        rw w.room-is w.embeds_at.ensures.1,
      )
      | else-test w ↦ (
        rw w.hits-is (marks.mark_none (λ x. false) _ c.loop-d.d c.loop-d.hits
            (laws.not_asked _ _ _ c.args.t c.loop-d.d (sym w.if-test.ensures)) c.loop-d.invariant.0),
        rw w.room-is c.loop-d.invariant.1,
      )
    ]

pub returns : goal.returns
returns c = (
  marks.mark_end (λ x. false) _ (block_count c.args.self.now.catalog.now) c.loop-d.d _ (omega arith) (omega arith)
      (laws.none_past c.args.self.now.catalog.now c.args.self.now.motifs.now.blocks.now c.args.self.now.todo.now
      c.args.self.now.searching.asked c.args.t c.requires.1 (c.args.self.now.searching.asked.sizes _ c.requires.1)) c.loop-d.invariant.0,
  c.loop-d.invariant.1,
)
