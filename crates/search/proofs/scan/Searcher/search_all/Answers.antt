-- `search::scan::Searcher::search_all` meets its contract.
-- Invariant `Searched`: the map has the hits known before and those below d, and the numbers below d that were to be searched are counted. No number
-- from the last block on is to be searched.
use native.Mathlib.Omega.{arith}
use mathlib.Core.Path.{◌≡◌, refl, sym, ap, ◌∙◌}
use Rattle.strand.specs.Lent.{lent}
use Rattle.octets.specs.Octets.{map_bit}
use Rattle.block.specs.Block.{block_count}
use Rattle.embedding.specs.Longest.{embeds}
use Rattle.calls.specs.Buffers.{molecule_at}
use Rattle.search.specs.declared.scan.Searcher.{Searcher}
use Rattle.search.proofs.ListingLaws.{count_short}
use Rattle.search.proofs.ScanLaws as laws
use Rattle.search.proofs.scan.Searcher.search_all.Goals as goal
use Rattle.search.proofs.scan.Searcher.search_all.Goals.{then-test, else-test, then-embeds_at, else-embeds_at}

pub loop-d-init : goal.loop-d-init
loop-d-init c = (
  laws.searched_start (map_bit c.args.todo.now 0)
      (λ d. embeds (lent c.args.self.now.motif) (molecule_at c.args.catalog.now d))
      (block_count c.args.catalog.now) c.args.found.now c.requires.2 (λ i. omega (arith, c.type_inv.found i)),
  refl,
)

pub overflow_add-searched : goal.overflow_add-searched
overflow_add-searched c =
    omega (
      arith,
      c.requires.1,
      c.loop-d.invariant.0.below,
      count_short (map_bit c.args.todo.now 0) c.loop-d.d c.loop-d.searched c.loop-d.invariant.0.counted,
    )

pub loop-d-preserved : goal.loop-d-preserved
loop-d-preserved c =
    elim c.if-test.branch [
      | then-test w ↦
          let hit : w.embeds_at.result ≡ embeds (lent c.args.self.now.motif) (molecule_at c.args.catalog.now c.loop-d.d)
          = simp c.loop-d.invariant.1 at w.embeds_at.ensures.0 in (
            rw (w.found-is, w.searched-is) elim w.if-embeds_at.branch [
              | then-embeds_at h ↦ rw h.found-is (laws.searched_hit _ _ _ _ _ _ _ c.loop-d.invariant.0 (omega arith) c.requires.1
                  (sym w.if-test.ensures) (sym hit ∙ h.if-embeds_at.true) _ h.set.ensures)
              | else-embeds_at h ↦ rw h.found-is (laws.searched_miss _ _ _ _ _ _ _ c.loop-d.invariant.0 (omega arith)
                  (sym w.if-test.ensures) (sym hit ∙ h.if-embeds_at.false))
            ],
            ap (λ (s : Searcher). s.motif) w.self-is ∙ w.embeds_at.ensures.1 ∙ c.loop-d.invariant.1,
          )
      | else-test w ↦ (
        rw (w.found-is, w.searched-is) (laws.searched_no _ _ _ _ _ _ _ c.loop-d.invariant.0 (omega arith) (sym w.if-test.ensures)),
        ap (λ (s : Searcher). s.motif) w.self-is ∙ c.loop-d.invariant.1,
      )
    ]

pub returns : goal.returns
returns c =
    laws.searched_end (map_bit c.args.found.now 0) (map_bit c.args.todo.now 0)
    (λ d. embeds (lent c.args.self.now.motif) (molecule_at c.args.catalog.now d))
    (block_count c.args.catalog.now) c.loop-d.found c.loop-d.d c.loop-d.searched c.loop-d.invariant.0
    (omega arith) (laws.none_past c.args.catalog.now c.args.todo.now c.requires.3)
