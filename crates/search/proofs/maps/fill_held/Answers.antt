-- `search::maps::fill_held` meets its contract.
-- Invariant: the map has the bits of the held numbers below d. Past the last block none is held, so at the end it has all of them.
use borrow.Author.Rules.{rules}
use native.Mathlib.Omega.{arith}
use mathlib.Core.Path.{◌≡◌, sym}
use mathlib.Core.Bool.{false}
use lib.ListN.{length, replicate}
use Rattle.block.specs.Block.{block_count}
use Rattle.calls.specs.Buffers.{held as held_in}
use Rattle.calls.proofs.JudgeLaws.{above_not_held}
use Rattle.search.proofs.MarkLaws as laws
use Rattle.search.proofs.maps.fill_held.Goals as goal
use Rattle.search.proofs.maps.fill_held.Goals.{then-is_held, else-is_held}

pub loop-d-init : goal.loop-d-init
loop-d-init c =
    let zeros : c.fill.new.self ≡ replicate (length c.args.held.now) 0 = search rules in
    laws.mark_start (λ d. false) (held_in c.args.catalog.now) _ (laws.none_there _ (rw c.requires.0 at zeros))

pub loop-d-preserved : goal.loop-d-preserved
loop-d-preserved c =
    elim c.if-is_held.branch [
      | then-is_held w ↦ rw w.held-is (laws.mark_yes (λ d. false) (held_in c.args.catalog.now) c.loop-d.d c.loop-d.held _
          (omega (arith, c.requires.1)) (sym w.if-is_held.ensures) c.loop-d.invariant w.set.ensures)
      | else-is_held w ↦ rw w.held-is (laws.mark_none (λ d. false) (held_in c.args.catalog.now) c.loop-d.d c.loop-d.held
          (sym w.if-is_held.ensures) c.loop-d.invariant)
    ]

pub returns : goal.returns
returns c =
    laws.mark_end (λ d. false) (held_in c.args.catalog.now) (block_count c.args.catalog.now) c.loop-d.d _ (omega arith)
    (omega arith) (λ e l. sym (above_not_held c.args.catalog.now e l)) c.loop-d.invariant
