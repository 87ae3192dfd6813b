-- Add, remove and query are accepted exactly where no rule of theirs applies.
use Rattle.std.specs.Prelude.{Ok}
use Prim.Native.Nat.{ℕ}
use native.Mathlib.Omega.{arith}
use mathlib.Core.Path.{◌≡◌, refl, sym, ap, ◌∙◌}
use mathlib.Core.Bool.{true, not}
use mathlib.Core.List.{List}
use borrow.Author.Tests.{le-leb}
use Rattle.lists.specs.Vocabulary.{lowest}
use Rattle.lists.proofs.ListLaws.{lowest_all}
use Rattle.strand.specs.Strands.{Strand, least_motif, least_molecule}
use Rattle.strand.proofs.VerdictLaws.{proper_accepted}
use Rattle.refusals.specs.Rules.{motif_side, molecule_side}
use Rattle.block.specs.Block.{block_of, block_count, sound_molecule}
use Rattle.calls.specs.Buffers.{most_catalog_blocks, most_cache_blocks, most_molecule_bases, most_motif_bases, is_whole, unsound_at, buffers_verdict, Usable}
use Rattle.calls.specs.Calls.{AddAccepts, RemoveAccepts, QueryAccepts}
use Rattle.calls.proofs.ReadingLaws.{whole_is}
use Rattle.calls.proofs.JudgeLaws.{buffers_pass, add_by_molecule, remove_passes, query_passes}
use Rattle.calls.proofs.FactLaws.{add_facts, remove_facts, query_facts}

module _ (catalog cache : List ℕ) where
  module _ (u : Usable catalog cache) where
    catalog_whole : is_whole most_catalog_blocks catalog ≡ true
    catalog_whole =
        whole_is most_catalog_blocks (block_count catalog) catalog u.filled
        ∙ rw (le-leb 1 (block_count catalog) u.least, le-leb (block_count catalog) most_catalog_blocks u.most)

    cache_whole : is_whole most_cache_blocks cache ≡ true
    cache_whole =
        whole_is most_cache_blocks (block_count cache) cache u.whole
        ∙ rw (le-leb 1 (block_count cache) u.slots, le-leb (block_count cache) most_cache_blocks u.most_slots)

    none_unsound : lowest (block_count catalog) (unsound_at catalog) ≡ block_count catalog
    unfolding unsound_at
    none_unsound = lowest_all (λ d. not (sound_molecule (block_of d catalog))) (block_count catalog) (λ d l. ap not (u.blocks d l))

    pub usable_pass : buffers_verdict catalog cache ≡ Ok tt
    usable_pass =
        sym (buffers_pass catalog cache catalog_whole cache_whole (lowest (block_count catalog) (unsound_at catalog)) refl (omega (arith, none_unsound)))

  pub add_accepts : (d : ℕ) (q : Strand) → AddAccepts catalog cache d q
  add_accepts d q = (
    (λ e. let f = add_facts catalog cache d q e in (f.2, f.0, f.3, f.1)),
    (λ h.
        sym (add_by_molecule catalog cache d q (usable_pass h.0) h.1 h.2)
        ∙ proper_accepted molecule_side least_molecule most_molecule_bases q.bases q.mates h.3),
  )

  pub remove_accepts : (d : ℕ) → RemoveAccepts catalog cache d
  remove_accepts d = (
    (λ e. let f = remove_facts catalog cache d e in (f.1, f.0, f.2)),
    (λ h. sym (remove_passes catalog cache d (usable_pass h.0) h.1 h.2)),
  )

  pub query_accepts : (p : Strand) (work room : ℕ) → QueryAccepts catalog cache p work room
  query_accepts p work room = (
    (λ e. let f = query_facts catalog cache p work room e in (f.0, f.1, f.3, f.2)),
    (λ h.
        sym (query_passes catalog cache p work room (usable_pass h.0)
        (proper_accepted motif_side least_motif most_motif_bases p.bases p.mates h.1) h.2 h.3)),
  )
