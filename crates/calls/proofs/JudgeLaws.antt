-- The rules of each call, one after the other: one law for each place where a judge can return.
use Rattle.std.specs.Prelude.{Ok, Err}
use mathlib.Core.Path.{◌≡◌, sym, ap, ◌∙◌}
use mathlib.Core.Bool.{Bool, true, false, not}
use mathlib.Core.List.{List}
use Prim.Native.Nat.{ℕ, ◌%◌, ◌<◌, ◌≤◌}
use lib.ListN.{length}
use lib.Dec.{eqb, leb}
use borrow.Author.Tests.{eq-eqb, ne_eqb, lt-ltb, le-ltb, le-leb, lt-leb}
use Rattle.lists.specs.Vocabulary.{nth, lowest}
use Rattle.strand.specs.Strands.{Strand, least_motif, least_molecule, strand_verdict}
use Rattle.refusals.specs.Rules.{no_side, motif_side, molecule_side, wrong_slice, not_whole_blocks, unsound_block, number_too_large, already_held, not_held}
use Rattle.refusals.specs.Rules.{work_too_short, refusal, refuse_if, work_size}
use Rattle.refusals.proofs.RuleLaws.{first_one, first_skip, first_stop, rule_yes, rule_no, rule_at_yes, rule_at_no}
use Rattle.block.specs.Content.{block_size}
use Rattle.block.specs.Block.{sound_molecule, block_of, block_count}
use Rattle.refusals.specs.declared.Refusal.{Refusal}
use Rattle.calls.specs.Buffers.{most_catalog_blocks, most_cache_blocks, most_molecule_bases, most_motif_bases, molecule_verdict, motif_verdict, work_verdict}
use Rattle.calls.specs.Buffers.{is_whole, are_whole, unsound_at, held, buffers_verdict}
use Rattle.calls.specs.Calls.{add_verdict, remove_verdict, query_verdict}
use Rattle.calls.proofs.BlockUse as leaf

-- Rule 10

module _ (most : ℕ) (s : List ℕ) where
  pub not_blocks : (length s % block_size ≡ 0 → ⊥) → false ≡ is_whole most s
  unfolding is_whole
  not_blocks h = rw (ne_eqb (length s % block_size) 0 h)

  pub no_block : length s % block_size ≡ 0 → block_count s < 1 → false ≡ is_whole most s
  unfolding is_whole
  no_block a h = rw (eq-eqb (length s % block_size) 0 a, lt-leb 1 (block_count s) h)

  pub some_blocks : length s % block_size ≡ 0 → 1 ≤ block_count s → leb (block_count s) most ≡ is_whole most s
  unfolding is_whole
  some_blocks a h = rw (eq-eqb (length s % block_size) 0 a, le-leb 1 (block_count s) h)

-- Rules 10 and 11

pub unsound_is : (catalog : List ℕ) (d : ℕ) {r b : Bool} → r ≡ sound_molecule (block_of d catalog) → r ≡ b → unsound_at catalog d ≡ not b
unfolding unsound_at
unsound_is catalog d e q = rw (← e, q)

module _ (catalog cache : List ℕ) where
  pub buffers_not_whole : are_whole catalog cache ≡ false → refusal not_whole_blocks no_side 0 ≡ buffers_verdict catalog cache
  unfolding buffers_verdict
  buffers_not_whole h = sym (first_stop _ _ _ (rule_yes not_whole_blocks no_side (not (are_whole catalog cache)) (ap not h)))

  pub catalog_not_whole : is_whole most_catalog_blocks catalog ≡ false → refusal not_whole_blocks no_side 0 ≡ buffers_verdict catalog cache
  catalog_not_whole h = buffers_not_whole (unfold are_whole in (rw h))

  module _ (whole : is_whole most_catalog_blocks catalog ≡ true) where
    pub cache_not_whole : is_whole most_cache_blocks cache ≡ false → refusal not_whole_blocks no_side 0 ≡ buffers_verdict catalog cache
    cache_not_whole h = buffers_not_whole (unfold are_whole in (rw (whole, h)))

    module _ (whole' : is_whole most_cache_blocks cache ≡ true) (u : ℕ) (is : u ≡ lowest (block_count catalog) (unsound_at catalog)) where
      passes : refuse_if not_whole_blocks no_side (not (are_whole catalog cache)) ≡ Ok tt
      passes =
          let both : are_whole catalog cache ≡ true = unfold are_whole in (rw (whole, whole')) in
          rule_no not_whole_blocks no_side (not (are_whole catalog cache)) (ap not both)

      pub block_unsound : u < block_count catalog → refusal unsound_block no_side u ≡ buffers_verdict catalog cache
      unfolding buffers_verdict
      block_unsound h =
          sym (first_skip _ _ passes ∙ first_one _ ∙ rule_at_yes unsound_block no_side (block_count catalog) (unsound_at catalog) u is h)

      pub buffers_pass : block_count catalog ≤ u → Ok tt ≡ buffers_verdict catalog cache
      unfolding buffers_verdict
      buffers_pass h =
          sym (first_skip _ _ passes ∙ first_one _ ∙ rule_at_no unsound_block no_side (block_count catalog) (unsound_at catalog) u is h)

-- Held numbers

module _ (catalog : List ℕ) (d : ℕ) where
  pub above_not_held : block_count catalog ≤ d → false ≡ held catalog d
  unfolding held
  above_not_held h = rw (le-ltb d (block_count catalog) h)

  -- byte 0 of a sound block tells
  pub held_by_byte : sound_molecule (block_of d catalog) ≡ true → d < block_count catalog → (b : List ℕ) → b ≡ block_of d catalog
      → not (eqb (nth b 0) 0) ≡ held catalog d
  unfolding held
  held_by_byte ok h b e = rw (lt-ltb d (block_count catalog) h, e, leaf.molecule_first (block_of d catalog) ok)

-- Add

module _ (catalog cache : List ℕ) (d : ℕ) (q : Strand) where
  pub add_buffers_refused : (r : Refusal) → buffers_verdict catalog cache ≡ Err r → Err r ≡ add_verdict catalog cache d q
  unfolding add_verdict
  add_buffers_refused r e = sym (first_stop _ _ r e)

  module _ (buffers : buffers_verdict catalog cache ≡ Ok tt) where
    pub add_number_large : block_count catalog ≤ d → refusal number_too_large no_side 0 ≡ add_verdict catalog cache d q
    unfolding add_verdict
    add_number_large h = sym (first_skip _ _ buffers ∙ first_stop _ _ _ (rule_yes number_too_large no_side _ (le-leb (block_count catalog) d h)))

    module _ (below : d < block_count catalog) where
      pub add_held : held catalog d ≡ true → refusal already_held no_side 0 ≡ add_verdict catalog cache d q
      unfolding add_verdict
      add_held h =
          sym (first_skip _ _ buffers ∙ first_skip _ _ (rule_no number_too_large no_side _ (lt-leb (block_count catalog) d below))
          ∙ first_stop _ _ _ (rule_yes already_held no_side _ h))

      pub add_by_molecule : held catalog d ≡ false
          → strand_verdict molecule_side least_molecule most_molecule_bases q.bases q.mates ≡ add_verdict catalog cache d q
      unfolding add_verdict molecule_verdict
      add_by_molecule h =
          sym (first_skip _ _ buffers ∙ first_skip _ _ (rule_no number_too_large no_side _ (lt-leb (block_count catalog) d below))
          ∙ first_skip _ _ (rule_no already_held no_side _ h) ∙ first_one _)

-- Remove

module _ (catalog cache : List ℕ) (d : ℕ) where
  pub remove_buffers_refused : (r : Refusal) → buffers_verdict catalog cache ≡ Err r → Err r ≡ remove_verdict catalog cache d
  unfolding remove_verdict
  remove_buffers_refused r e = sym (first_stop _ _ r e)

  module _ (buffers : buffers_verdict catalog cache ≡ Ok tt) where
    pub remove_number_large : block_count catalog ≤ d → refusal number_too_large no_side 0 ≡ remove_verdict catalog cache d
    unfolding remove_verdict
    remove_number_large h = sym (first_skip _ _ buffers ∙ first_stop _ _ _ (rule_yes number_too_large no_side _ (le-leb (block_count catalog) d h)))

    module _ (below : d < block_count catalog) where
      pub remove_not_held : held catalog d ≡ false → refusal not_held no_side 0 ≡ remove_verdict catalog cache d
      unfolding remove_verdict
      remove_not_held h =
          sym (first_skip _ _ buffers ∙ first_skip _ _ (rule_no number_too_large no_side _ (lt-leb (block_count catalog) d below))
          ∙ first_one _ ∙ rule_yes not_held no_side _ (ap not h))

      pub remove_passes : held catalog d ≡ true → Ok tt ≡ remove_verdict catalog cache d
      unfolding remove_verdict
      remove_passes h =
          sym (first_skip _ _ buffers ∙ first_skip _ _ (rule_no number_too_large no_side _ (lt-leb (block_count catalog) d below))
          ∙ first_one _ ∙ rule_no not_held no_side _ (ap not h))

-- Query

module _ (catalog cache : List ℕ) (p : Strand) (work room : ℕ) where
  pub query_buffers_refused : (r : Refusal) → buffers_verdict catalog cache ≡ Err r → Err r ≡ query_verdict catalog cache p work room
  unfolding query_verdict
  query_buffers_refused r e = sym (first_stop _ _ r e)

  module _ (buffers : buffers_verdict catalog cache ≡ Ok tt) where
    pub query_motif_refused : (r : Refusal) → strand_verdict motif_side least_motif most_motif_bases p.bases p.mates ≡ Err r
        → Err r ≡ query_verdict catalog cache p work room
    unfolding query_verdict motif_verdict
    query_motif_refused r e = sym (first_skip _ _ buffers ∙ first_stop _ _ r e)

    module _ (motif : strand_verdict motif_side least_motif most_motif_bases p.bases p.mates ≡ Ok tt) where
      pub query_few_hits : room < block_count catalog → refusal wrong_slice no_side 0 ≡ query_verdict catalog cache p work room
      unfolding query_verdict motif_verdict
      query_few_hits h =
          sym (first_skip _ _ buffers ∙ first_skip _ _ motif ∙ first_stop _ _ _ (rule_yes wrong_slice no_side _ (lt-ltb room (block_count catalog) h)))

      module _ (fits : block_count catalog ≤ room) where
        pub query_short_work : work < work_size (length p.bases) most_molecule_bases → refusal work_too_short no_side 0
            ≡ query_verdict catalog cache p work room
        unfolding query_verdict motif_verdict work_verdict
        query_short_work h =
            sym (first_skip _ _ buffers ∙ first_skip _ _ motif ∙ first_skip _ _ (rule_no wrong_slice no_side _ (le-ltb room (block_count catalog) fits))
            ∙ first_one _ ∙ rule_yes work_too_short no_side _ (lt-ltb work _ h))

        pub query_passes : work_size (length p.bases) most_molecule_bases ≤ work → Ok tt ≡ query_verdict catalog cache p work room
        unfolding query_verdict motif_verdict work_verdict
        query_passes h =
            sym (first_skip _ _ buffers ∙ first_skip _ _ motif ∙ first_skip _ _ (rule_no wrong_slice no_side _ (le-ltb room (block_count catalog) fits))
            ∙ first_one _ ∙ rule_no work_too_short no_side _ (le-ltb work _ h))
