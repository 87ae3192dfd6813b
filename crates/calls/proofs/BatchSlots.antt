-- Motifs of a batch in one slot of the cache: the later one finds the entry of the earlier one.
use Rattle.std.specs.Prelude.{Ok}
use Prim.Native.Nat.{ℕ, zero, suc, ◌≤◌, ◌<◌}
use native.Mathlib.Omega.{arith}
use native.Mathlib.Nat.{mod-lt}
use native.Mathlib.Decide.{ℕ_discrete, dec_lt}
use mathlib.Core.Path.{◌≡◌, refl, sym, ap, ◌∙◌}
use mathlib.Core.Bool.{Bool, true, false, not, ◌&&◌}
use mathlib.Core.List.{List}
use lib.ListN.{length}
use Rattle.lists.specs.Vocabulary.{piece}
use Rattle.strand.specs.Strands.{Strand, key, same_strand}
use Rattle.block.specs.Content.{encode_entry}
use Rattle.block.specs.Block.{block_of, block_count}
use Rattle.calls.specs.Buffers.{most_catalog_blocks, held, slot_of, clean_cache}
use Rattle.calls.specs.Calls.{slot_in, entry_for, to_search, is_hit}
use Rattle.calls.specs.Motifs.{motif_of}
use Rattle.calls.specs.Batch.{batch_verdict, BatchState, batch_state, batch_query, batch_to, query_at, searches_at}
use Rattle.calls.specs.Statements.{QueryLeaves}
use Rattle.calls.specs.BatchStatements.{FirstInSlot, LastInSlot, SlotsShared}
use Rattle.calls.proofs.JudgeLaws.{above_not_held}
use Rattle.calls.proofs.CallLaws.{entry_known}
use Rattle.calls.proofs.Claims.{query_accepted_lem}
use Rattle.calls.proofs.MotifLaws.{motif_verdict_lem}
use Rattle.calls.proofs.BatchLaws.{batch_facts, clean_to, cache_size, clean_count, query_accepted_at, clean_next, searches_is}

module _ (embeds : Strand → Strand → Bool) (catalog motifs : List ℕ) (work : ℕ) (cache hits : List ℕ)
    (e : batch_verdict catalog cache motifs work (length hits) ≡ Ok tt) where
  abbrev K : ℕ
  K = block_count motifs

  abbrev begin : BatchState
  begin = batch_state cache hits

  abbrev before : ℕ → List ℕ
  before t = (batch_to embeds catalog motifs work t begin).cache

  abbrev clean : ℕ → List ℕ
  clean t = clean_to embeds catalog motifs work cache hits t

  abbrev slot_at : ℕ → ℕ
  slot_at t = slot_of (block_count cache) (motif_of motifs t)

  -- The entry that query t writes.
  abbrev hit_at : ℕ → ℕ → Bool
  hit_at t = is_hit embeds catalog (entry_for (before t) (motif_of motifs t)) (motif_of motifs t)

  abbrev entry_at : ℕ → List ℕ
  entry_at t = encode_entry (motif_of motifs t) (held catalog) (hit_at t)

  -- What query t leaves in the cache.
  leaves : (t : ℕ) → t < K
      → QueryLeaves catalog (before t) (slot_in (before t) (motif_of motifs t)) (motif_of motifs t)
      (piece (block_count catalog) t (batch_to embeds catalog motifs work t begin).hits) (hit_at t)
      (to_search catalog (entry_for (before t) (motif_of motifs t)) (motif_of motifs t)) (query_at embeds catalog motifs work begin t)
  unfolding query_at batch_query
  leaves t l = query_accepted_lem embeds catalog (before t) (motif_of motifs t) work _ (query_accepted_at embeds catalog motifs work cache hits e t l)

  -- slots are those of the cache that the batch begins with
  slot_is : (t : ℕ) → t < K → slot_at t ≡ slot_in (before t) (motif_of motifs t)
  slot_is t l =
      let same : block_count cache ≡ block_count (before t) = omega (arith, cache_size embeds catalog motifs work cache hits e t (omega arith)) in
      ap (λ (n : ℕ). slot_of n (motif_of motifs t)) same

  written : (t : ℕ) → t < K → block_of (slot_at t) (clean (suc t)) ≡ entry_at t
  written t l =
      ap (block_of (slot_at t)) (sym (clean_next embeds catalog motifs work cache hits e t l))
      ∙ ap (λ (s : ℕ). block_of s (query_at embeds catalog motifs work begin t).cache) (slot_is t l)
      ∙ (leaves t l).entry

  slot_below : (t : ℕ) → slot_at t < block_count cache
  unfolding slot_of
  slot_below t = let h = (batch_facts catalog cache motifs work (length hits) e).0.slots in mod-lt (key (motif_of motifs t)) h

  -- a query of another slot leaves it
  kept : (v s : ℕ) → v < K → s < block_count cache → (s ≡ slot_at v → ⊥) → block_of s (clean (suc v)) ≡ block_of s (clean v)
  kept v s l h ne =
      ap (block_of s) (sym (clean_next embeds catalog motifs work cache hits e v l))
      ∙ (leaves v l).only.others s (omega (arith, clean_count embeds catalog motifs work cache hits e v (omega arith))) (λ q. ne (q ∙ sym (slot_is v l)))

  -- what query u reads
  read_at : (u : ℕ) → u < K → block_of (slot_of (block_count (clean u)) (motif_of motifs u)) (clean u) ≡ block_of (slot_at u) (clean u)
  read_at u l = ap (λ (n : ℕ). block_of (slot_of n (motif_of motifs u)) (clean u)) (clean_count embeds catalog motifs work cache hits e u (omega arith))

  module _ (u : ℕ) (only : FirstInSlot embeds catalog motifs work cache hits u) where
    untouched : (v : ℕ) → v ≤ u → block_of (slot_at u) (clean v) ≡ block_of (slot_at u) (clean_cache cache)
    unfolding batch_to
    untouched zero l = refl
    untouched (suc v) l =
        kept v (slot_at u) (omega (arith, only.there)) (slot_below u) (λ s. only.none_before v (omega arith) (sym s)) ∙ untouched v (omega arith)

    searches_first : (d : ℕ) → searches_at embeds catalog motifs work begin u d ≡ to_search catalog (entry_for cache (motif_of motifs u)) (motif_of motifs u) d
    searches_first d =
        let there = only.there in
        searches_is embeds catalog motifs work cache hits e u d (omega arith)
        ∙ ap (λ (w : List ℕ). to_search catalog w (motif_of motifs u) d) (read_at u there ∙ untouched u (omega arith))

  module _ (t u : ℕ) (last : LastInSlot embeds catalog motifs work cache hits t u) where
    stays : (v : ℕ) → t < v → v ≤ u → block_of (slot_at u) (clean v) ≡ entry_at t
    stays zero h l = absurd (omega arith)
    stays (suc v) h l =
        let below : v < K = omega (arith, last.there) in
        elim (ℕ_discrete t v) [
          | yes q ↦ ap (λ (s : ℕ). block_of s (clean (suc v))) (sym last.slot) ∙ ap (λ (n : ℕ). block_of (slot_at t) (clean (suc n))) (sym q)
              ∙ written t (omega arith)
          | no q ↦ kept v (slot_at u) below (slot_below u) (λ s. last.none_between v (omega arith) (omega arith) (sym s)) ∙ stays v (omega arith) (omega arith)
        ]

    -- what query u reads, and what it has to search
    found : block_of (slot_of (block_count (clean u)) (motif_of motifs u)) (clean u) ≡ entry_at t
    found =
        let there = last.there in
        read_at u there ∙ stays u last.before (omega arith)

    search_entry : (d : ℕ) → to_search catalog (entry_at t) (motif_of motifs u) d
        ≡ (held catalog d && not (same_strand (motif_of motifs t) (motif_of motifs u) && held catalog d))
    unfolding to_search
    search_entry d =
        let f = batch_facts catalog cache motifs work (length hits) e in
        let below : t < K = omega (arith, last.before, last.there) in
        elim (dec_lt d most_catalog_blocks) [
          | yes l ↦ rw (entry_known (motif_of motifs t) (motif_verdict_lem motifs f.1 t below) (held catalog) (hit_at t) (motif_of motifs u) d l)
          | no l ↦ rw (← above_not_held catalog d (omega (arith, f.0.most)))
        ]

    searches : (b : Bool) → same_strand (motif_of motifs t) (motif_of motifs u) ≡ b → (d : ℕ)
        → searches_at embeds catalog motifs work begin u d ≡ (held catalog d && not (b && held catalog d))
    searches b same d =
        let there = last.there in
        searches_is embeds catalog motifs work cache hits e u d (omega arith)
        ∙ ap (λ (w : List ℕ). to_search catalog w (motif_of motifs u) d) found
        ∙ search_entry d
        ∙ ap (λ (x : Bool). held catalog d && not (x && held catalog d)) same

  pub slots_shared : SlotsShared embeds catalog motifs work cache hits
  slots_shared =
      record {
        first_there = searches_first;
        again = λ t u last same d. searches t u last true same d ∙ none (held catalog d);
        another = λ t u last same d. searches t u last false same d ∙ all (held catalog d);
      }
    where
      none : (h : Bool) → (h && not (true && h)) ≡ false
      none true = refl
      none false = refl

      all : (h : Bool) → (h && not (false && h)) ≡ h
      all true = refl
      all false = refl
