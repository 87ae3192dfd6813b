-- The plan: what one motif and what all leave in the maps and in the copy of the cache, and that it tells what each query of a batch has to search. For
-- what a query has to search reads which motif an entry keeps and what it has searched, and not its hits.
use Prim.Native.Nat.{ℕ, zero, suc, ◌+◌, ◌<◌}
use native.Mathlib.Omega.{arith}
use native.Mathlib.Numerals.{add-one}
use native.Mathlib.Decide.{ℕ_discrete}
use native.Mathlib.Nat.{mod-lt, zero-add}
use mathlib.Core.Path.{◌≡◌, refl, sym, ap, ap₂, subst, ◌∙◌}
use mathlib.Core.Bool.{Bool, true, false, cond, not, ◌&&◌}
use mathlib.Core.List.{List, [], ◌++◌, ◌∷◌}
use lib.ListN.{length, length-append, length-set, drop, get_or, set}
use Rattle.std.specs.List.{count_by, range_with_len}
use Rattle.std.proofs.lemmas.List.FromFn.{sum_by-map-range_with_len_more}
use Rattle.std.proofs.lemmas.List.{map-id, get_or-set_same, get_or-set_other}
use Rattle.lists.specs.Vocabulary.{select, tab}
use Rattle.lists.proofs.ListLaws.{select_none, select_yes, select_no, tab_more}
use Rattle.strand.specs.Strands.{Strand, Proper, least_motif, key}
use Rattle.refusals.specs.Rules.{motif_side}
use Rattle.octets.specs.Octets.{map_size, map_bit, map_bytes}
use Rattle.octets.proofs.MapLaws.{length_map, map_ext}
use Rattle.block.specs.Content.{block_size, entry_with, encode_entry, keeps_motif, searched_in}
use Rattle.block.proofs.ContentLaws.{entry_length, entry_sound, entry_of_maps}
use Rattle.block.specs.Block.{block_of, block_count, put_block}
use Rattle.buffer.proofs.BlockLaws.{length_put, block_put, block_other}
use Rattle.calls.specs.Buffers.{most_motif_bases, slot_of}
use Rattle.calls.specs.Calls.{slot_in, is_known}
use Rattle.calls.specs.Statements.{AllSound}
use Rattle.calls.proofs.MotifLaws.{motif_proper}
use Rattle.calls.specs.Motifs.{most_motifs, motif_of, UsableMotifs}
use Rattle.batch.specs.Steps.{Planning, planned, planned_by, planned_after, PlannedTo}

-- One motif: s is its slot, `same` says whether the slot's entry keeps it.
module _ (h cache : List ℕ) (q : Strand) (s : ℕ) (es : s ≡ slot_in cache q) where
  pub todo_planned : (entry : List ℕ) (same : Bool) (x : List ℕ) → entry ≡ block_of s cache → same ≡ keeps_motif entry q
      → x ≡ map_bytes (λ d. map_bit h 0 d && not (same && searched_in entry d)) → x ≡ map_bytes (planned_by h cache q)
  unfolding planned_by is_known
  todo_planned entry same x ee ek ex =
      let e : entry ≡ block_of (slot_in cache q) cache = ee ∙ ap (λ (k : ℕ). block_of k cache) es in
      ex
      ∙ map_ext _ _ (λ d l. ap₂ (λ (b : Bool) (w : List ℕ). map_bit h 0 d && not (b && searched_in w d)) (ek ∙ ap (λ (w : List ℕ). keeps_motif w q) e) e)

  pub cache_planned : (x : List ℕ) → x ≡ put_block s (entry_with [] q.bases q.mates h h) cache → x ≡ planned h cache q
  unfolding planned
  cache_planned x ex = ex ∙ ap (λ (k : ℕ). put_block k (entry_with [] q.bases q.mates h h) cache) es

pub held_size : {h cache : List ℕ} → Planning h cache → length h ≡ map_size
held_size {h = h} P = ap length P.held_map ∙ length_map (map_bit h 0)

-- After a motif the plan may go on: its entry is sound, and the other blocks stay.
module _ {motifs : List ℕ} (usable : UsableMotifs motifs) {h cache x : List ℕ} (t : ℕ) (l : t < block_count motifs) (P : Planning h cache)
    (ex : x ≡ planned h cache (motif_of motifs t)) where
  abbrev p : Strand
  p = motif_of motifs t

  abbrev s : ℕ
  s = slot_in cache p

  proper : Proper motif_side least_motif most_motif_bases p.bases p.mates
  proper = motif_proper motifs usable t l

  below : s < block_count cache
  unfolding slot_of
  below = let k = P.slots in mod-lt (key p) k

  entry_is : entry_with [] p.bases p.mates h h ≡ encode_entry p (map_bit h 0) (map_bit h 0)
  entry_is = ap (λ (w : List ℕ). entry_with [] p.bases p.mates w w) P.held_map ∙ entry_of_maps p.bases p.mates (map_bit h 0) (map_bit h 0)

  x_is : x ≡ put_block s (encode_entry p (map_bit h 0) (map_bit h 0)) cache
  unfolding planned
  x_is = ex ∙ ap (λ (b : List ℕ). put_block s b cache) entry_is

  long : length (encode_entry p (map_bit h 0) (map_bit h 0)) ≡ block_size
  long = entry_length p proper (map_bit h 0) (map_bit h 0)

  size : length x ≡ length cache
  size = ap length x_is ∙ length_put s _ cache long (omega (arith, below))

  sound : AllSound x
  sound r k =
      elim (ℕ_discrete r s) [
        | yes e ↦ rw (e, x_is, block_put s _ cache long (omega (arith, below))) (entry_sound p proper (map_bit h 0) (map_bit h 0) (λ d e. e))
        | no e ↦ rw (x_is, block_other s _ cache long (omega (arith, below)) r e (omega (arith, size))) (P.sound r (omega (arith, size)))
      ]

  pub planning_next : Planning h x
  planning_next =
      record {
        held_map = P.held_map;
        slots = omega (arith, size, P.slots);
        cache_size = omega (arith, size, P.cache_size);
        sound = sound;
      }

-- All motifs, one after the other.
module _ (motifs h cache : List ℕ) where
  pub plan_start : (todo : List (List ℕ)) → length todo ≡ most_motifs → PlannedTo motifs h cache todo 0
  plan_start todo e = record { rows = e; each = λ t l. absurd (omega arith) }

  pub after_start : cache ≡ planned_after motifs h cache 0
  unfolding planned_after
  after_start = refl

  pub after_next : (t : ℕ) (c x : List ℕ) → c ≡ planned_after motifs h cache t → x ≡ planned h c (motif_of motifs t) → x ≡ planned_after motifs h cache (t + 1)
  after_next t c x ec ex = ex ∙ ap (λ (w : List ℕ). planned h w (motif_of motifs t)) ec ∙ sym (rw (add-one t) (unfold planned_after in refl))

  -- map t came back as r
  pub plan_next : (t : ℕ) (c : List ℕ) (todo : List (List ℕ)) (r : List ℕ) → t < 16 → PlannedTo motifs h cache todo t → c ≡ planned_after motifs h cache t
      → r ≡ map_bytes (planned_by h c (motif_of motifs t)) → PlannedTo motifs h cache (set todo t r) (t + 1)
  plan_next t c todo r few P ec er = record { rows = length-set todo t r ∙ P.rows; each = each }
    where
      each : (u : ℕ) → u < t + 1 → get_or (set todo t r) u [] ≡ map_bytes (planned_by h (planned_after motifs h cache u) (motif_of motifs u))
      each u l =
          elim (ℕ_discrete u t) [
            | yes x ↦ rw (x, get_or-set_same todo t r [] (omega (arith, P.rows)), er) (ap (λ (w : List ℕ). map_bytes (planned_by h w (motif_of motifs t))) ec)
            | no x ↦ rw (get_or-set_other todo t u r [] x) (P.each u (omega arith))
          ]

-- ---- numbers counted

module _ (f : ℕ → Bool) where
  count_more : (n : ℕ) → count_by f (range_with_len 0 (n + 1)) ≡ count_by f (range_with_len 0 n) + cond (f n) 1 0
  count_more n = simp map-id at (sum_by-map-range_with_len_more (λ x. cond (f x) 1 0) (λ x. x) 0 n n (zero-add n))

  count_step : (n : ℕ) (b : Bool) → f n ≡ b → count_by f (range_with_len 0 n) ≡ length (select n f)
      → count_by f (range_with_len 0 (n + 1)) ≡ length (select (n + 1) f)
  count_step n true e h = omega (arith, rw e at (count_more n), h, ap length (select_yes f n e), length-append (select n f) (n ∷ []))
  count_step n false e h = omega (arith, rw e at (count_more n), h, ap length (select_no f n e))

  pub counted_all : (n : ℕ) → count_by f (range_with_len 0 n) ≡ length (select n f)
  counted_all zero = ap length (sym (select_none f))
  counted_all (suc n) =
      let P : ℕ → Type 0 = λ k. count_by f (range_with_len 0 k) ≡ length (select k f) in
      subst P (add-one n) (count_step n (f n) refl (counted_all n))

-- ---- a number written for each motif

module _ (f : ℕ → ℕ) where
  pub tab_next : (t : ℕ) (old w : List ℕ) (r : ℕ) → t < length old → w ≡ tab t f ++ drop t old → r ≡ f t → set w t r ≡ tab (t + 1) f ++ drop (t + 1) old
  tab_next t old w r l e er = ap₂ (λ (x : List ℕ) (y : ℕ). set x t y) e er ∙ tab_more f t old l
