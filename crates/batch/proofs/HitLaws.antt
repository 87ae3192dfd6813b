-- The maps of the search: the hits of one motif, the maps of all motifs one after the other, and all maps as one.
use Prim.Native.Nat.{ℕ, ◌+◌, ◌<◌, ◌≤◌}
use native.Mathlib.Omega.{arith}
use native.Mathlib.Numerals.{add-one}
use native.Mathlib.Decide.{ℕ_discrete, dec_lt}
use mathlib.Core.Path.{◌≡◌, refl, ap, ◌∙◌}
use mathlib.Core.Bool.{Bool, true, false, ◌||◌, or_comm, and-false}
use mathlib.Core.List.{List, []}
use lib.ListN.{length, get_or, set, replicate, length-set}
use Rattle.std.proofs.lemmas.List.{get_or-set_same, get_or-set_other}
use Rattle.lists.specs.Vocabulary.{some}
use Rattle.lists.proofs.ListLaws.{never}
use Rattle.octets.specs.Octets.{map_bit, map_bytes}
use Rattle.octets.proofs.BitLaws.{test_out}
use Rattle.octets.proofs.MapLaws.{map_bit_lem, map_ext}
use Rattle.embedding.specs.Longest.{embeds}
use Rattle.block.specs.Block.{block_count}
use Rattle.calls.specs.Buffers.{molecule_at}
use Rattle.calls.specs.Motifs.{most_motifs, motif_of}
use Rattle.calls.proofs.JudgeLaws.{above_not_held}
use Rattle.search.proofs.MarkLaws.{none_there}
use Rattle.batch.specs.Steps.{hits_in, HitsTo, in_some, Asked}

-- ---- molecule d and motif t

module _ (motifs : List ℕ) (todo : List (List ℕ)) (catalog : List ℕ) (t d : ℕ) where
  pub not_asked : map_bit (get_or todo t []) 0 d ≡ false → hits_in motifs todo catalog t d ≡ false
  unfolding hits_in
  not_asked e = rw e

  pub not_embedded : embeds (motif_of motifs t) (molecule_at catalog d) ≡ false → hits_in motifs todo catalog t d ≡ false
  unfolding hits_in
  not_embedded e = rw e (and-false (map_bit (get_or todo t []) 0 d))

  pub is_hit_lem : map_bit (get_or todo t []) 0 d ≡ true → embeds (motif_of motifs t) (molecule_at catalog d) ≡ true → hits_in motifs todo catalog t d ≡ true
  unfolding hits_in
  is_hit_lem a b = rw (a, b)

-- No motif asks for a number behind the blocks.
module _ (catalog motifs : List ℕ) (todo : List (List ℕ)) (all : Asked catalog motifs todo) (t : ℕ) (l : t < block_count motifs)
    (size : length (get_or todo t []) ≡ 64) where
  past : (d : ℕ) → block_count catalog ≤ d → (b : Bool) → map_bit (get_or todo t []) 0 d ≡ b → map_bit (get_or todo t []) 0 d ≡ false
  past d h false e = e
  past d h true e = elim (dec_lt d 512) [
    | yes k ↦ never (above_not_held catalog d h ∙ all.holds t d l k e)
    | no k ↦ test_out (get_or todo t []) 0 d (omega (arith, size))
  ]

  pub none_past : (d : ℕ) → block_count catalog ≤ d → hits_in motifs todo catalog t d ≡ false
  none_past d h = not_asked motifs todo catalog t d (past d h (map_bit (get_or todo t []) 0 d) refl)

-- ---- the motifs, one after the other

module _ (motifs : List ℕ) (todo : List (List ℕ)) (catalog : List ℕ) (found : List (List ℕ)) where
  pub hits_start : length found ≡ most_motifs → HitsTo motifs todo catalog found 0
  hits_start e = record { rows = e; each = λ t l. absurd (omega arith) }

  pub hits_next : (t : ℕ) (r : List ℕ) → HitsTo motifs todo catalog found t → t < most_motifs → r ≡ map_bytes (hits_in motifs todo catalog t)
      → HitsTo motifs todo catalog (set found t r) (t + 1)
  hits_next t r H l e = record { rows = length-set found t r ∙ H.rows; each = at }
    where
      at : (u : ℕ) → u < t + 1 → get_or (set found t r) u [] ≡ map_bytes (hits_in motifs todo catalog u)
      at u h = elim (ℕ_discrete u t) [
        | yes q ↦ rw (q, get_or-set_same found t r [] (omega (arith, H.rows))) e
        | no q ↦ rw (get_or-set_other found t u r [] q) (H.each u (omega arith))
      ]

-- ---- all maps as one

module _ (todo : List (List ℕ)) where
  pub unite_start : (w : List ℕ) → w ≡ replicate 64 0 → w ≡ map_bytes (in_some 0 todo)
  unfolding some in_some
  unite_start w e = none_there w e

  pub unite_next : (t : ℕ) (w w' : List ℕ) → w ≡ map_bytes (in_some t todo)
      → w' ≡ map_bytes (λ d. map_bit w 0 d || map_bit (get_or todo t []) 0 d) → w' ≡ map_bytes (in_some (t + 1) todo)
  unfolding in_some
  unite_next t w w' e k =
      k
      ∙ map_ext _ _ (λ d l.
      ap (λ (x : Bool). x || map_bit (get_or todo t []) 0 d) (ap (λ (m : List ℕ). map_bit m 0 d) e ∙ map_bit_lem (in_some t todo) d l)
      ∙ or_comm (in_some t todo d) (map_bit (get_or todo t []) 0 d)
      ∙ more (λ u. map_bit (get_or todo u []) 0 d))
    where
      more : (p : ℕ → Bool) → (p t || some t p) ≡ some (t + 1) p
      more p = rw (add-one t) (unfold some in refl)
