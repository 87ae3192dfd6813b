-- The loop over the molecules that are to be searched: f are the hits known before, t the numbers to be searched, e those that embed.
use mathlib.Core.Path.{◌≡◌, refl, sym, ap, ◌∙◌}
use mathlib.Core.Bool.{Bool, true, false, ◌&&◌, ◌||◌}
use mathlib.Core.List.{List}
use Prim.Native.Nat.{ℕ, ◌+◌, ◌<◌, ◌≤◌}
use native.Mathlib.Omega.{arith}
use lib.ListN.{length}
use Rattle.lists.specs.Vocabulary.{select}
use Rattle.lists.proofs.ListLaws.{select_none, never}
use Rattle.octets.specs.Bits.{set_map}
use Rattle.octets.specs.Octets.{Bytes, map_bit, map_bytes}
use Rattle.octets.proofs.MapLaws.{map_is}
use Rattle.block.specs.Block.{block_count}
use Rattle.calls.proofs.JudgeLaws.{above_not_held}
use Rattle.search.specs.Search.{AllHeld}
use Rattle.search.proofs.ListingLaws.{count_yes, count_no}
use Rattle.search.proofs.MarkLaws.{with_up_to, mark_start, mark_none, mark_yes, mark_end}

-- The map has the hits known before and those below d, and so many were searched.
pub record Searched (f t e : ℕ → Bool) (n : ℕ) (map : List ℕ) (d searched : ℕ) : Type 0 where
  pub below : d ≤ n
  pub counted : searched ≡ length (select d t)
  pub mapped : map ≡ map_bytes (with_up_to f d (λ x. t x && e x))

pub searched_start : (t e : ℕ → Bool) (n : ℕ) (map : List ℕ) → length map ≡ 64 → Bytes map → Searched (map_bit map 0) t e n map 0 0
searched_start t e n map l small =
    record {
      below = omega arith;
      counted = ap length (sym (select_none t));
      mapped = mark_start (map_bit map 0) (λ x. t x && e x) map (map_is map l small);
    }

module _ (f t e : ℕ → Bool) (n : ℕ) (map : List ℕ) (d searched : ℕ) (s : Searched f t e n map d searched) (l : d < n) where
  -- Number d is searched and is a hit, or is none.
  pub searched_hit : n ≤ 512 → t d ≡ true → e d ≡ true → (m : List ℕ) → m ≡ set_map map 0 d → Searched f t e n m (d + 1) (searched + 1)
  searched_hit small h y m k =
      record {
        below = omega arith;
        counted = count_yes t d searched s.counted h;
        mapped = mark_yes f (λ x. t x && e x) d map m (omega arith) (rw (h, y)) s.mapped k;
      }

  pub searched_miss : t d ≡ true → e d ≡ false → Searched f t e n map (d + 1) (searched + 1)
  searched_miss h y =
      record {
        below = omega arith;
        counted = count_yes t d searched s.counted h;
        mapped = mark_none f (λ x. t x && e x) d map (rw (h, y)) s.mapped;
      }

  -- Number d is not to be searched.
  pub searched_no : t d ≡ false → Searched f t e n map (d + 1) searched
  searched_no h =
      record {
        below = omega arith;
        counted = count_no t d searched s.counted h;
        mapped = mark_none f (λ x. t x && e x) d map (ap (λ (a : Bool). a && e d) h) s.mapped;
      }

pub searched_end : (f t e : ℕ → Bool) (n : ℕ) (map : List ℕ) (d searched : ℕ) → Searched f t e n map d searched → n ≤ d
    → ((x : ℕ) → n ≤ x → t x ≡ false) → (searched ≡ length (select n t)) × (map ≡ map_bytes (λ x. f x || (t x && e x)))
searched_end f t e n map d searched s h out =
    let q : d ≡ n = let y = s.below in omega arith in (
      s.counted ∙ ap (λ (k : ℕ). length (select k t)) q,
      mark_end f (λ x. t x && e x) n d map h s.below (λ x l. ap (λ (a : Bool). a && e x) (out x l)) s.mapped,
    )

-- A map of held numbers has none from the last block on.
pub none_past : (cat todo : List ℕ) → AllHeld cat todo → (x : ℕ) → block_count cat ≤ x → map_bit todo 0 x ≡ false
none_past cat todo all x l = go (map_bit todo 0 x) refl
  where
    go : (b : Bool) → map_bit todo 0 x ≡ b → map_bit todo 0 x ≡ false
    go false e = e
    go true e = never (above_not_held cat x l ∙ all x e)
