-- Numbers put into a map one after the other: those of f are there already, those of p that are below d follow.
use mathlib.Core.Path.{◌≡◌, refl, sym, ap, ◌∙◌}
use mathlib.Core.Bool.{Bool, true, false, ◌&&◌, ◌||◌, or-false, or_assoc}
use mathlib.Core.List.{List}
use Prim.Native.Nat.{ℕ, ◌+◌, ◌<◌, ◌≤◌}
use native.Mathlib.Omega.{arith}
use native.Mathlib.Decide.{ℕ_discrete, dec_lt}
use lib.ListN.{replicate}
use lib.Dec.{eqb, ltb}
use borrow.Author.Tests.{eq-eqb, ne_eqb, lt-ltb, le-ltb}
use Rattle.octets.specs.Bits.{set_map}
use Rattle.octets.specs.Octets.{map_bytes}
use Rattle.octets.proofs.MapLaws.{map_set, map_ext, map_none}

-- The numbers of p below d; the same and those of f.
up_to : ℕ → (ℕ → Bool) → ℕ → Bool
up_to d p e = ltb e d && p e

pub with_up_to : (ℕ → Bool) → ℕ → (ℕ → Bool) → ℕ → Bool
with_up_to f d p e = f e || up_to d p e

up_none : (p : ℕ → Bool) (e : ℕ) → up_to 0 p e ≡ false
unfolding up_to
up_none p e = rw (le-ltb e 0 (omega arith))

up_yes : (d : ℕ) (p : ℕ → Bool) → p d ≡ true → (e : ℕ) → (up_to d p e || eqb e d) ≡ up_to (d + 1) p e
unfolding up_to
up_yes d p h e =
    elim (ℕ_discrete e d) [
      | yes z ↦ rw (z, le-ltb d d (omega arith), eq-eqb d d refl, lt-ltb d (d + 1) (omega arith), h)
      | no z ↦ elim (dec_lt e d) [
        | yes l ↦ rw (lt-ltb e d l, ne_eqb e d z, lt-ltb e (d + 1) (omega arith)) (or-false (p e))
        | no l ↦ rw (le-ltb e d (omega arith), ne_eqb e d z, le-ltb e (d + 1) (omega arith))
      ]
    ]

up_no : (d : ℕ) (p : ℕ → Bool) → p d ≡ false → (e : ℕ) → up_to d p e ≡ up_to (d + 1) p e
unfolding up_to
up_no d p h e =
    elim (ℕ_discrete e d) [
      | yes z ↦ rw (z, le-ltb d d (omega arith), lt-ltb d (d + 1) (omega arith), h)
      | no z ↦ elim (dec_lt e d) [
        | yes l ↦ rw (lt-ltb e d l, lt-ltb e (d + 1) (omega arith))
        | no l ↦ rw (le-ltb e d (omega arith), le-ltb e (d + 1) (omega arith))
      ]
    ]

-- nothing passes from n on
up_end : (n : ℕ) (p : ℕ → Bool) → ((e : ℕ) → n ≤ e → p e ≡ false) → (e : ℕ) → up_to n p e ≡ p e
unfolding up_to
up_end n p h e = elim (dec_lt e n) [ yes l ↦ rw (lt-ltb e n l) | no l ↦ rw (le-ltb e n (omega arith)) (sym (h e (omega arith))) ]

module _ (f p : ℕ → Bool) where
  pub mark_start : (w : List ℕ) → w ≡ map_bytes f → w ≡ map_bytes (with_up_to f 0 p)
  unfolding with_up_to
  mark_start w e = e ∙ map_ext f (with_up_to f 0 p) (λ d l. sym (ap (λ (b : Bool). f d || b) (up_none p d) ∙ or-false (f d)))

  -- Number d, which is no number of p, leaves the map as it is.
  pub mark_none : (d : ℕ) (w : List ℕ) → p d ≡ false → w ≡ map_bytes (with_up_to f d p) → w ≡ map_bytes (with_up_to f (d + 1) p)
  unfolding with_up_to
  mark_none d w h e = e ∙ map_ext (with_up_to f d p) (with_up_to f (d + 1) p) (λ x m. ap (λ (b : Bool). f x || b) (up_no d p h x))

  -- Number d, which is a number of p, is put into the map.
  pub mark_yes : (d : ℕ) (w w' : List ℕ) → d < 512 → p d ≡ true → w ≡ map_bytes (with_up_to f d p)
      → w' ≡ set_map w 0 d → w' ≡ map_bytes (with_up_to f (d + 1) p)
  unfolding with_up_to
  mark_yes d w w' l h e k =
      k
      ∙ ap (λ (s : List ℕ). set_map s 0 d) e
      ∙ map_set (with_up_to f d p) d l
      ∙ map_ext _ (with_up_to f (d + 1) p) (λ x m. or_assoc (f x) (up_to d p x) (eqb x d) ∙ ap (λ (b : Bool). f x || b) (up_yes d p h x))

  pub mark_end : (n d : ℕ) (w : List ℕ) → n ≤ d → d ≤ n → ((e : ℕ) → n ≤ e → p e ≡ false) → w ≡ map_bytes (with_up_to f d p)
      → w ≡ map_bytes (λ e. f e || p e)
  unfolding with_up_to
  mark_end n d w a b h e =
      let x : d ≡ n = omega arith in
      e
      ∙ ap (λ (k : ℕ). map_bytes (with_up_to f k p)) x
      ∙ map_ext (with_up_to f n p) (λ e. f e || p e) (λ y l. ap (λ (b : Bool). f y || b) (up_end n p h y))

-- The map of no number.
pub none_there : (w : List ℕ) → w ≡ replicate 64 0 → w ≡ map_bytes (λ x. false)
none_there w e = e ∙ sym map_none
