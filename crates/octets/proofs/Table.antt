-- A test at every number below n, which antt computes at a numeral n, and the test at one of them; and equal Booleans as a test.
use mathlib.Core.Path.{◌≡◌, refl, sym, subst}
use mathlib.Core.Logic.{⊎_elim}
use mathlib.Core.Bool.{Bool, true, false, not}
use Prim.Native.Nat.{ℕ, zero, suc, ◌<◌}
use native.Mathlib.Nat.{le_of_suc-le-suc, not-suc-le-zero, eq-or-lt_of_le}
use lib.Dec.{T}

abbrev pub both : Bool → Bool → Bool
both true b = b
both false b = false

pub both_left : (a b : Bool) → T (both a b) → T a
both_left true b t = tt
both_left false b t = t

pub both_right : (a b : Bool) → T (both a b) → T b
both_right true b t = t
both_right false b t = absurd t

abbrev pub same : Bool → Bool → Bool
same true b = b
same false b = not b

pub same→eq : (a b : Bool) → T (same a b) → a ≡ b
same→eq true true t = refl
same→eq true false t = absurd t
same→eq false true t = absurd t
same→eq false false t = refl

abbrev pub below : (ℕ → Bool) → ℕ → Bool
below f zero = true
below f (suc n) = both (f n) (below f n)

pub below_at : (f : ℕ → Bool) (n : ℕ) → T (below f n) → (k : ℕ) → k < n → T (f k)
below_at f zero t k h = absurd (not-suc-le-zero h)
below_at f (suc n) t k h =
    ⊎_elim (λ e. subst (λ (m : ℕ). T (f m)) (sym e) (both_left (f n) (below f n) t))
    (λ l. below_at f n (both_right (f n) (below f n) t) k l) (eq-or-lt_of_le (le_of_suc-le-suc h))

pub below₂_at : (f : ℕ → ℕ → Bool) (n m : ℕ) → T (below (λ k. below (f k) m) n) → (k j : ℕ) → k < n → j < m → T (f k j)
below₂_at f n m t k j hk hj = below_at (f k) m (below_at (λ k. below (f k) m) n t k hk) j hj

pub below₃_at : (f : ℕ → ℕ → ℕ → Bool) (n m p : ℕ) → T (below (λ k. below (λ j. below (f k j) p) m) n)
    → (k j i : ℕ) → k < n → j < m → i < p → T (f k j i)
below₃_at f n m p t k j i hk hj hi = below₂_at (f k) m p (below_at (λ k. below (λ j. below (f k j) p) m) n t k hk) j i hj hi
