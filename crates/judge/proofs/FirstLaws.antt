-- What a search of the numbers from 0 gives, of which the statements tell the lowest that passes, or the number after them.
use Prim.Native.Nat.{ℕ, zero, suc, ◌+◌, ◌<◌}
use native.Mathlib.Omega.{arith}
use native.Mathlib.Numerals.{add-one}
use mathlib.Core.Path.{◌≡◌, refl}
use mathlib.Core.Bool.{Bool, true, false}
use Rattle.std.proofs.Common.{Option, Some, None, MatchOption}
use Rattle.std.specs.List.{find, range_with_len}
use Rattle.lists.specs.Vocabulary.{choose, lowest, lowest_from}

-- What a search of the numbers below n gives: the lowest that passes, or that there is none.
first_from : (p : ℕ → Bool) (i k end : ℕ) → i + k ≡ end
    → MatchOption (find p (range_with_len i k)) (lowest_from i k p ≡ end) (λ t. (t ≡ lowest_from i k p) × (t < end))
unfolding lowest_from choose
first_from p i zero end h = omega (arith, h)
first_from p i (suc k) end h = go (p i) refl (first_from p (suc i) k end (omega (arith, h)))
  where
    go : (b : Bool) → p i ≡ b
        → MatchOption (find p (range_with_len (suc i) k)) (lowest_from (suc i) k p ≡ end) (λ t. (t ≡ lowest_from (suc i) k p) × (t < end))
        → MatchOption (find p (range_with_len i (suc k))) (lowest_from i (suc k) p ≡ end) (λ t. (t ≡ lowest_from i (suc k) p) × (t < end))
    go true e rest = rw e (refl, omega (arith, h))
    go false e rest = rw (e, add-one) rest

first_below : (p : ℕ → Bool) (n : ℕ) → MatchOption (find p (range_with_len 0 n)) (lowest n p ≡ n) (λ t. (t ≡ lowest n p) × (t < n))
unfolding lowest
first_below p n = first_from p 0 n n (omega arith)

module _ (p : ℕ → Bool) (n : ℕ) (found : Option ℕ) (is : found ≡ find p (range_with_len 0 n)) where
  pub is_lowest : (t : ℕ) → found ≡ Some t → (t ≡ lowest n p) × (t < n)
  is_lowest t e = rw (← is, e) at (first_below p n)

  pub no_lowest : found ≡ None → lowest n p ≡ n
  no_lowest e = rw (← is, e) at (first_below p n)
