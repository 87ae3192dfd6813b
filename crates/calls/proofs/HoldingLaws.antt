-- A function with one value changed, and what is held.
use Prim.Native.Nat.{ℕ}
use native.Mathlib.Decide.{ℕ_discrete}
use mathlib.Core.Path.{◌≡◌, refl}
use borrow.Author.Tests.{eq-eqb, ne_eqb}
use Rattle.lists.proofs.ListLaws.{choose_yes, choose_no}
use Rattle.lists.specs.Vocabulary.{put_at}

-- what holds of d, and of each other number, holds of all
pub by_number : (d : ℕ) (P : ℕ → Type 0) → P d → ((e : ℕ) → (e ≡ d → ⊥) → P e) → (e : ℕ) → P e
by_number d P here there e = elim (ℕ_discrete e d) [ yes q ↦ rw q here | no q ↦ there e q ]

module _ {A : Type 0} (f : ℕ → A) (d : ℕ) (v : A) where
  pub put_same : put_at f d v d ≡ v
  unfolding put_at
  put_same = choose_yes _ v (f d) (eq-eqb d d refl)

  pub put_other : (e : ℕ) → (e ≡ d → ⊥) → put_at f d v e ≡ f e
  unfolding put_at
  put_other e h = choose_no _ v (f e) (ne_eqb e d h)

  -- what holds of the new value at d, and of f elsewhere, holds everywhere
  pub put_all : (P : ℕ → A → Type 0) → P d v → ((e : ℕ) → (e ≡ d → ⊥) → P e (f e)) → (e : ℕ) → P e (put_at f d v e)
  put_all P here there = by_number d (λ e. P e (put_at f d v e)) (rw put_same here) (λ e q. rw (put_other e q) (there e q))
