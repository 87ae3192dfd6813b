-- The entries of an unbonded base and of an arc, case by case.
use Prim.Native.Nat.{ℕ, suc, ◌+◌, ◌≤◌, ◌<◌, max}
use mathlib.Core.Path.{◌≡◌, refl, sym, ◌∙◌}
use mathlib.Core.Bool.{Bool, true, false}
use mathlib.Core.Logic.{◌⊎◌, inl, inr, ⊎_elim}
use native.Mathlib.Omega.{arith}
use lib.Dec.{ltb, leb}
use borrow.Author.Tests.{lt-ltb, ltb-true, le-ltb, le-leb, lt-leb, leb-true, ltb-false, leb-false}
use Rattle.lists.specs.Vocabulary.{choose}
use Rattle.lists.proofs.ListLaws.{choose_yes, choose_no}
use Rattle.embedding.specs.Row.{unit_at, over_at, over_by}

-- An unbonded base takes position k.
pub record UnitTakes (has : ℕ → Bool) (pm : ℕ → ℕ) (z k : ℕ) : Type 0 where
  pub value : unit_at has pm z k ≡ suc k
  pub low : k < z
  pub free : pm k ≤ k
  pub fits : has k ≡ true

module _ (has : ℕ → Bool) (pm : ℕ → ℕ) (z k : ℕ) where
  pub unit_end : z ≤ k → unit_at has pm z k ≡ k
  unfolding unit_at
  unit_end a = choose_no _ _ _ (le-ltb k z a)

  -- Before the end of the segment.
  pub unit_in : k < z → unit_at has pm z k ≡ choose (leb (pm k) k) (choose (has k) (suc k) k) k
  unfolding unit_at
  unit_in a = choose_yes _ _ _ (lt-ltb k z a)

  pub unit_left : k < z → k < pm k → unit_at has pm z k ≡ k
  unit_left a b = unit_in a ∙ choose_no _ _ _ (lt-leb (pm k) k b)

  pub unit_takes : k < z → pm k ≤ k → has k ≡ true → unit_at has pm z k ≡ suc k
  unit_takes a b t = unit_in a ∙ choose_yes _ _ _ (le-leb (pm k) k b) ∙ choose_yes _ _ _ t

  pub unit_other : k < z → pm k ≤ k → has k ≡ false → unit_at has pm z k ≡ k
  unit_other a b t = unit_in a ∙ choose_yes _ _ _ (le-leb (pm k) k b) ∙ choose_no _ _ _ t

  -- It takes the position or not.
  pub unit_case : (unit_at has pm z k ≡ k) ⊎ UnitTakes has pm z k
  unit_case = go (ltb k z) refl (leb (pm k) k) refl (has k) refl where
    go : (a : Bool) → ltb k z ≡ a → (b : Bool) → leb (pm k) k ≡ b → (t : Bool) → has k ≡ t → (unit_at has pm z k ≡ k) ⊎ UnitTakes has pm z k
    go false a b d t e = inl (unit_end (ltb-false k z a))
    go true a false d t e = inl (unit_left (ltb-true k z a) (leb-false (pm k) k d))
    go true a true d false e = inl (unit_other (ltb-true k z a) (leb-true (pm k) k d) e)
    go true a true d true e =
        inr record { value = unit_takes (ltb-true k z a) (leb-true (pm k) k d) e; low = ltb-true k z a; free = leb-true (pm k) k d; fits = e }

  pub unit_small : unit_at has pm z k ≤ max k z
  unit_small = ⊎_elim (λ x. omega (arith, x)) (λ T. omega (arith, T.value, T.low)) unit_case

  pub unit_from : k ≤ unit_at has pm z k
  unit_from = ⊎_elim (λ x. omega (arith, x)) (λ T. omega (arith, T.value)) unit_case

  pub unit_next : unit_at has pm z k ≤ k + 1
  unit_next = ⊎_elim (λ x. omega (arith, x)) (λ T. omega (arith, T.value)) unit_case

-- Before the end of the shorter of two segments it is the same in both.
pub unit_segment : (has : ℕ → Bool) (pm : ℕ → ℕ) (z k to : ℕ) → k < to → to ≤ z → unit_at has pm z k ≡ unit_at has pm to k
unit_segment has pm z k to a b = unit_in has pm z k (omega arith) ∙ sym (unit_in has pm to k a)

-- The entry with the left end.
module _ (left right : Bool) (k z next j : ℕ) where
  pub by_other : left ≡ false → over_by left right k z next j ≡ 0
  unfolding over_by
  by_other t = choose_no _ _ _ t

  module _ (t : left ≡ true) where
    pub by_free : k ≤ j → over_by left right k z next j ≡ next
    unfolding over_by
    by_free a = choose_yes _ _ _ t ∙ choose_yes _ _ _ (le-leb k j a)

    module _ (a : j < k) where
      pub by_far : z ≤ k → over_by left right k z next j ≡ 0
      unfolding over_by
      by_far b = choose_yes _ _ _ t ∙ choose_no _ _ _ (lt-leb k j a) ∙ choose_no _ _ _ (le-ltb k z b)

      module _ (b : k < z) where
        pub by_unlike : right ≡ false → over_by left right k z next j ≡ 0
        unfolding over_by
        by_unlike d = choose_yes _ _ _ t ∙ choose_no _ _ _ (lt-leb k j a) ∙ choose_yes _ _ _ (lt-ltb k z b) ∙ choose_no _ _ _ d

        pub by_short : right ≡ true → next < k → over_by left right k z next j ≡ 0
        unfolding over_by
        by_short d e = choose_yes _ _ _ t ∙ choose_no _ _ _ (lt-leb k j a) ∙ choose_yes _ _ _ (lt-ltb k z b) ∙ choose_yes _ _ _ d
            ∙ choose_no _ _ _ (lt-leb k next e)

        pub by_arc : right ≡ true → k ≤ next → over_by left right k z next j ≡ suc k
        unfolding over_by
        by_arc d e = choose_yes _ _ _ t ∙ choose_no _ _ _ (lt-leb k j a) ∙ choose_yes _ _ _ (lt-ltb k z b) ∙ choose_yes _ _ _ d
            ∙ choose_yes _ _ _ (le-leb k next e)

-- In a segment it is what the arc takes from j.
pub by_over : (left right : ℕ → Bool) (pm : ℕ → ℕ) (z next j : ℕ) → j < z → over_by (left j) (right (pm j)) (pm j) z next j ≡ over_at left right pm z next j
unfolding over_at
by_over left right pm z next j a = sym (choose_yes _ _ _ (lt-ltb j z a))

module _ (left right : ℕ → Bool) (pm : ℕ → ℕ) (z next j : ℕ) where
  pub over_end : z ≤ j → over_at left right pm z next j ≡ 0
  unfolding over_at
  over_end a = choose_no _ _ _ (le-ltb j z a)

  module _ (a : j < z) where
    by : {x : ℕ} → over_by (left j) (right (pm j)) (pm j) z next j ≡ x → over_at left right pm z next j ≡ x
    by e = sym (by_over left right pm z next j a) ∙ e

    pub over_other : left j ≡ false → over_at left right pm z next j ≡ 0
    over_other t = by (by_other _ _ _ _ _ _ t)

    module _ (t : left j ≡ true) where
      pub over_free : pm j ≤ j → over_at left right pm z next j ≡ next
      over_free b = by (by_free _ _ _ _ _ _ t b)

      pub over_far : j < pm j → z ≤ pm j → over_at left right pm z next j ≡ 0
      over_far b d = by (by_far _ _ _ _ _ _ t b d)

      pub over_unlike : j < pm j → pm j < z → right (pm j) ≡ false → over_at left right pm z next j ≡ 0
      over_unlike b d e = by (by_unlike _ _ _ _ _ _ t b d e)

      pub over_short : j < pm j → pm j < z → right (pm j) ≡ true → next < pm j → over_at left right pm z next j ≡ 0
      over_short b d e s = by (by_short _ _ _ _ _ _ t b d e s)

      pub over_arc : j < pm j → pm j < z → right (pm j) ≡ true → pm j ≤ next → over_at left right pm z next j ≡ suc (pm j)
      over_arc b d e s = by (by_arc _ _ _ _ _ _ t b d e s)
