-- Numbers, and lists of numbers, that pass a test: what it means that some do, the largest that does, and all that do, rising.
use Prim.Native.Nat.{ℕ, zero, suc, ◌≤◌, ◌<◌}
use native.Mathlib.Decide.{ℕ_discrete}
use native.Mathlib.Nat.{not-suc-le-zero}
use native.Mathlib.Numerals.{add-one}
use native.Mathlib.Omega.{arith}
use mathlib.Core.Path.{◌≡◌, refl, sym, ◌∙◌, ap}
use mathlib.Core.Logic.{◌⊎◌, inl, inr, ⊎_elim}
use mathlib.Core.Bool.{Bool, true, false, true≢false, ◌||◌}
use mathlib.Core.List.{List, [], ◌∷◌, ◌++◌, append-nil}
use lib.Dec.{ltb}
use lib.ListN.{length, length-append, get_or-append}
use lib.Seq.{get_or-append_seam}
use borrow.Author.Tests.{ltb-true, ltb-false}
use Rattle.lists.specs.Vocabulary.{nth, choose, some, some_list, largest, select}
use Rattle.lists.proofs.ListLaws.{some_yes, by_bool}

pub some_true : (n : ℕ) (p : ℕ → Bool) → some n p ≡ true → (x : ℕ) × (x < n) × (p x ≡ true)
unfolding some
some_true zero p h = absurd (let z : ◌≡◌ {A = ℕ} 0 1 = cc in omega arith)
some_true (suc n) p h = go (p n) refl h (some_true n p)
  where
    go : (b : Bool) → p n ≡ b → b || some n p ≡ true → (some n p ≡ true → (x : ℕ) × (x < n) × (p x ≡ true))
        → (x : ℕ) × (x < suc n) × (p x ≡ true)
    go true i k below = (n, omega arith, i)
    go false i k below = let r = below k in (r.0, omega (arith, r.1), r.2)

pub some_list_true : (k n : ℕ) (t : List ℕ → Bool) → some_list k n t ≡ true → (v : List ℕ) × (length v ≡ k) × (t v ≡ true)
unfolding some_list
some_list_true zero n t h = ([], refl, h)
some_list_true (suc k) n t h =
    let a = some_true n (λ u. some_list k n (λ v. t (u ∷ v))) h in
    let b = some_list_true k n (λ v. t (a.0 ∷ v)) a.2 in
    (a.0 ∷ b.0, ap suc b.1, b.2)

pub some_list_of : (k n : ℕ) (t : List ℕ → Bool) (v : List ℕ) → length v ≡ k → ((x : ℕ) → x < k → nth v x < n) → t v ≡ true
    → some_list k n t ≡ true
unfolding some_list
some_list_of zero n t [] l h i = i
some_list_of zero n t (u ∷ v) l h i = absurd (omega arith)
some_list_of (suc k) n t [] l h i = absurd (omega arith)
some_list_of (suc k) n t (u ∷ v) l h i =
    some_yes (λ u. some_list k n (λ v. t (u ∷ v))) n u (h zero (omega arith))
    (some_list_of k n (λ v. t (u ∷ v)) v (omega arith) (λ x p. h (suc x) (omega arith)) i)

pub record Largest (n : ℕ) (p : ℕ → Bool) (k : ℕ) : Type 0 where
  pub upto : k ≤ n
  pub passes : p k ≡ true
  pub most : (k' : ℕ) → k' ≤ n → p k' ≡ true → k' ≤ k

pub largest_is : (n : ℕ) (p : ℕ → Bool) → p 0 ≡ true → Largest n p (largest n p)
unfolding largest choose
largest_is zero p h = record { upto = omega arith; passes = h; most = λ k l i. l }
largest_is (suc n) p h = go (p (suc n)) refl (largest_is n p h)
  where
    go : (b : Bool) → p (suc n) ≡ b → Largest n p (largest n p) → Largest (suc n) p (choose b (suc n) (largest n p))
    go true i r = record { upto = omega arith; passes = i; most = λ k l j. l }
    go false i r = record { upto = omega arith; passes = r.passes; most = most }
      where
        most : (k : ℕ) → k ≤ suc n → p k ≡ true → k ≤ largest n p
        most k l j = elim (ℕ_discrete k (suc n)) [
          | yes e ↦ absurd (let z : ◌≡◌ {A = ℕ} 0 1 = cc in omega arith)
          | no e ↦ r.most k (omega arith) j
        ]

-- ---- selections

pub lt_suc_cases : (d n : ℕ) → d < suc n → (d < n) ⊎ (d ≡ n)
lt_suc_cases d n h = ⊎_elim (λ e. inl (ltb-true d n e)) (λ e. inr (let l : n ≤ d = ltb-false d n e in omega arith)) (by_bool (ltb d n))

pub select_ext : (n : ℕ) (p q : ℕ → Bool) → ((d : ℕ) → d < n → p d ≡ q d) → select n p ≡ select n q
unfolding select
select_ext zero p q h = refl
select_ext (suc n) p q h = rw (h n (omega arith), select_ext n p q (λ d l. h d (omega arith)))

pub some_ext : (n : ℕ) (p q : ℕ → Bool) → ((i : ℕ) → i < n → p i ≡ q i) → some n p ≡ some n q
unfolding some
some_ext zero p q h = refl
some_ext (suc n) p q h = rw (h n (omega arith), some_ext n p q (λ i l. h i (omega arith)))

snoc_cases : (l : List ℕ) (n i : ℕ) → i < length (l ++ (n ∷ [])) → (i < length l) ⊎ (i ≡ length l)
snoc_cases l n i h = lt_suc_cases i (length l) (omega (arith, length-append l (n ∷ [])))

-- the list has just the numbers below n that pass, rising
pub record Selected (n : ℕ) (p : ℕ → Bool) (l : List ℕ) : Type 0 where
  pub each : (i : ℕ) → i < length l → (nth l i < n) × (p (nth l i) ≡ true)
  pub rising : (i j : ℕ) → i < j → j < length l → nth l i < nth l j
  pub has : (d : ℕ) → d < n → p d ≡ true → (i : ℕ) × (i < length l) × (nth l i ≡ d)

module _ (n : ℕ) (p : ℕ → Bool) (l : List ℕ) (s : Selected n p l) where
  selected_yes : p n ≡ true → Selected (suc n) p (l ++ (n ∷ []))
  selected_yes e =
      let old : (i : ℕ) → i < length l → nth (l ++ (n ∷ [])) i ≡ nth l i = λ i h. get_or-append l (n ∷ []) 0 i h in
      let new : nth (l ++ (n ∷ [])) (length l) ≡ n = get_or-append_seam l n [] 0 in
      let len : length (l ++ (n ∷ [])) ≡ suc (length l) = length-append l (n ∷ []) ∙ add-one (length l) in
      record {
        each = λ i h.
            ⊎_elim
            (λ (k : i < length l). rw (old i k) (let x = s.each i k in (let y = x.0 in omega arith, x.1)))
            (λ (k : i ≡ length l). rw (k, new) (omega arith, e))
            (snoc_cases l n i h);
        rising = λ i j h m.
            ⊎_elim
            (λ (k : j < length l). rw (old j k, old i (omega arith)) (s.rising i j h k))
            (λ (k : j ≡ length l). let z : i < length l = omega arith in rw (k, new, old i z) (s.each i z).0)
            (snoc_cases l n j m);
        has = λ d h k.
            ⊎_elim
            (λ (w : d < n). let x = s.has d w k in (x.0, (let y = x.1 in omega arith), old x.0 x.1 ∙ x.2))
            (λ (w : d ≡ n). (length l, omega arith, new ∙ sym w))
            (lt_suc_cases d n h);
      }

  selected_no : p n ≡ false → Selected (suc n) p l
  selected_no e =
      record {
        each = λ i h. let x = s.each i h in (let y = x.0 in omega arith, x.1);
        rising = s.rising;
        has = λ d h k.
            ⊎_elim
            (λ (w : d < n). s.has d w k)
            (λ (w : d ≡ n). let z : true ≡ false = sym k ∙ ap p w ∙ e in absurd (true≢false z))
            (lt_suc_cases d n h);
      }

pub selected : (n : ℕ) (p : ℕ → Bool) → Selected n p (select n p)
unfolding select choose
selected zero p =
    record { each = λ i h. absurd (not-suc-le-zero h); rising = λ i j h m. absurd (not-suc-le-zero m); has = λ d h k. absurd (not-suc-le-zero h) }
selected (suc n) p =
    ⊎_elim
    (λ (e : p n ≡ true). rw e (selected_yes n p (select n p) (selected n p) e))
    (λ (e : p n ≡ false). rw (e, append-nil) (selected_no n p (select n p) (selected n p) e))
    (by_bool (p n))
