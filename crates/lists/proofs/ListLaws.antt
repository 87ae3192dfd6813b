-- Laws of the shared vocabulary: tests over the numbers below n, the lowest that passes, tabulated lists, selections, sums and equal lists.
use mathlib.Core.Path.{◌≡◌, refl, sym, ap, ap₂, ◌∙◌}
use mathlib.Core.Bool.{Bool, true, false, not, ◌&&◌, ◌||◌, and-false, or-true}
use mathlib.Core.List.{List, [], ◌∷◌, ◌++◌, append-nil}
use mathlib.Core.Logic.{◌⊎◌, inl, inr, ⊎_elim}
use Prim.Native.Nat.{ℕ, zero, suc, ◌+◌, ◌<◌, ◌≤◌}
use native.Mathlib.Omega.{arith}
use native.Mathlib.Nat.{le_of_suc-le-suc, not-suc-le-zero, eq-or-lt_of_le}
use native.Mathlib.Numerals.{add-one}
use native.Mathlib.Decide.{dec_lt, ℕ_discrete}
use borrow.Author.Tests.{eqb-true, eq-eqb, ne_eqb, lt-ltb, le-ltb}
use lib.Dec.{eqb, ltb}
use lib.Pointwise.{pointwise}
use lib.ListN.{length, set, drop, length-append, get_or-append, drop_of_length-le, replicate, get_or-replicate, length-replicate, get_or-eq_default}
use lib.Seq.{drop-cons, set_at, append_snoc, get_or_at, ext_get_or}
use Rattle.std.specs.Prelude.{Option, Some, None, MatchOption}
use Rattle.std.specs.Option.{unwrap_or}
use Rattle.std.specs.List.{AllWithin, HoldsAt}
use Rattle.lists.specs.Vocabulary.{nth, choose, every, all, some, lowest_from, lowest, tab, select, total, same_list}

-- The answer b says whether A holds.
pub record Tells (b : Bool) (A : Type 0) : Type 0 where
  pub yes : b ≡ true → A
  pub no : b ≡ false → A → ⊥

-- ---- Booleans

pub and_true : (a b : Bool) → (a && b) ≡ true → (a ≡ true) × (b ≡ true)
and_true true b e = (refl, e)
and_true false b e = absurd (let z : ◌≡◌ {A = ℕ} 0 1 = cc in omega arith)

pub not_not : (b : Bool) → not b ≡ false → b ≡ true
not_not true e = refl
not_not false e = sym e

pub true_not : (b : Bool) → not b ≡ true → b ≡ false
true_not true e = sym e
true_not false e = refl

pub and_left : (a b : Bool) → (a && b) ≡ true → a ≡ true
and_left a b e = (and_true a b e).0

pub and_right : (a b : Bool) → (a && b) ≡ true → b ≡ true
and_right a b e = (and_true a b e).1

pub never : {P : Type 0} → false ≡ true → P
never q = absurd (let z : ◌≡◌ {A = ℕ} 0 1 = cc in omega arith)

pub is_true : (b : Bool) → (b ≡ false → ⊥) → b ≡ true
is_true true f = refl
is_true false f = absurd (f refl)

-- A test passes or does not.
pub by_bool : (b : Bool) → (b ≡ true) ⊎ (b ≡ false)
by_bool true = inl refl
by_bool false = inr refl

-- Two tests that pass together are equal.
pub both_ways : (a b : Bool) → (a ≡ true → b ≡ true) → (b ≡ true → a ≡ true) → a ≡ b
both_ways true b f g = sym (f refl)
both_ways false true f g = g refl
both_ways false false f g = refl

-- ---- every

module _ (p : ℕ → Bool) where
  pub every_none : every 0 p ≡ true
  unfolding every
  every_none = refl

  pub every_more : (i : ℕ) → every i p ≡ true → p i ≡ true → every (i + 1) p ≡ true
  unfolding every
  every_more i e h = rw (add-one, h, e)

  pub every_stop : (n i : ℕ) → i < n → p i ≡ false → every n p ≡ false
  unfolding every
  every_stop zero i l e = absurd (not-suc-le-zero l)
  every_stop (suc n) i l e =
      ⊎_elim (λ q. ap (λ (b : Bool). b && every n p) (ap p (sym q) ∙ e))
      (λ k. ap (λ (b : Bool). p n && b) (every_stop n i k e) ∙ and-false (p n)) (eq-or-lt_of_le (le_of_suc-le-suc l))

  pub every_at : (n i : ℕ) → every n p ≡ true → i < n → p i ≡ true
  every_at n i e h = go (p i) refl
    where
      go : (b : Bool) → p i ≡ b → p i ≡ true
      go true q = q
      go false q = q ∙ sym (every_stop n i h q) ∙ e

  pub every_true : (n : ℕ) → ((i : ℕ) → i < n → p i ≡ true) → every n p ≡ true
  unfolding every
  every_true zero h = refl
  every_true (suc n) h = ap₂ (λ (a b : Bool). a && b) (h n (omega arith)) (every_true n (λ i l. h i (omega arith)))

  -- ---- some

  pub some_yes : (n i : ℕ) → i < n → p i ≡ true → some n p ≡ true
  unfolding some
  some_yes zero i l e = absurd (not-suc-le-zero l)
  some_yes (suc n) i l e =
      ⊎_elim (λ q. ap (λ (b : Bool). b || some n p) (ap p (sym q) ∙ e))
      (λ k. ap (λ (b : Bool). p n || b) (some_yes n i k e) ∙ or-true (p n)) (eq-or-lt_of_le (le_of_suc-le-suc l))

  pub some_no : (n : ℕ) → ((i : ℕ) → i < n → p i ≡ false) → some n p ≡ false
  unfolding some
  some_no zero h = refl
  some_no (suc n) h = ap₂ (λ (a b : Bool). a || b) (h n (omega arith)) (some_no n (λ i l. h i (omega arith)))

  pub some_none : (n i : ℕ) → some n p ≡ false → i < n → p i ≡ false
  some_none n i e h = go (p i) refl
    where
      go : (b : Bool) → p i ≡ b → p i ≡ false
      go false q = q
      go true q = q ∙ sym (some_yes n i h q) ∙ e

  pub some_more : (i : ℕ) → some i p ≡ false → p i ≡ false → some (i + 1) p ≡ false
  unfolding some
  some_more i e h = rw (add-one, h, e)

  pub some_end : (n i : ℕ) → i ≤ n → n ≤ i → some i p ≡ false → some n p ≡ false
  some_end n i a b e = let z : n ≡ i = omega arith in rw z e

  -- ---- lowest

  from_all : (i k : ℕ) → ((x : ℕ) → i ≤ x → x < i + k → p x ≡ false) → lowest_from i k p ≡ i + k
  unfolding lowest_from choose
  from_all i zero h = omega arith
  from_all i (suc k) h = rw (h i (omega arith) (omega arith)) (from_all (suc i) k (λ x a b. h x (omega arith) (omega arith)) ∙ omega arith)

  from_found : (i k d : ℕ) → i ≤ d → d < i + k → ((x : ℕ) → i ≤ x → x < d → p x ≡ false) → p d ≡ true → lowest_from i k p ≡ d
  unfolding lowest_from choose
  from_found i zero d a b h e = absurd (omega arith)
  from_found i (suc k) d a b h e =
      ⊎_elim (λ (q : i ≡ d). rw (ap p q ∙ e) q)
      (λ (l : i < d). rw (h i (omega arith) l) (from_found (suc i) k d l (omega arith) (λ x u v. h x (omega arith) v) e)) (eq-or-lt_of_le a)

  from_before : (i k x : ℕ) → i ≤ x → x < lowest_from i k p → x < i + k → p x ≡ false
  unfolding lowest_from choose
  from_before i zero x a b l = absurd (omega arith)
  from_before i (suc k) x a b l = go (p i) refl (λ u v. from_before (suc i) k x u v (omega arith))
    where
      go : (t : Bool) → p i ≡ t → (suc i ≤ x → x < lowest_from (suc i) k p → p x ≡ false) → p x ≡ false
      go true e rec = absurd (let z : x < i = rw e at b in omega arith)
      go false e rec = ⊎_elim (λ q. ap p (sym q) ∙ e) (λ u. rec u (rw e at b)) (eq-or-lt_of_le a)

  from_passes : (i k : ℕ) → lowest_from i k p < i + k → p (lowest_from i k p) ≡ true
  unfolding lowest_from choose
  from_passes i zero l = absurd (omega arith)
  from_passes i (suc k) l = go (p i) refl l (from_passes (suc i) k)
    where
      go : (t : Bool) → p i ≡ t → choose t i (lowest_from (suc i) k p) < i + suc k
          → (lowest_from (suc i) k p < suc i + k → p (lowest_from (suc i) k p) ≡ true) → p (choose t i (lowest_from (suc i) k p)) ≡ true
      go true e b rec = e
      go false e b rec = rec (omega arith)

  pub lowest_none : lowest 0 p ≡ 0
  unfolding lowest lowest_from
  lowest_none = refl

  -- None passes.
  pub lowest_all : (n : ℕ) → ((i : ℕ) → i < n → p i ≡ false) → lowest n p ≡ n
  unfolding lowest
  lowest_all n h = from_all 0 n (λ x a b. h x (omega arith)) ∙ omega arith

  -- None below the lowest passes.
  pub lowest_before : (n i : ℕ) → i < lowest n p → i < n → p i ≡ false
  unfolding lowest
  lowest_before n i l h = from_before 0 n i (omega arith) l (omega arith)

  -- The lowest is at most n, and passes where it is below n.
  pub lowest_upto : (n : ℕ) → lowest n p ≤ n
  lowest_upto n = elim (dec_lt n (lowest n p)) [
    | yes h ↦ let z : lowest n p ≡ n = lowest_all n (λ i l. lowest_before n i (omega arith) l) in omega arith
    | no h ↦ omega arith
  ]

  pub lowest_passes : (n : ℕ) → lowest n p < n → p (lowest n p) ≡ true
  unfolding lowest
  lowest_passes n l = from_passes 0 n (omega arith)

  pub lowest_more : (i : ℕ) → lowest i p ≡ i → p i ≡ false → lowest (i + 1) p ≡ i + 1
  lowest_more i e h =
      lowest_all (i + 1)
      (λ x l. ⊎_elim (λ (q : x ≡ i). ap p q ∙ h) (λ (k : x < i). lowest_before i x (omega arith) k) (eq-or-lt_of_le (let z : x ≤ i = omega arith in z)))

  pub lowest_found : (n i : ℕ) → lowest i p ≡ i → i < n → p i ≡ true → lowest n p ≡ i
  unfolding lowest
  lowest_found n i e l h = from_found 0 n i (omega arith) (omega arith) (λ x a b. lowest_before i x (unfold lowest in (omega (arith, e))) b) h

  pub lowest_end : (n i : ℕ) → lowest i p ≡ i → i ≤ n → n ≤ i → i ≡ lowest n p
  lowest_end n i e a b = let z : i ≡ n = omega arith in sym e ∙ ap (λ (k : ℕ). lowest k p) z

  -- What `position` finds in a list, where p is the test of its entries.
  pub lowest_position : (Yes No : ℕ → Type 0) (xs : List ℕ) (r : Option ℕ) → ((i : ℕ) → i < length xs → Yes (nth xs i) → p i ≡ true)
      → ((i : ℕ) → i < length xs → No (nth xs i) → p i ≡ false)
      → MatchOption r (AllWithin No xs 0 (length xs)) (λ i. (i < length xs) × HoldsAt Yes xs i × AllWithin No xs 0 i)
      → unwrap_or r (length xs) ≡ lowest (length xs) p
  lowest_position Yes No xs None f g h = sym (lowest_all (length xs) (λ i l. g i l (h i 0 (omega arith) l)))
  lowest_position Yes No xs (Some i) f g (l, at, below) =
      sym (lowest_found (length xs) i (lowest_all i (λ k u. g k (omega arith) (below k 0 (omega arith) u))) l (f i l (at 0)))

  -- Some number below n passes exactly when the lowest is below n.
  pub some_lowest : (n : ℕ) → some n p ≡ ltb (lowest n p) n
  some_lowest n = go (some n p) refl
    where
      go : (b : Bool) → some n p ≡ b → some n p ≡ ltb (lowest n p) n
      go false e = e ∙ sym (le-ltb (lowest n p) n (let z : lowest n p ≡ n = lowest_all n (λ i l. some_none n i e l) in omega arith))
      go true e = e ∙ sym (lt-ltb (lowest n p) n (elim (dec_lt (lowest n p) n) [ yes h ↦ h | no h ↦ absurd (none h) ]))
        where
          none : (lowest n p < n → ⊥) → ⊥
          none h =
              let x : some n p ≡ false = some_no n (λ i l. lowest_before n i (omega arith) l) in
              let z : ◌≡◌ {A = ℕ} 0 1 = cc in omega arith

-- ---- tab

module _ (f : ℕ → ℕ) where
  pub length_tab : (n : ℕ) → length (tab n f) ≡ n
  unfolding tab
  length_tab zero = refl
  length_tab (suc n) = length-append (tab n f) (f n ∷ []) ∙ rw (length_tab n) (add-one n)

  pub tab_none : (d : List ℕ) → d ≡ tab 0 f ++ drop 0 d
  unfolding tab
  tab_none d = refl

  -- One more entry stored.
  pub tab_more : (i : ℕ) (d : List ℕ) → i < length d → set (tab i f ++ drop i d) i (f i) ≡ tab (i + 1) f ++ drop (i + 1) d
  unfolding tab
  tab_more i d h =
      ap (λ (l : List ℕ). set (tab i f ++ l) i (f i)) (drop-cons d i 0 h)
      ∙ set_at (tab i f) (nth d i) (drop (suc i) d) (f i) i (length_tab i)
      ∙ sym (append_snoc (tab i f) (f i) (drop (suc i) d))
      ∙ ap (λ (k : ℕ). tab k f ++ drop k d) (sym (add-one i))

  pub nth_tab : (n i : ℕ) → i < n → nth (tab n f) i ≡ f i
  unfolding tab
  nth_tab zero i h = absurd (not-suc-le-zero h)
  nth_tab (suc n) i h =
      ⊎_elim (λ q. rw q (get_or_at (tab n f) (f n) [] 0 n (length_tab n)))
      (λ k. get_or-append (tab n f) (f n ∷ []) 0 i (rw length_tab k) ∙ nth_tab n i k) (eq-or-lt_of_le (le_of_suc-le-suc h))

-- ---- select

-- The numbers selected below n are at most n.
pub select_short : (p : ℕ → Bool) (n : ℕ) → length (select n p) ≤ n
unfolding select choose
select_short p zero = omega arith
select_short p (suc n) = go (p n) (select_short p n)
  where
    go : (b : Bool) → length (select n p) ≤ n → length (select n p ++ choose b (n ∷ []) []) ≤ suc n
    go true i = omega (arith, length-append (select n p) (n ∷ []))
    go false i = rw append-nil (omega arith)

-- One number more.
pub select_none : (p : ℕ → Bool) → select 0 p ≡ []
unfolding select
select_none p = refl

pub select_yes : (p : ℕ → Bool) (n : ℕ) → p n ≡ true → select (n + 1) p ≡ select n p ++ (n ∷ [])
unfolding select choose
select_yes p n h = rw (add-one, h)

pub select_no : (p : ℕ → Bool) (n : ℕ) → p n ≡ false → select (n + 1) p ≡ select n p
unfolding select choose
select_no p n h = rw (add-one, h) (append-nil (select n p))

-- ---- sums

module _ (s : List ℕ) (i : ℕ) where
  pub total_next : i < length s → total (drop i s) ≡ nth s i + total (drop (i + 1) s)
  unfolding total
  total_next h =
      let x : total (drop i s) ≡ nth s i + total (drop (suc i) s) = ap total (drop-cons s i 0 h) in
      let y : total (drop (i + 1) s) ≡ total (drop (suc i) s) = ap (λ (k : ℕ). total (drop k s)) (add-one i) in
      omega arith

  pub total_none : length s ≤ i → total (drop i s) ≡ 0
  unfolding total
  total_none h = ap total (drop_of_length-le s h)

-- ---- equal lists

pub same_refl : (xs : List ℕ) → same_list xs xs ≡ true
unfolding same_list
same_refl [] = refl
same_refl (x ∷ xs) = rw (eq-eqb x x refl) (same_refl xs)

pub same_eq : (xs ys : List ℕ) → same_list xs ys ≡ true → xs ≡ ys
unfolding same_list
same_eq [] [] e = refl
same_eq [] (y ∷ ys) e = cc
same_eq (x ∷ xs) [] e = cc
same_eq (x ∷ xs) (y ∷ ys) e =
    elim (ℕ_discrete x y) [
      | yes q ↦ cc (q, same_eq xs ys (rw (eq-eqb x y q) at e))
      | no q ↦ let r : false ≡ true = rw (ne_eqb x y q) at e in cc
    ]

-- They differ in length, or at a place.
pub same_length : (xs ys : List ℕ) → (length xs ≡ length ys → ⊥) → same_list xs ys ≡ false
unfolding same_list
same_length [] [] h = absurd (h refl)
same_length [] (y ∷ ys) h = refl
same_length (x ∷ xs) [] h = refl
same_length (x ∷ xs) (y ∷ ys) h = rw (same_length xs ys (λ e. h (ap suc e))) (and-false (eqb x y))

pub same_place : (xs ys : List ℕ) (i : ℕ) → i < length xs → i < length ys → (nth xs i ≡ nth ys i → ⊥) → same_list xs ys ≡ false
unfolding same_list
same_place [] ys i h k n = absurd (not-suc-le-zero h)
same_place (x ∷ xs) [] i h k n = refl
same_place (x ∷ xs) (y ∷ ys) zero h k n = rw (ne_eqb x y n)
same_place (x ∷ xs) (y ∷ ys) (suc i) h k n = rw (same_place xs ys i (le_of_suc-le-suc h) (le_of_suc-le-suc k) n) (and-false (eqb x y))

pub same_all : (xs ys : List ℕ) → length xs ≡ length ys → ((i : ℕ) → i < length xs → nth xs i ≡ nth ys i) → same_list xs ys ≡ true
same_all xs ys l h = ap (same_list xs) (sym (ext_get_or 0 xs ys l h)) ∙ same_refl xs

-- What `==` of slices answers.
pub same_pointwise : (xs ys : List ℕ) → pointwise eqb xs ys ≡ same_list xs ys
unfolding same_list
same_pointwise [] [] = refl
same_pointwise [] (y ∷ ys) = refl
same_pointwise (x ∷ xs) [] = refl
same_pointwise (x ∷ xs) (y ∷ ys) = ap (λ (b : Bool). eqb x y && b) (same_pointwise xs ys)

-- ---- passes and zeros

pub tab_ext : {A : Type 0} (f g : ℕ → A) (n : ℕ) → ((i : ℕ) → i < n → f i ≡ g i) → tab n f ≡ tab n g
unfolding tab
tab_ext f g zero e = refl
tab_ext {A} f g (suc n) e = ap₂ (λ (x : List A) (y : A). x ++ (y ∷ [])) (tab_ext f g n (λ i h. e i (omega arith))) (e n (omega arith))

-- All entries are zero.
pub zeros_at : (l : List ℕ) → all (λ x. eqb x 0) l ≡ true → (i : ℕ) → nth l i ≡ 0
zeros_at l e i =
    elim (dec_lt i (length l)) [
      | yes h ↦ eqb-true (nth l i) 0 (every_at (λ k. eqb (nth l k) 0) (length l) i e h)
      | no h ↦ get_or-eq_default l 0 {n = i} (omega arith)
    ]

pub zeros_not : (l : List ℕ) (i : ℕ) → i < length l → (nth l i ≡ 0 → ⊥) → all (λ x. eqb x 0) l ≡ false
zeros_not l i h n = every_stop (λ k. eqb (nth l k) 0) (length l) i h (ne_eqb (nth l i) 0 n)

pub zeros_zero : (k : ℕ) → all (λ x. eqb x 0) (replicate k 0) ≡ true
zeros_zero k =
    every_true (λ i. eqb (nth (replicate k 0) i) 0) (length (replicate {A = ℕ} k 0))
    (λ i l. eq-eqb _ 0 (get_or-replicate k i 0 0 (omega (arith, length-replicate {A = ℕ} k 0))))

-- A list of zeros is made of as many.
pub zeros_are : (l : List ℕ) → all (λ x. eqb x 0) l ≡ true → l ≡ replicate (length l) 0
zeros_are l e = go l (zeros_at l e)
  where
    go : (l : List ℕ) → ((i : ℕ) → nth l i ≡ 0) → l ≡ replicate (length l) 0
    go [] z = refl
    go (x ∷ l) z = ap₂ (λ (y : ℕ) (m : List ℕ). y ∷ m) (z 0) (go l (λ i. z (suc i)))

pub choose_yes : {A : Type 0} (b : Bool) (x y : A) → b ≡ true → choose b x y ≡ x
unfolding choose
choose_yes b x y e = rw e

pub choose_no : {A : Type 0} (b : Bool) (x y : A) → b ≡ false → choose b x y ≡ y
unfolding choose
choose_no b x y e = rw e
