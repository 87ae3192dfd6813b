-- How many numbers below n pass a test: one number more, none more, two tests that differ at one number, and numbers that rise and pass.
use mathlib.Core.Path.{◌≡◌, refl, sym, ap, ◌∙◌}
use mathlib.Core.Bool.{Bool, true, false}
use mathlib.Core.List.{◌∷◌, [], ◌++◌, append-nil}
use Prim.Native.Nat.{ℕ, zero, suc, ◌+◌, ◌-◌, ◌≤◌, ◌<◌}
use native.Mathlib.Omega.{arith}
use native.Mathlib.Decide.{ℕ_discrete}
use lib.ListN.{length, length-append}
use Rattle.lists.specs.Vocabulary.{choose, select}
use Rattle.lists.proofs.ListLaws.{never, select_none}
use Rattle.lists.proofs.Ranges.{select_ext}

abbrev pub count : ℕ → (ℕ → Bool) → ℕ
count n p = length (select n p)

count_suc : (p : ℕ → Bool) (n : ℕ) → count (suc n) p ≡ count n p + choose (p n) 1 0
unfolding select choose
count_suc p n = go (p n)
  where
    go : (b : Bool) → length (select n p ++ choose b (n ∷ []) []) ≡ length (select n p) + choose b 1 0
    go true = length-append (select n p) (n ∷ [])
    go false = rw append-nil (omega arith)

pub count_yes : (p : ℕ → Bool) (n : ℕ) → p n ≡ true → count (suc n) p ≡ count n p + 1
count_yes p n e = count_suc p n ∙ unfold choose in (rw e)

pub count_no : (p : ℕ → Bool) (n : ℕ) → p n ≡ false → count (suc n) p ≡ count n p
count_no p n e = count_suc p n ∙ unfold choose in (rw e (omega arith))

-- Where each number that passes p passes q, at least as many pass q.
pub count_more : (n : ℕ) (p q : ℕ → Bool) → ((d : ℕ) → p d ≡ true → q d ≡ true) → count n p ≤ count n q
count_more zero p q h = omega (arith, ap length (select_none p), ap length (select_none q))
count_more (suc n) p q h = go (p n) (q n) refl refl (count_more n p q h)
  where
    go : (a b : Bool) → p n ≡ a → q n ≡ b → count n p ≤ count n q → count (suc n) p ≤ count (suc n) q
    go true true x y r = omega (arith, count_yes p n x, count_yes q n y)
    go true false x y r = never (sym y ∙ h n x)
    go false true x y r = omega (arith, count_no p n x, count_yes q n y)
    go false false x y r = omega (arith, count_no p n x, count_no q n y)

count_up : (p : ℕ → Bool) (n d : ℕ) → count n p ≤ count (n + d) p
unfolding choose
count_up p n zero = let i : n + 0 ≡ n = omega arith in rw i (omega arith)
count_up p n (suc d) = let i : n + suc d ≡ suc (n + d) = omega arith in rw i (omega (arith, count_up p n d, count_suc p (n + d)))

-- The count of the numbers below a is that below c where none from a to before c passes, and only there.
pub count_same : (p : ℕ → Bool) (a c : ℕ) → a ≤ c → ((x : ℕ) → a ≤ x → x < c → p x ≡ false) → count c p ≡ count a p
count_same p a zero l h = let i : a ≡ 0 = omega arith in rw i
count_same p a (suc c) l h = elim (ℕ_discrete a (suc c)) [
  | yes i ↦ rw i
  | no i ↦ count_no p c (h c (omega arith) (omega arith)) ∙ count_same p a c (omega arith) (λ x u v. h x u (omega arith))
]

pub none_more : (p : ℕ → Bool) (a c x : ℕ) → a ≤ x → x < c → count a p ≡ count c p → p x ≡ true → ⊥
none_more p a c x l h e t =
    let i : a + (x - a) ≡ x = omega arith in
    let j : suc x + (c - suc x) ≡ c = omega arith in
    omega (arith, rw i at (count_up p a (x - a)), count_yes p x t, rw j at (count_up p (suc x) (c - suc x)))

pub count_ext : (n : ℕ) (p q : ℕ → Bool) → ((x : ℕ) → x < n → p x ≡ q x) → count n p ≡ count n q
count_ext n p q h = ap length (select_ext n p q h)

-- The tests differ at e alone: one number fewer passes.
pub count_less : (n e : ℕ) (p q : ℕ → Bool) → e < n → p e ≡ true → q e ≡ false → ((x : ℕ) → x < n → (x ≡ e → ⊥) → p x ≡ q x)
    → count n p ≡ count n q + 1
count_less zero e p q l a b h = absurd (omega arith)
count_less (suc n) e p q l a b h = elim (ℕ_discrete e n) [
  | yes i ↦
      omega (arith, count_yes p n (rw i at a), count_no q n (rw i at b), count_ext n p q (λ x k. h x (omega arith) (λ j. omega arith)))
  | no i ↦
      omega (
        arith,
        count_less n e p q (omega arith) a b (λ x k. h x (omega arith)),
        count_suc p n,
        count_suc q n,
        ap {B = ℕ} (λ (t : Bool). choose t 1 0) (h n (omega arith) (λ j. i (sym j))),
      )
]

-- k numbers that rise and pass.
module _ (p : ℕ → Bool) (k : ℕ) (f : ℕ → ℕ) (passes : (x : ℕ) → x < k → p (f x) ≡ true) (rising : (x : ℕ) → suc x < k → f x < f (suc x)) where
  pub rising_counts : (x : ℕ) → x < k → suc x ≤ count (suc (f x)) p
  rising_counts zero h = omega (arith, count_yes p (f 0) (passes 0 h))
  rising_counts (suc x) h =
      let l = rising x h in
      let i : suc (f x) + (f (suc x) - suc (f x)) ≡ f (suc x) = omega arith in
      omega (
        arith,
        rising_counts x (omega arith),
        rw i at (count_up p (suc (f x)) (f (suc x) - suc (f x))),
        count_yes p (f (suc x)) (passes (suc x) h),
      )

  -- Below n they are at most as many as pass there.
  pub rising_bound : (n : ℕ) → ((x : ℕ) → x < k → f x < n) → k ≤ count n p
  rising_bound n within = go k refl
    where
      go : (y : ℕ) → y ≡ k → k ≤ count n p
      go zero e = omega arith
      go (suc y) e =
          let l : y < k = omega arith in
          let i : suc (f y) + (n - suc (f y)) ≡ n = omega (arith, within y l) in
          omega (arith, rising_counts y l, rw i at (count_up p (suc (f y)) (n - suc (f y))))
