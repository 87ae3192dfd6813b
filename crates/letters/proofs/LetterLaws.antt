-- Letters: tests as the numbers 1 and 0, and the least of them; a base that is a letter, and one that is none; the rule by classes, and by the
-- other spelling of one side.
use mathlib.Core.Path.{◌≡◌, refl, sym, ap, subst, ◌∙◌}
use mathlib.Core.Bool.{Bool, true, false, true≢false, not, ◌&&◌, ◌||◌}
use mathlib.Core.List.{List}
use Prim.Native.Nat.{ℕ, ◌+◌, ◌≤◌, ◌<◌, min}
use native.Mathlib.Decide.{ℕ_discrete, dec_lt}
use native.Mathlib.Numerals.{add-one}
use native.Mathlib.Omega.{arith}
use lib.Dec.{eqb}
use mir.Val.{bool_byte}
use lib.ListN.{length, get_or-eq_default}
use borrow.Author.Tests.{eq-eqb, ne_eqb, eqb-true}
use Rattle.lists.specs.Vocabulary.{nth, choose, every, all}
use Rattle.lists.proofs.ListLaws.{not_not, every_at, choose_yes, choose_no}
use Rattle.refusals.specs.declared.Side.{Side}
use Rattle.letters.specs.Letters.{is_letter, not_letter, letters_match, ReadAlike}
use Rattle.letters.specs.Classes.{letter_class, other_letter}

-- The least of the tests of the first i numbers is 1 exactly where all of them pass.
module _ (p : ℕ → Bool) where
  pub least_none : ◌≡◌ {A = ℕ} 1 (choose (every 0 p) 1 0)
  unfolding every choose
  least_none = refl

  pub least_next : {r l : ℕ} {t : Bool} (i : ℕ) → r ≡ min l (bool_byte t) → l ≡ choose (every i p) 1 0 → t ≡ p i → r ≡ choose (every (i + 1) p) 1 0
  unfolding every choose
  least_next i er el et = er ∙ rw (el, et, add-one) (go (every i p) (p i))
    where
      go : (a b : Bool) → min (choose a 1 0) (bool_byte b) ≡ choose (b && a) 1 0
      go true true = refl
      go true false = refl
      go false true = refl
      go false false = refl

  pub least_end : {l : ℕ} (n i : ℕ) → l ≡ choose (every i p) 1 0 → i ≤ n → n ≤ i → eqb l 1 ≡ every n p
  least_end n i e u v = let z : i ≡ n = omega arith in rw (e, z) (go (every n p))
    where
      go : (a : Bool) → eqb (choose a 1 0) 1 ≡ a
      go true = unfold choose in refl
      go false = unfold choose in refl

-- ---- a letter

-- The five letters.
pub by_letter : (P : ℕ → Type 0) (side : Side) (b : ℕ) → is_letter side b ≡ true → P 65 → P 67 → P 71 → P 84 → P 85 → P b
unfolding is_letter
by_letter P side b e hA hC hG hT hU = go (eqb b 65) refl (eqb b 67) refl (eqb b 71) refl (eqb b 84) refl e where
  go : (x : Bool) → eqb b 65 ≡ x → (y : Bool) → eqb b 67 ≡ y → (z : Bool) → eqb b 71 ≡ z → (t : Bool) → eqb b 84 ≡ t
      → (x || y || z || (t || eqb b 85)) ≡ true → P b
  go true h y i z j t k e = subst P (sym (eqb-true b 65 h)) hA
  go false h true i z j t k e = subst P (sym (eqb-true b 67 i)) hC
  go false h false i true j t k e = subst P (sym (eqb-true b 71 j)) hG
  go false h false i false j true k e = subst P (sym (eqb-true b 84 k)) hT
  go false h false i false j false k e = subst P (sym (eqb-true b 85 e)) hU

-- A letter is a byte.
pub letter_byte : (side : Side) (b : ℕ) → is_letter side b ≡ true → b < 256
letter_byte side b e = by_letter (λ (x : ℕ). x < 256) side b e (omega arith) (omega arith) (omega arith) (omega arith) (omega arith)

-- ---- a base

module _ (side : Side) (bs : List ℕ) where
  pub letter_at : (i : ℕ) → not_letter side bs i ≡ false → is_letter side (nth bs i) ≡ true
  unfolding not_letter
  letter_at i e = not_not _ e

  pub none_other : all (is_letter side) bs ≡ true → (i : ℕ) → i < length bs → not_letter side bs i ≡ false
  unfolding not_letter
  none_other e i l = ap not (every_at (λ k. is_letter side (nth bs k)) (length bs) i e l)

  pub other_found : (i : ℕ) → is_letter side (nth bs i) ≡ false → not_letter side bs i ≡ true
  unfolding not_letter
  other_found i e = ap not e

  pub letter_found : (i : ℕ) → is_letter side (nth bs i) ≡ true → not_letter side bs i ≡ false
  unfolding not_letter
  letter_found i e = ap not e

-- ---- the rule by classes

pub match_class : (p q : ℕ) → letters_match p q ≡ eqb (letter_class p) (letter_class q)
unfolding letters_match letter_class choose
match_class p q = go (ℕ_discrete p 84) (ℕ_discrete q 84) (ℕ_discrete p 85) (ℕ_discrete q 85) (ℕ_discrete p q)
  where
    same : (x : ℕ) → (eqb x x || ((false || eqb x 85) && (false || eqb x 85))) ≡ eqb x x
    same x = rw (eq-eqb x x refl)

    go : Dec (p ≡ 84) → Dec (q ≡ 84) → Dec (p ≡ 85) → Dec (q ≡ 85) → Dec (p ≡ q)
        → (eqb p q || ((eqb p 84 || eqb p 85) && (eqb q 84 || eqb q 85))) ≡ eqb (choose (eqb p 84) 85 p) (choose (eqb q 84) 85 q)
    go (yes a) (yes b) c d e = rw (a, b)
    go (yes a) (no b) c (yes d) e = rw (a, d)
    go (yes a) (no b) c (no d) e = rw (a, ne_eqb q 84 b, ne_eqb q 85 d, ne_eqb 84 q (λ x. b (sym x)), ne_eqb 85 q (λ x. d (sym x)))
    go (no a) (yes b) (yes c) d e = rw (b, c)
    go (no a) (yes b) (no c) d e = rw (b, ne_eqb p 84 a, ne_eqb p 85 c)
    go (no a) (no b) c d (yes e) = rw (e, ne_eqb q 84 b) (same q)
    go (no a) (no b) (yes c) (yes d) (no e) = rw (c, d)
    go (no a) (no b) (yes c) (no d) (no e) = rw (ne_eqb p q e, ne_eqb p 84 a, ne_eqb q 84 b, ne_eqb q 85 d, eq-eqb p 85 c) (sym (ne_eqb p q e))
    go (no a) (no b) (no c) d (no e) = rw (ne_eqb p q e, ne_eqb p 84 a, ne_eqb p 85 c, ne_eqb q 84 b) (sym (ne_eqb p q e))

-- The rule by the other spelling of the second base.
pub match_other : (p q : ℕ) → letters_match p q ≡ (eqb p q || eqb p (other_letter q))
unfolding letters_match other_letter choose
match_other p q = elim (ℕ_discrete q 84) [
  | yes e ↦ rw e (swapped (eqb p 84) (eqb p 85))
  | no n ↦ elim (ℕ_discrete q 85) [
    | yes e ↦ rw e (doubled (eqb p 84) (eqb p 85))
    | no m ↦ rw (ne_eqb q 84 n, ne_eqb q 85 m) (neither (eqb p 84) (eqb p 85) (eqb p q))
  ]
]
  where
    swapped : (a b : Bool) → (a || ((a || b) && true)) ≡ (a || b)
    swapped true b = refl
    swapped false true = refl
    swapped false false = refl

    doubled : (a b : Bool) → (b || ((a || b) && true)) ≡ (b || a)
    doubled true true = refl
    doubled true false = refl
    doubled false true = refl
    doubled false false = refl

    neither : (a b c : Bool) → (c || ((a || b) && false)) ≡ (c || c)
    neither true b true = refl
    neither true b false = refl
    neither false true true = refl
    neither false true false = refl
    neither false false true = refl
    neither false false false = refl

-- One of two tests passes: the first, or else the second.
pub either_yes : (a b : Bool) → a ≡ true → (a || b) ≡ true
either_yes true b e = refl
either_yes false b e = absurd (true≢false (sym e))

pub either_no : (a b : Bool) → a ≡ false → (a || b) ≡ b
either_no true b e = absurd (true≢false e)
either_no false b e = refl

-- The class of a byte is a byte.
pub class_byte : (b : ℕ) → b < 256 → letter_class b < 256
unfolding letter_class choose
class_byte b l = go (eqb b 84)
  where
    go : (t : Bool) → choose t 85 b < 256
    go true = omega arith
    go false = l

-- T is matched by what matches U.
pub match_t : (p : ℕ) → letters_match p 84 ≡ letters_match p 85
unfolding letter_class choose
match_t p = match_class p 84 ∙ sym (match_class p 85)

-- What matches has one class.
pub one_class : (a b : ℕ) → letters_match a b ≡ true → letter_class a ≡ letter_class b
one_class a b e = eqb-true _ _ (sym (match_class a b) ∙ e)

-- A letter is told by its class.
pub letter_class_lem : (side : Side) (b : ℕ) → is_letter side (letter_class b) ≡ is_letter side b
unfolding is_letter letter_class
letter_class_lem side b = elim (ℕ_discrete b 84) [
  | yes e ↦ rw e (ap (is_letter side) (choose_yes true 85 84 refl))
  | no n ↦ ap (is_letter side) (choose_no _ 85 b (ne_eqb b 84 n))
]

-- Two spellings, at every place: the classes are the same, so the same bases match, and the same places are letters.
module _ {a b : List ℕ} (R : ReadAlike a b) (x : ℕ) where
  alike_class : letter_class (nth a x) ≡ letter_class (nth b x)
  alike_class = elim (dec_lt x (length a)) [
    | yes l ↦ one_class (nth a x) (nth b x) (R.match_at x l)
    | no l ↦ ap letter_class (get_or-eq_default a 0 {n = x} (omega arith) ∙ sym (get_or-eq_default b 0 {n = x} (omega (arith, R.many))))
  ]

  pub alike_first : (c : ℕ) → letters_match (nth a x) c ≡ letters_match (nth b x) c
  alike_first c = match_class _ _ ∙ ap (λ (k : ℕ). eqb k (letter_class c)) alike_class ∙ sym (match_class _ _)

  pub alike_second : (c : ℕ) → letters_match c (nth a x) ≡ letters_match c (nth b x)
  alike_second c = match_class _ _ ∙ ap (eqb (letter_class c)) alike_class ∙ sym (match_class _ _)

  pub alike_letter : (side : Side) → not_letter side a x ≡ not_letter side b x
  unfolding not_letter
  alike_letter side =
      ap not (sym (letter_class_lem side (nth a x)) ∙ ap (is_letter side) alike_class ∙ letter_class_lem side (nth b x))
