-- Loops over slices, a turn at a time: the largest byte, two-byte numbers, and two lists compared.
use mathlib.Core.Path.{◌≡◌, refl, sym, ap, ◌∙◌}
use mathlib.Core.Bool.{Bool, true, false, ◌&&◌}
use mathlib.Core.List.{List, [], ◌∷◌, ◌++◌}
use Prim.Native.Nat.{ℕ, ◌+◌, ◌*◌, ◌/◌, ◌%◌, ◌<◌, ◌≤◌, max}
use native.Mathlib.Omega.{arith}
use native.Mathlib.Numerals.{add-one}
use native.Mathlib.Decide.{ℕ_discrete}
use lib.ListN.{length, set, take, drop, length-append, length-drop}
use lib.Seq.{take-suc, take_all, take_at, drop_at, length-take-le, sets-eq, drop-drop}
use borrow.Author.Tests.{eq-eqb, ne_eqb}
use lib.Dec.{eqb}
use Rattle.lists.specs.Vocabulary.{nth, every, same_list}
use Rattle.octets.specs.Octets.{is_zero, word16, words, bytes_of}
use Rattle.lists.proofs.ListLaws.{length_tab, nth_tab, same_place, same_all}

-- ---- the largest byte is 0 exactly where every byte is

largest_two : (l x : ℕ) → eqb (max l x) 0 ≡ eqb x 0 && eqb l 0
largest_two l x = elim (ℕ_discrete x 0) [
  | yes e ↦ let m : max l x ≡ l = omega arith in rw (m, eq-eqb x 0 e)
  | no e ↦ rw (ne_eqb x 0 e, ne_eqb (max l x) 0 (λ h. e (omega arith)))
]

-- The first i bytes have been passed; l is the largest of them.
abbrev zero_at : List ℕ → ℕ → Bool
zero_at s k = is_zero (nth s k)

pub largest_none : (p : ℕ → Bool) → eqb 0 0 ≡ every 0 p
unfolding every
largest_none p = refl

pub largest_next : (s : List ℕ) (l i : ℕ) {r : ℕ} → r ≡ max l (nth s i) → eqb l 0 ≡ every i (zero_at s) → eqb r 0 ≡ every (i + 1) (zero_at s)
unfolding every
largest_next s l i e h = ap (λ (x : ℕ). eqb x 0) e ∙ largest_two l (nth s i) ∙ rw (h, add-one)

pub largest_end : (s : List ℕ) (l n i : ℕ) → eqb l 0 ≡ every i (zero_at s) → i ≤ n → n ≤ i → eqb l 0 ≡ every n (zero_at s)
largest_end s l n i e u v = let z : i ≡ n = omega arith in e ∙ ap (λ (k : ℕ). every k (zero_at s)) z

-- ---- two-byte numbers, two entries a turn

pub bytes_append : (a b : List ℕ) → bytes_of (a ++ b) ≡ bytes_of a ++ bytes_of b
unfolding bytes_of
bytes_append [] b = refl
bytes_append (x ∷ a) b = ap (λ (l : List ℕ). x % 256 ∷ x / 256 % 256 ∷ l) (bytes_append a b)

pub length_bytes : (a : List ℕ) → length (bytes_of a) ≡ 2 * length a
unfolding bytes_of
length_bytes [] = refl
length_bytes (x ∷ a) = let e : length (bytes_of a) ≡ 2 * length a = length_bytes a in omega arith

pub words_none : (m d : List ℕ) → d ≡ bytes_of (take 0 m) ++ drop (2 * 0) d
unfolding bytes_of
words_none m d = refl

module _ (i : ℕ) (m d : List ℕ) (hm : i < length m) (hd : 2 * length m ≤ length d) where
  P : List ℕ
  P = bytes_of (take i m)

  x : ℕ
  x = nth m i % 256

  y : ℕ
  y = nth m i / 256 % 256

  len : length P ≡ 2 * i
  unfolding P
  len = length_bytes (take i m) ∙ ap (λ (k : ℕ). 2 * k) (length-take-le i m (omega arith))

  more : bytes_of (take (i + 1) m) ≡ P ++ (x ∷ y ∷ [])
  unfolding P x y bytes_of
  more = ap bytes_of (ap (λ (k : ℕ). take k m) (add-one i) ∙ take-suc m i 0 hm) ∙ bytes_append (take i m) (nth m i ∷ [])

  pub words_more : set (set (bytes_of (take i m) ++ drop (2 * i) d) (2 * i) (nth m i % 256)) (2 * i + 1) (nth m i / 256 % 256)
      ≡ bytes_of (take (i + 1) m) ++ drop (2 * (i + 1)) d
  unfolding P x y
  words_more =
      ap (λ (k : ℕ). set (set (P ++ drop (2 * i) d) (2 * i) x) k y) (add-one (2 * i))
      ∙ sets-eq (x ∷ y ∷ []) (P ++ drop (2 * i) d) (2 * i) (simp (length-append, len, length-drop) (omega arith))
      ∙ ap (λ (l : List ℕ). l ++ (x ∷ y ∷ []) ++ drop (2 * i + 2) (P ++ drop (2 * i) d)) (take_at P (drop (2 * i) d) (2 * i) len)
      ∙ ap (λ (l : List ℕ). P ++ (x ∷ y ∷ []) ++ l) tail
      ∙ ap (λ (l : List ℕ). l ++ drop (2 * (i + 1)) d) (sym more)
    where
      step : 2 * i + 2 ≡ 2 * (i + 1)
      step = omega arith

      tail : drop (2 * i + 2) (P ++ drop (2 * i) d) ≡ drop (2 * (i + 1)) d
      tail =
          sym (drop-drop 2 (2 * i) (P ++ drop (2 * i) d))
          ∙ ap (drop 2) (drop_at P (drop (2 * i) d) (2 * i) len)
          ∙ drop-drop 2 (2 * i) d
          ∙ ap (λ (k : ℕ). drop k d) step

pub words_end : (i : ℕ) (m d : List ℕ) → i ≡ length m → bytes_of (take i m) ++ drop (2 * i) d ≡ bytes_of m ++ drop (2 * length m) d
words_end i m d e = rw e (ap (λ (l : List ℕ). bytes_of l ++ drop (2 * length m) d) (take_all (length m) m (omega arith)))

-- ---- two lists compared

pub same_next : (a b : List ℕ) (i : ℕ) → ((k : ℕ) → k < i → nth a k ≡ nth b k) → nth a i ≡ nth b i → (k : ℕ) → k < i + 1 → nth a k ≡ nth b k
same_next a b i h e k l = elim (ℕ_discrete k i) [ yes q ↦ rw q e | no q ↦ h k (omega arith) ]

-- The two-byte numbers at the start of s compared with m, one a turn.
module _ (s m : List ℕ) (i : ℕ) (h : i < length m) where
  pub word_there : nth (words (length m) s) i ≡ word16 s (2 * i)
  word_there = nth_tab (λ k. word16 s (2 * k)) (length m) i h

  pub other_word : (x : ℕ) → x ≡ word16 s (2 * i) → (x ≡ nth m i → ⊥) → false ≡ same_list (words (length m) s) m
  other_word x e n =
      sym (same_place (words (length m) s) m i (omega (arith, length_tab (λ k. word16 s (2 * k)) (length m))) h (λ q. n (e ∙ sym word_there ∙ q)))

  pub same_word : (x : ℕ) → x ≡ word16 s (2 * i) → x ≡ nth m i → ((k : ℕ) → k < i → nth (words (length m) s) k ≡ nth m k)
      → (k : ℕ) → k < i + 1 → nth (words (length m) s) k ≡ nth m k
  same_word x e q before = same_next (words (length m) s) m i before (word_there ∙ sym e ∙ q)

pub all_words : (s m : List ℕ) → ((k : ℕ) → k < length m → nth (words (length m) s) k ≡ nth m k) → true ≡ same_list (words (length m) s) m
all_words s m f =
    let l : length (words (length m) s) ≡ length m = length_tab (λ k. word16 s (2 * k)) (length m) in
    sym (same_all (words (length m) s) m l (λ k h. f k (omega arith)))
