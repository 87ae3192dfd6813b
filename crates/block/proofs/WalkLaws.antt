-- The walk over the content of a block: what each stretch adds to the sum, and what its tests say together. A stretch of zeros adds nothing; mates below
-- 256 have high bytes 0, so their low bytes add all; the two maps are passed side by side, each from its own first byte.
use mathlib.Core.Path.{◌≡◌, refl, sym, ap, ◌∙◌}
use mathlib.Core.Bool.{Bool, true, false}
use mathlib.Core.List.{List, ◌∷◌}
use Prim.Native.Nat.{ℕ, zero, suc, ◌+◌, ◌-◌, ◌*◌, ◌%◌, ◌<◌, ◌≤◌, min}
use native.Mathlib.Omega.{arith}
use native.Mathlib.Decide.{dec_lt, ℕ_discrete}
use native.Mathlib.Numerals.{add-one}
use lib.Dec.{eqb, leb}
use mir.Val.{bool_byte}
use lib.ListN.{length, take, drop, replicate, length-take, length-drop}
use lib.Seq.{get_or-take, get_or-drop, take_all, length-take-le}
use borrow.Author.Tests.{eq-eqb, eqb-true, lt-leb, le-leb}
use Rattle.std.specs.Prelude.{Option, Some, None, Result, Ok, Err}
use Rattle.std.specs.Bool.{then_some}
use Rattle.std.specs.Result.{result_ok}
use Rattle.std.proofs.lemmas.Option.{none-some, same_Some}
use Rattle.lists.specs.Vocabulary.{nth, every, all, between, choose}
use Rattle.lists.proofs.ListLaws.{Tells, never, both_ways, every_at, every_true, zeros_at, nth_tab, length_tab, same_eq, same_all}
use Rattle.strand.specs.Strands.{Inside, is_nested}
use Rattle.strand.proofs.VerdictLaws.{nested_yes}
use Rattle.letters.proofs.LetterLaws.{least_none, least_next, least_end}
use Rattle.octets.specs.Octets.{Bytes, is_zero, word16, words}
use Rattle.block.specs.Content.{sum_to}
use Rattle.block.specs.Walk.{low_sum, OneByte, passed}
use Rattle.block.proofs.SumLaws.{sum_more, sum_small, term_small}

-- ---- a part of a block, place by place

pub part_length : (s : List ℕ) (a e : ℕ) → a ≤ e → e ≤ length s → length (between a e s) ≡ e - a
part_length s a e h l = simp (length-take, length-drop) (omega arith)

part_at : (s : List ℕ) (a e k : ℕ) → a + k < e → nth (between a e s) k ≡ nth s (a + k)
part_at s a e k h = get_or-take (e - a) (drop a s) k 0 (omega arith) ∙ get_or-drop a s k 0

-- The test of the k-th byte from a on.
abbrev test_from : (ℕ → Bool) → List ℕ → ℕ → ℕ → Bool
test_from q s a k = q (nth s (a + k))

module _ (q : ℕ → Bool) (s : List ℕ) (a e : ℕ) (h : a ≤ e) (l : e ≤ length s) where
  part_all : every (e - a) (test_from q s a) ≡ all q (between a e s)
  part_all = both_ways (every (e - a) (test_from q s a)) (all q (between a e s)) to from
    where
      n : length (between a e s) ≡ e - a
      n = part_length s a e h l

      to : every (e - a) (test_from q s a) ≡ true → all q (between a e s) ≡ true
      to t =
          every_true (λ k. q (nth (between a e s) k)) (length (between a e s)) (λ k u.
          rw (part_at s a e k (omega (arith, n))) (every_at (test_from q s a) (e - a) k t (omega (arith, n))))

      from : all q (between a e s) ≡ true → every (e - a) (test_from q s a) ≡ true
      from t =
          every_true (test_from q s a) (e - a) (λ k u.
          rw (part_at s a e k (omega arith)) at (every_at (λ k. q (nth (between a e s) k)) (length (between a e s)) k t (omega (arith, n))))

-- ---- bytes under no rule

-- The sum over the bytes passed, and what the next byte of the part adds.
pub gathered_next : (s : List ℕ) (a e i total x : ℕ) → a + i < e → total ≡ sum_to s (a + i) → x ≡ (a + i + 1) * nth (between a e s) i
    → total + x ≡ sum_to s (a + (i + 1))
gathered_next s a e i total x h t ex =
    let z : a + (i + 1) ≡ a + i + 1 = omega arith in
    rw (z, sum_more s (a + i), ← t, ← part_at s a e i h) (ap (λ (k : ℕ). total + k) ex)

-- ---- tested bytes

-- The first i bytes from a on have been passed: the total is the sum over all bytes before a + i, and `least`, the least of the tests as numbers, is 1
-- exactly where all of them pass.
pub record Tested (q : ℕ → Bool) (s : List ℕ) (a i total least : ℕ) : Type 0 where
  pub sum_is : total ≡ sum_to s (a + i)
  pub small : total ≤ 129540 * (a + i)
  pub all_pass : least ≡ choose (every i (test_from q s a)) 1 0

module _ (q : ℕ → Bool) (s : List ℕ) (a : ℕ) where
  pub tested_none : (sum : ℕ) → Bytes s → a ≤ 508 → sum ≡ sum_to s a → Tested q s a 0 sum 1
  tested_none sum B h e =
      let z : a + 0 ≡ a = omega arith in
      record { sum_is = rw z e; small = omega (arith, e, sum_small s a B h); all_pass = least_none (test_from q s a) }

  -- The next byte b, with its test t and what it adds.
  pub tested_next : (e i total least b r x : ℕ) {t : Bool} → Tested q s a i total least → a + i < e → e ≤ 508 → b ≡ nth (between a e s) i → Bytes s
      → t ≡ q b → r ≡ min least (bool_byte t) → x ≡ (a + i + 1) % 512 * b → Tested q s a (i + 1) (total + x) r
  tested_next e i total least b r x T h few is B et er ex =
      record {
        sum_is = rw (next, sum_more s (a + i), ← T.sum_is, ← at) (ap (λ (k : ℕ). total + k) added);
        small = omega (arith, T.small, added, term_small (a + i) b (omega arith) byte);
        all_pass = least_next (test_from q s a) i er T.all_pass (et ∙ ap q at);
      }
    where
      at : b ≡ nth s (a + i)
      at = is ∙ part_at s a e i h

      byte : b < 256
      byte = omega (arith, at, B (a + i))

      weight : (a + i + 1) % 512 ≡ a + i + 1
      weight = omega arith

      added : x ≡ (a + i + 1) * b
      added = rw weight at ex

      next : a + (i + 1) ≡ a + i + 1
      next = omega arith

  pub tested_end : (e i total least : ℕ) → Tested q s a i total least → a ≤ e → e ≤ length s → i ≡ e - a
      → (eqb least 1 ≡ all q (between a e s)) × (total ≡ sum_to s e)
  tested_end e i total least T h l is =
      let z : a + i ≡ e = omega arith in
      (least_end (test_from q s a) {l = least} (e - a) i T.all_pass (omega arith) (omega arith) ∙ part_all q s a e h l, T.sum_is ∙ ap (sum_to s) z)

-- ---- zeros

zero_run : (s : List ℕ) (a n : ℕ) → ((k : ℕ) → k < n → nth s (a + k) ≡ 0) → sum_to s (a + n) ≡ sum_to s a
zero_run s a zero h = let z : a + 0 ≡ a = omega arith in ap (sum_to s) z
zero_run s a (suc n) h =
    let z : a + suc n ≡ a + n + 1 = omega arith in
    ap (sum_to s) z ∙ sum_more s (a + n) ∙ rw (h n (omega arith)) (omega (arith, zero_run s a n (λ k u. h k (omega arith))))

pub zeros_add : (s : List ℕ) (a e : ℕ) → a ≤ e → e ≤ length s → all is_zero (between a e s) ≡ true → sum_to s a ≡ sum_to s e
zeros_add s a e h l z =
    let y : a + (e - a) ≡ e = omega arith in
    sym (zero_run s a (e - a) (λ k u. sym (part_at s a e k (omega arith)) ∙ zeros_at (between a e s) z k)) ∙ ap (sum_to s) y

-- ---- mates

pub low_none : (at : ℕ) (mates : List ℕ) → low_sum at mates 0 ≡ 0
unfolding low_sum
low_none at mates = refl

low_more : (at : ℕ) (mates : List ℕ) (i : ℕ) → low_sum at mates (i + 1) ≡ low_sum at mates i + (at + 2 * i + 1) * (nth mates i % 256)
unfolding low_sum
low_more at mates i = rw add-one

-- What mate i adds: its weight is what the remainder is, and the addition fits.
low_weight : (at i : ℕ) → at + 2 * i < 508 → (at + 2 * i + 1) % 512 ≡ at + 2 * i + 1
low_weight at i h = omega arith

pub low_small : (at i m : ℕ) {r : ℕ} → at + 2 * i < 508 → r ≡ (at + 2 * i + 1) % 512 * (m % 256) → r ≤ 129540
low_small at i m h e = rw (e, low_weight at i h) (term_small (at + 2 * i) (m % 256) h (omega arith))

pub low_next : (at : ℕ) (mates : List ℕ) (i sum : ℕ) {total r : ℕ} → total ≡ sum + low_sum at mates i
    → at + 2 * i < 508 → r ≡ (at + 2 * i + 1) % 512 * (nth mates i % 256) → total + r ≡ sum + low_sum at mates (i + 1)
low_next at mates i sum t h e = rw (t, e, low_weight at i h, low_more at mates i) (omega arith)

-- Of the first i mates `outside` are at or above n.
pub record Counted (mates : List ℕ) (n i outside : ℕ) : Type 0 where
  pub few : outside ≤ i
  pub none : outside ≡ 0 → (k : ℕ) → k < i → nth mates k < n
  pub found : ((k : ℕ) → k < i → nth mates k < n) → outside ≡ 0

pub counted_none : (mates : List ℕ) (n : ℕ) → Counted mates n 0 0
counted_none mates n = record { few = omega arith; none = λ e k l. absurd (omega arith); found = λ h. refl }

-- r says whether mate i is one of them.
counted_one : (mates : List ℕ) (n i outside r : ℕ) → Counted mates n i outside → r ≤ 1 → (nth mates i < n → r ≡ 0) → (n ≤ nth mates i → r ≡ 1)
    → Counted mates n (i + 1) (outside + r)
counted_one mates n i outside r C one yes_below not-below =
    record {
      few = omega (arith, C.few);
      none = λ e k l. elim (ℕ_discrete k i) [
        | yes q ↦ rw q (elim (dec_lt (nth mates i) n) [ yes h ↦ h | no h ↦ absurd (omega (arith, not-below (omega arith))) ])
        | no q ↦ C.none (omega arith) k (omega arith)
      ];
      found = λ h. omega (arith, C.found (λ k l. h k (omega arith)), yes_below (h i (omega arith)));
    }

byte_small : (b : Bool) → bool_byte b ≤ 1
byte_small true = omega arith
byte_small false = omega arith

pub counted_next : (mates : List ℕ) (n i outside : ℕ) → Counted mates n i outside → Counted mates n (i + 1) (outside + bool_byte (leb n (nth mates i)))
counted_next mates n i outside C =
    let m = nth mates i in
    counted_one mates n i outside _ C (byte_small (leb n m)) (λ h. ap bool_byte (lt-leb n m h)) (λ h. ap bool_byte (le-leb n m h))

pub counted_end : (mates : List ℕ) (n i outside : ℕ) → Counted mates n i outside → i ≤ n → n ≤ i → Tells (eqb outside 0) (Inside (nth mates) n)
counted_end mates n i outside C u v =
    record {
      yes = λ e k l. C.none (eqb-true outside 0 e) k (omega arith);
      no = λ e I. never (sym e ∙ eq-eqb outside 0 (C.found (λ k l. I k (omega arith))));
    }

module _ (s : List ℕ) (at n : ℕ) (B : Bytes s) (small : OneByte (words n (drop at s)) n) where
  word_is : (i : ℕ) → i < n → nth (words n (drop at s)) i ≡ nth s (at + 2 * i) + 256 * nth s (at + 2 * i + 1)
  unfolding word16
  word_is i l =
      let z : at + (2 * i + 1) ≡ at + 2 * i + 1 = omega arith in
      nth_tab (λ k. word16 (drop at s) (2 * k)) n i l ∙ rw (get_or-drop at s (2 * i) 0, get_or-drop at s (2 * i + 1) 0, z)

  -- The sum up to mate i, for every i.
  pub low_upto : (i : ℕ) → i ≤ n → sum_to s at + low_sum at (words n (drop at s)) i ≡ sum_to s (at + 2 * i)
  low_upto zero h =
      let z : at + 2 * 0 ≡ at = omega arith in
      rw (low_none at (words n (drop at s)), z) (omega arith)
  low_upto (suc i) h = rw (sym (add-one i)) (rw (low_more at m i, next, low) (omega (arith, low_upto i (omega arith), step)))
    where
      m : List ℕ
      m = words n (drop at s)

      lo : ℕ
      lo = nth s (at + 2 * i)

      w : nth m i ≡ lo + 256 * nth s (at + 2 * i + 1)
      w = word_is i (omega arith)

      high : nth s (at + 2 * i + 1) ≡ 0
      high = omega (arith, w, small i (omega arith))

      low : nth m i % 256 ≡ lo
      low = omega (arith, w, high, B (at + 2 * i))

      next : at + 2 * (i + 1) ≡ at + 2 * i + 1 + 1
      next = omega arith

      step : sum_to s (at + 2 * i + 1 + 1) ≡ sum_to s (at + 2 * i) + (at + 2 * i + 1) * lo
      step = sum_more s (at + 2 * i + 1) ∙ rw high (omega (arith, sum_more s (at + 2 * i)))

-- The first n of k zeros.
pub first_zeros : (n k : ℕ) → n ≤ k → ◌≡◌ {A = List ℕ} (take n (replicate k 0)) (replicate n 0)
first_zeros zero k h = refl
first_zeros (suc n) zero h = absurd (omega arith)
first_zeros (suc n) (suc k) h = ap (λ (l : List ℕ). 0 ∷ l) (first_zeros n k (omega arith))

-- The first n of the mates that were read, more of them than n.
first_words : (x : List ℕ) (n k : ℕ) → n ≤ k → take n (words k x) ≡ words n x
first_words x n k h = same_eq (take n (words k x)) (words n x) (same_all (take n (words k x)) (words n x) lengths at)
  where
    f : ℕ → ℕ
    f i = word16 x (2 * i)

    first : length (take n (words k x)) ≡ n
    first = length-take-le n (words k x) (omega (arith, length_tab f k))

    lengths : length (take n (words k x)) ≡ length (words n x)
    lengths = first ∙ sym (length_tab f n)

    at : (i : ℕ) → i < length (take n (words k x)) → nth (take n (words k x)) i ≡ nth (words n x) i
    at i l = let u : i < n = omega (arith, first) in get_or-take n (words k x) i 0 u ∙ nth_tab f k i (omega arith) ∙ sym (nth_tab f n i u)

pub read_first : (s p : List ℕ) (at n k : ℕ) → n ≤ k → p ≡ words k (take (length s - at) (drop at s)) → take n p ≡ words n (drop at s)
read_first s p at n k h e =
    ap (take n) e ∙ first_words (take (length s - at) (drop at s)) n k h
    ∙ ap (words n) (take_all (length s - at) (drop at s) (simp length-drop (omega arith)))

-- Mates out of range are not nested.
pub not_inside : (m : List ℕ) → (Inside (nth m) (length m) → ⊥) → false ≡ is_nested m
not_inside m out = go (is_nested m) refl
  where
    go : (b : Bool) → is_nested m ≡ b → false ≡ is_nested m
    go true e = absurd (out (nested_yes m e).inside)
    go false e = sym e

-- What mates add by their low bytes. Where their high bytes are 0, that is what they should add; nested ones are such.
pub mates_added : (s m : List ℕ) (at n : ℕ) → m ≡ words n (drop at s) → (sum : ℕ) {total : ℕ} → sum ≡ sum_to s at
    → total ≡ sum + low_sum at m (length m) → total ≡ sum_to s at + low_sum at (words n (drop at s)) n
mates_added s m at n is sum before added =
    let long : length m ≡ n = ap length is ∙ length_tab (λ k. word16 (drop at s) (2 * k)) n in
    added ∙ rw (before, long, is) refl

pub mates_passed : (s m : List ℕ) (at n : ℕ) → m ≡ words n (drop at s) → Bytes s → (sum : ℕ) {total : ℕ} → sum ≡ sum_to s at
    → total ≡ sum + low_sum at m (length m) → OneByte (words n (drop at s)) n → total ≡ sum_to s (at + 2 * n)
mates_passed s m at n is B sum before added small = mates_added s m at n is sum before added ∙ low_upto s at n B small n (omega arith)

pub nested_small : (x : List ℕ) (n : ℕ) → n ≤ 160 → is_nested (words n x) ≡ true → OneByte (words n x) n
nested_small x n few N i l =
    let long : length (words n x) ≡ n = length_tab (λ k. word16 x (2 * k)) n in
    omega (arith, long, (nested_yes (words n x) N).inside i (omega (arith, long)))

-- ---- the two maps

-- Both have been passed up to byte i of theirs.
abbrev pub MapsPassed : List ℕ → ℕ → ℕ → Type 0
MapsPassed s i total = total + sum_to s 444 ≡ sum_to s (380 + i) + sum_to s (444 + i)

module _ (s : List ℕ) where
  pub maps_none : (sum : ℕ) → sum ≡ sum_to s 380 → MapsPassed s 0 sum
  maps_none sum e = rw e refl

  -- One byte of each map more.
  module _ (i x y : ℕ) (h : i < 64) (ex : x ≡ (380 + i + 1) % 512 * nth s (380 + i)) (ey : y ≡ (444 + i + 1) % 512 * nth s (444 + i)) where
    first_adds : x ≡ (380 + i + 1) * nth s (380 + i)
    first_adds = let z : (380 + i + 1) % 512 ≡ 380 + i + 1 = omega arith in rw z at ex

    second_adds : y ≡ (444 + i + 1) * nth s (444 + i)
    second_adds = let z : (444 + i + 1) % 512 ≡ 444 + i + 1 = omega arith in rw z at ey

    pub maps_small : Bytes s → x + y ≤ 2 * 129540
    maps_small B =
        omega (
          arith,
          first_adds,
          second_adds,
          term_small (380 + i) (nth s (380 + i)) (omega arith) (B (380 + i)),
          term_small (444 + i) (nth s (444 + i)) (omega arith) (B (444 + i)),
        )

    pub maps_next : (total : ℕ) → MapsPassed s i total → MapsPassed s (i + 1) (total + (x + y))
    maps_next total P =
        let u : 380 + (i + 1) ≡ 380 + i + 1 = omega arith in
        let v : 444 + (i + 1) ≡ 444 + i + 1 = omega arith in
        rw (u, v, sum_more s (380 + i), sum_more s (444 + i), ← first_adds, ← second_adds) (omega (arith, P))

  pub maps_end : (i total : ℕ) → MapsPassed s i total → i ≤ 64 → 64 ≤ i → total ≡ sum_to s 508
  maps_end i total P u v = let z : i ≡ 64 = omega arith in omega (arith, rw z at P)

-- ---- a sum that is handed on where bytes keep their rule b

pub handed : (b : Bool) (x v : ℕ) → Some v ≡ then_some b x → (b ≡ true) × (v ≡ x)
handed true x v e = (refl, same_Some v x e)
handed false x v e = absurd (none-some v (sym e))

pub not_handed : (b : Bool) (x : ℕ) → None ≡ then_some b x → b ≡ false
not_handed true x e = absurd (none-some x e)
not_handed false x e = refl

pub hand_none : (b : Bool) (x : ℕ) → b ≡ false → None ≡ then_some b x
hand_none b x e = rw e refl

hand_same : (b : Bool) (x y : ℕ) → (b ≡ true → x ≡ y) → then_some b x ≡ then_some b y
hand_same true x y h = ap (λ (k : ℕ). Some k) (h refl)
hand_same false x y h = refl

-- What a callee handed on, under the caller's rule, with the caller's sum.
pub hand_on : (r : Option ℕ) (a b : Bool) (x y : ℕ) → r ≡ then_some a x → a ≡ b → (b ≡ true → x ≡ y) → r ≡ then_some b y
hand_on r a b x y e q h = e ∙ ap (λ (t : Bool). then_some t x) q ∙ hand_same b x y h

-- ---- a sum that is handed on with every verdict

-- What a callee handed on, by another name of the verdict and of the sum.
pub pass_on : {r : Result ℕ ℕ} {a b : Bool} {x y : ℕ} → r ≡ passed a x → a ≡ b → x ≡ y → r ≡ passed b y
pass_on {a = a} {y = y} e q h = e ∙ ap (λ (k : ℕ). passed a k) h ∙ ap (λ (t : Bool). passed t y) q

pub pass_err : (b : Bool) (v x : ℕ) → false ≡ b → v ≡ x → Err v ≡ passed b x
unfolding passed
pass_err b v x q h = ap (λ (k : ℕ). Err k) h ∙ ap (λ (t : Bool). passed t x) q

sum_in : Result ℕ ℕ → ℕ
sum_in (Ok x) = x
sum_in (Err x) = x

pub passed_ok : (b : Bool) (x v : ℕ) → Ok v ≡ passed b x → (b ≡ true) × (v ≡ x)
unfolding passed sum_in
passed_ok true x v e = (refl, ap sum_in e)
passed_ok false x v e = let z : ◌≡◌ {A = ℕ} 0 1 = cc in absurd (omega arith)

pub passed_err : (b : Bool) (x v : ℕ) → Err v ≡ passed b x → (b ≡ false) × (v ≡ x)
unfolding passed sum_in
passed_err true x v e = let z : ◌≡◌ {A = ℕ} 0 1 = cc in absurd (omega arith)
passed_err false x v e = (refl, ap sum_in e)

-- Of what a callee handed on the caller takes the sum where the bytes keep their rule; it may know only there what the sum is.
pub kept : (r : Result ℕ ℕ) (b : Bool) (x y : ℕ) → r ≡ passed b x → (b ≡ true → r ≡ passed b y) → result_ok r ≡ then_some b y
unfolding passed
kept r true x y e h = ap result_ok (h refl)
kept r false x y e h = ap result_ok e
