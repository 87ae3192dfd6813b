-- Laws of texts: one text after another, the digits of a number, lines, and how long an output can be.
use mathlib.Core.Path.{◌≡◌, refl, sym, ap, ◌∙◌}
use mathlib.Core.Bool.{Bool, true, false}
use mathlib.Core.List.{List, [], ◌∷◌, ◌++◌, append_assoc, append-nil}
use Prim.Native.Nat.{ℕ, zero, suc, ◌+◌, ◌*◌, ◌-◌, ◌/◌, ◌%◌, ◌^◌, ◌<◌, ◌≤◌}
use native.Mathlib.Omega.{arith}
use native.Mathlib.Nat.{not-suc-le-zero}
use native.Mathlib.Numerals.{add-one}
use native.Mathlib.Decide.{dec_lt}
use borrow.Author.Tests.{lt-ltb, le-ltb}
use lib.ListN.{length, take, drop, length-append, take-append-drop}
use lib.Seq.{take_at, drop_at, drop-drop, take-suc, take-add, length-take-le}
use Rattle.lists.specs.Vocabulary.{nth, choose, select}
use Rattle.screening.specs.Text.{newline, digit, digits_in, digits, spaced, line, lines, hits_text, refused_text, most_output, TextPut}
use Rattle.screening.specs.Statements.{value_from, DigitsSay}

-- ---- one text after another

pub put_none : (x : List ℕ) (at : ℕ) → TextPut [] x x at at
put_none x at = record {
  past = omega arith;
  written = sym (ap (λ (k : ℕ). take at x ++ drop k x) (let z : at + 0 ≡ at = omega arith in z) ∙ take-append-drop at x);
}

module _ {s t x y z : List ℕ} {a b c : ℕ} (h : a + length s ≤ length x) (p : TextPut s x y a b) (q : TextPut t y z b c) where
  front_length : length (take a x ++ s) ≡ b
  front_length = length-append (take a x) s ∙ omega (arith, length-take-le a x (omega arith), p.past)

  parted : y ≡ (take a x ++ s) ++ drop (a + length s) x
  parted = p.written ∙ sym (append_assoc (take a x) s (drop (a + length s) x))

  front : take b y ≡ take a x ++ s
  front = ap (take b) parted ∙ take_at (take a x ++ s) (drop (a + length s) x) b front_length

  back : drop b y ≡ drop (a + length s) x
  back = ap (drop b) parted ∙ drop_at (take a x ++ s) (drop (a + length s) x) b front_length

  rest : drop (b + length t) y ≡ drop (a + length (s ++ t)) x
  rest =
      sym (drop-drop (length t) b y)
      ∙ ap (λ (l : List ℕ). drop (length t) l) back
      ∙ drop-drop (length t) (a + length s) x
      ∙ ap (λ (k : ℕ). drop k x) sizes
    where
      sizes : a + length s + length t ≡ a + length (s ++ t)
      sizes = omega (arith, length-append s t)

  pub put_then : TextPut (s ++ t) x z a c
  put_then = record {
    past = omega (arith, length-append s t, p.past, q.past);
    written =
        q.written
        ∙ ap (λ (l : List ℕ). l ++ (t ++ drop (b + length t) y)) front
        ∙ ap (λ (l : List ℕ). (take a x ++ s) ++ (t ++ l)) rest
        ∙ append_assoc (take a x) s (t ++ drop (a + length (s ++ t)) x)
        ∙ ap (λ (l : List ℕ). take a x ++ l) (sym (append_assoc s t (drop (a + length (s ++ t)) x)));
  }

-- From the start: the text, then what stood past it.
pub put_first : {s x y : List ℕ} {c : ℕ} → TextPut s x y 0 c → (c ≡ length s) × (y ≡ s ++ drop (length s) x)
put_first {s} {x} p = (omega (arith, p.past), p.written ∙ ap (λ (k : ℕ). s ++ drop k x) (let z : 0 + length s ≡ length s = omega arith in z))

-- ---- digits

-- More steps than the number change nothing.
enough : (k j n : ℕ) → n < k → n < j → digits_in k n ≡ digits_in j n
unfolding digits_in choose
enough zero j n a b = absurd (not-suc-le-zero a)
enough (suc k) zero n a b = absurd (not-suc-le-zero b)
enough (suc k) (suc j) n a b =
    elim (dec_lt n 10) [
      | yes h ↦ rw (lt-ltb n 10 h)
      | no h ↦ rw (le-ltb n 10 (omega arith)) (ap (λ (l : List ℕ). l ++ (digit (n % 10) ∷ [])) (enough k j (n / 10) (omega arith) (omega arith)))
    ]

pub digits_small : (n : ℕ) → n < 10 → digits n ≡ digit n ∷ []
unfolding digits digits_in choose
digits_small n h = rw (lt-ltb n 10 h)

pub digits_more : (n : ℕ) → 10 ≤ n → digits n ≡ digits (n / 10) ++ (digit (n % 10) ∷ [])
unfolding digits digits_in choose
digits_more n h = rw (le-ltb n 10 h) (ap (λ (l : List ℕ). l ++ (digit (n % 10) ∷ [])) (enough n (suc (n / 10)) (n / 10) (omega arith) (omega arith)))

pub digits_length : (n : ℕ) → 10 ≤ n → length (digits n) ≡ length (digits (n / 10)) + 1
digits_length n h = ap length (digits_more n h) ∙ length-append (digits (n / 10)) (digit (n % 10) ∷ [])

-- A number below 10 ^ (k + 1) has at most k + 1 digits.
pub digits_few : (k n : ℕ) → n < 10 ^ suc k → length (digits n) ≤ suc k
digits_few zero n h = omega (arith, ap length (digits_small n (omega arith)))
digits_few (suc k) n h =
    elim (dec_lt n 10) [
      | yes l ↦ omega (arith, ap length (digits_small n l))
      | no l ↦ omega (arith, digits_length n (omega arith), digits_few k (n / 10) (omega arith))
    ]

value_append : (read : ℕ) (ds es : List ℕ) → value_from read (ds ++ es) ≡ value_from (value_from read ds) es
unfolding value_from
value_append read [] es = refl
value_append read (d ∷ ds) es = value_append (10 * read + (d - 48)) ds es

value_one : (read d : ℕ) → value_from read (digit d ∷ []) ≡ 10 * read + d
unfolding value_from
value_one read d = omega arith

value_within : (k n : ℕ) → n < k → value_from 0 (digits n) ≡ n
value_within zero n h = absurd (not-suc-le-zero h)
value_within (suc k) n h =
    elim (dec_lt n 10) [
      | yes l ↦ ap (value_from 0) (digits_small n l) ∙ value_one 0 n ∙ omega arith
      | no l ↦ ap (value_from 0) (digits_more n (omega arith)) ∙ value_append 0 (digits (n / 10)) (digit (n % 10) ∷ [])
          ∙ last (value_within k (n / 10) (omega arith))
    ]
  where
    last : value_from 0 (digits (n / 10)) ≡ n / 10 → value_from (value_from 0 (digits (n / 10))) (digit (n % 10) ∷ []) ≡ n
    last e = ap (λ (v : ℕ). value_from v (digit (n % 10) ∷ [])) e ∙ value_one (n / 10) (n % 10) ∙ omega arith

pub digits_value : DigitsSay
digits_value n = value_within (suc n) n (omega arith)

-- ---- lines

pub line_length : (t : List ℕ) → length (line t) ≡ length t + 1
unfolding line
line_length t = length-append t (newline ∷ [])

pub lines_append : (xs ys : List ℕ) → lines (xs ++ ys) ≡ lines xs ++ lines ys
unfolding lines
lines_append [] ys = refl
lines_append (x ∷ xs) ys = ap (λ (l : List ℕ). line (digits x) ++ l) (lines_append xs ys) ∙ sym (append_assoc (line (digits x)) (lines xs) (lines ys))

lines_one : (n : ℕ) → lines (n ∷ []) ≡ line (digits n)
unfolding lines
lines_one n = append-nil (line (digits n))

pub lines_more : (ns : List ℕ) (i : ℕ) → i < length ns → lines (take (i + 1) ns) ≡ lines (take i ns) ++ line (digits (nth ns i))
lines_more ns i h =
    ap (λ (k : ℕ). lines (take k ns)) (add-one i)
    ∙ ap lines (take-suc ns i 0 h)
    ∙ lines_append (take i ns) (nth ns i ∷ [])
    ∙ ap (λ (l : List ℕ). lines (take i ns) ++ l) (lines_one (nth ns i))

-- The lines of fewer numbers are no longer.
pub lines_within : (ns : List ℕ) (i n : ℕ) → i ≤ n → length (lines (take i ns)) ≤ length (lines (take n ns))
lines_within ns i n h =
    let e : n ≡ i + (n - i) = omega arith in
    let x : lines (take n ns) ≡ lines (take i ns) ++ lines (take (n - i) (drop i ns)) =
    ap (λ (k : ℕ). lines (take k ns)) e ∙ ap lines (take-add i (n - i) ns) ∙ lines_append (take i ns) (take (n - i) (drop i ns)) in
    omega (arith, ap length x, length-append (lines (take i ns)) (lines (take (n - i) (drop i ns))))

-- ---- the outputs, by their parts

module _ {s t u x y z v : List ℕ} {a b c d : ℕ} (r : a + (length s + length t + length u) ≤ length x) (p : TextPut s x y a b) (q : TextPut t y z b c)
    (o : TextPut u z v c d) where
  pub put_three : TextPut ((s ++ t) ++ u) x v a d
  put_three = put_then (omega (arith, length-append s t)) (put_then (omega arith) p q) o

module _ (count searched : ℕ) (numbers : List ℕ) where
  -- The bytes of `hits ` and ` searched `, as the code writes them.
  pub hits_parts : ((((104 ∷ 105 ∷ 116 ∷ 115 ∷ 32 ∷ []) ++ digits count)
      ++ ((32 ∷ 115 ∷ 101 ∷ 97 ∷ 114 ∷ 99 ∷ 104 ∷ 101 ∷ 100 ∷ 32 ∷ []) ++ digits searched)) ++ (10 ∷ [])) ++ lines numbers
      ≡ hits_text count searched numbers
  unfolding hits_text line spaced
  hits_parts = simp append_assoc

  pub hits_length : length (hits_text count searched numbers) ≡ 16 + length (digits count) + length (digits searched) + length (lines numbers)
  hits_length = ap length (sym hits_parts) ∙ simp length-append (omega arith)

  pub hits_put : {x y z u v : List ℕ} {a b c d : ℕ} → length (hits_text count searched numbers) ≤ length x
      → TextPut ((104 ∷ 105 ∷ 116 ∷ 115 ∷ 32 ∷ []) ++ digits count) x y 0 a
      → TextPut ((32 ∷ 115 ∷ 101 ∷ 97 ∷ 114 ∷ 99 ∷ 104 ∷ 101 ∷ 100 ∷ 32 ∷ []) ++ digits searched) y z a b
      → TextPut (10 ∷ []) z u b c → TextPut (lines numbers) u v c d → TextPut (hits_text count searched numbers) x v 0 d
  hits_put r p q o l =
      rw (sym hits_parts)
      (put_then (simp length-append (omega (arith, hits_length))) (put_three (omega (arith, hits_length)) p q o) l)

regroup : (w d x e y f n : List ℕ) → (((w ++ d) ++ (x ++ e)) ++ (y ++ f)) ++ n ≡ (w ++ (d ++ (x ++ (e ++ (y ++ f))))) ++ n
regroup w d x e y f n = simp append_assoc

module _ (number side place : ℕ) where
  pub refused_parts : ((((114 ∷ 101 ∷ 102 ∷ 117 ∷ 115 ∷ 101 ∷ 100 ∷ 32 ∷ []) ++ digits number)
      ++ ((32 ∷ []) ++ digits side)) ++ ((32 ∷ []) ++ digits place)) ++ (10 ∷ [])
      ≡ refused_text number side place
  unfolding refused_text line spaced
  refused_parts = regroup (114 ∷ 101 ∷ 102 ∷ 117 ∷ 115 ∷ 101 ∷ 100 ∷ 32 ∷ []) (digits number) (32 ∷ []) (digits side) (32 ∷ []) (digits place) (10 ∷ [])

  pub refused_length : length (refused_text number side place) ≡ 11 + length (digits number) + length (digits side) + length (digits place)
  refused_length = ap length (sym refused_parts) ∙ simp length-append (omega arith)

  pub refused_put : {x y z u v : List ℕ} {a b c d : ℕ} → length (refused_text number side place) ≤ length x
      → TextPut ((114 ∷ 101 ∷ 102 ∷ 117 ∷ 115 ∷ 101 ∷ 100 ∷ 32 ∷ []) ++ digits number) x y 0 a
      → TextPut ((32 ∷ []) ++ digits side) y z a b → TextPut ((32 ∷ []) ++ digits place) z u b c → TextPut (10 ∷ []) u v c d
      → TextPut (refused_text number side place) x v 0 d
  refused_put r p q o l =
      rw (sym refused_parts)
      (put_then (simp length-append (omega (arith, refused_length))) (put_three (omega (arith, refused_length)) p q o) l)

-- ---- how long an output can be

-- The bytes of the numbers below n, each on its own line.
unfoldable pub lines_room : ℕ → ℕ
lines_room zero = 0
lines_room (suc n) = lines_room n + suc (length (digits n))

room_64 : lines_room 64 ≡ 182
unfolding lines_room digits digits_in choose
room_64 = refl

room_more : (d n : ℕ) → lines_room n ≤ lines_room (n + d)
unfolding lines_room
room_more zero n = let z : n + 0 ≡ n = omega arith in rw z (omega arith)
room_more (suc d) n = let z : n + suc d ≡ suc (n + d) = omega arith in rw z (omega (arith, room_more d n))

room_within : (n : ℕ) → n ≤ 64 → lines_room n ≤ 182
room_within n h =
    let e : n + (64 - n) ≡ 64 = omega arith in
    let l : lines_room n ≤ lines_room (n + (64 - n)) = room_more (64 - n) n in
    omega (arith, ap lines_room e, room_64)

chosen_room : (n : ℕ) (b : Bool) → length (lines (choose b (n ∷ []) [])) ≤ suc (length (digits n))
unfolding choose lines
chosen_room n true = omega (arith, length-append (line (digits n)) [], line_length (digits n))
chosen_room n false = omega arith

-- Numbers below n, each once.
pub selected_room : (p : ℕ → Bool) (n : ℕ) → length (lines (select n p)) ≤ lines_room n
unfolding select lines_room
selected_room p zero = selected_none
  where
    selected_none : length (lines []) ≤ 0
    selected_none = unfold lines in omega arith
selected_room p (suc n) =
    omega (
      arith,
      ap length (lines_append (select n p) (choose (p n) (n ∷ []) [])),
      length-append (lines (select n p)) (lines (choose (p n) (n ∷ []) [])),
      chosen_room n (p n),
      selected_room p n,
    )

-- An answered query over at most 64 blocks.
pub most_hits : (count searched n : ℕ) (p : ℕ → Bool) → count ≤ 64 → searched ≤ 64 → n ≤ 64
    → length (hits_text count searched (select n p)) ≤ most_output
most_hits count searched n p a b h =
    omega (
      arith,
      hits_length count searched (select n p),
      digits_few 1 count (omega arith),
      digits_few 1 searched (omega arith),
      selected_room p n,
      room_within n h,
    )

-- Any refusal.
pub most_refused : (number side place : ℕ) → number < 256 → side < 256 → place < 2 ^ 64 → length (refused_text number side place) ≤ most_output
most_refused number side place a b h =
    omega (arith, refused_length number side place, digits_few 2 number (omega arith), digits_few 2 side (omega arith), digits_few 19 place (omega arith))
