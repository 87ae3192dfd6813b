-- Pieces of text, one after another, by the records of the writers.
use Prim.Native.Nat.{ℕ, ◌+◌, ◌/◌, ◌%◌, ◌<◌, ◌≤◌}
use native.Mathlib.Omega.{arith}
use mathlib.Core.Path.{refl, ap, ◌∙◌}
use mathlib.Core.List.{List, [], ◌∷◌, ◌++◌}
use lib.ListN.{length, take, length-append}
use lib.Seq.{take-length}
use Rattle.lists.specs.Vocabulary.{nth}
use Rattle.screening.specs.Text.{digit, digits, line, lines}
use Rattle.screening.specs.Writing.{Puts}
use Rattle.screening.specs.declared.text.Text.{Text}
use Rattle.screening.proofs.TextLaws as law

pub then : {s t : List ℕ} {x y z : Text} → x.len + length s ≤ length x.out.now → Puts s x y → Puts t y z → Puts (s ++ t) x z
then h p q = record { same = q.same ∙ p.same; put = law.put_then h p.put q.put; size = q.size ∙ p.size }

none : (x : Text) → Puts [] x x
none x = record { same = refl; put = law.put_none x.out.now x.len; size = refl }

pub lines_none : (x : Text) → Puts (lines []) x x
unfolding lines
lines_none x = none x

-- A number: its one digit, or its front digits and the last.
module _ (n : ℕ) {x y : Text} where
  pub number_small : n < 10 → Puts (digit n ∷ []) x y → Puts (digits n) x y
  number_small h p = rw (law.digits_small n h) p

  pub number_more : {z : Text} → 10 ≤ n → x.len + length (digits n) ≤ length x.out.now → Puts (digits (n / 10)) x y → Puts (digit (n % 10) ∷ []) y z
      → Puts (digits n) x z
  number_more h r p q = rw (law.digits_more n h) (then (omega (arith, r, law.digits_length n h)) p q)

pub number_line : (n : ℕ) {x y z : Text} → x.len + length (line (digits n)) ≤ length x.out.now → Puts (digits n) x y → Puts (10 ∷ []) y z
    → Puts (line (digits n)) x z
unfolding line
number_line n r p q = then (omega (arith, r, law.line_length (digits n))) p q

-- One line more.
module _ (ns : List ℕ) {x y : Text} (i : ℕ) (l : i < length ns) (r : x.len + length (lines ns) ≤ length x.out.now) (p : Puts (lines (take i ns)) x y) where
  up_to : (k : ℕ) → k ≤ length ns → length (lines (take k ns)) ≤ length (lines ns)
  up_to k h = rw (take-length ns) at (law.lines_within ns k (length ns) h)

  pub line_room : y.len + length (line (digits (nth ns i))) ≤ length y.out.now
  line_room =
      omega (
        arith,
        r,
        p.put.past,
        p.size,
        ap length (law.lines_more ns i l),
        length-append (lines (take i ns)) (line (digits (nth ns i))),
        up_to (i + 1) (omega (arith, l)),
      )

  pub line_next : {z : Text} → Puts (line (digits (nth ns i))) y z → Puts (lines (take (i + 1) ns)) x z
  line_next q = rw (law.lines_more ns i l) (then (omega (arith, r, up_to i (omega (arith, l)))) p q)
