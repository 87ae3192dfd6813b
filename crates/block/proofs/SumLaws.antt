-- The weighted sum of a block: one byte more, a bound, the bytes it depends on, and one byte changed. The checksum of whole blocks and of less.
use mathlib.Core.Path.{◌≡◌, refl, sym, ap, ap₂, ◌∙◌}
use mathlib.Core.List.{List, [], ◌∷◌, ◌++◌, append-nil, append_assoc}
use mathlib.Core.Logic.{⊎_elim}
use Prim.Native.Nat.{ℕ, zero, suc, ◌+◌, ◌*◌, ◌<◌, ◌≤◌}
use native.Mathlib.Omega.{arith}
use native.Mathlib.Nat.{mul-le-mul, le_of_suc-le-suc, not-suc-le-zero, eq-or-lt_of_le}
use native.Mathlib.Numerals.{add-one}
use lib.ListN.{length, set, take, drop, length-append, get_or-append}
use lib.Seq.{get_or-set_same, get_or-set_other, get_or-append-add, sets-eq, drop-drop}
use borrow.Rule.Slice.PartMut.{put_mid}
use borrow.Author.Tests.{le-leb, lt-leb}
use Rattle.lists.specs.Vocabulary.{nth}
use Rattle.lists.proofs.ListLaws.{choose_yes, choose_no}
use Rattle.octets.specs.Octets.{Bytes, bytes32}
use Rattle.block.specs.Content.{sum_to, checksum_of, rechecked}
use Rattle.block.specs.Inner.{rechecked_whole}

pub sum_none : (s : List ℕ) → sum_to s 0 ≡ 0
unfolding sum_to
sum_none s = refl

pub sum_more : (s : List ℕ) (i : ℕ) → sum_to s (i + 1) ≡ sum_to s i + (i + 1) * nth s i
unfolding sum_to
sum_more s i = rw add-one

pub term_small : (i b : ℕ) → i < 508 → b < 256 → (i + 1) * b ≤ 129540
term_small i b hi hb = mul-le-mul {n₂ = 508} {m₂ = 255} (omega arith) (omega arith)

-- The sum over the first n bytes depends on those alone.
pub sum_append : (p q : List ℕ) (n : ℕ) → n ≤ length p → sum_to (p ++ q) n ≡ sum_to p n
unfolding sum_to
sum_append p q zero h = refl
sum_append p q (suc n) h =
    ap₂ (λ (x y : ℕ). x + suc n * y) (sum_append p q n (omega arith)) (get_or-append p q 0 n h)

-- ---- one byte changed

-- Outside the first n bytes.
pub sum_set_out : (s : List ℕ) (i v n : ℕ) → n ≤ i → sum_to (set s i v) n ≡ sum_to s n
unfolding sum_to
sum_set_out s i v zero h = refl
sum_set_out s i v (suc n) h =
    ap₂ (λ (x y : ℕ). x + suc n * y) (sum_set_out s i v n (omega arith)) (get_or-set_other s i n v 0 (omega arith))

-- Within them.
pub sum_set : (s : List ℕ) (i v n : ℕ) → i < length s → i < n → sum_to (set s i v) n + suc i * nth s i ≡ sum_to s n + suc i * v
unfolding sum_to
sum_set s i v zero hs h = absurd (not-suc-le-zero h)
sum_set s i v (suc n) hs h = ⊎_elim here (λ l. there l (sum_set s i v n hs l)) (eq-or-lt_of_le (le_of_suc-le-suc h))
  where
    here : i ≡ n → sum_to (set s i v) n + suc n * nth (set s i v) n + suc i * nth s i ≡ sum_to s n + suc n * nth s n + suc i * v
    here q = rw (← q, sum_set_out s i v i (omega arith), get_or-set_same s i v 0 hs) (omega arith)

    there : i < n → sum_to (set s i v) n + suc i * nth s i ≡ sum_to s n + suc i * v
        → sum_to (set s i v) n + suc n * nth (set s i v) n + suc i * nth s i ≡ sum_to s n + suc n * nth s n + suc i * v
    there l ih = rw (get_or-set_other s i n v 0 (omega arith)) (omega arith)

-- A sum of bytes stays small.
pub sum_small : (s : List ℕ) (n : ℕ) → Bytes s → n ≤ 508 → sum_to s n ≤ 129540 * n
unfolding sum_to
sum_small s zero hs h = omega arith
sum_small s (suc n) hs h =
    let ih : sum_to s n ≤ 129540 * n = sum_small s n hs (omega arith) in
    omega (arith, term_small n (nth s n) (omega arith) (hs n))

-- ---- in one walk over a list, which antt computes for a whole block

-- The weights of the entries are k, k + 1, ..
unfoldable pub weighed : ℕ → List ℕ → ℕ
weighed k [] = 0
weighed k (x ∷ s) = k * x + weighed (suc k) s

walk_last : (p : List ℕ) (x : ℕ) → sum_to (p ++ (x ∷ [])) (suc (length p)) ≡ sum_to p (length p) + suc (length p) * x
unfolding sum_to
walk_last p x = ap₂ (λ (y z : ℕ). y + suc (length p) * z) (sum_append p (x ∷ []) (length p) (omega arith)) there
  where
    here : length p ≡ length p + 0
    here = omega arith

    there : nth (p ++ (x ∷ [])) (length p) ≡ x
    there = ap (nth (p ++ (x ∷ []))) here ∙ get_or-append-add p (x ∷ []) 0 0

walk_from : (p s : List ℕ) → sum_to (p ++ s) (length p + length s) ≡ sum_to p (length p) + weighed (suc (length p)) s
unfolding weighed
walk_from p [] = let e : length p + 0 ≡ length p = omega arith in ap₂ sum_to (append-nil p) e ∙ omega arith
walk_from p (x ∷ s) = ap₂ sum_to (sym (append_assoc p (x ∷ []) s)) next ∙ walk_from (p ++ (x ∷ [])) s ∙ rw more (omega (arith, walk_last p x))
  where
    more : length (p ++ (x ∷ [])) ≡ suc (length p)
    more = length-append p (x ∷ []) ∙ omega arith

    next : length p + suc (length s) ≡ length (p ++ (x ∷ [])) + length s
    next = omega (arith, more)

pub sum_walk : (s : List ℕ) → sum_to s (length s) ≡ weighed 1 s
unfolding sum_to
sum_walk s = let e : length s ≡ 0 + length s = omega arith in ap (sum_to s) e ∙ walk_from [] s ∙ omega arith

-- ---- whole blocks, and less

module _ (s : List ℕ) where
  pub rechecked_short : length s < 512 → s ≡ rechecked_whole s
  unfolding rechecked_whole
  rechecked_short h = sym (choose_no _ (rechecked s) s (lt-leb 512 (length s) h))

  pub rechecked_whole_lem : 512 ≤ length s → rechecked_whole s ≡ rechecked s
  unfolding rechecked_whole
  rechecked_whole_lem h = choose_yes _ (rechecked s) s (le-leb 512 (length s) h)

  -- The four bytes of the sum put into bytes 508 to 511.
  pub checksum_put : (p : List ℕ) (x : ℕ) → 512 ≤ length s → x ≡ sum_to s 508 → p ≡ bytes32 x → put_mid 508 4 s p ≡ rechecked_whole s
  unfolding rechecked checksum_of
  checksum_put p x h ex ep =
      ap (put_mid 508 4 s) (ep ∙ ap bytes32 ex)
      ∙ ap (λ (l : List ℕ). take 508 s ++ (bytes32 (sum_to s 508) ++ l)) (drop-drop 4 508 s)
      ∙ sym (append_assoc (take 508 s) (bytes32 (sum_to s 508)) (drop 512 s))
      ∙ sym (sets-eq (bytes32 (sum_to s 508)) s 508 (omega arith))
      ∙ sym (rechecked_whole_lem h)
