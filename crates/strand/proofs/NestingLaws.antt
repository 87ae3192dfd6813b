-- Nesting: the arcs that hold the mates of all bases inside them are those that no arc crosses.
use mathlib.Core.Path.{◌≡◌, refl, ap, ◌∙◌}
use mathlib.Core.Bool.{Bool, true, false, not}
use mathlib.Core.List.{List}
use Prim.Native.Nat.{ℕ, ◌+◌, ◌-◌, ◌≤◌, ◌<◌}
use native.Mathlib.Decide.{dec_lt, ℕ_discrete}
use native.Mathlib.Omega.{arith}
use lib.ListN.{length}
use lib.Dec.{ltb, leb, eqb}
use borrow.Author.Tests.{lt-ltb, le-ltb, leb-false, eqb-true}
use Rattle.lists.specs.Vocabulary.{nth, some}
use Rattle.strand.specs.Strands.{mate_outside, not_mutual, crosses, crossed_at, Inside, Paired, Apart}
use Rattle.strand.specs.Nesting.{Closes}
use Rattle.lists.proofs.ListLaws.{not_not, some_no, some_none}

-- ---- the test of two arcs

module _ (a b i j : ℕ) where
  pub cross_yes : a < i → i < b → b < j → crosses a b i j ≡ true
  unfolding crosses
  cross_yes u v w = rw (lt-ltb a i u, lt-ltb i b v, lt-ltb b j w)

  pub cross_below : i ≤ a → crosses a b i j ≡ false
  unfolding crosses
  cross_below u = rw (le-ltb a i u)

  pub cross_ended : a < i → b ≤ i → crosses a b i j ≡ false
  unfolding crosses
  cross_ended u v = rw (lt-ltb a i u, le-ltb i b v)

  pub cross_last : a < i → i < b → crosses a b i j ≡ ltb b j
  unfolding crosses
  cross_last u v = rw (lt-ltb a i u, lt-ltb i b v)

-- ---- what the code found at one position

-- b is what the branch knows.
pub range_test : (mates : List ℕ) (i : ℕ) (b : Bool) → leb (length mates) (nth mates i) ≡ b → mate_outside mates i ≡ b
unfolding mate_outside
range_test mates i b e = e

pub mutual_test : (mates : List ℕ) (i : ℕ) (b : Bool) → not (eqb (nth mates (nth mates i)) i) ≡ b → not_mutual mates i ≡ b
unfolding not_mutual
mutual_test mates i b e = e

-- ---- no crossing, as a test and as a proposition

module _ (mates : List ℕ) (n : ℕ) where
  pub uncrossed_apart : ((i : ℕ) → i < n → crossed_at mates i ≡ false) → Apart (nth mates) n
  unfolding crossed_at
  uncrossed_apart h a i l u v w =
      let x : crosses a (nth mates a) i (nth mates i) ≡ false = some_none (λ k. crosses k (nth mates k) i (nth mates i)) i a (h i l) u in
      let y : crosses a (nth mates a) i (nth mates i) ≡ true = cross_yes a (nth mates a) i (nth mates i) u v w in
      let z : ◌≡◌ {A = ℕ} 0 1 = cc in omega arith

  pub apart_uncrossed : Apart (nth mates) n → (i : ℕ) → i < n → crossed_at mates i ≡ false
  unfolding crossed_at
  apart_uncrossed h i l =
      some_no (λ k. crosses k (nth mates k) i (nth mates i)) i (λ a u. clear a u (dec_lt i (nth mates a)) (dec_lt (nth mates a) (nth mates i)))
    where
      clear : (a : ℕ) → a < i → Dec (i < nth mates a) → Dec (nth mates a < nth mates i) → crosses a (nth mates a) i (nth mates i) ≡ false
      clear a u (no x) y = cross_ended a (nth mates a) i (nth mates i) u (omega arith)
      clear a u (yes x) (no y) = cross_last a (nth mates a) i (nth mates i) u x ∙ le-ltb (nth mates a) (nth mates i) (omega arith)
      clear a u (yes x) (yes y) = absurd (h a i l u x y)

-- ---- arcs that hold their inside

module _ (mate : ℕ → ℕ) (n : ℕ) where
  pub closes_apart : ((k : ℕ) → k < n → Closes mate k) → Apart mate n
  closes_apart h a i l u v w = let z = h a (omega arith) i u v in omega arith

  pub apart_closes : Inside mate n → Paired mate n → Apart mate n → (k : ℕ) → k < n → Closes mate k
  apart_closes I P h k l u a b = go (dec_lt u (mate u))
    where
      in_n : u < n
      in_n = omega (arith, I k l)

      back : mate (mate u) ≡ u
      back = P u in_n

      not_end : mate u ≡ mate k → ⊥
      not_end e = omega (arith, ap mate e, back, P k l)

      not_start : mate u ≡ k → ⊥
      not_start e = omega (arith, ap mate e, back)

      go : Dec (u < mate u) → (k < mate u) × (mate u < mate k)
      go (yes x) = (omega arith, upper (dec_lt (mate k) (mate u)))
        where
          upper : Dec (mate k < mate u) → mate u < mate k
          upper (yes y) = absurd (h k u in_n a b y)
          upper (no y) = elim (ℕ_discrete (mate u) (mate k)) [ yes e ↦ absurd (not_end e) | no e ↦ omega arith ]
      go (no x) = (lower (dec_lt (mate u) k), omega arith)
        where
          lower : Dec (mate u < k) → k < mate u
          lower (yes y) = absurd (h (mate u) k l y (omega (arith, back)) (omega (arith, back)))
          lower (no y) = elim (ℕ_discrete (mate u) k) [ yes e ↦ absurd (not_start e) | no e ↦ omega arith ]

-- ---- the walk over the inside of one arc

-- The walk from i + 1 has come to k: the mates of the bases passed lie among them.
pub record Passed (mate : ℕ → ℕ) (i k : ℕ) : Type 0 where
  pub begun : i < k
  pub mates_in_lem : (u : ℕ) → i < u → u < k → (i < mate u) × (mate u < k)

module _ (mate : ℕ → ℕ) (n : ℕ) (P : Paired mate n) (i : ℕ) where
  pub walk_start : Passed mate i (i + 1)
  walk_start = record { begun = omega arith; mates_in_lem = λ u a b. absurd (omega arith) }

  -- A base whose mate was passed, or lies past the end: the arc does not close.
  pub walk_back : (k : ℕ) → i < k → k < n → Passed mate i k → k < mate i → mate k < k → Closes mate i → ⊥
  walk_back k l h W b e C = let x = C k l b in let y = W.mates_in_lem (mate k) x.0 e in omega (arith, P k h)

  pub walk_past : (k : ℕ) → i < k → k < mate i → mate i ≤ mate k → Closes mate i → ⊥
  walk_past k l b e C = let x = C k l b in omega arith

  -- A jump over the base k, or the arc that begins there.
  pub walk_jump : (k : ℕ) → k < n → Passed mate i k → k ≤ mate k → (k < mate k → Closes mate k) → Passed mate i (mate k + 1)
  walk_jump k h W e C = record { begun = omega arith; mates_in_lem = inside }
    where
      inside : (u : ℕ) → i < u → u < mate k + 1 → (i < mate u) × (mate u < mate k + 1)
      inside u a b = go (dec_lt u k) (ℕ_discrete u k) (ℕ_discrete u (mate k))
        where
          go : Dec (u < k) → Dec (u ≡ k) → Dec (u ≡ mate k) → (i < mate u) × (mate u < mate k + 1)
          go (yes x) y z = let w = W.mates_in_lem u a x in (omega arith, omega arith)
          go (no x) (yes y) z = (omega (arith, ap mate y), omega (arith, ap mate y))
          go (no x) (no y) (yes z) = (omega (arith, ap mate z, P k h), omega (arith, ap mate z, P k h))
          go (no x) (no y) (no z) = let w = C (omega arith) u (omega arith) (omega arith) in (omega arith, omega arith)

  pub walk_end : (k : ℕ) → Passed mate i k → mate i ≤ k → (i < mate i → k ≤ mate i) → Closes mate i
  walk_end k W a b u l h = let w = W.mates_in_lem u l (omega arith) in let z = b (omega arith) in (omega arith, omega arith)

-- ---- all arcs, from the last to the first

pub closes_more : (mate : ℕ → ℕ) (n i : ℕ) → 0 < i → Closes mate (i - 1) → ((k : ℕ) → i ≤ k → k < n → Closes mate k)
    → (k : ℕ) → i - 1 ≤ k → k < n → Closes mate k
closes_more mate n i h C rest k a l = elim (ℕ_discrete (i - 1) k) [ yes e ↦ rw e at C | no e ↦ rest k (omega arith) l ]

module _ (mates : List ℕ) where
  pub crossed_none : ((k : ℕ) → k < length mates → Closes (nth mates) k) → some (length mates) (crossed_at mates) ≡ false
  crossed_none h = some_no (crossed_at mates) (length mates) (apart_uncrossed mates (length mates) (closes_apart (nth mates) (length mates) h))

  pub crossed_some : Inside (nth mates) (length mates) → Paired (nth mates) (length mates) → (i : ℕ) → i < length mates → (Closes (nth mates) i → ⊥)
      → some (length mates) (crossed_at mates) ≡ true
  crossed_some I P i l h = go (some (length mates) (crossed_at mates)) refl
    where
      go : (b : Bool) → some (length mates) (crossed_at mates) ≡ b → some (length mates) (crossed_at mates) ≡ true
      go true e = e
      go false e =
          absurd (h (apart_closes (nth mates) (length mates) I P
          (uncrossed_apart mates (length mates) (λ k u. some_none (crossed_at mates) (length mates) k e u)) i l))

-- ---- mates in range and mutual, as tests and as propositions

module _ (ms : List ℕ) where
  pub inside_of : ((i : ℕ) → i < length ms → mate_outside ms i ≡ false) → Inside (nth ms) (length ms)
  unfolding mate_outside
  inside_of h i l = leb-false (length ms) (nth ms i) (h i l)

  pub paired_of : ((i : ℕ) → i < length ms → not_mutual ms i ≡ false) → Paired (nth ms) (length ms)
  unfolding not_mutual
  paired_of h i l = eqb-true _ _ (not_not _ (h i l))
