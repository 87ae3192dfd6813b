-- The two walks over the mates, the one that counts the arcs and the one that counts those open: how far each has come, one step, and its end.
use mathlib.Core.Path.{◌≡◌, refl, ap, ◌∙◌}
use mathlib.Core.List.{List}
use Prim.Native.Nat.{ℕ, suc, ◌+◌, ◌-◌, ◌≤◌, ◌<◌, max}
use native.Mathlib.Omega.{arith}
use native.Mathlib.Numerals.{add-one}
use native.Mathlib.Decide.{dec_lt, dec_le, ℕ_discrete}
use lib.ListN.{length}
use lib.Dec.{ltb}
use mathlib.Core.Bool.{Bool, true, false}
use mir.Val.{bool_byte}
use borrow.Author.Tests.{lt-ltb, le-ltb}
use Rattle.lists.specs.Vocabulary.{nth, select}
use Rattle.lists.proofs.ListLaws.{select_short}
use Rattle.lists.proofs.Counts.{count, count_yes, count_no}
use Rattle.strand.specs.Strands.{Nested}
use Rattle.strand.specs.Folds.{begins, arc_count, depth_of, Chain}
use Rattle.strand.proofs.FoldLaws.{opened, open_at, open_left, open_none, open_right, open_chain, chain_bound, depth_only}

-- 1 exactly where a is below b, else 0.
abbrev pub Below : ℕ → ℕ → ℕ → Type 0
Below a b r = (a < b → r ≡ 1) × (b ≤ a → r ≡ 0)

-- What `usize::from(a < b)` answers.
pub below_bit : (a b : ℕ) → Below a b (bool_byte (ltb a b))
below_bit a b = ((λ h. ap bool_byte (lt-ltb a b h)), (λ h. ap bool_byte (le-ltb a b h)))

pub bit_most : (b : Bool) → bool_byte b ≤ 1
bit_most true = omega arith
bit_most false = omega arith

-- ---- the arcs

module _ (mates : List ℕ) where
  pub arcs_none : 0 ≡ count 0 (begins mates)
  arcs_none = unfold select in refl

  pub arcs_short : {i k : ℕ} → k ≡ count i (begins mates) → k ≤ i
  arcs_short {i} e = omega (arith, e, select_short (begins mates) i)

  -- b says whether an arc begins at i.
  pub arcs_next : {k : ℕ} (i b : ℕ) → Below i (nth mates i) b → k ≡ count i (begins mates) → k + b ≡ count (i + 1) (begins mates)
  unfolding begins
  arcs_next i b begun e = rw add-one (elim (dec_lt i (nth mates i)) [
    | yes h ↦ omega (arith, begun.0 h, count_yes (begins mates) i (lt-ltb i (nth mates i) h))
    | no h ↦ omega (arith, begun.1 (omega arith), count_no (begins mates) i (le-ltb i (nth mates i) (omega arith)))
  ])

  pub arcs_end : {i k : ℕ} → k ≡ count i (begins mates) → i ≤ length mates → length mates ≤ i → k ≡ arc_count mates
  unfolding arc_count
  arcs_end {i} e u v = let z : i ≡ length mates = omega arith in e ∙ ap (λ (x : ℕ). count x (begins mates)) z

-- ---- those open

-- j is the mate of i; b and e say whether an arc begins or ends at i.
module _ (mates : List ℕ) (i j b e : ℕ) (is_mate : j ≡ nth mates i) (begun : Below i j b) (ended : Below j i e) where
  open_step : Nested (nth mates) (length mates) → i < length mates → (e ≤ open_at mates i + b) × (open_at mates i + b - e ≡ open_at mates (i + 1))
  open_step N l = rw add-one (go (dec_lt i j) (dec_lt j i))
    where
      go : Dec (i < j) → Dec (j < i) → (e ≤ open_at mates i + b) × (open_at mates i + b - e ≡ open_at mates (suc i))
      go (yes h) d =
          let x : b ≡ 1 = begun.0 h in
          let y : e ≡ 0 = ended.1 (omega arith) in
          (omega arith, omega (arith, open_left mates N.paired i l (omega arith)))
      go (no h) (yes d) =
          let x : b ≡ 0 = begun.1 (omega arith) in
          let y : e ≡ 1 = ended.0 d in
          let z = open_right mates N.paired i l (omega arith) in
          (omega arith, omega arith)
      go (no h) (no d) =
          let x : b ≡ 0 = begun.1 (omega arith) in
          let y : e ≡ 0 = ended.1 (omega arith) in
          (omega arith, omega (arith, open_none mates N.paired i l (omega arith)))

-- The walk has come to i: the arcs open, and the most that were open at once.
pub record Walked (mates : List ℕ) (i level depth : ℕ) : Type 0 where
  pub upto : i ≤ length mates
  pub now_open : level ≡ open_at mates i
  pub reached : (left : ℕ → ℕ) × Chain mates depth left
  pub most : (j : ℕ) → j ≤ i → open_at mates j ≤ depth

module _ (mates : List ℕ) (N : Nested (nth mates) (length mates)) where
  pub depth_start : Walked mates 0 0 0
  depth_start =
      record {
        upto = omega arith;
        now_open = unfold select in refl;
        reached = ((λ x. x), record { arc = λ x l. absurd (omega arith); inside = λ x l. absurd (omega arith) });
        most = λ j l. let i : j ≡ 0 = omega arith in rw i (unfold select in (omega arith));
      }

  -- What is open fits: it is at most the number of bases passed.
  pub depth_short : {i level depth : ℕ} → Walked mates i level depth → level ≤ i
  depth_short {i} W = omega (arith, W.now_open, select_short (opened mates i) i)

  module _ {i level depth : ℕ} (W : Walked mates i level depth) (l : i < length mates) (j b e : ℕ) (is_mate : j ≡ nth mates i)
      (begun : Below i j b) (ended : Below j i e) where
    pub depth_safe : e ≤ level + b
    depth_safe = omega (arith, W.now_open, (open_step mates i j b e is_mate begun ended N l).0)

    pub depth_next : Walked mates (i + 1) (level + b - e) (max depth (level + b - e))
    depth_next =
        let o : level + b - e ≡ open_at mates (i + 1) = omega (arith, W.now_open, (open_step mates i j b e is_mate begun ended N l).1) in
        record {
          upto = omega arith;
          now_open = o;
          reached = elim (dec_le (level + b - e) depth) [
            | yes h ↦ let x : max depth (level + b - e) ≡ depth = omega arith in rw x W.reached
            | no h ↦
                let x : max depth (level + b - e) ≡ open_at mates (i + 1) = omega arith in
                rw x (nth (select (i + 1) (opened mates (i + 1))), open_chain mates N (i + 1) (omega arith))
          ];
          most = λ k h. elim (ℕ_discrete k (i + 1)) [
            | yes q ↦ omega (arith, o, ap (open_at mates) q)
            | no q ↦ omega (arith, W.most k (omega arith))
          ];
        }

  pub depth_end : {i level depth : ℕ} → Walked mates i level depth → length mates ≤ i → depth ≡ depth_of mates
  depth_end {i} {level} {depth} W h =
      depth_only mates record { reached = W.reached; most = λ k left C. chain_bound mates k left C depth (λ j l. W.most j (omega (arith, W.upto))) }
