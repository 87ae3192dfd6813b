-- The walk over the top of a stretch, from left to right: one step, and its end.
use Prim.Native.Nat.{ℕ, suc, ◌+◌, ◌-◌, ◌≤◌, ◌<◌, min}
use mathlib.Core.Path.{◌≡◌, subst}
use mathlib.Core.Bool.{Bool}
use mathlib.Core.List.{List}
use native.Mathlib.Numerals.{add-one}
use native.Mathlib.Omega.{arith}
use lib.ListN.{length}
use Rattle.lists.specs.Vocabulary.{nth}
use Rattle.strand.specs.Strands.{Nested}
use Rattle.embedding.specs.Embedding.{letters_fit}
use Rattle.embedding.specs.Row.{Best, IsRow, unit_at, arc_at}
use Rattle.embedding.proofs.Recurrence.{later, empty, combine}
use Rattle.embedding.proofs.Segment.{widen}
use Rattle.embedding.proofs.Rows.{unit_best, arc_best}
use Rattle.rows.specs.Rows.{matches}
use Rattle.arcs.specs.Arcs.{Setting, Sealed}
use Rattle.arcs.proofs.Arcs.{seal_on}
use Rattle.placing.specs.Placing.{Walked}

-- A segment within a segment.
pub narrow : {p pm q qm : List ℕ} {from to : ℕ} (a z : ℕ) → Setting p pm q qm from to → a ≤ z → z ≤ length p → Setting p pm q qm a z
narrow a z S h g =
    record {
      segment = record { same = S.segment.same; small = S.segment.small; order = h; ends = g };
      motif = S.motif;
      equal = S.equal;
      short = S.short;
      bases = S.bases;
      molecule = S.molecule;
    }

pub all_sealed : {qm : List ℕ} {n : ℕ} → Nested (nth qm) n → Sealed qm 0 n
all_sealed N = record { low = λ u a b. omega arith; high = λ u a b. N.inside u b }

none_sealed : (qm : List ℕ) (s : ℕ) → Sealed qm s s
none_sealed qm s = record { low = λ u a b. absurd (omega arith); high = λ u a b. absurd (omega arith) }

module _ {fit : ℕ → ℕ → Bool} {f g : ℕ → ℕ} {m : ℕ} where
  -- A stretch and the next.
  best_on : {j k k' lo s e : ℕ} → lo ≤ s → s ≤ e → ((u : ℕ) → lo ≤ u → u < s → g u < s) → Best fit f g m j k lo s → Best fit f g m k k' s e
      → Best fit f g m j k' lo e
  best_on ls se Z B B' = combine ls se (λ u a b d. absurd (omega (arith, Z u a b))) B B'

  -- All of P is taken before the stretch ends.
  pub best_all : {j k lo s e : ℕ} → s ≤ e → m ≤ k → Best fit f g m j k lo s → Best fit f g m j k lo e
  best_all {j} {k} {lo} {s} {e} se h B =
      record {
        reach = later j lo e (omega arith) B.reach.from (omega arith) se B.reach;
        most = λ k' R. omega (arith, R.upto);
      }

  pub best_end : {j k lo s e : ℕ} → s ≤ e → e ≤ s → Best fit f g m j k lo s → Best fit f g m j k lo e
  best_end {j} {k} {lo} {s} {e} a b B = let i : s ≡ e = omega arith in rw i at B

-- An arc's entry in a segment that is as long as the arc.
module _ {p pm q qm : List ℕ} {j to : ℕ} (z l r : ℕ) (S : Setting p pm q qm j to) (jt : j < to) (e : z ≡ min to (j + (r + 1 - l)))
    (lr : l < r) (rn : r < length q) (arc : nth qm l ≡ r) where
  pub segment_low : j < z
  segment_low = omega arith

  pub segment_high : z ≤ to
  segment_high = omega arith

  pub segment_of : Setting p pm q qm j z
  segment_of = narrow j z S (omega (arith, segment_low)) (omega (arith, segment_high, S.segment.ends))

  module _ {row : ℕ → ℕ} (A : IsRow (letters_fit p q) (nth pm) (nth qm) j z z (l + 1) r row) where
    inner : IsRow (letters_fit p q) (nth pm) (nth qm) j z z (suc l) r row
    inner = rw (← (add-one l)) A

    pub segment_best : Best (letters_fit p q) (nth pm) (nth qm) to j (arc_at (matches p (nth q l)) (matches p (nth q r)) (nth pm) z (row j) (row (j + 1)) j) l
        (r + 1)
    segment_best =
        rw (add-one r, add-one j)
        (widen segment_high (λ h. omega arith)
        (arc_best S.motif (omega (arith, segment_high, S.segment.ends)) S.molecule lr rn arc inner j (omega arith) (omega (arith, segment_low))
        (λ a t. a)))

module _ {p pm q qm : List ℕ} {to from lo hi : ℕ} where
  pub walked_none : from ≤ to → lo ≤ hi → Walked p pm q qm to from lo hi from lo
  walked_none h g = record { low = omega arith; high = g; seal = none_sealed qm lo; best = empty from lo h }

  module _ {n j i : ℕ} (N : Nested (nth qm) n) (hn : hi ≤ n) (O : Sealed qm lo hi) (T : Walked p pm q qm to from lo hi j i) (ih : i < hi) (r : ℕ)
      (e : r ≡ nth qm i) where
    pub walked_up : i ≤ r
    walked_up = omega (arith, (seal_on N i O hn T.low ih T.seal).1)

    pub walked_in : r < hi
    walked_in = omega (arith, O.high i T.low ih)

    pub walked_step : (k : ℕ) → Best (letters_fit p q) (nth pm) (nth qm) to j k i (r + 1) → Walked p pm q qm to from lo hi k (r + 1)
    walked_step k B =
        let Z : Sealed qm lo (r + 1) = rw (add-one r, e) (seal_on N i O hn T.low ih T.seal).0 in
        let up = walked_up in
        record {
          low = omega (arith, T.low, up);
          high = omega (arith, walked_in);
          seal = Z;
          best = best_on T.low (omega (arith, up)) T.seal.high T.best B;
        }

    -- An unbonded base.
    pub walked_unit : r ≤ i → j ≤ to → Best (letters_fit p q) (nth pm) (nth qm) to j (unit_at (matches p (nth q i)) (nth pm) to j) i (r + 1)
    walked_unit h jt =
        let z : r + 1 ≡ suc i = omega (arith, walked_up) in
        rw z (unit_best j i jt)

    pub walked_past : r ≤ i → j ≤ to → Walked p pm q qm to from lo hi (unit_at (matches p (nth q i)) (nth pm) to j) (i + 1)
    walked_past h jt =
        let z : r ≡ i = omega (arith, walked_up) in
        subst (λ (x : ℕ). Walked p pm q qm to from lo hi (unit_at (matches p (nth q i)) (nth pm) to j) (x + 1)) z (walked_step _ (walked_unit h jt))
