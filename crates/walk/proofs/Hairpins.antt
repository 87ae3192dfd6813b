-- An arc of the molecule by two entries of its inner row, and a hairpin: an arc with no arc inside. The bases inside a hairpin are unbonded, so no arc leaves
-- what was walked of them, and each takes the motif on by itself.
use Prim.Native.Nat.{ℕ, suc, ◌+◌, ◌≤◌, ◌<◌}
use mathlib.Core.Path.{◌≡◌, refl}
use mathlib.Core.Bool.{Bool, true, false}
use mathlib.Core.List.{List}
use native.Mathlib.Decide.{ℕ_discrete}
use native.Mathlib.Numerals.{add-one}
use native.Mathlib.Omega.{arith}
use lib.Dec.{eqb}
use lib.ListN.{length}
use borrow.Author.Tests.{eq-eqb, ne_eqb}
use Rattle.lists.specs.Vocabulary.{nth, choose}
use Rattle.lists.proofs.ListLaws.{choose_yes, choose_no}
use Rattle.embedding.specs.Embedding.{letters_fit}
use Rattle.embedding.specs.Row.{Best, IsRow, unit_at, arc_at}
use Rattle.embedding.proofs.Answers.{clash}
use Rattle.embedding.proofs.Recurrence.{combine}
use Rattle.embedding.proofs.Rows.{unit_best, arc_best}
use Rattle.rows.specs.Rows.{matches}
use Rattle.arcs.specs.Arcs.{Setting}
use Rattle.walk.specs.Walk.{Unbonded}

module _ (qm : List ℕ) (lo : ℕ) where
  pub unbonded_none : Unbonded qm lo lo
  unbonded_none = record { alone = λ u a b. absurd (omega arith) }

  pub unbonded_more : (i : ℕ) → Unbonded qm lo i → nth qm i ≡ i → Unbonded qm lo (i + 1)
  unbonded_more i U e = record { alone = λ u a b. elim (ℕ_discrete u i) [ yes t ↦ rw (t, e) | no t ↦ U.alone u a (omega arith) ] }

  pub unbonded_end : (i hi : ℕ) → hi ≤ i → Unbonded qm lo i → Unbonded qm lo hi
  unbonded_end i hi h U = record { alone = λ u a b. U.alone u a (omega arith) }

  pub bonded : (i hi : ℕ) → lo ≤ i → i < hi → (nth qm i ≡ i → ⊥) → Unbonded qm lo hi → ⊥
  bonded i hi a b n U = n (U.alone i a b)

-- One more unbonded base.
pub loop_step : (p pm q : List ℕ) {qm : List ℕ} {from lo hi : ℕ} (k i : ℕ) → Unbonded qm lo hi → lo ≤ i → i < hi
    → Best (letters_fit p q) (nth pm) (nth qm) (length p) from k lo i
    → Best (letters_fit p q) (nth pm) (nth qm) (length p) from (unit_at (matches p (nth q i)) (nth pm) (length p) k) lo (i + 1)
loop_step p pm q k i U a b B =
    rw (add-one i) (combine a (omega arith) (λ u x y z. absurd (omega (arith, U.alone u x (omega arith)))) B (unit_best k i B.reach.upto))

-- The arc (l, r), which is come to with `from`. What lies inside takes the motif from `from` to `here`, and, where `from` matches the left end,
-- from the next position to `next`.
module _ {p pm q qm : List ℕ} {from l r : ℕ} (here next : ℕ) (S : Setting p pm q qm from (length p)) (lr : l < r) (rn : r < length q) (arc : nth qm l ≡ r)
    (H : Best (letters_fit p q) (nth pm) (nth qm) (length p) from here (l + 1) r)
    (N : letters_fit p q from l ≡ true → Best (letters_fit p q) (nth pm) (nth qm) (length p) (from + 1) next (l + 1) r) where
  entry : ℕ → ℕ
  entry k = choose (eqb k from) here next

  first : entry from ≡ here
  unfolding entry
  first = choose_yes (eqb from from) here next (eq-eqb from from refl)

  second : entry (from + 1) ≡ next
  unfolding entry
  second = choose_no (eqb (from + 1) from) here next (ne_eqb (from + 1) from (λ e. omega arith))

  -- The row of the one entry, or of both.
  one : IsRow (letters_fit p q) (nth pm) (nth qm) from from (length p) (l + 1) r entry
  one = record { best = λ j a b. let i : j ≡ from = omega arith in rw (i, first) H }

  both : Best (letters_fit p q) (nth pm) (nth qm) (length p) (from + 1) next (l + 1) r
      → IsRow (letters_fit p q) (nth pm) (nth qm) from (from + 1) (length p) (l + 1) r entry
  both B =
      record {
        best = λ j a b. elim (ℕ_discrete j from) [
          | yes i ↦ rw (i, first) H
          | no n ↦ let i : j ≡ from + 1 = omega arith in rw (i, second) B
        ];
      }

  by_row : {hi : ℕ} → IsRow (letters_fit p q) (nth pm) (nth qm) from hi (length p) (l + 1) r entry → from ≤ hi
      → (letters_fit p q from l ≡ true → from + 1 ≤ hi)
      → Best (letters_fit p q) (nth pm) (nth qm) (length p) from
      (arc_at (matches p (nth q l)) (matches p (nth q r)) (nth pm) (length p) (entry from) (entry (from + 1)) from) l (r + 1)
  by_row {hi} R h g =
      let R' : IsRow (letters_fit p q) (nth pm) (nth qm) from hi (length p) (suc l) r entry = rw (← (add-one l)) R in
      rw (add-one r, add-one from) (arc_best S.motif S.segment.ends S.molecule lr rn arc R' from (omega arith) h (λ a t. omega (arith, g t)))

  pub arc_of_two : Best (letters_fit p q) (nth pm) (nth qm) (length p) from
      (arc_at (matches p (nth q l)) (matches p (nth q r)) (nth pm) (length p) here next from) l (r + 1)
  arc_of_two = rw (first, second) at (go (letters_fit p q from l) refl)
    where
      go : (b : Bool) → letters_fit p q from l ≡ b → Best (letters_fit p q) (nth pm) (nth qm) (length p) from
          (arc_at (matches p (nth q l)) (matches p (nth q r)) (nth pm) (length p) (entry from) (entry (from + 1)) from) l (r + 1)
      go true t = by_row (both (N t)) (omega arith) (λ u. omega arith)
      go false t = by_row one (omega arith) (λ u. absurd (clash t u))
