-- The whole motif and the whole molecule: what the walk asks for, room for the rows, an arc on the way, and the end of the walk that gives the length.
use Prim.Native.Nat.{ℕ, suc, ◌+◌, ◌-◌, ◌*◌, ◌≤◌, ◌<◌}
use mathlib.Core.Path.{◌≡◌, sym, ap}
use mathlib.Core.List.{List}
use native.Mathlib.Numerals.{add-one}
use native.Mathlib.Omega.{arith}
use lib.ListN.{length}
use Rattle.lists.specs.Vocabulary.{nth}
use Rattle.letters.specs.Letters.{letters_match}
use Rattle.strand.specs.Strands.{Proper, least_motif, least_molecule, greatest_length}
use Rattle.embedding.specs.Embedding.{letters_fit}
use Rattle.embedding.specs.Row.{Best, arc_at}
use Rattle.embedding.specs.Longest.{longest}
use Rattle.embedding.proofs.Recurrence.{unique, later, empty}
use Rattle.embedding.proofs.Bounds.{bounds_end}
use Rattle.embedding.proofs.Computed.{longest_best}
use Rattle.refusals.specs.Rules.{motif_side, molecule_side, work_size}
use Rattle.rows.specs.Rows.{matches, bound_at}
use Rattle.rows.proofs.TableLaws.{tables_kept}
use Rattle.arcs.specs.Arcs.{Setting, Room, Bounded, RowOf}
use Rattle.arcs.proofs.Arcs.{room_any}
use Rattle.arcs.proofs.Made.{starts}
use Rattle.placing.specs.Placing.{Walked}
use Rattle.placing.proofs.Top.{best_all, best_end}
use Rattle.walk.specs.Walk.{TablesFor}
use Rattle.walk.proofs.Hairpins.{arc_of_two}

-- A proper motif and a proper molecule are what the walk over the whole motif asks for.
pub whole_setting : {p pm q qm : List ℕ} → Proper motif_side least_motif greatest_length p pm → Proper molecule_side least_molecule greatest_length q qm
    → Setting p pm q qm 0 (length p)
whole_setting P Q =
    record {
      segment = record { same = P.same; small = (let z = P.small in omega arith); order = omega arith; ends = omega arith };
      motif = P.nested;
      equal = Q.same;
      short = (let z = Q.small in omega arith);
      bases = Q.letters;
      molecule = Q.nested;
    }

-- The work slice has room for the rows of every arc.
pub room_whole : (m n l r room : ℕ) → n ≤ 4096 → r < n → work_size m n ≤ room → Room (m + 1) (r - l) room
room_whole m n l r room h g e = room_any (omega arith) (omega arith)

-- The bounds of an arc leave the rest of the tables as it was.
pub tables_filled : {p pm old new : List ℕ} {n : ℕ} → TablesFor p pm n old
    → (length new ≡ length old) × ((k : ℕ) → k < 5 * (length p + 1) → nth new k ≡ nth old k) → TablesFor p pm n new
tables_filled T h = record { motif = tables_kept T.motif h.0 h.1; room = omega (arith, T.room, h.0) }

-- An arc (l, r) that is come to with `from`, and the bounds of its bases.
module _ {p q tables : List ℕ} {from l r : ℕ} (D : Bounded p q tables from (length p) l (r + 1)) (lr : l < r) where
  -- The bound behind it is `from`: it takes nothing.
  pub arc_skipped : (pm qm : List ℕ) (most : ℕ) → most ≡ bound_at (length p) tables (r + 1) → most ≤ from → from ≤ length p
      → Best (letters_fit p q) (nth pm) (nth qm) (length p) from from l (r + 1)
  arc_skipped pm qm most e h fm =
      record {
        reach = later from l (r + 1) (omega arith) (omega arith) (omega arith) (omega arith) (empty from l fm).reach;
        most = λ k R. omega (arith, bounds_end D.bounds (omega arith) D.start R);
      }

  -- Its end, from its inner row.
  pub arc_ends : {pm qm work : List ℕ} → Setting p pm q qm from (length p) → from < length p → r < length q → nth qm l ≡ r
      → RowOf p pm q qm tables from (length p) (l + 1) r work
      → Best (letters_fit p q) (nth pm) (nth qm) (length p) from
      (arc_at (matches p (nth q l)) (matches p (nth q r)) (nth pm) (length p) (nth work from) (nth work (from + 1)) from) l (r + 1)
  arc_ends {pm} {qm} {work} S fm rn arc R =
      let high = starts D (l + 1) S.segment.order (omega arith) (omega arith) in
      let i : suc l ≡ l + 1 = sym (add-one l) in
      arc_of_two (nth work from) (nth work (from + 1)) S lr rn arc (R.is.best from (omega arith) (omega arith))
      (λ t. R.is.best (from + 1) (omega arith)
      (omega (arith, D.bounds.step l from (omega arith) (omega arith) fm D.start t, ap (bound_at (length p) tables) i)))

-- At the end of the molecule.
pub walked_longest : (p pm q qm : List ℕ) {k : ℕ} → Best (letters_fit p q) (nth pm) (nth qm) (length p) 0 k 0 (length q) → k ≡ longest letters_match p pm q qm
walked_longest p pm q qm B = unique B (longest_best letters_match p pm q qm)

-- The walk is at base l of the molecule, and has come to `from`.
module _ {p pm q qm : List ℕ} {from l : ℕ} (W : Walked p pm q qm (length p) 0 0 (length q) from l) where
  -- At the end of the motif, and of the molecule.
  pub all_taken : length p ≤ from → from ≡ longest letters_match p pm q qm
  all_taken h = walked_longest p pm q qm (best_all W.high h W.best)

  pub all_walked : length q ≤ l → from ≡ longest letters_match p pm q qm
  all_walked h = walked_longest p pm q qm (best_end W.high h W.best)
