-- How the code makes rows: a row in front of another, the row of an arc in the place of its inner row, and rows in parts of the work slice.
use Prim.Native.Nat.{ℕ, suc, ◌+◌, ◌-◌, ◌≤◌, ◌<◌, min}
use mathlib.Core.Path.{◌≡◌, refl, sym, ap, ◌∙◌}
use mathlib.Core.Bool.{Bool, true}
use mathlib.Core.List.{List}
use native.Mathlib.Numerals.{add-one}
use native.Mathlib.Decide.{dec_lt}
use native.Mathlib.Omega.{arith}
use lib.ListN.{length}
use Rattle.lists.specs.Vocabulary.{nth}
use Rattle.letters.specs.Letters.{is_letter}
use Rattle.refusals.specs.Rules.{molecule_side}
use Rattle.lists.proofs.ListLaws.{every_at}
use Rattle.embedding.specs.Row.{Closed, Split, IsRow, Bounds, unit_at, arc_at}
use Rattle.embedding.specs.Embedding.{letters_fit}
use Rattle.embedding.proofs.Rows.{empty_row, unit_row, combine_row, arc_row, row_from, row_within, fewer_starts, narrow_row}
use Rattle.embedding.proofs.Bounds.{bounds_within, bounds_up}
use Rattle.rows.specs.Rows.{Written, Remade, matches, bound_at, last_at}
use Rattle.arcs.specs.Arcs.{Setting, Bounded, RowOf, Prepended, KeptRow}
use Rattle.arcs.proofs.Arcs.{Around}
use Rattle.rows.proofs.Parts.{part, back, part_at, back_under, back_over}
use Rattle.embedding.proofs.Entries.{unit_end, over_end}

-- The row in the part past the first row, looked up in the first, and the other way round.
module _ (from last to w : ℕ) (work ys new : List ℕ) (le : w ≤ length work) (tw : to < w) (lt : last ≤ to) where
  pub looked : ((j : ℕ) → from ≤ j → j ≤ last → (j ≤ nth ys j) × (nth ys j ≤ to))
      → Written (λ j. nth (back w work ys) (0 + nth (back w work ys) (w + j))) (back w work ys) new from (last + 1)
      → (j : ℕ) → from ≤ j → j ≤ last → nth new j ≡ nth work (nth ys j)
  looked h W j a b =
      let z : 0 + nth ys j ≡ nth ys j = omega arith in
      W.done j a (omega arith) ∙ ap (λ (i : ℕ). nth (back w work ys) (0 + i)) (back_over w work le ys j) ∙ ap (nth (back w work ys)) z
      ∙ back_under w work le ys (nth ys j) (omega (arith, h j a b))

  looked_into : Written (λ j. nth (back w work ys) (w + nth (back w work ys) (0 + j))) (back w work ys) new from (last + 1)
      → (j : ℕ) → from ≤ j → j ≤ last → nth new j ≡ nth ys (nth work j)
  looked_into W j a b =
      let z : 0 + j ≡ j = omega arith in
      W.done j a (omega arith) ∙ ap (λ (i : ℕ). nth (back w work ys) (w + nth (back w work ys) i)) z
      ∙ ap (λ (i : ℕ). nth (back w work ys) (w + i)) (back_under w work le ys j (omega arith)) ∙ back_over w work le ys (nth work j)

-- An unbonded base is a stretch of its own.
unit_split : (qm : List ℕ) (i k hi : ℕ) → suc k ≡ i → nth qm k ≡ k → Split (nth qm) k i hi
unit_split qm i k hi e b u x y z = absurd (let t : u ≡ k = omega arith in omega (arith, ap (nth qm) t))

-- Bounds of a part of the stretch.
module _ {p q tables : List ℕ} {from to lo hi : ℕ} (D : Bounded p q tables from to lo hi) where
  pub bounded_within : (lo' hi' : ℕ) → lo ≤ lo' → lo' ≤ hi' → hi' ≤ hi → Bounded p q tables from to lo' hi'
  bounded_within lo' hi' a b c =
      record {
        room = omega (arith, D.room);
        start = omega (arith, D.start, bounds_up D.bounds lo lo' (omega arith) a (omega arith));
        bounds = bounds_within a c D.bounds;
      }

  -- The first start is no later than the last one.
  pub starts : (i : ℕ) → from ≤ to → lo ≤ i → i ≤ hi → from ≤ last_at (length p) tables to i
  starts i ft a b = omega (arith, D.start, bounds_up D.bounds lo i (omega arith) a b)

-- The bases of the molecule are letters.
pub letter_at : {p pm q qm : List ℕ} {from to : ℕ} → Setting p pm q qm from to → (i : ℕ) → i < length q → is_letter molecule_side (nth q i) ≡ true
letter_at {p} {pm} {q} S i h = every_at (λ (k : ℕ). is_letter molecule_side (nth q k)) (length q) i S.bases h

-- No row is kept.
pub no_kept_row : {p pm q qm : List ℕ} {from to : ℕ} (work : List ℕ) → KeptRow p pm q qm from to (length q) work
no_kept_row work = record { row = λ h. absurd (omega arith) }

module _ {p pm q qm tables : List ℕ} {from to : ℕ} where
  -- A row under equal names.
  pub row_at : {i lo hi : ℕ} {work : List ℕ} → i ≡ lo → RowOf p pm q qm tables from to i hi work → RowOf p pm q qm tables from to lo hi work
  row_at e F = rw (← e) F

  pub row_to : {lo i hi : ℕ} {work : List ℕ} → i ≡ hi → RowOf p pm q qm tables from to lo i work → RowOf p pm q qm tables from to lo hi work
  row_to e F = rw (← e) F

  pub row_is : {lo hi : ℕ} {work new : List ℕ} → work ≡ new → RowOf p pm q qm tables from to lo hi new → RowOf p pm q qm tables from to lo hi work
  row_is e F = rw e F

  -- The row of an empty stretch.
  pub none_row : {lo hi : ℕ} {old new : List ℕ} → lo ≡ hi → Written (λ j. j) old new from (last_at (length p) tables to lo + 1)
      → RowOf p pm q qm tables from to lo hi new
  none_row {lo} {hi} {old} {new} e W =
      rw (← e) record { is = empty_row lo (nth new) (omega arith) (λ j a b. W.done j a (omega arith)) }

  -- A longest arc inside another, and what is right of it.
  pub right_row : {n l r h e : ℕ} (w : ℕ) (mid ys new : List ℕ) → Around qm n l r h e → Bounded p q tables from to (l + 1) r
      → w ≤ length mid → to < w → RowOf p pm q qm tables from to h (e + 1) mid → RowOf p pm q qm tables from to (e + 1) r ys
      → Written (λ j. nth (back w mid ys) (w + nth (back w mid ys) (0 + j))) (back w mid ys) new from (last_at (length p) tables to h + 1)
      → RowOf p pm q qm tables from to h r new
  right_row {n} {l} {r} {h} {e} w mid ys new A D le tw F G W =
      record {
        is = combine_row (omega (arith, A.up)) (omega (arith, A.end)) A.split_r (bounds_within A.low (omega (arith, A.end)) D.bounds) F.is
            G.is (looked_into from (last_at (length p) tables to h) to w mid ys new le tw (omega arith) W);
      }

  -- The row of one unbonded base.
  pub single_row : {old new : List ℕ} → Setting p pm q qm from to → (i hi : ℕ) → suc i ≡ hi
      → Written (unit_at (matches p (nth q i)) (nth pm) to) old new from (last_at (length p) tables to i + 1) → RowOf p pm q qm tables from to i hi new
  single_row S i hi e W =
      let F : IsRow (letters_fit p q) (nth pm) (nth qm) from (last_at (length p) tables to i) to i hi (unit_at (matches p (nth q i)) (nth pm) to)
      = rw (← e) (unit_row i (omega arith)) in
      record { is = record { best = λ j a b. rw (W.done j a (omega arith)) (F.best j a b) } }

  pub prepend_none : (s : ℕ) (work : List ℕ) → Prepended p pm q qm tables from to s s work work
  prepend_none s work = record { row = λ j. j; is = empty_row s (λ j. j) (omega arith) (λ j a b. refl); entry = λ j a b. refl }

  -- A stretch Q[c..i) with the row f is put in front.
  pub prepend_step : {c i hi : ℕ} {f : ℕ → ℕ} {old mid new : List ℕ} → c ≤ i → i ≤ hi → Split (nth qm) c i hi
      → Bounds (letters_fit p q) to c i (bound_at (length p) tables)
      → IsRow (letters_fit p q) (nth pm) (nth qm) from (last_at (length p) tables to c) to c i f → Prepended p pm q qm tables from to i hi old mid
      → ((j : ℕ) → from ≤ j → j ≤ last_at (length p) tables to c → nth new j ≡ nth mid (f j)) → Prepended p pm q qm tables from to c hi old new
  prepend_step {c} {i} {hi} {f} {old} {mid} {new} ci ih S D F P e =
      record {
        row = λ j. P.row (f j);
        is = combine_row ci ih S D F P.is (λ j a b. refl);
        entry = λ j a b. e j a b ∙ P.entry (f j) (omega (arith, row_from F j a b)) (row_within D ci F j a b);
      }

  -- An unbonded base.
  prepend_base : {hi : ℕ} {old mid new : List ℕ} (i k : ℕ) → suc k ≡ i → i ≤ hi → nth qm k ≡ k
      → Bounds (letters_fit p q) to k i (bound_at (length p) tables) → Prepended p pm q qm tables from to i hi old mid
      → Written (λ j. nth mid (unit_at (matches p (nth q k)) (nth pm) to j)) mid new from (min (last_at (length p) tables to k + 1) to)
      → Prepended p pm q qm tables from to k hi old new
  prepend_base {hi} {old} {mid} {new} i k e ih b D P W =
      let F : IsRow (letters_fit p q) (nth pm) (nth qm) from (last_at (length p) tables to k) to k i (unit_at (matches p (nth q k)) (nth pm) to)
      = rw (← e) (unit_row k (omega arith)) in
      prepend_step (omega arith) ih (unit_split qm i k hi e b) D F P
      (λ j x y. elim (dec_lt j to) [
        | yes t ↦ W.done j x (omega arith)
        | no t ↦ W.past j (omega arith) ∙ ap (nth mid) (sym (unit_end (matches p (nth q k)) (nth pm) to j (omega arith)))
      ])

  -- The row of an arc.
  pub closed_row : (l r : ℕ) {old new : List ℕ} → Setting p pm q qm from to → l < r → r < length q → nth qm l ≡ r
      → Bounds (letters_fit p q) to l r (bound_at (length p) tables)
      → RowOf p pm q qm tables from to (l + 1) r old
      → Remade (λ j. arc_at (matches p (nth q l)) (matches p (nth q r)) (nth pm) to (nth old j) (nth old (j + 1)) j) old new from
      (min (last_at (length p) tables to l + 1) to)
      → RowOf p pm q qm tables from to l (r + 1) new
  closed_row l r {old} {new} S lr rn arc D A W =
      let A' : RowOf p pm q qm tables from to (suc l) r old = rw (← (add-one l)) A in
      rw (add-one r) record { is = arc_row S.motif S.segment.ends S.molecule lr rn arc D A'.is entry } where
        entry : (j : ℕ) → from ≤ j → j ≤ last_at (length p) tables to l
            → nth new j ≡ arc_at (matches p (nth q l)) (matches p (nth q r)) (nth pm) to (nth old j) (nth old (suc j)) j
        entry j x y = elim (dec_lt j to) [
          | yes t ↦
              W.done j x (omega arith)
              ∙ ap (λ (i : ℕ). arc_at (matches p (nth q l)) (matches p (nth q r)) (nth pm) to (nth old j) (nth old i) j) (add-one j)
          | no t ↦
              let i : suc l ≡ l + 1 = sym (add-one l) in
              let h = row_from A.is j x (omega (arith, D.rise l (omega arith) lr, ap (bound_at (length p) tables) i)) in
              omega (
                arith,
                W.last j (omega arith) (omega arith),
                unit_end (matches p (nth q r)) (nth pm) to (nth old j) (omega arith),
                over_end (matches p (nth q l)) (matches p (nth q r)) (nth pm) to (nth old (suc j)) j (omega arith),
              )
        ]

  -- The entries of the row inside an arc, for the starts up to the bound at its left end.
  pub inner_from : {l r : ℕ} {work : List ℕ} → Bounds (letters_fit p q) to l r (bound_at (length p) tables) → l < r
      → RowOf p pm q qm tables from to (l + 1) r work
      → (j : ℕ) → from ≤ j → j ≤ last_at (length p) tables to l → (j ≤ nth work j) × (nth work j ≤ to)
  inner_from {l} {r} {work} D lr A j a b =
      let i : suc l ≡ l + 1 = sym (add-one l) in
      row_from A.is j a (omega (arith, D.rise l (omega arith) lr, ap (bound_at (length p) tables) i))

  pub prepended_row : {lo i hi : ℕ} {old new : List ℕ} → lo ≤ i → i ≤ hi → Split (nth qm) lo i hi
      → Bounds (letters_fit p q) to lo i (bound_at (length p) tables) → RowOf p pm q qm tables from to i hi old
      → Prepended p pm q qm tables from to lo i old new → RowOf p pm q qm tables from to lo hi new
  prepended_row li ih S D F P = record { is = combine_row li ih S D P.is F.is P.entry }

  -- The row with one more unbonded base in front.
  pub front_row : {hi last : ℕ} {old new : List ℕ} (i k : ℕ) → suc k ≡ i → i ≤ hi → nth qm k ≡ k
      → Bounds (letters_fit p q) to k i (bound_at (length p) tables) → RowOf p pm q qm tables from to i hi old → last ≡ last_at (length p) tables to k
      → Written (λ j. nth old (unit_at (matches p (nth q k)) (nth pm) to j)) old new from (min (last + 1) to) → RowOf p pm q qm tables from to k hi new
  front_row {hi} {last} {old} {new} i k e ih b D F x W =
      prepended_row (omega arith) ih (unit_split qm i k hi e b) D F (prepend_base i k e (omega arith) b D (prepend_none i old) (rw x at W))

  pub prepend_front : {hi last : ℕ} {old mid new : List ℕ} (i k c : ℕ) → suc k ≡ i → i ≤ hi → c ≡ k → nth qm k ≡ c
      → Bounds (letters_fit p q) to c i (bound_at (length p) tables) → Prepended p pm q qm tables from to i hi old mid → last ≡ last_at (length p) tables to k
      → Written (λ j. nth mid (unit_at (matches p (nth q k)) (nth pm) to j)) mid new from (min (last + 1) to) → Prepended p pm q qm tables from to c hi old new
  prepend_front i k c e ih ck m D P x W = rw ck (prepend_base i k e ih (m ∙ ck) (rw ck at D) P (rw x at W))

  pub arc_front : (c k i : ℕ) {old new : List ℕ} → k + 1 ≡ i → Setting p pm q qm from to → c < k → k < length q → nth qm c ≡ k
      → Bounds (letters_fit p q) to c k (bound_at (length p) tables)
      → RowOf p pm q qm tables from to (c + 1) k old
      → Remade (λ j. arc_at (matches p (nth q c)) (matches p (nth q k)) (nth pm) to (nth old j) (nth old (j + 1)) j) old new from
      (min (last_at (length p) tables to c + 1) to)
      → RowOf p pm q qm tables from to c i new
  arc_front c k i e S ck kn m D A W = rw (← e) (closed_row c k S ck kn m D A W)

  -- The row inside the arc (l, r), if that is the kept arc.
  pub kept_row : {l r kept : ℕ} {work : List ℕ} → KeptRow p pm q qm from to kept work → l ≡ kept → l < r → r < length q → nth qm l ≡ r
      → RowOf p pm q qm tables from to (l + 1) r work
  kept_row B e lr rn arc = rw (← arc, e) record { is = fewer_starts (omega arith) (B.row (omega arith)) }

-- The entries of a row in a part, and of a row before a part: each is an index of the other row.
module _ {fit : ℕ → ℕ → Bool} {f g : ℕ → ℕ} {from last to : ℕ} where
  pub range_over : {s e : ℕ} (w : ℕ) (xs ys : List ℕ) → w ≤ length xs → to < length (back w xs ys) → IsRow fit f g from last to s e (nth ys)
      → (j : ℕ) → from ≤ j → j ≤ last → (j ≤ nth (back w xs ys) (w + j)) × (0 + nth (back w xs ys) (w + j) < length (back w xs ys))
  range_over w xs ys le tl F j a b = rw (back_over w xs le ys j) (let h = row_from F j a b in (h.0, omega (arith, h.1)))

  pub range_under : {s e : ℕ} (w : ℕ) (xs ys : List ℕ) → w ≤ length xs → to < w → last ≤ to → w + to < length (back w xs ys)
      → IsRow fit f g from last to s e (nth xs)
      → (j : ℕ) → from ≤ j → j ≤ last → (j ≤ nth (back w xs ys) (0 + j)) × (w + nth (back w xs ys) (0 + j) < length (back w xs ys))
  range_under w xs ys le tw lt tl F j a b =
      let z : 0 + j ≡ j = omega arith in
      rw (z, back_under w xs le ys j (omega arith)) (let h = row_from F j a b in (h.0, omega (arith, h.1)))

-- The kept row, cut to a narrower segment and written past it, is the kept row of the part.
pub cut_kept_row : {p pm q qm : List ℕ} {lo z from to kept : ℕ} (w : ℕ) (old new : List ℕ) → lo ≤ from → to ≤ z → Closed (nth pm) from to → w ≤ length new
    → KeptRow p pm q qm lo z kept old → Written (λ k. min (nth old (k - w)) to) old new (w + from) (w + to + 1) → KeptRow p pm q qm from to kept (part w new)
cut_kept_row {p} {pm} {q} {qm} {lo} {z} {from} {to} {kept} w old new la zb C le B W = record { row = λ h. narrow_row la zb C (B.row h) entry } where
  entry : (j : ℕ) → from ≤ j → j ≤ to → nth (part w new) j ≡ min (nth old j) to
  entry j a b =
      let i : w + j - w ≡ j = omega arith in
      part_at w new le j ∙ W.done (w + j) (omega arith) (omega arith) ∙ ap (λ (x : ℕ). min (nth old x) to) i
