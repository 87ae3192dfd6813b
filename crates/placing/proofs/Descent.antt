-- Places of all but a span: nothing placed, a stretch before or behind, what an arc takes, and a span of the span.
use Prim.Native.Nat.{ℕ, suc, ◌+◌, ◌-◌, ◌*◌, ◌≤◌, ◌<◌, min}
use mathlib.Core.Path.{◌≡◌, refl, sym, ◌∙◌}
use mathlib.Core.Bool.{Bool}
use mathlib.Core.List.{List}
use native.Mathlib.Numerals.{add-one}
use native.Mathlib.Decide.{dec_lt}
use native.Mathlib.Omega.{arith}
use lib.ListN.{length, get_or-eq_default}
use Rattle.lists.specs.Vocabulary.{nth}
use Rattle.strand.specs.Strands.{Nested}
use Rattle.embedding.specs.Embedding.{Emb, letters_fit}
use Rattle.embedding.specs.Row.{Closed, Split, Reach, Best, IsRow}
use Rattle.embedding.proofs.Splitting.{agree, join}
use Rattle.embedding.proofs.Recurrence.{combine}
use Rattle.embedding.proofs.Arc.{arc_closed}
use Rattle.embedding.proofs.Rows.{arc_best}
use Rattle.rows.specs.Rows.{Written, matches}
use Rattle.arcs.specs.Arcs.{Setting, Sealed, Heavy, Room}
use Rattle.rows.proofs.Parts.{part, back, part_length, part_at, back_under, back_over}
use Rattle.arcs.proofs.Arcs.{heavy_left, room_any}
use Rattle.placing.specs.declared.take.ArcTake.{ArcTake}
use Rattle.placing.specs.Placing.{Takes, Taken, Ended, Laid, LaidBut, KeptAround, SecondRow}
use Rattle.placing.proofs.Top.{segment_low, segment_high, segment_best}
use Rattle.placing.proofs.TakeLaws.{shift, no_base, taken, laid_none, laid_wide}

module _ {p pm q qm : List ℕ} where
  -- Nothing is left out.
  but_none : {j k s e : ℕ} {v w : List ℕ} (l r : ℕ) → j ≤ k → Laid p pm q qm j k s e v w → LaidBut p pm q qm j k s e j j l r v w
  but_none {j} {k} {s} {e} {v} {w} l r jk X =
      record {
        long = X.long;
        before = X.before;
        after = X.after;
        low = omega arith;
        high = jk;
        inner = record { from = omega arith; upto = omega arith; closed = λ x a b. absurd (omega arith); embeds = (nth w, no_base j l r (nth w)) };
        embeds = λ h f g E. agree h (λ x a b. sym (g x a b)) X.embeds;
      }

  -- All is left out.
  pub but_all : {j k s e : ℕ} (v : List ℕ) → Reach (letters_fit p q) (nth pm) (nth qm) k j k s e → LaidBut p pm q qm j k s e j k s e v v
  but_all v R =
      record {
        long = refl;
        before = λ x a. refl;
        after = λ x a. refl;
        low = omega arith;
        high = omega arith;
        inner = R;
        embeds = λ h f g E. E;
      }

  -- What is left out has no room.
  but_full : {j k s e a b l r : ℕ} {v w : List ℕ} → r ≤ l → LaidBut p pm q qm j k s e a b l r v w → Laid p pm q qm j k s e v w
  but_full {j} {k} {s} {e} {a} {b} {l} {r} {v} {w} h X =
      record { long = X.long; before = X.before; after = X.after; embeds = X.embeds (nth w) (λ x f g. refl) (λ x f g. refl) left } where
        left : Emb (letters_fit p q) (nth pm) (nth qm) a b l r (nth w)
        left = elim (dec_lt a b) [
          | yes t ↦ absurd (omega (arith, X.inner.embeds.1.low a (omega arith) t, X.inner.embeds.1.high a (omega arith) t))
          | no t ↦ shift a b l r refl (omega (arith, X.inner.from)) refl refl (no_base a l r (nth w))
        ]

  pub but_end : {j k s e a b kept : ℕ} {v w : List ℕ} → length qm ≤ kept → LaidBut p pm q qm j k s e a b (kept + 1) (nth qm kept) v w
      → Laid p pm q qm j k s e v w
  but_end h X = but_full (omega (arith, get_or-eq_default qm 0 h)) X

  -- A stretch before.
  pub but_after : {j k s e a b l r : ℕ} {u v w : List ℕ} (t i : ℕ) → j ≤ t → t ≤ k → s ≤ i → i ≤ e → Closed (nth pm) j t → Split (nth qm) s i e
      → Laid p pm q qm j t s i u v → LaidBut p pm q qm t k i e a b l r v w → LaidBut p pm q qm j k s e a b l r u w
  but_after t i jt tk hs he C S X Y =
      record {
        long = Y.long ∙ X.long;
        before = λ x h. Y.before x (omega arith) ∙ X.before x h;
        after = λ x h. Y.after x h ∙ X.after x (omega arith);
        low = omega (arith, Y.low);
        high = Y.high;
        inner = Y.inner;
        embeds = λ h f g E.
            join t i hs he C S (agree h (λ x a b. sym (f x a (omega (arith, Y.low)) ∙ Y.before x b)) X.embeds)
            (Y.embeds h (λ x a b. f x (omega arith) b) g E);
      }

  -- A stretch behind.
  but_before : {j k s e a b l r : ℕ} {u v w : List ℕ} (t i : ℕ) → t ≤ k → s ≤ i → i ≤ e → Closed (nth pm) j t → Split (nth qm) s i e
      → LaidBut p pm q qm j t s i a b l r u v → Laid p pm q qm t k i e v w → LaidBut p pm q qm j k s e a b l r u w
  but_before {j} {k} {s} {e} {a} {b} t i tk hs he C S X Y =
      record {
        long = Y.long ∙ X.long;
        before = λ x h. Y.before x (omega (arith, X.low, X.high, X.inner.from)) ∙ X.before x h;
        after = λ x h. Y.after x h ∙ X.after x (omega arith);
        low = X.low;
        high = omega (arith, X.high);
        inner = X.inner;
        embeds = λ h f g E.
            join t i hs he C S
            (X.embeds h (λ x y z. f x y z ∙ Y.before x (omega (arith, X.high, X.inner.from))) (λ x y z. g x y (omega arith) ∙ Y.before x z) E)
            (agree h (λ x y z. sym (g x (omega (arith, X.high)) z)) Y.embeds);
      }

  -- A span of the span.
  pub but_but : {j k s e a b l r a' b' l' r' : ℕ} {u v w : List ℕ} → LaidBut p pm q qm j k s e a b l r u v → LaidBut p pm q qm a b l r a' b' l' r' v w
      → LaidBut p pm q qm j k s e a' b' l' r' u w
  but_but {j} {k} {s} {e} {a} {b} {l} {r} {a'} {b'} X Y =
      record {
        long = Y.long ∙ X.long;
        before = λ x h. Y.before x (omega (arith, X.low)) ∙ X.before x h;
        after = λ x h. Y.after x (omega (arith, X.high)) ∙ X.after x h;
        low = omega (arith, X.low, Y.low);
        high = omega (arith, X.high, Y.high);
        inner = Y.inner;
        embeds = λ h f g E.
            X.embeds h (λ x y z. f x y (omega (arith, Y.low)) ∙ Y.before x z) (λ x y z. g x (omega (arith, Y.high)) z ∙ Y.after x y)
            (Y.embeds h (λ x y z. f x (omega (arith, X.low)) z) (λ x y z. g x y (omega (arith, X.high))) E);
      }

  -- What an arc takes.
  pub but_take : {to j s r a b l e : ℕ} {t : ArcTake} {v v₂ w : List ℕ} → Taken p pm q qm j to s r t → Ended j s r t v v₂
      → LaidBut p pm q qm t.from t.to (s + 1) r a b l e v₂ w → LaidBut p pm q qm j t.next s (r + 1) a b l e v w
  but_take {to} {j} {s} {r} {a} {b} {l} {e} {t} {v} {v₂} {w} T D X =
      let P = D.left in
      let Q = D.right in
      record {
        long = X.long ∙ Q.long ∙ P.long;
        before = λ x h. X.before x (omega (arith, T.low)) ∙ Q.others x (λ y z. omega (arith, T.low, T.order)) ∙ P.others x (λ y z. omega arith);
        after = λ x h. X.after x (omega (arith, T.goes)) ∙ Q.others x (λ y z. omega arith) ∙ P.others x (λ y z. omega (arith, T.order, T.goes));
        low = omega (arith, X.low, T.low);
        high = omega (arith, X.high, T.goes);
        inner = X.inner;
        embeds = λ h f g E.
            T.lay h (X.embeds h (λ x y z. f x (omega (arith, T.low)) z) (λ x y z. g x y (omega (arith, T.goes))) E)
            (λ o. f j (omega arith) (omega (arith, X.low)) ∙ X.before j o ∙ Q.others j (λ y z. omega (arith, T.order)) ∙ P.here o)
            (λ o. g t.to (omega (arith, X.high)) o ∙ X.after t.to (omega arith) ∙ Q.here o);
      }

  -- What an arc takes, from its inner row for all of the segment.
  pub taken_segment : {j to s r : ℕ} {row : ℕ → ℕ} (t : ArcTake) → Setting p pm q qm j to → j < to → s < r → r < length q → nth qm s ≡ r
      → IsRow (letters_fit p q) (nth pm) (nth qm) j to to (s + 1) r row
      → Takes (matches p (nth q s)) (matches p (nth q r)) (nth pm) j to (row j) (row (j + 1)) t → Taken p pm q qm j to s r t
  taken_segment {j} {to} {s} {r} {row} t S jt sr rn arc A T =
      let A' : IsRow (letters_fit p q) (nth pm) (nth qm) j to to (suc s) r row = rw (← (add-one s)) A in
      taken to s r S jt (omega arith) sr rn arc A
      (rw (add-one r, add-one j) (arc_best S.motif S.segment.ends S.molecule sr rn arc A' j (omega arith) (omega arith) (λ a t. a))) t T

  -- The same, from its inner row for a segment that is as long as the arc.
  pub taken_at : {j to : ℕ} {row : ℕ → ℕ} (z s r : ℕ) (t : ArcTake) → Setting p pm q qm j to → j < to → z ≡ min to (j + (r + 1 - s)) → s < r → r < length q
      → nth qm s ≡ r
      → IsRow (letters_fit p q) (nth pm) (nth qm) j z z (s + 1) r row
      → Takes (matches p (nth q s)) (matches p (nth q r)) (nth pm) j z (row j) (row (j + 1)) t → Taken p pm q qm j to s r t
  taken_at z s r t S jt e sr rn arc A T =
      taken z s r S (segment_low z s r S jt e sr rn arc) (segment_high z s r S jt e sr rn arc) sr rn arc A (segment_best z s r S jt e sr rn arc A) t T

module _ {fit : ℕ → ℕ → Bool} {f g : ℕ → ℕ} where
  -- All of the segment is taken.
  all_taken : {t j k s e : ℕ} → Best fit f g t j k s e → Reach fit f g t j t s e → k ≡ t
  all_taken {t} B R = omega (arith, B.most t R, B.reach.upto)

  row_same : {lo hi z s e : ℕ} {x y : ℕ → ℕ} → ((j : ℕ) → lo ≤ j → j ≤ hi → y j ≡ x j) → IsRow fit f g lo hi z s e x → IsRow fit f g lo hi z s e y
  row_same h A = record { best = λ j a b. rw (h j a b) (A.best j a b) }

-- The kept row.
module _ {p pm q qm : List ℕ} where
  pub around_none : (j t : ℕ) (work : List ℕ) → t ≤ length p → KeptAround p pm q qm j t (length q) work
  around_none j t work h = record {
    wide_from = j;
    wide_to = t;
    low = omega arith;
    high = omega arith;
    ends = h;
    first_row = record { row = λ o. absurd (omega arith) };
  }

  pub around_under : {j t kept : ℕ} {old new : List ℕ} (j' t' : ℕ) → j ≤ j' → t' ≤ t → ((k : ℕ) → k < length p + 1 → nth new k ≡ nth old k)
      → KeptAround p pm q qm j t kept old → KeptAround p pm q qm j' t' kept new
  around_under j' t' a b h K =
      record {
        wide_from = K.wide_from;
        wide_to = K.wide_to;
        low = omega (arith, K.low);
        high = omega (arith, K.high);
        ends = K.ends;
        first_row = record { row = λ o. row_same (λ k x y. h k (omega (arith, K.ends))) (K.first_row.row o) };
      }

  pub around_back : {j t kept : ℕ} {work : List ℕ} (ys : List ℕ) (j' t' : ℕ) → j ≤ j' → t' ≤ t → length p + 1 ≤ length work
      → KeptAround p pm q qm j t kept work → KeptAround p pm q qm j' t' kept (back (length p + 1) work ys)
  around_back {j} {t} {kept} {work} ys j' t' a b le K = around_under j' t' a b (λ k h. back_under (length p + 1) work le ys k h) K

  -- The row past the first, as the first row of the part.
  pub around_rest : {j t s r : ℕ} {old new : List ℕ} → t ≤ length p → nth qm s ≡ r → length p + 1 ≤ length new → SecondRow p pm q qm j t s r old new
      → KeptAround p pm q qm j t s (part (length p + 1) new)
  around_rest {j} {t} {s} {r} {old} {new} h e le R =
      record {
        wide_from = j;
        wide_to = t;
        low = omega arith;
        high = omega arith;
        ends = h;
        first_row = record { row = λ o. rw e (row_same (λ k x y. part_at (length p + 1) new le k) R.row) };
      }

  -- What the walk over the tree leaves in the part past the first row.
  pub ready : {j t s r : ℕ} {old mid : List ℕ} {f : ℕ → ℕ} (ys : List ℕ) → length p + 1 ≤ length mid
      → Written f old mid (length p + 1 + j) (length p + 1 + t + 1) → IsRow (letters_fit p q) (nth pm) (nth qm) j t t (s + 1) r (nth ys)
      → SecondRow p pm q qm j t s r old (back (length p + 1) mid ys)
  ready {j} {t} {s} {r} {old} {mid} ys le W A =
      record {
        under = λ k h. back_under (length p + 1) mid le ys k h ∙ W.under k (omega arith);
        row = row_same (λ k x y. back_over (length p + 1) mid le ys k) A;
      }

-- The arcs at the top of a stretch.
module _ {qm : List ℕ} {n : ℕ} (N : Nested (nth qm) n) where
  -- From a longest arc on.
  pub heavy_on : {lo hi h : ℕ} → Sealed qm lo hi → hi ≤ n → Heavy qm lo hi h → h < hi → Sealed qm h hi
  heavy_on {lo} {hi} {h} Z hn H lt = record { low = low; high = λ u a b. Z.high u (omega (arith, H.low)) b } where
    low : (u : ℕ) → h ≤ u → u < hi → h ≤ nth qm u
    low u a b = elim (dec_lt (nth qm u) h) [
      | yes x ↦ omega (arith, (heavy_left N Z hn H lt).high (nth qm u) (Z.low u (omega (arith, H.low)) b) x, N.paired u (omega arith))
      | no x ↦ omega arith
    ]

  -- Behind the arc at the start.
  module _ {s r hi : ℕ} (Z : Sealed qm s hi) (hn : hi ≤ n) (sh : s < hi) (up : s < nth qm s) (e : nth qm s ≡ r) where
    pub first_end : r < hi
    first_end = omega (arith, Z.high s (omega arith) sh)

    pub first_split : Split (nth qm) s (r + 1) hi
    first_split u a b d = absurd (omega (arith, arc_closed N s (omega arith) up u a (omega arith)))

    pub first_behind : Sealed qm (r + 1) hi
    first_behind = record { low = low; high = λ u a b. Z.high u (omega arith) b } where
      low : (u : ℕ) → r + 1 ≤ u → u < hi → r + 1 ≤ nth qm u
      low u a b = elim (dec_lt (nth qm u) (r + 1)) [
        | yes x ↦ omega (arith, arc_closed N s (omega arith) up (nth qm u) (Z.low u (omega arith) b) (omega arith), N.paired u (omega arith))
        | no x ↦ omega arith
      ]

pub room_rest : (m n l r : ℕ) (xs : List ℕ) → n ≤ 4096 → r < n → 24 * (m + 1) ≤ length xs → Room (m + 1) (r - l) (length (part (m + 1) xs))
room_rest m n l r xs h g e = room_any (omega arith) (omega (arith, part_length (m + 1) xs (omega arith)))

-- The molecule, by its mates.
pub nested_mates : {p pm q qm : List ℕ} {a b : ℕ} → Setting p pm q qm a b → Nested (nth qm) (length qm)
nested_mates S = rw S.equal S.molecule

pub reach_to : {fit : ℕ → ℕ → Bool} {f g : ℕ → ℕ} {m a b s e : ℕ} (r : ℕ) → r ≡ e → Reach fit f g m a b s e → Reach fit f g m a b s r
reach_to r i R = rw i R

module _ {p pm q qm : List ℕ} where
  pub but_to : {j k s e a b l i : ℕ} {v w : List ℕ} (r : ℕ) → r ≡ i → LaidBut p pm q qm j k s e a b l i v w → LaidBut p pm q qm j k s e a b l r v w
  but_to r h X = rw h X

  -- The span left out lies in the kept arc.
  pub but_kept : {j k i e a b s r kept : ℕ} {v w : List ℕ} → s ≡ kept → nth qm s ≡ r → LaidBut p pm q qm j k i e a b (s + 1) r v w
      → LaidBut p pm q qm j k i e a b (kept + 1) (nth qm kept) v w
  but_kept h arc X = rw (← h, arc) X

  -- There was nothing to be placed.
  pub but_empty : (j t s e l r : ℕ) (v : List ℕ) → j ≤ t → t ≤ j → LaidBut p pm q qm j t s e j j l r v v
  but_empty j t s e l r v h g = let i : t ≡ j = omega arith in rw i (but_none l r (omega arith) (laid_none j s e v))

  -- All of it was placed.
  pub but_taken : {t j k s e : ℕ} {v w : List ℕ} (l r : ℕ) → Best (letters_fit p q) (nth pm) (nth qm) t j k s e
      → Reach (letters_fit p q) (nth pm) (nth qm) t j t s e
      → Laid p pm q qm j k s e v w → LaidBut p pm q qm j t s e j j l r v w
  but_taken l r B R X = rw (← (all_taken B R)) (but_none l r B.reach.from X)

  pub but_filled : {t j k s i e : ℕ} {v w : List ℕ} (l r : ℕ) → t ≤ k → i ≤ e → Best (letters_fit p q) (nth pm) (nth qm) t j k s i → Laid p pm q qm j k s i v w
      → LaidBut p pm q qm j t s e j j l r v w
  but_filled {t} {j} {k} {s} {i} {e} l r h ie B X =
      let z : t ≡ k = omega (arith, B.reach.upto) in
      rw z (but_none l r B.reach.from (laid_wide e ie X))

  -- The rest of it was placed behind.
  pub but_rest : {t j n k s i e a b l r : ℕ} {u v w : List ℕ} → s ≤ i → i ≤ e → Split (nth qm) s i e
      → Best (letters_fit p q) (nth pm) (nth qm) t j n s i → Best (letters_fit p q) (nth pm) (nth qm) t n k i e
      → Reach (letters_fit p q) (nth pm) (nth qm) t j t s e
      → LaidBut p pm q qm j n s i a b l r u v → Laid p pm q qm n k i e v w → LaidBut p pm q qm j t s e a b l r u w
  but_rest {t} {j} {n} {k} {s} {i} {e} si ie S B B' R X Y =
      rw (← (all_taken (combine si ie S B B') R)) (but_before n i B'.reach.from si ie B.reach.closed S X Y)

module _ {qm : List ℕ} {n : ℕ} (N : Nested (nth qm) n) {lo hi h : ℕ} (Z : Sealed qm lo hi) (hn : hi ≤ n) (H : Heavy qm lo hi h) where
  -- Before a longest arc, or all of a stretch without arcs.
  pub heavy_before : Sealed qm lo h
  heavy_before = elim (dec_lt h hi) [ yes x ↦ heavy_left N Z hn H x | no x ↦ let i : h ≡ hi = omega (arith, H.high) in rw i Z ]

-- What is not taken before it goes on at an arc.
pub heavy_in : {fit : ℕ → ℕ → Bool} {f : ℕ → ℕ} {qm : List ℕ} {t j k lo hi h : ℕ} → Heavy qm lo hi h → Best fit f (nth qm) t j k lo h
    → Reach fit f (nth qm) t j t lo hi → k < t → h < hi
heavy_in {fit} {f} {qm} {t} {j} {k} {lo} {hi} {h} H B R kt = elim (dec_lt h hi) [
  | yes x ↦ x
  | no x ↦ let i : hi ≡ h = omega (arith, H.high) in let R' : Reach fit f (nth qm) t j t lo h = rw (← i) R in absurd (omega (arith, B.most t R'))
]
