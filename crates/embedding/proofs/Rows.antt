-- The entries of rows: of an empty stretch, of one base, of two stretches side by side, of an arc from its inner row alone (one
-- accumulator: the inner stretch with the right end is the inner row followed by a unit row), and for a narrower segment.
use Prim.Native.Nat.{ℕ, suc, ◌≤◌, ◌<◌, min, max}
use mathlib.Core.Path.{◌≡◌, sym, ◌∙◌}
use mathlib.Core.Bool.{Bool, true}
use native.Mathlib.Decide.{dec_lt, dec_le, ℕ_discrete}
use native.Mathlib.Omega.{arith}
use lib.Dec.{ltb, leb}
use borrow.Author.Tests.{ltb-true, ltb-false, leb-true, leb-false}
use Rattle.strand.specs.Strands.{Nested}
use Rattle.embedding.specs.Row.{Closed, Split, Best, IsRow, Bounds, unit_at, over_at, arc_at, over_by}
use Rattle.embedding.proofs.Bounds.{bounds_end}
use Rattle.embedding.proofs.Answers.{by_test, clash}
use Rattle.embedding.proofs.Splitting.{restrict}
use Rattle.embedding.proofs.Recurrence.{later, empty, combine, single_takes, single_skips, extend_takes, extend_skips}
use Rattle.embedding.proofs.Arc.{same_mate, arc_free, arc_lays, arc_leaves}

module _ {fit : ℕ → ℕ → Bool} {pm qm : ℕ → ℕ} {z : ℕ} where
  -- A unit row is the row of its base.
  pub unit_best : (k u : ℕ) → k ≤ z → Best fit pm qm z k (unit_at (λ x. fit x u) pm z k) u (suc u)
  unfolding unit_at
  unit_best k u h =
      by_test P (ltb k z)
      (λ a. by_test P (leb (pm k) k)
      (λ b. by_test P (fit k u)
      (λ t. single_takes k u (ltb-true k z a) (leb-true (pm k) k b) t)
      (λ t. single_skips k u h (λ p q r. clash t r)))
      (λ b. single_skips k u h (λ p q r. omega (arith, leb-false (pm k) k b))))
      (λ a. single_skips k u h (λ p q r. omega (arith, ltb-false k z a)))
    where
      P : ℕ → Type 0
      P n = Best fit pm qm z k n u (suc u)

  -- The row of an arc (l, r) from its inner row f. P[lo..z) is a segment of a nested P; an arc that leaves it to the right is never begun.
  module _ {lo hi M n l r : ℕ} {f : ℕ → ℕ} (NP : Nested pm M) (hM : z ≤ M) (NQ : Nested qm n) (lr : l < r) (rn : r < n) (arc : qm l ≡ r)
      (A : IsRow fit pm qm lo hi z (suc l) r f) where
    -- No arc from inside ends at r.
    pub before_right : Split qm (suc l) r (suc r)
    before_right u p q h = elim (ℕ_discrete (qm u) r) [
      | yes e ↦ omega (arith, same_mate NQ u l (omega arith) (omega arith) (e ∙ sym arc))
      | no e ↦ omega arith
    ]

    -- The inner stretch with the right end as an unbonded base.
    inner_right : (j : ℕ) → lo ≤ j → j ≤ hi → Best fit pm qm z j (unit_at (λ x. fit x r) pm z (f j)) (suc l) (suc r)
    inner_right j g h =
        let B = A.best j g h in
        combine (omega arith) (omega arith) before_right B (unit_best (f j) r B.reach.upto)

    -- The entry for j. Where j matches the left end, the inner row has an entry for j + 1.
    module _ (j : ℕ) (g : lo ≤ j) (h : j ≤ hi) (next : j < z → fit j l ≡ true → suc j ≤ hi) where
      B : Best fit pm qm z j (unit_at (λ x. fit x r) pm z (f j)) (suc l) (suc r)
      B = inner_right j g h

      after : j < z → fit j l ≡ true → Best fit pm qm z (suc j) (f (suc j)) (suc l) r
      after p t = A.best (suc j) (omega arith) (next p t)

      -- A left end whose mate lies past the segment.
      blocked : (b : ℕ) → Best fit pm qm z j b (suc l) (suc r) → j < pm j → z ≤ pm j → Best fit pm qm z j b l (suc r)
      blocked b X left far =
          record {
            reach = later j l (suc r) (omega arith) X.reach.from (omega arith) (omega arith) X.reach;
            most = λ k R. elim (dec_le k j) [
              | yes t ↦ omega (arith, X.reach.from)
              | no t ↦ absurd (omega (arith, R.closed j (omega arith) (omega arith), R.upto))
            ];
          }

      -- Nothing is gained with the left end.
      nothing : (j < z → pm j ≤ j → fit j l ≡ true → ⊥) → (j < z → j < pm j → pm j < z → fit j l ≡ true → fit (pm j) r ≡ true → pm j ≤ f (suc j) → ⊥)
          → Best fit pm qm z j (max (unit_at (λ x. fit x r) pm z (f j)) 0) l (suc r)
      nothing n₁ n₂ = go (unit_at (λ x. fit x r) pm z (f j)) B (dec_lt j z) (dec_le (pm j) j) (dec_lt (pm j) z)
        where
          free : (b : ℕ) → Best fit pm qm z j b (suc l) (suc r) → (j < z → pm j ≤ j) → Best fit pm qm z j (max b 0) l (suc r)
          free b X c =
              let a = extend_skips lr (λ p. omega arith) n₁ (A.best j g h) in
              let y = X.most (f j) (later j (suc l) (suc r) (omega arith) (A.best j g h).reach.from (omega arith) (omega arith) (A.best j g h).reach) in
              let i : max b 0 ≡ max (f j) b = omega arith in
              rw i (arc_free l r lr arc c a X)

          go : (b : ℕ) → Best fit pm qm z j b (suc l) (suc r) → Dec (j < z) → Dec (pm j ≤ j) → Dec (pm j < z) → Best fit pm qm z j (max b 0) l (suc r)
          go b X (no p) q s = free b X (λ t. absurd (p t))
          go b X (yes p) (yes q) s = free b X (λ t. q)
          go b X (yes p) (no q) (yes s) =
              let i : max b 0 ≡ b = omega arith in
              rw i (arc_leaves l r lr arc NP NQ rn hM j b (omega arith) s X (λ t v R. n₂ p (omega arith) s t v ((after p t).most (pm j) R)))
          go b X (yes p) (no q) (no s) = let i : max b 0 ≡ b = omega arith in rw i (blocked b X (omega arith) (omega arith))

      pub arc_best : Best fit pm qm z j (arc_at (λ x. fit x l) (λ x. fit x r) pm z (f j) (f (suc j)) j) l (suc r)
      unfolding over_at over_by
      arc_best =
          by_test P (ltb j z)
          (λ a. by_test P (fit j l)
          (λ b. by_test P (leb (pm j) j)
          (λ d.
          let p = ltb-true j z a in
          let q = leb-true (pm j) j d in
          let X = extend_takes lr (λ t. omega arith) p q b (after p b) in
          let i : max (unit_at (λ x. fit x r) pm z (f j)) (f (suc j)) ≡ max (f (suc j)) (unit_at (λ x. fit x r) pm z (f j)) = omega arith in
          rw i (arc_free l r lr arc (λ t. q) X B))
          (λ d. by_test P (ltb (pm j) z)
          (λ e. by_test P (fit (pm j) r)
          (λ t. by_test P (leb (pm j) (f (suc j)))
          (λ w.
          let p = ltb-true j z a in
          arc_lays l r lr arc NP NQ rn hM j (unit_at (λ x. fit x r) pm z (f j)) (leb-false (pm j) j d) (ltb-true (pm j) z e) B
          (after p b) b t (leb-true (pm j) (f (suc j)) w))
          (λ w. nothing (λ x y v. omega (arith, leb-false (pm j) j d)) (λ p q s x y o. omega (arith, leb-false (pm j) (f (suc j)) w))))
          (λ t. nothing (λ x y v. omega (arith, leb-false (pm j) j d)) (λ p q s x y o. clash t y)))
          (λ e. nothing (λ x y v. omega (arith, leb-false (pm j) j d)) (λ p q s x y o. omega (arith, ltb-false (pm j) z e)))))
          (λ b. nothing (λ x y v. clash b v) (λ p q s x y o. clash b x)))
          (λ a. nothing (λ x y v. omega (arith, ltb-false j z a)) (λ p q s x y o. omega (arith, ltb-false j z a)))
        where
          P : ℕ → Type 0
          P k = Best fit pm qm z j (max (unit_at (λ x. fit x r) pm z (f j)) k) l (suc r)

-- The rows of a unit, an empty stretch, two stretches side by side, and an arc. The starts of a stretch that begins at s go up to the bound there.
module _ {fit : ℕ → ℕ → Bool} {pm qm : ℕ → ℕ} {lo z : ℕ} where
  pub empty_row : {hi : ℕ} (s : ℕ) (f : ℕ → ℕ) → hi ≤ z → ((j : ℕ) → lo ≤ j → j ≤ hi → f j ≡ j) → IsRow fit pm qm lo hi z s s f
  empty_row s f hz e = record { best = λ j g h. rw (e j g h) (empty j s (omega arith)) }

  pub unit_row : {hi : ℕ} (u : ℕ) → hi ≤ z → IsRow fit pm qm lo hi z u (suc u) (unit_at (λ x. fit x u) pm z)
  unit_row u hz = record { best = λ j g h. unit_best j u (omega arith) }

  -- The entries of a row lie between their index and z.
  pub row_from : {hi s e : ℕ} {f : ℕ → ℕ} → IsRow fit pm qm lo hi z s e f → (j : ℕ) → lo ≤ j → j ≤ hi → (j ≤ f j) × (f j ≤ z)
  row_from F j a b = let B = F.best j a b in (B.reach.from, B.reach.upto)

  -- A row for fewer starts.
  pub fewer_starts : {hi hi' s e : ℕ} {f : ℕ → ℕ} → hi' ≤ hi → IsRow fit pm qm lo hi z s e f → IsRow fit pm qm lo hi' z s e f
  fewer_starts h F = record { best = λ j a b. F.best j a (omega arith) }

  -- The entries of a row are starts of the rows behind it.
  pub row_within : {s e : ℕ} {b f : ℕ → ℕ} → Bounds fit z s e b → s ≤ e → IsRow fit pm qm lo (min z (b s)) z s e f
      → (j : ℕ) → lo ≤ j → j ≤ min z (b s) → f j ≤ min z (b e)
  row_within D se F j a h = let B = F.best j a h in omega (arith, B.reach.upto, bounds_end D se (omega arith) B.reach)

  pub combine_row : {s i e : ℕ} {b f g h : ℕ → ℕ} → s ≤ i → i ≤ e → Split qm s i e → Bounds fit z s i b → IsRow fit pm qm lo (min z (b s)) z s i f
      → IsRow fit pm qm lo (min z (b i)) z i e g → ((j : ℕ) → lo ≤ j → j ≤ min z (b s) → h j ≡ g (f j)) → IsRow fit pm qm lo (min z (b s)) z s e h
  combine_row {s} {i} {e} {b} {f} {g} {h} hs he S D F G q =
      record {
        best = λ j a x.
            let B = F.best j a x in
            rw (q j a x) (combine hs he S B (G.best (f j) (omega (arith, B.reach.from)) (row_within D hs F j a x)));
      }

  pub arc_row : {M n l r : ℕ} {b f h : ℕ → ℕ} → Nested pm M → z ≤ M → Nested qm n → l < r → r < n → qm l ≡ r → Bounds fit z l r b
      → IsRow fit pm qm lo (min z (b (suc l))) z (suc l) r f
      → ((j : ℕ) → lo ≤ j → j ≤ min z (b l) → h j ≡ arc_at (λ x. fit x l) (λ x. fit x r) pm z (f j) (f (suc j)) j)
      → IsRow fit pm qm lo (min z (b l)) z l (suc r) h
  arc_row {M} {n} {l} {r} {b} NP hM NQ lr rn arc D A q =
      record {
        best = λ j a x. rw (q j a x)
            (arc_best NP hM NQ lr rn arc A j a (omega (arith, D.rise l (omega arith) lr))
            (λ p t. omega (arith, D.step l j (omega arith) lr p (omega arith) t)));
      }

-- A row serves a narrower segment P[lo'..z'), if that is closed: no entry goes past it.
pub narrow_row : {fit : ℕ → ℕ → Bool} {pm qm : ℕ → ℕ} {lo z lo' z' s e : ℕ} {f h : ℕ → ℕ} → lo ≤ lo' → z' ≤ z → Closed pm lo' z'
    → IsRow fit pm qm lo z z s e f → ((j : ℕ) → lo' ≤ j → j ≤ z' → h j ≡ min (f j) z') → IsRow fit pm qm lo' z' z' s e h
narrow_row {fit} {pm} {qm} {lo} {z} {lo'} {z'} {s} {e} {f} {h} la zb C F q = record {
  best = λ j a b. rw (q j a b)
      (best j a b (F.best j (omega arith) (omega arith)));
}
  where
    best : (j : ℕ) → lo' ≤ j → j ≤ z' → Best fit pm qm z j (f j) s e → Best fit pm qm z' j (min (f j) z') s e
    best j a b B =
        record {
          reach = elim (dec_le (f j) z') [
            | yes t ↦
                let i : min (f j) z' ≡ f j = omega arith in
                rw i record { from = B.reach.from; upto = t; closed = B.reach.closed; embeds = B.reach.embeds }
            | no t ↦
                let i : min (f j) z' ≡ z' = omega arith in
                rw i record {
                  from = b;
                  upto = omega arith;
                  closed = λ x p r. C x (omega arith) r;
                  embeds = (B.reach.embeds.0, restrict j z' s e (omega arith) (omega arith) (omega arith) (omega arith) B.reach.embeds.1);
                }
          ];
          most = λ k R.
              let m = B.most k record { from = R.from; upto = omega (arith, R.upto); closed = R.closed; embeds = R.embeds } in
              omega (arith, m, R.upto);
        }
