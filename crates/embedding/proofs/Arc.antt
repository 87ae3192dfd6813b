-- An arc (l, r) of Q: the largest closed end in Q[l..r+1), from those in Q[l+1..r), Q[l..r) and Q[l+1..r+1).
use Prim.Native.Nat.{ℕ, zero, suc, ◌≤◌, ◌<◌, max}
use mathlib.Core.Path.{◌≡◌, refl, sym, ap, ◌∙◌}
use mathlib.Core.Bool.{Bool, true}
use mathlib.Core.Logic.{◌↔◌, ◌≢◌}
use native.Mathlib.Decide.{dec_lt, ℕ_discrete}
use native.Mathlib.Omega.{arith}
use Rattle.strand.specs.Strands.{Nested}
use Rattle.embedding.specs.Embedding.{Emb, Embeds}
use Rattle.embedding.specs.Row.{Closed, Reach, Best}
use Rattle.embedding.proofs.Splitting.{glue, glue_left, glue_right, within, restrict, agree}
use Rattle.embedding.proofs.Recurrence.{later, larger}

-- Mates are injective.
pub same_mate : {mate : ℕ → ℕ} {n : ℕ} → Nested mate n → (x y : ℕ) → x < n → y < n → mate x ≡ mate y → x ≡ y
same_mate {mate} N x y p q t = cc (N.paired x p, N.paired y q, ap mate t)

-- The stretch from a left end to its mate is closed, and so is what lies between them.
pub arc_closed : {mate : ℕ → ℕ} {n : ℕ} → Nested mate n → (j : ℕ) → j < n → j < mate j → Closed mate j (suc (mate j))
arc_closed {mate} {n} N j h l x p q = go (ℕ_discrete j x) (ℕ_discrete (mate j) x) (dec_lt (mate j) (mate x))
  where
    go : Dec (j ≡ x) → Dec (mate j ≡ x) → Dec (mate j < mate x) → mate x < suc (mate j)
    go d d' (no t) = omega arith
    go (yes i) d' (yes t) = omega (arith, ap mate i)
    go (no i) (yes i') (yes t) = omega (arith, ap mate i', N.paired j h)
    go (no i) (no i') (yes t) = absurd (N.apart j x (omega (arith, N.inside j h)) (omega arith) (omega arith) t)

pub inner_closed : {mate : ℕ → ℕ} {n : ℕ} → Nested mate n → (j : ℕ) → j < n → j < mate j → Closed mate (suc j) (mate j)
inner_closed {mate} {n} N j h l x p q = go (ℕ_discrete (mate x) (mate j))
  where
    go : Dec (mate x ≡ mate j) → mate x < mate j
    go (yes i) = omega (arith, same_mate N x j (omega (arith, N.inside j h)) h i)
    go (no i) = omega (arith, arc_closed N j h l x (omega arith) (omega arith))

module _ {fit : ℕ → ℕ → Bool} {pm qm : ℕ → ℕ} {m n : ℕ} (NP : Nested pm m) (NQ : Nested qm n) where
  -- Arc upon arc: what lies between the ends in P goes between the ends in Q.
  module _ (j l r : ℕ) (hj : j < m) (left : j < pm j) (lr : l < r) (rn : r < n) (arc : qm l ≡ r) where
    pub upon_arc : {h : ℕ → ℕ} → l ≡ h j → r ≡ h (pm j) → fit j l ≡ true → fit (pm j) r ≡ true
        → Emb fit pm qm (suc j) (pm j) (suc l) r h → Emb fit pm qm j (suc (pm j)) l (suc r) h
    upon_arc {h} el er tl tr E = record { low = low; high = high; order = order; bases = bases; arcs = arcs }
      where
        at_left : (x : ℕ) → j ≡ x → l ≡ h x
        at_left x i = el ∙ ap h i

        at_right : (x : ℕ) → pm j ≡ x → r ≡ h x
        at_right x i = er ∙ ap h i

        above : (x : ℕ) → j < x → x < suc (pm j) → l < h x
        above x p q = elim (ℕ_discrete (pm j) x) [ yes i ↦ omega (arith, at_right x i) | no i ↦ E.low x p (omega arith) ]

        below : (x : ℕ) → j ≤ x → x < pm j → h x < r
        below x p q = elim (ℕ_discrete j x) [ yes i ↦ omega (arith, at_left x i) | no i ↦ E.high x (omega arith) q ]

        low : (x : ℕ) → j ≤ x → x < suc (pm j) → l ≤ h x
        low x p q = elim (ℕ_discrete j x) [ yes i ↦ omega (arith, at_left x i) | no i ↦ omega (arith, above x (omega arith) q) ]

        high : (x : ℕ) → j ≤ x → x < suc (pm j) → h x < suc r
        high x p q = elim (ℕ_discrete (pm j) x) [ yes i ↦ omega (arith, at_right x i) | no i ↦ omega (arith, below x p (omega arith)) ]

        order : (x y : ℕ) → j ≤ x → x < y → y < suc (pm j) → h x < h y
        order x y p q t = go (ℕ_discrete j x) (ℕ_discrete (pm j) y)
          where
            go : Dec (j ≡ x) → Dec (pm j ≡ y) → h x < h y
            go (yes i) d = omega (arith, at_left x i, above y (omega arith) t)
            go (no i) (yes k) = omega (arith, at_right y k, below x p (omega arith))
            go (no i) (no k) = E.order x y (omega arith) q (omega arith)

        bases : (x : ℕ) → j ≤ x → x < suc (pm j) → fit x (h x) ≡ true
        bases x p q = go (ℕ_discrete j x) (ℕ_discrete (pm j) x)
          where
            go : Dec (j ≡ x) → Dec (pm j ≡ x) → fit x (h x) ≡ true
            go (yes i) d = rw (← (at_left x i), ← i) tl
            go (no i) (yes k) = rw (← (at_right x k), ← k) tr
            go (no i) (no k) = E.bases x (omega arith) (omega arith)

        arcs : (x y : ℕ) → j ≤ x → x < y → y < suc (pm j) → (pm x ≡ y) ↔ (qm (h x) ≡ h y)
        arcs x y p q t = go (ℕ_discrete j x) (ℕ_discrete (pm j) y)
          where
            go : Dec (j ≡ x) → Dec (pm j ≡ y) → (pm x ≡ y) ↔ (qm (h x) ≡ h y)
            go (yes i) (yes k) = ((λ u. cc (at_left x i, at_right y k)), (λ u. cc))
            go (yes i) (no k) =
                ((λ u. omega (arith, ap pm i)), (λ u. omega (arith, ap qm (at_left x i), below y (omega arith) (omega arith))))
            go (no i) (yes k) = (
              (λ u. absurd (i (sym (same_mate NP x j (omega (arith, NP.inside j hj)) hj (u ∙ sym k))))),
              (λ u.
                  let v : qm (h x) ≡ qm l = cc (at_right y k) in
                  omega (
                    arith,
                    above x (omega arith) (omega arith),
                    same_mate NQ (h x) l (omega (arith, below x p (omega arith))) (omega arith) v,
                  )),
            )
            go (no i) (no k) = E.arcs x y (omega arith) q (omega arith)

    -- The same from any embedding of what lies between.
    over : fit j l ≡ true → fit (pm j) r ≡ true → Embeds fit pm qm (suc j) (pm j) (suc l) r → Embeds fit pm qm j (suc (pm j)) l (suc r)
    over tl tr (f, E) =
        let g = glue (pm j) f (λ x. r) in
        let h = glue (suc j) (λ x. l) g in (
          h,
          upon_arc (glue_left (suc j) (λ x. l) g j (omega arith))
              (glue_right (pm j) f (λ x. r) (pm j) (omega arith) ∙ glue_right (suc j) (λ x. l) g (pm j) left) tl tr
              (agree h (λ x p q. glue_left (pm j) f (λ x. r) x q ∙ glue_right (suc j) (λ x. l) g x p) E),
        )

-- How f embeds P[j..k) in Q[l..r+1): it leaves out Q[l]; or it uses Q[l] and leaves out Q[r]; or it lays an arc of P upon (l, r).
pub data Lay (fit : ℕ → ℕ → Bool) (pm qm : ℕ → ℕ) (j k l r : ℕ) (f : ℕ → ℕ) : Type 0 where
  after_left : Emb fit pm qm j k (suc l) (suc r) f → Lay fit pm qm j k l r f
  before_right : f j ≡ l → Emb fit pm qm j k l r f → Lay fit pm qm j k l r f
  upon : j < pm j → suc (pm j) ≡ k → f j ≡ l → f (pm j) ≡ r → Lay fit pm qm j k l r f

module _ {fit : ℕ → ℕ → Bool} {pm qm : ℕ → ℕ} (l r : ℕ) (lr : l < r) (arc : qm l ≡ r) where
  pub lay : (j y : ℕ) (f : ℕ → ℕ) → j ≤ y → Emb fit pm qm j (suc y) l (suc r) f → Lay fit pm qm j (suc y) l r f
  lay j y f h E = go (ℕ_discrete (f j) l) (ℕ_discrete (f y) r)
    where
      low : f j ≢ l → (x : ℕ) → j ≤ x → x < suc y → suc l ≤ f x
      low i x p q =
          let s = E.low j (omega arith) (omega arith) in
          elim (ℕ_discrete j x) [
            | yes t ↦ omega (arith, ap f t)
            | no t ↦ omega (arith, E.order j x (omega arith) (omega arith) q)
          ]

      high : f y ≢ r → (x : ℕ) → j ≤ x → x < suc y → f x < r
      high i x p q =
          let s = E.high y (omega arith) (omega arith) in
          elim (ℕ_discrete x y) [
            | yes t ↦ omega (arith, ap f t)
            | no t ↦ omega (arith, E.order x y p (omega arith) (omega arith))
          ]

      go : Dec (f j ≡ l) → Dec (f y ≡ r) → Lay fit pm qm j (suc y) l r f
      go (no i) d = after_left (within j (suc y) (suc l) (suc r) (omega arith) (omega arith) (low i) E.high E)
      go (yes i) (no k) = before_right i (within j (suc y) l r (omega arith) (omega arith) E.low (high k) E)
      go (yes i) (yes k) = last (ℕ_discrete j y)
        where
          last : Dec (j ≡ y) → Lay fit pm qm j (suc y) l r f
          last (yes t) = absurd (omega (arith, ap f t))
          last (no t) =
              let u : pm j ≡ y = (E.arcs j y (omega arith) (omega arith) (omega arith)).1 (cc) in
              upon (omega arith) (omega arith) i (rw u k)

  module _ {m : ℕ} where
    -- P[j..m) does not begin with an arc, and an end is reached that is not reached without Q[l]: Q[r] is left out.
    arc_before : {j b : ℕ} → (j < m → pm j ≤ j) → Best fit pm qm m j b (suc l) (suc r)
        → (k : ℕ) → Reach fit pm qm m j k l (suc r) → b < k → Reach fit pm qm m j k l r
    arc_before free B zero R h = absurd (omega arith)
    arc_before {j} {b} free B (suc y) R h = go (lay j y R.embeds.0 (omega (arith, B.reach.from)) R.embeds.1)
      where
        go : Lay fit pm qm j (suc y) l r R.embeds.0 → Reach fit pm qm m j (suc y) l r
        go (after_left E) =
            absurd (omega (arith, B.most (suc y) record { from = R.from; upto = R.upto; closed = R.closed; embeds = (R.embeds.0, E) }))
        go (before_right i E) = record { from = R.from; upto = R.upto; closed = R.closed; embeds = (R.embeds.0, E) }
        go (upon p k i i') = absurd (omega (arith, free (omega (arith, R.upto))))

    -- P[j..m) does not begin with an arc: an embedding leaves out Q[l] or Q[r].
    pub arc_free : {j a b : ℕ} → (j < m → pm j ≤ j) → Best fit pm qm m j a l r → Best fit pm qm m j b (suc l) (suc r)
        → Best fit pm qm m j (max a b) l (suc r)
    arc_free {j} {a} {b} free A B =
        larger a b
        (later j l (suc r) (omega arith) A.reach.from (omega arith) (omega arith) A.reach)
        (later j l (suc r) (omega arith) B.reach.from (omega arith) (omega arith) B.reach)
        (λ k R. elim (dec_lt b k) [ yes t ↦ omega (arith, A.most k (arc_before free B k R t)) | no t ↦ omega arith ])

    -- P[j..m) begins with the arc (j, pm j): an embedding lays it upon (l, r), or leaves out Q[l]. P may be longer than m.
    module _ {M n : ℕ} (NP : Nested pm M) (NQ : Nested qm n) (rn : r < n) (hM : m ≤ M)
        (j b : ℕ) (left : j < pm j) (hp : pm j < m) (B : Best fit pm qm m j b (suc l) (suc r)) where
      -- An end that is not reached without Q[l] is that of the arc, laid upon (l, r).
      arc_upon : (k : ℕ) → Reach fit pm qm m j k l (suc r) → b < k
          → (suc (pm j) ≡ k) × (fit j l ≡ true) × (fit (pm j) r ≡ true) × Reach fit pm qm m (suc j) (pm j) (suc l) r
      arc_upon zero R h = absurd (omega arith)
      arc_upon (suc y) R h = go (lay j y f (omega (arith, B.reach.from)) E)
        where
          f : ℕ → ℕ
          f = R.embeds.0

          E : Emb fit pm qm j (suc y) l (suc r) f
          E = R.embeds.1

          go : Lay fit pm qm j (suc y) l r f
              → (suc (pm j) ≡ suc y) × (fit j l ≡ true) × (fit (pm j) r ≡ true) × Reach fit pm qm m (suc j) (pm j) (suc l) r
          go (after_left E') =
              absurd (omega (arith, B.most (suc y) record { from = R.from; upto = R.upto; closed = R.closed; embeds = (f, E') }))
          go (before_right i E') =
              let jy : j < suc y = omega (arith, B.reach.from) in
              let w : pm j < suc y = R.closed j (omega arith) jy in
              absurd (omega (arith, E'.high (pm j) (omega arith) w, (E'.arcs j (pm j) (omega arith) left w).0 refl, ap qm i))
          go (upon p k i i') = (
            k,
            rw i at (E.bases j (omega arith) (omega arith)),
            rw i' at (E.bases (pm j) (omega arith) (omega arith)),
            record {
              from = left;
              upto = omega arith;
              closed = inner_closed NP j (omega arith) left;
              embeds = (
                f,
                within (suc j) (pm j) (suc l) r (omega arith) (omega arith)
                    (λ x s t. omega (arith, E.order j x (omega arith) s (omega arith)))
                    (λ x s t. omega (arith, E.order x (pm j) (omega arith) t (omega arith)))
                    E,
              );
            },
          )

      pub arc_lays : {a : ℕ} → Best fit pm qm m (suc j) a (suc l) r → fit j l ≡ true → fit (pm j) r ≡ true → pm j ≤ a
          → Best fit pm qm m j (max b (suc (pm j))) l (suc r)
      arc_lays A tl tr h =
          larger b (suc (pm j))
          (later j l (suc r) (omega arith) B.reach.from (omega arith) (omega arith) B.reach)
          record {
            from = omega arith;
            upto = hp;
            closed = arc_closed NP j (omega arith) left;
            embeds = over NP NQ j l r (omega arith) left lr rn arc tl tr
                (A.reach.embeds.0, restrict (suc j) (pm j) (suc l) r (omega arith) h (omega arith) (omega arith) A.reach.embeds.1);
          }
          (λ k R. elim (dec_lt b k) [ yes t ↦ omega (arith, (arc_upon k R t).0) | no t ↦ omega arith ])

      pub arc_leaves : (fit j l ≡ true → fit (pm j) r ≡ true → Reach fit pm qm m (suc j) (pm j) (suc l) r → ⊥) → Best fit pm qm m j b l (suc r)
      arc_leaves h =
          record {
            reach = later j l (suc r) (omega arith) B.reach.from (omega arith) (omega arith) B.reach;
            most = λ k R. elim (dec_lt b k) [
              | yes t ↦ let v = arc_upon k R t in absurd (h v.1 v.2 v.3)
              | no t ↦ omega arith
            ];
          }
