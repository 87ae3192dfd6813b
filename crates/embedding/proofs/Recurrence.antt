-- The laws of the largest closed end, `Best`: it is unique, and known for an empty stretch, for a single base, for two stretches side by
-- side (combine), and for a stretch with an unbonded base put in front (extend).
use Prim.Native.Nat.{ℕ, suc, ◌≤◌, ◌<◌, max}
use mathlib.Core.Path.{◌≡◌}
use mathlib.Core.Bool.{Bool, true}
use native.Mathlib.Decide.{dec_lt, dec_le}
use native.Mathlib.Omega.{arith}
use Rattle.embedding.specs.Embedding.{Emb}
use Rattle.embedding.specs.Row.{Split, Reach, Best}
use Rattle.embedding.proofs.Splitting.{restrict, glued, Halves, halves}

-- A stretch that begins with a base whose mate, if any, lies outside it.
pub alone : (qm : ℕ → ℕ) (s e : ℕ) → (s < qm s → e ≤ qm s) → Split qm s (suc s) e
alone qm s e a u p q r = let i : s ≡ u = omega arith in rw (← i) (a (rw i (omega arith)))

module _ {fit : ℕ → ℕ → Bool} {pm qm : ℕ → ℕ} {m : ℕ} where
  pub unique : {j k k' s e : ℕ} → Best fit pm qm m j k s e → Best fit pm qm m j k' s e → k ≡ k'
  unique {j} {k} {k'} b b' = omega (arith, b.most k' b'.reach, b'.most k b.reach)

  -- A later start, in a wider stretch.
  pub later : {j k s e : ℕ} (j' s' e' : ℕ) → j ≤ j' → j' ≤ k → s' ≤ s → e ≤ e' → Reach fit pm qm m j k s e → Reach fit pm qm m j' k s' e'
  later {j} {k} j' s' e' h h' hs he R =
      record {
        from = h';
        upto = R.upto;
        closed = λ x p q. R.closed x (omega arith) q;
        embeds = (R.embeds.0, restrict j' k s' e' h (omega arith) hs he R.embeds.1);
      }

  -- Nothing of Q: no base of P embeds.
  pub empty : (j s : ℕ) → j ≤ m → Best fit pm qm m j j s s
  empty j s h = record { reach = reach; most = most }
    where
      reach : Reach fit pm qm m j j s s
      reach =
          record {
            from = omega arith;
            upto = h;
            closed = λ x p q. omega arith;
            embeds = (
              (λ x. x),
              record {
                low = λ x p q. omega arith;
                high = λ x p q. omega arith;
                order = λ x y p q r. omega arith;
                bases = λ x p q. absurd (omega arith);
                arcs = λ x y p q r. absurd (omega arith);
              },
            );
          }

      most : (k : ℕ) → Reach fit pm qm m j k s s → k ≤ j
      most k R = elim (dec_le k j) [
        | yes t ↦ t
        | no t ↦ omega (arith, R.embeds.1.low j (omega arith) (omega arith), R.embeds.1.high j (omega arith) (omega arith))
      ]

  -- What is left of a reached end after the best of the first stretch goes into the second.
  pub rest : {j k n s i e : ℕ} → Split qm s i e → Best fit pm qm m j k s i → k ≤ n → Reach fit pm qm m j n s e → Reach fit pm qm m k n i e
  rest {j} {k} {n} {s} {i} {e} S B h R = go (halves i R.from R.closed S R.embeds)
    where
      go : Halves fit pm qm j n s i e → Reach fit pm qm m k n i e
      go H = later k i e first h (omega arith) (omega arith) record { from = H.upto; upto = R.upto; closed = H.closed_right; embeds = H.right }
        where
          first : H.place ≤ k
          first = B.most H.place record { from = H.from; upto = omega arith; closed = H.closed_left; embeds = H.left }

  -- Two stretches side by side: the second goes on where the first ends.
  pub combine : {j k l s i e : ℕ} → s ≤ i → i ≤ e → Split qm s i e
      → Best fit pm qm m j k s i → Best fit pm qm m k l i e → Best fit pm qm m j l s e
  combine {j} {k} {l} {s} {i} {e} hs he S B₁ B₂ = record { reach = reach; most = most }
    where
      reach : Reach fit pm qm m j l s e
      reach =
          record {
            from = omega arith;
            upto = B₂.reach.upto;
            closed = λ x p q. elim (dec_lt x k) [
              | yes t ↦ omega (arith, B₁.reach.closed x p t)
              | no t ↦ B₂.reach.closed x (omega arith) q
            ];
            embeds = glued k i hs he B₁.reach.closed S B₁.reach.embeds B₂.reach.embeds;
          }

      most : (n : ℕ) → Reach fit pm qm m j n s e → n ≤ l
      most n R = elim (dec_le k n) [ yes t ↦ B₂.most n (rest S B₁ t R) | no t ↦ omega arith ]

  -- One base of Q takes one unbonded base of P (a left end is not unbonded in P[j..m)), or none.
  pub single_takes : (j s : ℕ) → j < m → pm j ≤ j → fit j s ≡ true → Best fit pm qm m j (suc j) s (suc s)
  single_takes j s h c t = record { reach = reach; most = most }
    where
      here : (x : ℕ) → j ≤ x → x < suc j → j ≡ x
      here x p q = omega arith

      reach : Reach fit pm qm m j (suc j) s (suc s)
      reach =
          record {
            from = omega arith;
            upto = h;
            closed = λ x p q. rw (← (here x p q)) (omega arith);
            embeds = (
              (λ x. s),
              record {
                low = λ x p q. omega arith;
                high = λ x p q. omega arith;
                order = λ x y p q r. omega arith;
                bases = λ x p q. rw (← (here x p q)) t;
                arcs = λ x y p q r. absurd (omega arith);
              },
            );
          }

      most : (k : ℕ) → Reach fit pm qm m j k s (suc s) → k ≤ suc j
      most k R = elim (dec_le k (suc j)) [
        | yes u ↦ u
        | no u ↦
            let E = R.embeds.1 in
            omega (
              arith,
              E.low j (omega arith) (omega arith),
              E.order j (suc j) (omega arith) (omega arith) (omega arith),
              E.high (suc j) (omega arith) (omega arith),
            )
      ]

  pub single_skips : (j s : ℕ) → j ≤ m → (j < m → pm j ≤ j → fit j s ≡ true → ⊥) → Best fit pm qm m j j s (suc s)
  single_skips j s h n = record { reach = later j s (suc s) (omega arith) (omega arith) (omega arith) (omega arith) (empty j s h).reach; most = most }
    where
      most : (k : ℕ) → Reach fit pm qm m j k s (suc s) → k ≤ j
      most k R = elim (dec_le k j) [ yes t ↦ t | no t ↦ absurd (go t (dec_le k (suc j))) ]
        where
          E : Emb fit pm qm j k s (suc s) R.embeds.0
          E = R.embeds.1

          go : ¬ (k ≤ j) → Dec (k ≤ suc j) → ⊥
          go t (yes u) =
              let i : R.embeds.0 j ≡ s = omega (arith, E.low j (omega arith) (omega arith), E.high j (omega arith) (omega arith)) in
              let c : pm j ≤ j = omega (arith, R.closed j (omega arith) (omega arith)) in
              n (omega (arith, R.upto)) c (rw i at (E.bases j (omega arith) (omega arith)))
          go t (no u) =
              omega (
                arith,
                E.low j (omega arith) (omega arith),
                E.order j (suc j) (omega arith) (omega arith) (omega arith),
                E.high (suc j) (omega arith) (omega arith),
              )

  pub extend_takes : {j k s e : ℕ} → s < e → (s < qm s → e ≤ qm s) → j < m → pm j ≤ j → fit j s ≡ true
      → Best fit pm qm m (suc j) k (suc s) e → Best fit pm qm m j k s e
  extend_takes {j} {k} {s} {e} h a p c t B = combine (omega arith) h (alone qm s e a) (single_takes j s p c t) B

  pub extend_skips : {j k s e : ℕ} → s < e → (s < qm s → e ≤ qm s) → (j < m → pm j ≤ j → fit j s ≡ true → ⊥)
      → Best fit pm qm m j k (suc s) e → Best fit pm qm m j k s e
  extend_skips {j} {k} {s} {e} h a n B = combine (omega arith) h (alone qm s e a) (single_skips j s (omega arith) n) B

  -- Two ends that are both reached, and no end is reached beyond them.
  pub larger : {j s e : ℕ} (b c : ℕ) → Reach fit pm qm m j b s e → Reach fit pm qm m j c s e
      → ((k : ℕ) → Reach fit pm qm m j k s e → k ≤ max b c) → Best fit pm qm m j (max b c) s e
  larger {j} {s} {e} b c R R' most = record { reach = go (dec_le b c); most = most }
    where
      go : Dec (b ≤ c) → Reach fit pm qm m j (max b c) s e
      go (yes t) = let i : max b c ≡ c = omega arith in rw i R'
      go (no t) = let i : max b c ≡ b = omega arith in rw i R
