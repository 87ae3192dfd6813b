-- A stretch of so many bases takes no more than so many positions of P: a row is wanted for that segment alone.
use Prim.Native.Nat.{ℕ, zero, suc, ◌+◌, ◌-◌, ◌≤◌, ◌<◌}
use mathlib.Core.Path.{◌≡◌, ap}
use mathlib.Core.Bool.{Bool}
use native.Mathlib.Decide.{dec_le}
use native.Mathlib.Omega.{arith}
use Rattle.embedding.specs.Embedding.{Emb}
use Rattle.embedding.specs.Row.{Reach, Best}

module _ {fit : ℕ → ℕ → Bool} {pm qm : ℕ → ℕ} where
  -- The image of a + d is at least d past the stretch's start.
  climbs : {a b s e : ℕ} {f : ℕ → ℕ} → Emb fit pm qm a b s e f → (d : ℕ) → a + d < b → s + d ≤ f (a + d)
  climbs {a} {b} {s} {e} {f} E zero h = omega (arith, E.low (a + 0) (omega arith) h)
  climbs {a} {b} {s} {e} {f} E (suc d) h =
      omega (arith, climbs E d (omega arith), E.order (a + d) (a + suc d) (omega arith) (omega arith) h)

  -- An embedding in a stretch of so many bases takes at most so many positions.
  pub fits_in : {a b s e : ℕ} {f : ℕ → ℕ} → Emb fit pm qm a b s e f → b - a ≤ e - s
  fits_in {a} {b} {s} {e} {f} E = elim (dec_le b a) [
    | yes h ↦ omega arith
    | no h ↦
        let i : a + (b - suc a) ≡ b - 1 = omega arith in
        omega (arith, climbs E (b - suc a) (omega arith), ap f i, E.high (b - 1) (omega arith) (omega arith))
  ]

  -- The best end in a segment that is as long as the stretch, or ends with P, is the best end.
  pub widen : {m z j k s e : ℕ} → z ≤ m → (z < m → j + (e - s) ≤ z) → Best fit pm qm z j k s e → Best fit pm qm m j k s e
  widen {m} {z} {j} {k} {s} {e} zm wide B =
      record {
        reach = record { from = B.reach.from; upto = omega (arith, B.reach.upto); closed = B.reach.closed; embeds = B.reach.embeds };
        most = λ k' R. elim (dec_le k' z) [
          | yes t ↦ B.most k' record { from = R.from; upto = t; closed = R.closed; embeds = R.embeds }
          | no t ↦ omega (arith, wide (omega (arith, R.upto)), fits_in R.embeds.1, B.reach.from, B.reach.upto)
        ];
      }

  -- P may as well end where a reached end is.
  pub cut_to : {m j k s e : ℕ} → Reach fit pm qm m j k s e → Reach fit pm qm k j k s e
  cut_to R = record { from = R.from; upto = omega arith; closed = R.closed; embeds = R.embeds }
