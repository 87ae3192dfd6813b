-- Bounds of the starts: an embedding stays within them.
use Prim.Native.Nat.{ℕ, zero, suc, ◌+◌, ◌-◌, ◌≤◌, ◌<◌, min}
use mathlib.Core.Path.{◌≡◌, ap}
use mathlib.Core.Bool.{Bool, true}
use native.Mathlib.Decide.{dec_lt, dec_le}
use native.Mathlib.Omega.{arith}
use Rattle.embedding.specs.Embedding.{Emb}
use Rattle.embedding.specs.Row.{Reach, Bounds}

module _ {fit : ℕ → ℕ → Bool} {z : ℕ} {b : ℕ → ℕ} where
  -- Of a part of the stretch.
  pub bounds_within : {s e s' e' : ℕ} → s ≤ s' → e' ≤ e → Bounds fit z s e b → Bounds fit z s' e' b
  bounds_within hs he D = record { rise = λ i p q. D.rise i (omega arith) (omega arith); step = λ i j p q. D.step i j (omega arith) (omega arith) }

  pub bounds_rise : {s e : ℕ} → Bounds fit z s e b → (i d : ℕ) → s ≤ i → i + d ≤ e → b i ≤ b (i + d)
  bounds_rise D i zero p q = let t : i + 0 ≡ i = omega arith in omega (arith, ap b t)
  bounds_rise D i (suc d) p q =
      let t : i + suc d ≡ suc (i + d) = omega arith in
      omega (arith, ap b t, bounds_rise D i d p (omega arith), D.rise (i + d) (omega arith) (omega arith))

  pub bounds_up : {s e : ℕ} → Bounds fit z s e b → (i k : ℕ) → s ≤ i → i ≤ k → k ≤ e → b i ≤ b k
  bounds_up D i k p q r = let t : i + (k - i) ≡ k = omega arith in omega (arith, ap b t, bounds_rise D i (k - i) p (omega arith))

  module _ {pm qm : ℕ → ℕ} where
    -- Each position of P that is laid on a base lies below the bound after that base.
    below : {j k s e : ℕ} {f : ℕ → ℕ} → Bounds fit z s e b → k ≤ z → j ≤ b s → Emb fit pm qm j k s e f → (d : ℕ) → j + d < k → j + d < b (suc (f (j + d)))
    below {j} {k} {s} {e} {f} D kz start E zero h =
        D.step (f (j + 0)) (j + 0) (E.low (j + 0) (omega arith) h) (E.high (j + 0) (omega arith) h) (omega arith)
        (omega (arith, bounds_up D s (f (j + 0)) (omega arith) (E.low (j + 0) (omega arith) h) (omega (arith, E.high (j + 0) (omega arith) h))))
        (E.bases (j + 0) (omega arith) h)
    below {j} {k} {s} {e} {f} D kz start E (suc d) h =
        let x = E.high (j + suc d) (omega arith) h in
        let o = E.order (j + d) (j + suc d) (omega arith) (omega arith) h in
        D.step (f (j + suc d)) (j + suc d) (E.low (j + suc d) (omega arith) h) x (omega arith)
        (omega (
          arith,
          below D kz start E d (omega arith),
          bounds_up D (suc (f (j + d))) (f (j + suc d)) (omega (arith, E.low (j + d) (omega arith) (omega arith))) o (omega arith),
        ))
        (E.bases (j + suc d) (omega arith) h)

    -- An end that is reached from a start within the bound at s is within the bound at e.
    pub bounds_end : {j k s e : ℕ} → Bounds fit z s e b → s ≤ e → j ≤ b s → Reach fit pm qm z j k s e → k ≤ b e
    bounds_end {j} {k} {s} {e} D se start R = elim (dec_le k j) [
      | yes h ↦ omega (arith, bounds_up D s e (omega arith) se (omega arith))
      | no h ↦
          let E = R.embeds.1 in
          let d : ℕ = k - suc j in
          let x = E.high (j + d) (omega arith) (omega arith) in
          omega (
            arith,
            below D R.upto start E d (omega arith),
            bounds_up D (suc (R.embeds.0 (j + d))) e (omega (arith, E.low (j + d) (omega arith) (omega arith))) x (omega arith),
          )
    ]

-- Bounds that go on to n, with a position of P for each further base.
abbrev onward : (ℕ → ℕ) → ℕ → ℕ → ℕ
onward b e i = b (min i e) + (i - e)

module _ {fit : ℕ → ℕ → Bool} {z s e : ℕ} {b : ℕ → ℕ} (D : Bounds fit z s e b) where
  onward_in : (i : ℕ) → i ≤ e → onward b e i ≡ b i
  onward_in i h = let t : min i e ≡ i = omega arith in omega (arith, ap b t)

  onward_past : (i : ℕ) → e ≤ i → onward b e i ≡ b e + (i - e)
  onward_past i h = let t : min i e ≡ e = omega arith in omega (arith, ap b t)

  bounds_on : (n : ℕ) → Bounds fit z s n (onward b e)
  bounds_on n = record { rise = rise; step = step } where
    rise : (i : ℕ) → s ≤ i → i < n → onward b e i ≤ onward b e (suc i)
    rise i p q = elim (dec_lt i e) [
      | yes h ↦ omega (arith, onward_in i (omega arith), onward_in (suc i) h, D.rise i p h)
      | no h ↦ omega (arith, onward_past i (omega arith), onward_past (suc i) (omega arith))
    ]

    step : (i j : ℕ) → s ≤ i → i < n → j < z → j ≤ onward b e i → fit j i ≡ true → j < onward b e (suc i)
    step i j p q l h t = elim (dec_lt i e) [
      | yes g ↦ omega (arith, onward_in (suc i) g, D.step i j p g l (omega (arith, onward_in i (omega arith))) t)
      | no g ↦ omega (arith, onward_past i (omega arith), onward_past (suc i) (omega arith))
    ]

  -- What is reached past e: no more than the bound there and the bases behind it.
  pub bounds_past : {pm qm : ℕ → ℕ} {j k n : ℕ} → s ≤ e → e ≤ n → j ≤ b s → Reach fit pm qm z j k s n → k ≤ b e + (n - e)
  bounds_past {pm} {qm} {j} {k} {n} se en h R =
      omega (arith, bounds_end (bounds_on n) (omega arith) (omega (arith, onward_in s se)) R, onward_past n en)
