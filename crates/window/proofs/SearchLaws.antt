-- The search for the tightest window, over any relation R of starts and ends that wider windows keep: what is known at first, one law for each step, and the
-- end. A window that starts before `next` is no better than the best so far, or still carries P from `next` on: so starts may be passed over one by one (P
-- cannot begin there), all at once (a window from there that is shorter than the best would end before `low`), or because a window was found (its end is the
-- least, so what starts before it is longer).
use Prim.Native.Nat.{ℕ, ◌+◌, ◌-◌, ◌≤◌, ◌<◌, max}
use mathlib.Core.Path.{◌≡◌}
use mathlib.Core.Logic.{◌⊎◌, inl, inr, ⊎_elim}
use native.Mathlib.Decide.{dec_lt, ℕ_discrete}
use native.Mathlib.Omega.{arith}
use Rattle.window.specs.Search.{Sought, NoBetter}

module _ (R : ℕ → ℕ → Type 0) (n : ℕ) (wider : (s e s' e' : ℕ) → s' ≤ s → e ≤ e' → R s e → R s' e') where
  pub sought_none : Sought R n 0 (n + 1) 0 0
  sought_none =
      record { best = λ h. absurd (omega arith); before = omega arith; clear = λ e h. absurd (omega arith); past = λ s e h. absurd (omega arith) }

  module _ {start size next low : ℕ} (S : Sought R n start size next low) where
    -- What a window from before j that carries P comes to, where it is no better than the best or carries P from `next`.
    onward : (j : ℕ) → next ≤ j → ((s e : ℕ) → s < j → e ≤ n → R next e → NoBetter start size s e ⊎ R j e)
        → (s e : ℕ) → s < j → e ≤ n → R s e → NoBetter start size s e ⊎ R j e
    onward j nj f s e h g r = elim (dec_lt s next) [
      | yes t ↦ ⊎_elim (λ b. inl b) (λ x. f s e h g x) (S.past s e t g r)
      | no t ↦ f s e h g (wider s e next e (omega arith) (omega arith) r)
    ]

    moved : (j : ℕ) → next ≤ j → ((s e : ℕ) → s < j → e ≤ n → R next e → NoBetter start size s e ⊎ R j e) → Sought R n start size j low
    moved j nj f =
        record {
          best = S.best;
          before = omega (arith, S.before);
          clear = λ e h r. S.clear e h (wider j e next e nj (omega arith) r);
          past = onward j nj f;
        }

    -- P's first base stands nowhere from `next` to before j.
    pub sought_begin : (j : ℕ) → next ≤ j → ((e : ℕ) → R next e → R j e) → Sought R n start size j low
    sought_begin j nj f = moved j nj (λ s e h g r. inr (f e r))

    -- A window from before j that is shorter than the best would end before `low`.
    pub sought_later : (j : ℕ) → j ≡ max next (low + 1 - size) → Sought R n start size j low
    sought_later j i = elim (ℕ_discrete j next) [
      | yes t ↦ moved j (omega arith) (λ s e h g r. inr (rw t r))
      | no t ↦ moved j (omega arith) (λ s e h g r. inl (far t s e h (ends e r)))
    ]
      where
        ends : (e : ℕ) → R next e → low ≤ e
        ends e r = elim (dec_lt e low) [ yes h ↦ absurd (S.clear e h r) | no h ↦ omega arith ]

        far : (j ≡ next → ⊥) → (s e : ℕ) → s < j → low ≤ e → NoBetter start size s e
        far t s e h l = (omega arith, λ u. omega (arith, S.before))

    -- No window from `next` ends before low'.
    pub sought_clear : (low' : ℕ) → ((e : ℕ) → e < low' → R next e → ⊥) → Sought R n start size next low'
    sought_clear low' c = record { best = S.best; before = S.before; clear = c; past = S.past }

    -- e is the least end of a window from `next`, s the last start of one to e, and that window is shorter than the best: it is the best now.
    pub sought_found : (s e : ℕ) → next ≤ s → s ≤ e → e ≤ n → e < s + size → R s e → ((x : ℕ) → x < e → R next x → ⊥) → ((x : ℕ) → s < x → R x e → ⊥)
        → Sought R n s (e - s) (s + 1) (e + 1)
    sought_found s e ns se en short here least last =
        let i : s + (e - s) ≡ e = omega arith in
        record {
          best = λ h. (omega arith, rw i here);
          before = omega arith;
          clear = λ x h r. last (s + 1) (omega arith) (wider (s + 1) x (s + 1) e (omega arith) (omega arith) r);
          past = past;
        }
      where
        from : (u x : ℕ) → u < s + 1 → R next x → NoBetter s (e - s) u x
        from u x h r = elim (dec_lt x e) [ yes t ↦ absurd (least x t r) | no t ↦ (omega arith, λ z. omega arith) ]

        past : (u x : ℕ) → u < s + 1 → x ≤ n → R u x → NoBetter s (e - s) u x ⊎ R (s + 1) x
        past u x h g r = elim (dec_lt u next) [
          | yes t ↦ ⊎_elim (λ b. inl (omega (arith, b.0), λ z. omega (arith, b.0))) (λ y. inl (from u x h y)) (S.past u x t g r)
          | no t ↦ inl (from u x h (wider u x next x (omega arith) (omega arith) r))
        ]

    -- The search is over: every window from `next` on is ruled out; or none can be shorter than the best.
    pub over_clear : n < low → (s e : ℕ) → e ≤ n → R s e → NoBetter start size s e
    over_clear h s e g r = elim (dec_lt s next) [
      | yes t ↦ ⊎_elim (λ b. b) (λ x. absurd (S.clear e (omega arith) x)) (S.past s e t g r)
      | no t ↦ absurd (S.clear e (omega arith) (wider s e next e (omega arith) (omega arith) r))
    ]

    pub over_short : (m : ℕ) → ((s e : ℕ) → R s e → s + m ≤ e) → size ≤ m → (s e : ℕ) → e ≤ n → R s e → NoBetter start size s e
    over_short m long h s e g r = elim (dec_lt s next) [
      | yes t ↦ ⊎_elim (λ b. b) (λ x. (omega (arith, long s e r), λ z. absurd (omega (arith, long next e x)))) (S.past s e t g r)
      | no t ↦ (omega (arith, long s e r), λ z. omega (arith, S.before))
    ]
