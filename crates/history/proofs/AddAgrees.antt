-- Add: the bytes and the model come to the same, and the bytes go on following.
use Rattle.std.specs.Prelude.{Ok}
use Prim.Native.Nat.{ℕ}
use native.Mathlib.Omega.{arith}
use mathlib.Core.Path.{◌≡◌, refl, ap, ◌∙◌}
use mathlib.Core.Bool.{Bool, true}
use Rattle.strand.specs.Strands.{Strand}
use Rattle.calls.specs.Calls.{add_result}
use Rattle.calls.proofs.ReadingLaws.{count_is}
use Rattle.calls.proofs.Claims.{add_accepted}
use Rattle.calls.proofs.Stores.{stores_add}
use Rattle.history.specs.Model.{add, ends_period, State, model_verdict, model_answer, model_next}
use Rattle.history.specs.History.{Buffers}
use Rattle.history.proofs.Bytes.{bytes_verdict, bytes_result, bytes_next}
use Rattle.history.proofs.StateLaws.{add_passed, next_ok}
use Rattle.history.proofs.Slots.{slot_add}
use Rattle.history.proofs.Follows.{Few, Follows, fresh, CallAgrees, by_verdict_lem}

module _ (embeds : Strand → Strand → Bool) (B S : ℕ) (d : ℕ) (q : Strand) where
  module _ (β : Buffers) (σ : State) (times : ℕ → ℕ) (f : Follows embeds B S β σ times) where
    accepted : model_verdict embeds B S σ (add d q) ≡ Ok tt → bytes_verdict β (add d q) ≡ Ok tt → Few S times
        → (bytes_result embeds β (add d q) ≡ model_answer embeds B S σ (add d q))
        × Follows embeds B S (bytes_next embeds β (add d q)) (model_next embeds B S σ (add d q)) (λ s. 0)
    unfolding bytes_verdict bytes_result bytes_next model_answer model_next add_result
    accepted e a few =
        let new = add_accepted β.catalog β.cache d q a in
        let free = (add_passed embeds B S σ d q e).1 in (
          ap add_result new.answer,
          fresh embeds B S _ _ (unfold model_next in (next_ok embeds B S σ f.ok (add d q) e)) (stores_add f.stored β.cache d q a)
              (new.cache_each.size ∙ f.sized)
              (λ s l.
              new.cache_each.each s (omega (arith, count_is β.cache S f.sized))
              ∙ f.once s l (few s l)
              ∙ slot_add embeds B S σ.molecules d q (σ.slots s) free (f.ok.slot_ok s)),
        )

  ends : (σ : State) → ends_period (model_answer embeds B S σ (add d q)) ≡ true
  unfolding ends_period model_answer
  ends σ = refl

  pub add_agrees : CallAgrees embeds B S (add d q)
  add_agrees β σ times f few = by_verdict_lem embeds B S β σ times (add d q) (ends σ) (accepted β σ times f) f few
