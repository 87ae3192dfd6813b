-- Remove: the bytes and the model come to the same, and the bytes go on following.
use Rattle.std.specs.Prelude.{Ok}
use Prim.Native.Nat.{ℕ, ◌<◌, ◌≤◌}
use native.Mathlib.Omega.{arith}
use mathlib.Core.Path.{◌≡◌, refl, ap, ◌∙◌}
use mathlib.Core.Bool.{Bool, true}
use Rattle.strand.specs.Strands.{Strand}
use Rattle.block.specs.Block.{forgot}
use Rattle.calls.specs.Buffers.{most_catalog_blocks}
use Rattle.calls.specs.Calls.{remove_result}
use Rattle.calls.proofs.ReadingLaws.{count_is}
use Rattle.calls.proofs.Claims.{remove_accepted}
use Rattle.calls.proofs.Stores.{stores_remove}
use Rattle.history.specs.Model.{remove, ends_period, State, model_verdict, model_answer, model_next}
use Rattle.history.specs.History.{Buffers}
use Rattle.history.proofs.Bytes.{bytes_verdict, bytes_result, bytes_next}
use Rattle.history.proofs.StateLaws.{remove_passed, range_passed, most_blocks, next_ok}
use Rattle.history.proofs.Slots.{slot_remove}
use Rattle.history.proofs.Follows.{Few, Follows, fresh, CallAgrees, by_verdict_lem}

module _ (embeds : Strand → Strand → Bool) (B S : ℕ) (d : ℕ) where
  module _ (β : Buffers) (σ : State) (times : ℕ → ℕ) (f : Follows embeds B S β σ times) where
    accepted : model_verdict embeds B S σ (remove d) ≡ Ok tt → bytes_verdict β (remove d) ≡ Ok tt → Few S times
        → (bytes_result embeds β (remove d) ≡ model_answer embeds B S σ (remove d))
        × Follows embeds B S (bytes_next embeds β (remove d)) (model_next embeds B S σ (remove d)) (λ s. 0)
    unfolding bytes_verdict bytes_result bytes_next model_answer model_next remove_result
    accepted e a few =
        let new = remove_accepted β.catalog β.cache d a in
        let l : d < B = remove_passed embeds B S σ d e in
        let b : B ≤ most_catalog_blocks = most_blocks B S (range_passed embeds B S σ (remove d) e) in (
          ap remove_result new.answer,
          fresh embeds B S _ _ (unfold model_next in (next_ok embeds B S σ f.ok (remove d) e)) (stores_remove f.stored β.cache d a)
              (new.cache_each.size ∙ f.sized)
              (λ s k.
              new.cache_each.each s (omega (arith, count_is β.cache S f.sized))
              ∙ ap (forgot d) (f.once s k (few s k))
              ∙ slot_remove embeds B S σ.molecules d (σ.slots s) (omega arith) (f.ok.slot_ok s)),
        )

  ends : (σ : State) → ends_period (model_answer embeds B S σ (remove d)) ≡ true
  unfolding ends_period model_answer
  ends σ = refl

  pub remove_agrees : CallAgrees embeds B S (remove d)
  remove_agrees β σ times f few = by_verdict_lem embeds B S β σ times (remove d) (ends σ) (accepted β σ times f) f few
