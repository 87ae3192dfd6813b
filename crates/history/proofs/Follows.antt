-- The bytes follow the model, and what it is for a call to agree: the same result, and the bytes follow afterwards.
use Rattle.std.specs.Prelude.{Ok, Err}
use Prim.Native.Nat.{ℕ, ◌*◌, ◌<◌, ◌≤◌}
use mathlib.Core.Path.{◌≡◌, refl, sym, ap, ◌∙◌}
use mathlib.Core.Bool.{Bool, true, false}
use lib.ListN.{length}
use Rattle.strand.specs.Strands.{Strand}
use Rattle.refusals.specs.Rules.{Verdict}
use Rattle.refusals.specs.declared.Refusal.{Refusal}
use Rattle.block.specs.Content.{block_size}
use Rattle.block.specs.Block.{block_of, cleaned}
use Rattle.calls.specs.Calls.{refused_by}
use Rattle.calls.proofs.Stores.{Stores}
use Rattle.history.specs.Model.{Call, ends_period, State, model_verdict, model_answer, model_next, model_result, model_after, slot_block}
use Rattle.history.specs.History.{Buffers}
use Rattle.history.proofs.Bytes.{bytes_verdict, bytes_result, bytes_next, bytes_refused}
use Rattle.history.proofs.Verdicts.{same_verdict, result_accepted, after_accepted, result_refused, after_refused}
use Rattle.history.proofs.StateLaws.{StateOk}
use Rattle.history.proofs.Slots.{slot_clean}

-- No block was altered twice.
abbrev pub Few : ℕ → (ℕ → ℕ) → Type 0
Few S times = (s : ℕ) → s < S → times s ≤ 1

-- The alterations counted after a call that ends a period, or not.
unfoldable pub times_after : Bool → (ℕ → ℕ) → ℕ → ℕ
times_after true times s = 0
times_after false times s = times s

module _ (embeds : Strand → Strand → Bool) (B S : ℕ) where
  -- `times` says how often each block was altered since the last call that ended a period. Of a block altered once the cleaned bytes are
  -- known; of one altered more often nothing is.
  pub record Follows (β : Buffers) (σ : State) (times : ℕ → ℕ) : Type 0 where
    pub ok : StateOk B σ
    pub stored : Stores B β.catalog σ.molecules
    pub sized : length β.cache ≡ block_size * S
    pub once : (s : ℕ) → s < S → times s ≤ 1 → cleaned (block_of s β.cache) ≡ slot_block embeds B S σ.molecules (σ.slots s)
    pub never : (s : ℕ) → s < S → times s ≡ 0 → block_of s β.cache ≡ slot_block embeds B S σ.molecules (σ.slots s)

  -- where each cache block is as the model has the slot
  pub fresh : (β : Buffers) (σ : State) → StateOk B σ → Stores B β.catalog σ.molecules → length β.cache ≡ block_size * S
      → ((s : ℕ) → s < S → block_of s β.cache ≡ slot_block embeds B S σ.molecules (σ.slots s)) → Follows β σ (λ s. 0)
  fresh β σ good stored sized is =
      record {
        ok = good;
        stored = stored;
        sized = sized;
        once = λ s l e. ap cleaned (is s l) ∙ slot_clean embeds B S σ.molecules (σ.slots s) (good.slot_ok s);
        never = λ s l e. is s l;
      }

  -- One call: the same result, and the bytes follow afterwards.
  pub record Agrees (β : Buffers) (σ : State) (times : ℕ → ℕ) (c : Call) : Type 0 where
    pub same : bytes_result embeds β c ≡ model_result embeds B S σ c
    pub follows : Follows (bytes_next embeds β c) (model_after embeds B S σ c) (times_after (ends_period (model_result embeds B S σ c)) times)

  -- What is asked of a call: that no block was altered twice is known where it ends a period.
  abbrev pub CallAgrees : Call → Type 0
  CallAgrees c =
      (β : Buffers) (σ : State) (times : ℕ → ℕ) → Follows β σ times → (ends_period (model_result embeds B S σ c) ≡ true → Few S times) → Agrees β σ times c

  module _ (β : Buffers) (σ : State) (times : ℕ → ℕ) (c : Call) where
    accepted_agrees : model_verdict embeds B S σ c ≡ Ok tt → ends_period (model_answer embeds B S σ c) ≡ true
        → bytes_result embeds β c ≡ model_answer embeds B S σ c → Follows (bytes_next embeds β c) (model_next embeds B S σ c) (λ s. 0)
        → Agrees β σ times c
    unfolding times_after
    accepted_agrees e ends same f =
        record {
          same = same ∙ sym (result_accepted embeds B S σ c e);
          follows = rw (result_accepted embeds B S σ c e, after_accepted embeds B S σ c e, ends) f;
        }

    refused_agrees : (r : Refusal) → model_verdict embeds B S σ c ≡ Err r → bytes_verdict β c ≡ Err r → Follows β σ times → Agrees β σ times c
    unfolding times_after ends_period refused_by
    refused_agrees r e b f =
        let y = bytes_refused embeds β c r b in
        record {
          same = y.0 ∙ sym (result_refused embeds B S σ c r e);
          follows = rw (result_refused embeds B S σ c r e, after_refused embeds B S σ c r e, y.1) f;
        }

    -- a call that agrees where the rules accept it
    pub by_verdict_lem : ends_period (model_answer embeds B S σ c) ≡ true
        → (model_verdict embeds B S σ c ≡ Ok tt → bytes_verdict β c ≡ Ok tt → Few S times
        → (bytes_result embeds β c ≡ model_answer embeds B S σ c) × Follows (bytes_next embeds β c) (model_next embeds B S σ c) (λ s. 0))
        → Follows β σ times → (ends_period (model_result embeds B S σ c) ≡ true → Few S times) → Agrees β σ times c
    by_verdict_lem ends accepted f few = go (model_verdict embeds B S σ c) refl
      where
        v : bytes_verdict β c ≡ model_verdict embeds B S σ c
        v = same_verdict embeds B S β σ (record { stored = f.stored; sized = f.sized }) c

        go : (w : Verdict) → model_verdict embeds B S σ c ≡ w → Agrees β σ times c
        go (Ok u) e =
            let x = accepted e (v ∙ e) (few (ap ends_period (result_accepted embeds B S σ c e) ∙ ends)) in
            accepted_agrees e ends x.0 x.1
        go (Err r) e = refused_agrees r e (v ∙ e) f
