-- On every admitted list the log of the bytes is the log of the model: an induction over the events, from what each call and each alteration
-- does.
use Prim.Native.Nat.{ℕ, ◌+◌, ◌*◌}
use mathlib.Core.Path.{◌≡◌, refl, sym, ◌∙◌, ap₂}
use mathlib.Core.List.{List, [], ◌∷◌}
use mathlib.Core.Bool.{Bool, true, false, ◌&&◌}
use lib.Dec.{ltb, leb}
use lib.ListN.{length-replicate}
use borrow.Author.Tests.{ltb-true, leb-true}
use Rattle.lists.specs.Vocabulary.{choose, put_at}
use Rattle.lists.proofs.ListLaws.{and_true, every_at, never, choose_yes, choose_no}
use Rattle.strand.specs.Strands.{Strand}
use Rattle.block.specs.Content.{block_size}
use Rattle.calls.specs.Calls.{Result}
use Rattle.calls.proofs.ReadingLaws.{block_zero}
use Rattle.calls.proofs.Stores.{stores_zeroed}
use Rattle.history.specs.Model.{Call, add, remove, query, batch, Event, call, alter, ends_period, Line, gave, State, start, slot_block, model_alter}
use Rattle.history.specs.Model.{model_result, model_after, model_log}
use Rattle.history.specs.History.{Buffers, zeroed, altered, at_most_once, admitted_from}
use Rattle.history.proofs.Bytes.{bytes_next, bytes_log}
use Rattle.history.proofs.StateLaws.{start_ok}
use Rattle.history.proofs.Follows.{Few, times_after, Follows, fresh, CallAgrees}
use Rattle.history.proofs.AddAgrees.{add_agrees}
use Rattle.history.proofs.RemoveAgrees.{remove_agrees}
use Rattle.history.proofs.QueryAgrees.{query_agrees}
use Rattle.history.proofs.BatchAgrees.{batch_agrees}
use Rattle.history.proofs.AlterFollows.{alter_follows}

module _ (embeds : Strand → Strand → Bool) (B S : ℕ) where
  agrees : (c : Call) → CallAgrees embeds B S c
  agrees (add d q) = add_agrees embeds B S d q
  agrees (remove d) = remove_agrees embeds B S d
  agrees (query p work hits) = query_agrees embeds B S p work hits
  agrees (batch motifs work hits) = batch_agrees embeds B S motifs work hits

  few_of : (times : ℕ → ℕ) → at_most_once embeds B S times ≡ true → Few S times
  unfolding at_most_once
  few_of times e s l = leb-true (times s) 1 (every_at (λ r. leb (times r) 1) S s e l)

  -- What is left of the list is admitted from where the call leaves, whether it ends a period or not.
  record Left (σ : State) (times : ℕ → ℕ) (c : Call) (es : List Event) : Type 0 where
    few : ends_period (model_result embeds B S σ c) ≡ true → Few S times
    rest : admitted_from embeds B S (model_after embeds B S σ c) (times_after (ends_period (model_result embeds B S σ c)) times) es ≡ true

  after : (σ : State) (times : ℕ → ℕ) (c : Call) (es : List Event) (b : Bool) → ends_period (model_result embeds B S σ c) ≡ b
      → choose b (at_most_once embeds B S times && admitted_from embeds B S (model_after embeds B S σ c) (λ s. 0) es)
      (admitted_from embeds B S (model_after embeds B S σ c) times es) ≡ true
      → Left σ times c es
  unfolding times_after
  after σ times c es true e a =
      let y = and_true (at_most_once embeds B S times) _ (sym (choose_yes true _ _ refl) ∙ a) in
      record { few = λ h. few_of times y.0; rest = rw e y.1 }
  after σ times c es false e a = record { few = λ h. never (sym e ∙ h); rest = rw e (sym (choose_no false _ _ refl) ∙ a) }

  pub same_log : (es : List Event) (β : Buffers) (σ : State) (times : ℕ → ℕ) → Follows embeds B S β σ times
      → admitted_from embeds B S σ times es ≡ true → bytes_log embeds β es ≡ model_log embeds B S σ es
  unfolding admitted_from bytes_log model_log
  same_log [] β σ times f a = refl
  same_log (call c ∷ es) β σ times f a =
      let y = after σ times c es (ends_period (model_result embeds B S σ c)) refl a in
      let g = agrees c β σ times f y.few in
      ap₂ (λ (r : Result) (log : List Line). gave c r ∷ log) g.same
      (same_log es (bytes_next embeds β c) (model_after embeds B S σ c) (times_after (ends_period (model_result embeds B S σ c)) times) g.follows y.rest)
  same_log (alter s i v ∷ es) β σ times f a =
      let x = and_true (ltb s S && ltb i block_size && ltb v 256) _ a in
      let y = and_true (ltb s S && ltb i block_size) (ltb v 256) x.0 in
      let z = and_true (ltb s S) (ltb i block_size) y.0 in
      same_log es (altered β s i v) (model_alter embeds B S σ s i v) (put_at times s (times s + 1))
      (alter_follows embeds B S β σ times f s i v (ltb-true s S z.0) (ltb-true i block_size z.1)) x.1

  -- The zeroed buffers follow the model's first state.
  pub follows_start : Follows embeds B S (zeroed B S) start (λ s. 0)
  unfolding zeroed start
  follows_start =
      fresh embeds B S _ _ (unfold start in (start_ok B)) (stores_zeroed B) (length-replicate (block_size * S) 0) (λ s l. unfold slot_block in (block_zero S
      s l))
