-- Refusals: the rules read a call's inputs, B, S and which numbers are held, and nothing of what the cache has. So on every list of events, with any
-- alterations, the bytes refuse just what the model refuses.
use Rattle.std.specs.Prelude.{Ok, Err}
use Prim.Native.Nat.{ℕ, ◌+◌, ◌*◌}
use native.Mathlib.Omega.{arith}
use mathlib.Core.Path.{◌≡◌, refl, sym, ap, ap₂, ◌∙◌}
use mathlib.Core.Bool.{Bool}
use mathlib.Core.List.{List, [], ◌∷◌}
use lib.ListN.{length, length-set, length-replicate}
use Rattle.strand.specs.Strands.{Strand}
use Rattle.refusals.specs.Rules.{Verdict}
use Rattle.refusals.specs.declared.Refusal.{Refusal}
use Rattle.refusals.proofs.RuleLaws.{by_accepted, by_refused}
use Rattle.block.specs.Content.{block_size}
use Rattle.block.specs.Block.{block_count}
use Rattle.calls.specs.Calls.{refused_by, add_result, remove_result, query_result}
use Rattle.calls.specs.Batch.{BatchEffect}
use Rattle.calls.proofs.ReadingLaws.{clean_length}
use Rattle.calls.proofs.Claims.{add_accepted, remove_accepted, query_accepted_lem}
use Rattle.calls.proofs.BatchLaws.{clean_size, batch_done, batch_found}
use Rattle.calls.proofs.Stores.{Stores, stores_zeroed, stores_add, stores_remove, add_judged, remove_judged, query_judged, batch_judged}
use Rattle.history.specs.Model.{Call, add, remove, query, batch, Event, call, alter, State, start, held_in, model_verdict, asked, model_answer, model_next}
use Rattle.history.specs.Model.{model_result, model_after, model_alter, model_log}
use Rattle.history.specs.History.{Buffers, zeroed, altered, verdict_of, verdicts_of}
use Rattle.history.proofs.Bytes.{bytes_verdict, bytes_result, bytes_next, bytes_log, bytes_refused}
use Rattle.history.proofs.StateLaws.{molecules_same, asked_molecules}

module _ (embeds : Strand → Strand → Bool) (B S : ℕ) where
  -- The catalog stores the model's molecules, and the cache has S blocks, whatever they are.
  pub record Tracks (β : Buffers) (σ : State) : Type 0 where
    pub stored : Stores B β.catalog σ.molecules
    pub sized : length β.cache ≡ block_size * S

  -- the rules agree
  pub same_verdict : (β : Buffers) (σ : State) → Tracks β σ → (c : Call) → bytes_verdict β c ≡ model_verdict embeds B S σ c
  unfolding bytes_verdict model_verdict held_in
  same_verdict β σ t (add d q) = add_judged t.stored S β.cache t.sized d q
  same_verdict β σ t (remove d) = remove_judged t.stored S β.cache t.sized d
  same_verdict β σ t (query p work hits) = query_judged t.stored S β.cache t.sized p work (length hits)
  same_verdict β σ t (batch motifs work hits) = batch_judged t.stored S β.cache t.sized motifs work (length hits)

  -- ---- the model by its verdict

  module _ (σ : State) (c : Call) where
    pub result_accepted : model_verdict embeds B S σ c ≡ Ok tt → model_result embeds B S σ c ≡ model_answer embeds B S σ c
    unfolding model_result
    result_accepted e = by_accepted (model_verdict embeds B S σ c) refused_by (model_answer embeds B S σ c) e

    pub after_accepted : model_verdict embeds B S σ c ≡ Ok tt → model_after embeds B S σ c ≡ model_next embeds B S σ c
    unfolding model_after
    after_accepted e = by_accepted (model_verdict embeds B S σ c) (λ r. σ) (model_next embeds B S σ c) e

    pub result_refused : (r : Refusal) → model_verdict embeds B S σ c ≡ Err r → model_result embeds B S σ c ≡ refused_by r
    unfolding model_result
    result_refused r e = by_refused (model_verdict embeds B S σ c) refused_by (model_answer embeds B S σ c) r e

    pub after_refused : (r : Refusal) → model_verdict embeds B S σ c ≡ Err r → model_after embeds B S σ c ≡ σ
    unfolding model_after
    after_refused r e = by_refused (model_verdict embeds B S σ c) (λ r. σ) (model_next embeds B S σ c) r e

  -- ---- one call

  -- an accepted call on the bytes is accepted by its result
  answer_accepted : (β : Buffers) (c : Call) → bytes_verdict β c ≡ Ok tt → verdict_of (bytes_result embeds β c) ≡ Ok tt
  unfolding bytes_verdict bytes_result verdict_of add_result remove_result query_result
  answer_accepted β (add d q) e = rw (add_accepted β.catalog β.cache d q e).answer
  answer_accepted β (remove d) e = rw (remove_accepted β.catalog β.cache d e).answer
  answer_accepted β (query p work hits) e = rw (query_accepted_lem embeds β.catalog β.cache p work hits e).answer
  answer_accepted β (batch motifs work hits) e = rw (batch_found embeds β.catalog motifs work β.cache hits e)

  model_accepted : (σ : State) (c : Call) → verdict_of (model_answer embeds B S σ c) ≡ Ok tt
  unfolding model_answer verdict_of
  model_accepted σ (add d q) = refl
  model_accepted σ (remove d) = refl
  model_accepted σ (query p work hits) = refl
  model_accepted σ (batch motifs work hits) = refl

  -- after an accepted call
  tracks_accepted : (β : Buffers) (σ : State) → Tracks β σ → (c : Call) → bytes_verdict β c ≡ Ok tt
      → Tracks (bytes_next embeds β c) (model_next embeds B S σ c)
  unfolding bytes_verdict bytes_next model_next asked
  tracks_accepted β σ t (add d q) e =
      record { stored = stores_add t.stored β.cache d q e; sized = (add_accepted β.catalog β.cache d q e).cache_each.size ∙ t.sized }
  tracks_accepted β σ t (remove d) e =
      record { stored = stores_remove t.stored β.cache d e; sized = (remove_accepted β.catalog β.cache d e).cache_each.size ∙ t.sized }
  tracks_accepted β σ t (query p work hits) e =
      record {
        stored = t.stored;
        sized = (query_accepted_lem embeds β.catalog β.cache p work hits e).only.size ∙ clean_length β.cache S t.sized;
      }
  tracks_accepted β σ t (batch motifs work hits) e =
      record {
        stored = rw (asked_molecules embeds B S σ motifs (block_count motifs)) t.stored;
        sized =
            ap (λ (x : BatchEffect). length x.cache) (batch_done embeds β.catalog motifs work β.cache hits e)
            ∙ clean_size embeds β.catalog motifs work β.cache hits e (block_count motifs) (omega arith) ∙ t.sized;
      }

  -- the same verdict by the results, and the buffers go on tracking
  record Meets (β : Buffers) (σ : State) (c : Call) : Type 0 where
    same : verdict_of (bytes_result embeds β c) ≡ verdict_of (model_result embeds B S σ c)
    next : Tracks (bytes_next embeds β c) (model_after embeds B S σ c)

  meets : (β : Buffers) (σ : State) → Tracks β σ → (c : Call) → Meets β σ c
  meets β σ t c = go (model_verdict embeds B S σ c) refl
    where
      go : (w : Verdict) → model_verdict embeds B S σ c ≡ w → Meets β σ c
      go (Ok u) e =
          let b = same_verdict β σ t c ∙ e in
          record {
            same = answer_accepted β c b ∙ sym (ap verdict_of (result_accepted σ c e) ∙ model_accepted σ c);
            next = rw (after_accepted σ c e) (tracks_accepted β σ t c b);
          }
      go (Err r) e =
          let y = bytes_refused embeds β c r (same_verdict β σ t c ∙ e) in
          record { same = ap verdict_of (y.0 ∙ sym (result_refused σ c r e)); next = rw (y.1, after_refused σ c r e) t }

  -- ---- the whole list

  pub tracks_start : Tracks (zeroed B S) start
  unfolding zeroed start
  tracks_start = record { stored = stores_zeroed B; sized = length-replicate (block_size * S) 0 }

  pub tracks_alter : (β : Buffers) (σ : State) → Tracks β σ → (s i v : ℕ) → Tracks (altered β s i v) (model_alter embeds B S σ s i v)
  tracks_alter β σ t s i v =
      record {
        stored = rw (molecules_same embeds B S σ s i v) (unfold altered in t.stored);
        sized = unfold altered in (length-set β.cache (block_size * s + i) v ∙ t.sized);
      }

  pub same_verdicts : (es : List Event) (β : Buffers) (σ : State) → Tracks β σ → verdicts_of (bytes_log embeds β es) ≡ verdicts_of (model_log embeds B S σ es)
  unfolding bytes_log model_log verdicts_of
  same_verdicts [] β σ t = refl
  same_verdicts (call c ∷ es) β σ t =
      let m = meets β σ t c in
      ap₂ (λ (v : Verdict) (vs : List Verdict). v ∷ vs) m.same (same_verdicts es (bytes_next embeds β c) (model_after embeds B S σ c) m.next)
  same_verdicts (alter s i v ∷ es) β σ t = same_verdicts es (altered β s i v) (model_alter embeds B S σ s i v) (tracks_alter β σ t s i v)
