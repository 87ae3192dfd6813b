-- Histories on the bytes, by the definitions that the contracts of add, remove, query and batch cite: the one log that every run has (proofs/Runs).
use Rattle.std.specs.Prelude.{Err}
use Prim.Native.Nat.{ℕ}
use mathlib.Core.Path.{◌≡◌}
use mathlib.Core.Bool.{Bool, true}
use mathlib.Core.List.{List, [], ◌∷◌}
use lib.ListN.{length}
use Rattle.strand.specs.Strands.{Strand}
use Rattle.refusals.specs.Rules.{Verdict}
use Rattle.refusals.specs.declared.Refusal.{Refusal}
use Rattle.block.specs.Block.{block_count}
use Rattle.calls.specs.Calls.{add_verdict, add_outcome, remove_verdict, remove_outcome, query_verdict, query_outcome}
use Rattle.calls.specs.Calls.{Result, refused_by, add_result, remove_result}
use Rattle.calls.specs.Calls.{query_result}
use Rattle.calls.specs.Batch.{batch_verdict, batch_outcome, not_batched, batch_result, batch_result_by}
use Rattle.calls.proofs.Claims.{add_refused, remove_refused, query_refused}
use Rattle.calls.proofs.BatchLaws.{batch_refused}
use Rattle.history.specs.Model.{Call, add, remove, query, batch, Event, call, alter, Line, gave}
use Rattle.history.specs.History.{Buffers, buffers_of, zeroed, altered, admitted, RightLog}

-- The verdict of a call on the bytes.
unfoldable pub bytes_verdict : Buffers → Call → Verdict
bytes_verdict β (add d q) = add_verdict β.catalog β.cache d q
bytes_verdict β (remove d) = remove_verdict β.catalog β.cache d
bytes_verdict β (query p work hits) = query_verdict β.catalog β.cache p work (length hits)
bytes_verdict β (batch motifs work hits) = batch_verdict β.catalog β.cache motifs work (length hits)

module _ (embeds : Strand → Strand → Bool) where
  -- What a call comes to, and what it leaves.
  unfoldable pub bytes_result : Buffers → Call → Result
  bytes_result β (add d q) = add_result (add_outcome β.catalog β.cache d q).answer
  bytes_result β (remove d) = remove_result (remove_outcome β.catalog β.cache d).answer
  bytes_result β (query p work hits) =
      query_result (query_outcome embeds β.catalog β.cache p work hits).answer (query_outcome embeds β.catalog β.cache p work hits).hits
  bytes_result β (batch motifs work hits) =
      batch_result (block_count β.catalog) (block_count motifs) (batch_outcome embeds β.catalog motifs work β.cache hits).answer
      (batch_outcome embeds β.catalog motifs work β.cache hits).hits

  unfoldable pub bytes_next : Buffers → Call → Buffers
  bytes_next β (add d q) = buffers_of (add_outcome β.catalog β.cache d q).catalog (add_outcome β.catalog β.cache d q).cache
  bytes_next β (remove d) = buffers_of (remove_outcome β.catalog β.cache d).catalog (remove_outcome β.catalog β.cache d).cache
  bytes_next β (query p work hits) = buffers_of β.catalog (query_outcome embeds β.catalog β.cache p work hits).cache
  bytes_next β (batch motifs work hits) = buffers_of β.catalog (batch_outcome embeds β.catalog motifs work β.cache hits).cache

  -- Fed with a list of events: the log of its calls.
  unfoldable pub bytes_log : Buffers → List Event → List Line
  bytes_log β [] = []
  bytes_log β (call c ∷ es) = gave c (bytes_result β c) ∷ bytes_log (bytes_next β c) es
  bytes_log β (alter s i v ∷ es) = bytes_log (altered β s i v) es

  -- The history theorem of that log.
  unfoldable pub BytesTheorem : (Strand → Strand → Type 0) → Type 0
  BytesTheorem Relation =
      (B S : ℕ) (es : List Event) → admitted embeds B S es ≡ true → RightLog Relation embeds B S es (bytes_log (zeroed B S) es)

  -- a refused call changes nothing
  pub bytes_refused : (β : Buffers) (c : Call) (r : Refusal) → bytes_verdict β c ≡ Err r → (bytes_result β c ≡ refused_by r) × (bytes_next β c ≡ β)
  unfolding bytes_verdict bytes_result bytes_next add_result remove_result query_result batch_result batch_result_by not_batched
  bytes_refused β (add d q) r e = let x = add_refused β.catalog β.cache d q r e in (rw x, rw x)
  bytes_refused β (remove d) r e = let x = remove_refused β.catalog β.cache d r e in (rw x, rw x)
  bytes_refused β (query p work hits) r e = let x = query_refused embeds β.catalog β.cache p work hits r e in (rw x, rw x)
  bytes_refused β (batch motifs work hits) r e = let x = batch_refused embeds β.catalog motifs work β.cache hits r e in (rw x, rw x)
