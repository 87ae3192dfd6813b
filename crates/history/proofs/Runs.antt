-- Every run of the calls has the log of the bytes, and there is such a run.
use mathlib.Core.Path.{◌≡◌, refl, ◌∙◌, ap}
use mathlib.Core.List.{List, [], ◌∷◌}
use mathlib.Core.Bool.{Bool}
use Rattle.strand.specs.Strands.{Strand}
use Rattle.block.specs.Block.{block_count}
use Rattle.calls.specs.Answers.{Added, Removed}
use Rattle.calls.specs.Calls.{Effect, add_outcome, remove_outcome, QueryEffect, query_outcome, add_result, remove_result, query_result}
use Rattle.calls.specs.Batch.{BatchEffect, batch_outcome, batch_result}
use Rattle.history.specs.Model.{add, remove, query, batch, Event, call, alter, Line, gave}
use Rattle.history.specs.History.{Buffers, altered, buffers_of, Ran, run_end, run_add, run_remove, run_query, run_batch, run_alter}
use Rattle.history.proofs.Bytes.{bytes_result, bytes_next, bytes_log}

module _ (test : Strand → Strand → Bool) where
  -- a run's log is the log of the bytes
  pub ran_log : {β : Buffers} {es : List Event} {log : List Line} → Ran test β es log → log ≡ bytes_log test β es
  unfolding bytes_log bytes_result bytes_next
  ran_log run_end = refl
  ran_log (run_add {β} {es} {log} d q r catalog cache e ran) =
      ap (λ (x : List Line). gave (add d q) (add_result r) ∷ x) (ran_log ran)
      ∙ ap (λ (x : Effect Added). gave (add d q) (add_result x.answer) ∷ bytes_log test (buffers_of x.catalog x.cache) es) e
  ran_log (run_remove {β} {es} {log} d r catalog cache e ran) =
      ap (λ (x : List Line). gave (remove d) (remove_result r) ∷ x) (ran_log ran)
      ∙ ap (λ (x : Effect Removed). gave (remove d) (remove_result x.answer) ∷ bytes_log test (buffers_of x.catalog x.cache) es) e
  ran_log (run_query {β} {es} {log} p work hits r cache slice e ran) =
      ap (λ (x : List Line). gave (query p work hits) (query_result r slice) ∷ x) (ran_log ran)
      ∙ ap (λ (x : QueryEffect). gave (query p work hits) (query_result x.answer x.hits) ∷ bytes_log test (buffers_of β.catalog x.cache) es) e
  ran_log (run_batch {β} {es} {log} motifs work hits r cache slice e ran) =
      ap (λ (x : List Line). gave (batch motifs work hits) (batch_result (block_count β.catalog) (block_count motifs) r slice) ∷ x) (ran_log ran)
      ∙ ap
      (λ (x : BatchEffect).
      gave (batch motifs work hits) (batch_result (block_count β.catalog) (block_count motifs) x.answer x.hits)
      ∷ bytes_log test (buffers_of β.catalog x.cache) es) e
  ran_log (run_alter s i v ran) = ran_log ran

  -- it is the log of a run
  pub bytes_run : (β : Buffers) (es : List Event) → Ran test β es (bytes_log test β es)
  unfolding bytes_log bytes_result bytes_next
  bytes_run β [] = run_end
  bytes_run β (call (add d q) ∷ es) =
      let x : Effect Added = add_outcome β.catalog β.cache d q in
      run_add d q x.answer x.catalog x.cache refl (bytes_run (buffers_of x.catalog x.cache) es)
  bytes_run β (call (remove d) ∷ es) =
      let x : Effect Removed = remove_outcome β.catalog β.cache d in
      run_remove d x.answer x.catalog x.cache refl (bytes_run (buffers_of x.catalog x.cache) es)
  bytes_run β (call (query p work hits) ∷ es) =
      let x : QueryEffect = query_outcome test β.catalog β.cache p work hits in
      run_query p work hits x.answer x.cache x.hits refl (bytes_run (buffers_of β.catalog x.cache) es)
  bytes_run β (call (batch motifs work hits) ∷ es) =
      let x : BatchEffect = batch_outcome test β.catalog motifs work β.cache hits in
      run_batch motifs work hits x.answer x.cache x.hits refl (bytes_run (buffers_of β.catalog x.cache) es)
  bytes_run β (alter s i v ∷ es) = run_alter s i v (bytes_run (altered β s i v) es)
