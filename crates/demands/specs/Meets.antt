-- What the functions of src/lib.rt, each of which makes one public call, state of it: by numbers of Demands. r is the answer, a prime marks a buffer after
-- the call. 1.10: a refusal leaves the work slice (`work_kept`) and show's places (`places_shown`) as they were, an accepted call keeps the length of the work
-- slice. Of add, remove, query and batch `outcome` is the contract, and the rest follows from it. A list of calls, each on the buffers that the one before
-- left, with alterations between, is a run: begin at its end with `run_end`, put each call in front by `step` and each alteration by `run_alter`.
use Rattle.std.specs.Prelude.{ℕ, ◌≡◌, List, length as len, Ok, Err}
use Rattle.refusals.specs.Rules.{Refuses, RefusesBy, BatchNumbered, Keeps, WorkKept}
use Rattle.strand.specs.Strands.{Strand, Checked, check_verdict, CheckSays}
use Rattle.embedding.specs.Longest.{VerifyAnswer, verify_verdict, VerifySays, embeds}
use Rattle.matcher.specs.Answers.{Matched, length_verdict, show_verdict, PrefixSays, WholeSays, PlacesShown}
use Rattle.window.specs.Answers.{Windowed, WindowSays}
use Rattle.block.specs.Block.{block_count}
use Rattle.calls.specs.Answers.{Added, Removed, Queried}
use Rattle.calls.specs.declared.Batched.{Batched}
use Rattle.calls.specs.Calls.{effect, add_verdict, add_outcome, remove_verdict, remove_outcome, queried}
use Rattle.calls.specs.Calls.{query_verdict, query_outcome, add_result, remove_result}
use Rattle.calls.specs.Calls.{query_result, AddSays}
use Rattle.calls.specs.Batch.{batched, batch_verdict, batch_outcome, batch_result}
use Rattle.calls.specs.BatchStatements.{BatchLeaves, IsQuery}
use Rattle.history.specs.Model.{add, remove, query, batch}
use Rattle.history.specs.History.{buffers_of, IsStep}

-- 1.1, 2.1
pub record CheckMeets (bases mates : List ℕ) (r : Checked) : Type 0 where
  pub refuses : Refuses (check_verdict bases mates) Err r
  pub says : CheckSays bases mates r

-- 1.2, 1.10, 2.2, 2.3
pub record LengthMeets (p pm q qm work : List ℕ) (r : Matched) (work' : List ℕ) : Type 0 where
  pub refuses : Refuses (length_verdict p pm q qm (len work)) Err r
  pub says : PrefixSays (length_verdict p pm q qm (len work)) p pm q qm r
  pub whole : WholeSays (length_verdict p pm q qm (len work)) p pm q qm r
  pub work_kept : WorkKept (length_verdict p pm q qm (len work)) work work'

-- 1.3, 1.10, 2.2, 2.5
pub record ShowMeets (p pm q qm places work : List ℕ) (r : Matched) (places' work' : List ℕ) : Type 0 where
  pub refuses : Refuses (show_verdict p pm q qm (len places) (len work)) Err r
  pub says : PrefixSays (show_verdict p pm q qm (len places) (len work)) p pm q qm r
  pub places_shown : PlacesShown r p pm q qm places places'
  pub work_kept : WorkKept (show_verdict p pm q qm (len places) (len work)) work work'

-- 1.4, 2.4
pub record VerifyMeets (p pm q qm v : List ℕ) (r : VerifyAnswer) : Type 0 where
  pub refuses : Refuses (verify_verdict p pm q qm v) Err r
  pub says : VerifySays p pm q qm v r

-- 1.10, 1.11, 2.7
pub record WindowMeets (p pm q qm work : List ℕ) (r : Windowed) (work' : List ℕ) : Type 0 where
  pub refuses : Refuses (length_verdict p pm q qm (len work)) Err r
  pub says : WindowSays (length_verdict p pm q qm (len work)) p pm q qm r
  pub work_kept : WorkKept (length_verdict p pm q qm (len work)) work work'

-- 1.5, 1.9, 2.6; the step `run_add` of a run
pub record AddMeets (catalog cache : List ℕ) (d : ℕ) (q : Strand) (r : Added) (catalog' cache' : List ℕ) : Type 0 where
  pub outcome : effect r catalog' cache' ≡ add_outcome catalog cache d q
  pub refuses : Refuses (add_verdict catalog cache d q) Err r
  pub keeps : Keeps Err r catalog cache catalog' cache'
  pub says : AddSays catalog cache d q r
  pub step : IsStep embeds (buffers_of catalog cache) (add d q) (add_result r) (buffers_of catalog' cache')

-- 1.6, 1.9; the step `run_remove`
pub record RemoveMeets (catalog cache : List ℕ) (d : ℕ) (r : Removed) (catalog' cache' : List ℕ) : Type 0 where
  pub outcome : effect r catalog' cache' ≡ remove_outcome catalog cache d
  pub refuses : Refuses (remove_verdict catalog cache d) Err r
  pub keeps : Keeps Err r catalog cache catalog' cache'
  pub step : IsStep embeds (buffers_of catalog cache) (remove d) (remove_result r) (buffers_of catalog' cache')

-- 1.7, 1.9, 1.10; the step `run_query`
pub record QueryMeets (catalog cache : List ℕ) (p : Strand) (work hits : List ℕ) (r : Queried) (cache' work' hits' : List ℕ) : Type 0 where
  pub outcome : queried r cache' hits' ≡ query_outcome embeds catalog cache p (len work) hits
  pub refuses : Refuses (query_verdict catalog cache p (len work) (len hits)) Err r
  pub keeps : Keeps Err r cache hits cache' hits'
  pub step : IsStep embeds (buffers_of catalog cache) (query p (len work) hits) (query_result r hits') (buffers_of catalog cache')
  pub work_kept : WorkKept (query_verdict catalog cache p (len work) (len hits)) work work'

-- 1.9, 1.10, 1.12, 2.10; the step `run_batch`
pub record BatchMeets (catalog cache motifs work hits : List ℕ) (r : Batched) (cache' work' hits' : List ℕ) : Type 0 where
  pub outcome : batched r cache' hits' ≡ batch_outcome embeds catalog motifs (len work) cache hits
  pub refuses : RefusesBy BatchNumbered (batch_verdict catalog cache motifs (len work) (len hits)) Err r.read
  pub keeps : Keeps Err r.read cache hits cache' hits'
  pub leaves : batch_verdict catalog cache motifs (len work) (len hits) ≡ Ok tt
      → BatchLeaves embeds catalog motifs (len work) cache hits (batched r cache' hits')
  pub of_one : batch_verdict catalog cache motifs (len work) (len hits) ≡ Ok tt → block_count motifs ≡ 1
      → IsQuery embeds catalog motifs (len work) cache hits (batched r cache' hits')
  pub step : IsStep embeds (buffers_of catalog cache) (batch motifs (len work) hits) (batch_result (block_count catalog) (block_count motifs) r hits')
      (buffers_of catalog cache')
  pub work_kept : WorkKept (batch_verdict catalog cache motifs (len work) (len hits)) work work'
