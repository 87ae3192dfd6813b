-- Batch: 1 to 16 motifs together. What it answers and leaves, for all inputs and all contents of the buffers, by the definition of a single query, and what
-- histories compare of it. These are the definitions that the contract of the call cites.
use Rattle.std.specs.Prelude.{ℕ, zero, suc, ◌*◌, List, [], ◌∷◌, Bool, ltb, length, take, replicate, Ok, Err}
use Rattle.lists.specs.Vocabulary.{nth, piece, put_piece, some, select, tab}
use Rattle.strand.specs.Strands.{Strand}
use Rattle.refusals.specs.Rules.{no_side, wrong_slice, first, refuse_if, by_verdict, work_rule, Verdict}
use Rattle.refusals.specs.declared.Refusal.{Refusal}
use Rattle.block.specs.Block.{block_count}
use Rattle.block.specs.Content.{padded}
use Rattle.calls.specs.Answers.{Queried, BatchRead}
use Rattle.calls.specs.declared.Batched.{Batched}
use Rattle.calls.specs.Buffers.{most_molecule_bases, buffers_verdict}
use Rattle.calls.specs.Calls.{QueryEffect, entry_for, to_search, query_outcome, Found, Result, found_all, refused_by}
use Rattle.calls.specs.Motifs.{most_motifs, motif_of, motifs_verdict, longest_motif}

-- 02, (v): 15 "after 11; then 3 .., then 9 and 8"; the hit slice "needs B entries for each motif", and "the work slice is that of the longest motif". The
-- order is the same for the call and for the reference model: `buffers` is what 10 and 11 say, B the number of catalog blocks; `work` and `room` are the
-- lengths of the work and the hit slice.
abbrev pub batch_rules : Verdict → ℕ → List ℕ → ℕ → ℕ → Verdict
batch_rules buffers B motifs work room =
    first
    (buffers
    ∷ motifs_verdict motifs
    ∷ refuse_if wrong_slice no_side (ltb room (block_count motifs * B))
    ∷ work_rule (longest_motif motifs) most_molecule_bases work
    ∷ [])

unfoldable pub batch_verdict : List ℕ → List ℕ → List ℕ → ℕ → ℕ → Verdict
batch_verdict catalog cache motifs work room = batch_rules (buffers_verdict catalog cache) (block_count catalog) motifs work room

-- The count and the searched number of a query's answer.
unfoldable pub count_of : Queried → ℕ
count_of (Ok h) = h.count
count_of (Err r) = 0

unfoldable pub searched_of : Queried → ℕ
searched_of (Ok h) = h.searched
searched_of (Err r) = 0

-- The cache and the slice of the hits, between one query of a batch and the next.
pub record BatchState : Type 0 where
  pub cache : List ℕ
  pub hits : List ℕ

abbrev pub batch_state : List ℕ → List ℕ → BatchState
batch_state cache hits = record { cache = cache; hits = hits }

-- The effect of batch: the answer, the cache and the slice of the hits afterwards. Catalog and motifs are only read.
pub record BatchEffect : Type 0 where
  pub answer : Batched
  pub cache : List ℕ
  pub hits : List ℕ

abbrev pub batched : Batched → List ℕ → List ℕ → BatchEffect
batched answer cache hits = record { answer = answer; cache = cache; hits = hits }

-- A refused batch has zeros for its numbers.
unfoldable pub not_batched : Refusal → Batched
not_batched r = record { read = Err r; counts = replicate most_motifs 0; searched = replicate most_motifs 0 }

module _ (embeds : Strand → Strand → Bool) (catalog motifs : List ℕ) (work : ℕ) where
  -- Query t, on the cache as the queries before it left it. "Motif t, counted from 0, has its hits from entry t × B of the hit slice": its B entries.
  unfoldable pub batch_query : ℕ → BatchState → QueryEffect
  batch_query t x = query_outcome embeds catalog x.cache (motif_of motifs t) work (piece (block_count catalog) t x.hits)

  -- "Counts, hits, searched numbers and the shelf afterwards equal those of single queries in that order": what the first t of them leave.
  unfoldable pub batch_to : ℕ → BatchState → BatchState
  batch_to zero x = x
  batch_to (suc t) x =
      let y : BatchState = batch_to t x in
      let e : QueryEffect = batch_query t y in
      batch_state e.cache (put_piece (block_count catalog) t e.hits y.hits)

  -- What query t of the batch answers and leaves.
  unfoldable pub query_at : BatchState → ℕ → QueryEffect
  query_at x t = batch_query t (batch_to t x)

  -- Query t would search molecule d.
  unfoldable pub searches_at : BatchState → ℕ → ℕ → Bool
  searches_at x t d = to_search catalog (entry_for (batch_to t x).cache (motif_of motifs t)) (motif_of motifs t) d

  -- "The answer also has the number of molecules read: those held numbers that at least one of these queries would search."
  unfoldable pub read_list : BatchState → List ℕ
  read_list x = select (block_count catalog) (λ d. some (block_count motifs) (λ t. searches_at x t d))

  -- The answer of an accepted batch, with zeros where there is no motif.
  unfoldable pub batch_answer : BatchState → Batched
  batch_answer x =
      record {
        read = Ok (length (read_list x));
        counts = padded most_motifs (tab (block_count motifs) (λ t. count_of (query_at x t).answer));
        searched = padded most_motifs (tab (block_count motifs) (λ t. searched_of (query_at x t).answer));
      }

  -- A refusal leaves the cache and the hits as they are.
  unfoldable pub batch_outcome : List ℕ → List ℕ → BatchEffect
  batch_outcome cache hits =
      let x : BatchState = batch_state cache hits in
      let y : BatchState = batch_to (block_count motifs) x in
      by_verdict (batch_verdict catalog cache motifs work (length hits))
      (λ r. batched (not_batched r) cache hits)
      (batched (batch_answer x) y.cache y.hits)

-- ---- what histories compare

-- Of motif t: its count, its list at the start of its entries, its searched number. B is the number of catalog blocks, `hits` the slice afterwards.
unfoldable pub found_at : ℕ → Batched → List ℕ → ℕ → Found
found_at B r hits t =
    record { count = nth r.counts t; hits = take (nth r.counts t) (piece B t hits); searched = nth r.searched t }

-- What a batch comes to: its refusal, or what each motif found and the number read.
unfoldable pub batch_result_by : BatchRead → List Found → Result
batch_result_by (Ok read) each = found_all each read
batch_result_by (Err r) each = refused_by r

-- Of a batch of K motifs: that of each of them, and the number read.
unfoldable pub batch_result : ℕ → ℕ → Batched → List ℕ → Result
batch_result B K r hits = batch_result_by r.read (tab K (found_at B r hits))
