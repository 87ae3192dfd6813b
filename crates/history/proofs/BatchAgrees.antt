-- Batch: the bytes and the model come to the same, and the bytes go on following. Both run it as single queries, one after the other, so that after each of
-- them the bytes follow the model, and the next one agrees as a query by itself does: its count, its list, its searched number, and whether it searches a
-- number. The number read is that of the numbers that one of them searches.
use Rattle.std.specs.Prelude.{Ok, Err}
use Prim.Native.Nat.{ℕ, zero, suc, ◌<◌, ◌≤◌}
use native.Mathlib.Omega.{arith}
use mathlib.Core.Path.{◌≡◌, refl, ap₂, ◌∙◌}
use mathlib.Core.Bool.{Bool, true, ◌||◌}
use mathlib.Core.List.{List}
use lib.ListN.{length, take}
use Rattle.lists.specs.Vocabulary.{some, tab}
use Rattle.lists.proofs.Ranges.{select_ext}
use Rattle.strand.specs.Strands.{Strand}
use Rattle.block.specs.Block.{block_count}
use Rattle.calls.specs.Answers.{Queried}
use Rattle.calls.specs.Buffers.{in_range}
use Rattle.calls.specs.Calls.{QueryEffect, Found, refused_by, found, found_all, query_result}
use Rattle.calls.specs.Motifs.{motif_of, UsableMotifs}
use Rattle.calls.specs.Batch.{batch_verdict, count_of, searched_of, BatchState, batch_state, batch_query, batch_to, query_at, searches_at, read_list}
use Rattle.calls.proofs.Stores.{count}
use Rattle.calls.proofs.MotifLaws.{motif_verdict_lem}
use Rattle.lists.proofs.ListLaws.{tab_ext}
use Rattle.calls.proofs.BatchLaws.{query_accepted_at, clean_last, batch_done, batch_found}
use Rattle.history.specs.Model.{batch, ends_period, State, model_verdict, searches, asked_to, found_by, read_by, model_answer, model_next}
use Rattle.history.specs.History.{Buffers, buffers_of}
use Rattle.history.proofs.Bytes.{bytes_verdict, bytes_result, bytes_next}
use Rattle.history.proofs.StateLaws.{batch_passed, range_passed}
use Rattle.history.proofs.Follows.{Few, Follows, CallAgrees, by_verdict_lem}
use Rattle.history.proofs.QueryAgrees.{search_at, query_same, query_follows}

-- a test over the same numbers
some_ext : (n : ℕ) (p q : ℕ → Bool) → ((t : ℕ) → t < n → p t ≡ q t) → some n p ≡ some n q
unfolding some
some_ext zero p q h = refl
some_ext (suc n) p q h = ap₂ ◌||◌ (h n (omega arith)) (some_ext n p q (λ t l. h t (omega arith)))

-- What is compared of a query, from its answer and its slice.
abbrev found_in : Queried → List ℕ → Found
found_in r hits = record { count = count_of r; hits = take (count_of r) hits; searched = searched_of r }

found_of_lem : (r : Queried) (hits : List ℕ) (x : Found) → query_result r hits ≡ found x.count x.hits x.searched → found_in r hits ≡ x
unfolding query_result count_of searched_of refused_by
found_of_lem (Ok h) hits x e =
    let c : h.count ≡ x.count = cc in
    let l : take h.count hits ≡ x.hits = cc in
    let s : h.searched ≡ x.searched = cc in
    λ i. record { count = c i; hits = l i; searched = s i }
found_of_lem (Err r) hits x e = let z : ◌≡◌ {A = ℕ} 0 1 = cc in absurd (omega arith)

-- The alterations counted when query t begins: none after the first query.
unfoldable times_at : (ℕ → ℕ) → ℕ → ℕ → ℕ
times_at times zero = times
times_at times (suc t) = λ s. 0

-- An accepted batch

module _ (embeds : Strand → Strand → Bool) (B S : ℕ) (motifs : List ℕ) (work : ℕ) (hits : List ℕ) where
  module _ (β : Buffers) (σ : State) (times : ℕ → ℕ) (f : Follows embeds B S β σ times) (few : Few S times) (range : in_range B S ≡ true)
      (usable : UsableMotifs motifs) (a : batch_verdict β.catalog β.cache motifs work (length hits) ≡ Ok tt) where
    -- the buffers and the state when query t begins; what that query answers and leaves
    abbrev begin : BatchState
    begin = batch_state β.cache hits

    abbrev buffers_at : ℕ → Buffers
    buffers_at t = buffers_of β.catalog (batch_to embeds β.catalog motifs work t begin).cache

    abbrev state_at : ℕ → State
    state_at t = asked_to embeds B S σ motifs t

    abbrev effect_at : ℕ → QueryEffect
    effect_at t = query_at embeds β.catalog motifs work begin t

    few_at : (t : ℕ) → Few S (times_at times t)
    unfolding times_at
    few_at zero = few
    few_at (suc t) = λ s l. omega arith

    follows_at : (t : ℕ) → t ≤ block_count motifs → Follows embeds B S (buffers_at t) (state_at t) (times_at times t)
    unfolding batch_to batch_query asked_to times_at
    follows_at zero l = f
    follows_at (suc t) l =
        query_follows embeds B S (buffers_at t) (state_at t) (times_at times t) (follows_at t (omega arith)) (few_at t) range (motif_of motifs t) work _
        (query_accepted_at embeds β.catalog motifs work β.cache hits a t (omega arith)) (motif_verdict_lem motifs usable t (omega arith))

    follows_last : (t : ℕ) → 1 ≤ t → t ≤ block_count motifs → Follows embeds B S (buffers_at t) (state_at t) (λ s. 0)
    unfolding times_at
    follows_last zero o l = absurd (omega arith)
    follows_last (suc t) o l = follows_at (suc t) l

    -- query t
    found_at_lem : (t : ℕ) → t < block_count motifs → found_in (effect_at t).answer (effect_at t).hits ≡ found_by embeds B S σ motifs t
    unfolding found_by query_at batch_query
    found_at_lem t l =
        found_of_lem _ _ _
        (query_same embeds B S (buffers_at t) (state_at t) (times_at times t) (follows_at t (omega arith)) (few_at t) range (motif_of motifs t) work _
        (query_accepted_at embeds β.catalog motifs work β.cache hits a t l))

    searches_at_lem : (d : ℕ) → d < B → (t : ℕ) → t < block_count motifs
        → searches_at embeds β.catalog motifs work begin t d ≡ searches embeds B S (state_at t) (motif_of motifs t) d
    unfolding searches_at
    searches_at_lem d m t l =
        search_at embeds B S (buffers_at t) (state_at t) (times_at times t) (follows_at t (omega arith)) (few_at t) range (motif_of motifs t) d m

    -- the numbers that one of them searches
    read_agrees : read_list embeds β.catalog motifs work begin ≡ read_by embeds B S σ motifs
    unfolding read_list read_by
    read_agrees = rw (count f.stored) (select_ext B _ _ (λ d m. some_ext (block_count motifs) _ _ (searches_at_lem d m)))

    batch_same : found_all (tab (block_count motifs) (λ t. found_in (effect_at t).answer (effect_at t).hits))
        (length (read_list embeds β.catalog motifs work begin))
        ≡ found_all (tab (block_count motifs) (found_by embeds B S σ motifs)) (length (read_by embeds B S σ motifs))
    batch_same = ap₂ (λ (each : List Found) (l : List ℕ). found_all each (length l)) (tab_ext _ _ (block_count motifs) found_at_lem) read_agrees

  module _ (β : Buffers) (σ : State) (times : ℕ → ℕ) (f : Follows embeds B S β σ times) where
    accepted : model_verdict embeds B S σ (batch motifs work hits) ≡ Ok tt → bytes_verdict β (batch motifs work hits) ≡ Ok tt → Few S times
        → (bytes_result embeds β (batch motifs work hits) ≡ model_answer embeds B S σ (batch motifs work hits))
        × Follows embeds B S (bytes_next embeds β (batch motifs work hits)) (model_next embeds B S σ (batch motifs work hits)) (λ s. 0)
    unfolding bytes_verdict bytes_result bytes_next model_answer model_next
    accepted e a few =
        let range = range_passed embeds B S σ (batch motifs work hits) e in
        let usable = batch_passed embeds B S σ motifs work hits e in (
          batch_found embeds β.catalog motifs work β.cache hits a ∙ batch_same β σ times f few range usable a,
          rw (batch_done embeds β.catalog motifs work β.cache hits a, clean_last embeds β.catalog motifs work β.cache hits a)
              (follows_last β σ times f few range usable a (block_count motifs) usable.least (omega arith)),
        )

  ends : (σ : State) → ends_period (model_answer embeds B S σ (batch motifs work hits)) ≡ true
  unfolding ends_period model_answer
  ends σ = refl

  pub batch_agrees : CallAgrees embeds B S (batch motifs work hits)
  batch_agrees β σ times f few = by_verdict_lem embeds B S β σ times (batch motifs work hits) (ends σ) (accepted β σ times f) f few
