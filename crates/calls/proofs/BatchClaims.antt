-- The claims about batch for all inputs and all contents of the buffers.
use Rattle.std.specs.Prelude.{Ok}
use Prim.Native.Nat.{ℕ, zero, suc, ◌+◌, ◌-◌, ◌*◌, ◌≤◌, ◌<◌}
use native.Mathlib.Omega.{arith}
use mathlib.Core.Path.{◌≡◌, refl, sym, ap, ap₂, ◌∙◌}
use mathlib.Core.Logic.{◌↔◌}
use mathlib.Core.Bool.{Bool, true, or-false}
use mathlib.Core.List.{List, ◌++◌, append_assoc}
use lib.ListN.{length, take, drop, take-append-drop}
use lib.Seq.{length-take-le, drop-append-le}
use Rattle.lists.specs.Vocabulary.{nth, piece, put_piece, some, select, tab}
use Rattle.lists.proofs.ListLaws.{and_left, length_tab, some_yes, select_short}
use Rattle.lists.proofs.Ranges.{some_true, select_ext, selected}
use Rattle.lists.proofs.Counts.{count_more}
use Rattle.strand.specs.Strands.{Strand}
use Rattle.refusals.proofs.RuleLaws.{by_accepted}
use Rattle.block.specs.Block.{block_count}
use Rattle.block.specs.Content.{padded}
use Rattle.block.proofs.PartLaws.{length_padded}
use Rattle.calls.specs.Answers.{Queried, hits_of}
use Rattle.calls.specs.Buffers.{held, clean_cache}
use Rattle.calls.specs.Calls.{QueryEffect, slot_in, entry_for, to_search, is_hit, query_accepted, query_outcome}
use Rattle.calls.specs.Motifs.{most_motifs, motif_of}
use Rattle.calls.specs.Batch.{batch_verdict, count_of, searched_of, BatchState, batch_state, BatchEffect, batched}
use Rattle.calls.specs.Batch.{batch_query, batch_to, query_at, searches_at, read_list, batch_answer, batch_outcome}
use Rattle.calls.specs.Statements.{AllSound}
use Rattle.calls.specs.BatchStatements.{Singles, InOrder, BatchLeaves, IsQuery, BatchClaims}
use Rattle.calls.proofs.Accepting.{query_accepts}
use Rattle.calls.proofs.CallLaws.{query_does}
use Rattle.calls.proofs.Claims.{query_accepted_lem}
use Rattle.calls.proofs.MotifLaws.{motif_proper}
use Rattle.calls.proofs.BatchLaws.{batch_facts}
use Rattle.calls.proofs.BatchLaws as law
use Rattle.calls.proofs.BatchRefusing.{batch_accepts, motifs_refuse, batch_order, batch_refuses, motifs_sides, batch_sides, batch_keeps, batch_no_numbers}
use Rattle.calls.proofs.BatchSlots.{slots_shared}

-- ---- counts

-- The numbers of an answer that is no refusal.
answer_is : (a : Queried) (c s : ℕ) → a ≡ Ok (hits_of c s) → a ≡ Ok (hits_of (count_of a) (searched_of a))
unfolding count_of searched_of
answer_is a c s e = rw e

padded_size : (m n : ℕ) (f : ℕ → ℕ) → n ≤ m → length (padded m (tab n f)) ≡ m
padded_size m n f h = length_padded m (tab n f) (omega (arith, length_tab f n))

-- ---- an accepted batch

module _ (embeds : Strand → Strand → Bool) (catalog motifs : List ℕ) (work : ℕ) (cache hits : List ℕ)
    (e : batch_verdict catalog cache motifs work (length hits) ≡ Ok tt) where
  abbrev K : ℕ
  K = block_count motifs

  abbrev B : ℕ
  B = block_count catalog

  abbrev begin : BatchState
  begin = batch_state cache hits

  abbrev to : ℕ → BatchState
  to t = batch_to embeds catalog motifs work t begin

  abbrev query : ℕ → QueryEffect
  query t = query_at embeds catalog motifs work begin t

  -- The number read

  abbrev search : ℕ → ℕ → Bool
  search t = searches_at embeds catalog motifs work begin t

  answer_at : (t : ℕ) → t < K → (query t).answer ≡ Ok (hits_of (count_of (query t).answer) (searched_of (query t).answer))
  unfolding query_at batch_query
  answer_at t l =
      answer_is (query t).answer _ _
      (query_accepted_lem embeds catalog (to t).cache (motif_of motifs t) work (piece B t (to t).hits)
      (law.query_accepted_at embeds catalog motifs work cache hits e t l)).answer

  searched_is : (t : ℕ) → t < K → searched_of (query t).answer ≡ length (select B (search t))
  unfolding query_at batch_query searched_of searches_at
  searched_is t l =
      ap searched_of (query_accepted_lem embeds catalog (to t).cache (motif_of motifs t) work (piece B t (to t).hits)
      (law.query_accepted_at embeds catalog motifs work cache hits e t l)).answer

  search_held : (t d : ℕ) → search t d ≡ true → held catalog d ≡ true
  unfolding searches_at to_search
  search_held t d h = and_left (held catalog d) _ h

  searched_read : (t : ℕ) → t < K → length (select B (search t)) ≤ length (read_list embeds catalog motifs work begin)
  unfolding read_list
  searched_read t l = count_more B (search t) (λ d. some K (λ u. search u d)) (λ d h. some_yes (λ u. search u d) K t l h)

  read_held : length (read_list embeds catalog motifs work begin) ≤ length (select B (held catalog))
  unfolding read_list
  read_held =
      count_more B (λ d. some K (λ u. search u d)) (held catalog)
      (λ d h. let u = some_true K (λ u. search u d) h in search_held u.0 d u.2)

  abbrev reading : List ℕ
  reading = read_list embeds catalog motifs work begin

  reads : (d : ℕ) → ((i : ℕ) × (i < length reading) × (nth reading i ≡ d)) ↔ ((d < B) × (t : ℕ) × (t < K) × (search t d ≡ true))
  unfolding read_list
  reads d =
      let s = selected B (λ d. some K (λ t. search t d)) in (
        (λ h.
            let x = s.each h.0 h.1 in
            let passes : some K (λ t. search t d) ≡ true = rw h.2 at x.1 in
            let u = some_true K (λ t. search t d) passes in
            (rw h.2 at x.0, u.0, u.1, u.2)),
        (λ h. s.has d h.0 (some_yes (λ t. search t d) K h.1 h.2 h.3)),
      )

  read_rising : (i j : ℕ) → i < j → j < length reading → nth reading i < nth reading j
  unfolding read_list
  read_rising = (selected B (λ d. some K (λ t. search t d))).rising

  -- What it leaves

  sizes : (length (batch_answer embeds catalog motifs work begin).counts ≡ most_motifs)
      × (length (batch_answer embeds catalog motifs work begin).searched ≡ most_motifs)
  unfolding batch_answer
  sizes =
      let most = (batch_facts catalog cache motifs work (length hits) e).1.most in (
        padded_size most_motifs K _ most,
        padded_size most_motifs K _ most,
      )

  no_motif : (t : ℕ) → K ≤ t
      → (nth (batch_answer embeds catalog motifs work begin).counts t ≡ 0) × (nth (batch_answer embeds catalog motifs work begin).searched t ≡ 0)
  unfolding batch_answer
  no_motif t h = (law.padded_behind most_motifs K _ t h, law.padded_behind most_motifs K _ t h)

  answers : (t : ℕ) → t < K
      → (query t).answer
      ≡ Ok (hits_of (nth (batch_answer embeds catalog motifs work begin).counts t) (nth (batch_answer embeds catalog motifs work begin).searched t))
  answers t l =
      answer_at t l
      ∙ ap₂ (λ c s. Ok (hits_of c s)) (sym (law.count_at embeds catalog motifs work cache hits e t l))
      (sym (law.searched_at_lem embeds catalog motifs work cache hits e t l))

  last_sound : AllSound (to K).cache
  last_sound =
      rw (law.clean_last embeds catalog motifs work cache hits e) at (law.clean_sound_at embeds catalog motifs work cache hits e K (omega arith))

  module _ (caches : ℕ → List ℕ) (in-turn : Singles embeds catalog motifs work cache hits caches) where
    abbrev single : ℕ → QueryEffect
    single t = query_outcome embeds catalog (caches t) (motif_of motifs t) work (piece B t hits)

    single_is : (t : ℕ) → t < K → caches t ≡ (to t).cache → single t ≡ query t
    unfolding query_at batch_query
    single_is t l same =
        ap₂ (λ (c h : List ℕ). query_outcome embeds catalog c (motif_of motifs t) work h) same (sym (law.handed embeds catalog motifs work cache hits e t l))

    cache_same : (t : ℕ) → t ≤ K → caches t ≡ (to t).cache
    unfolding batch_to
    cache_same zero l = in-turn.begins
    cache_same (suc t) l =
        in-turn.goes_on t (omega arith)
        ∙ ap (λ (x : QueryEffect). x.cache) (single_is t (omega arith) (cache_same t (omega arith)))
        ∙ sym (law.cache_next embeds catalog motifs work cache hits t)

    in_order : InOrder embeds catalog motifs work cache hits caches
        (batched (batch_answer embeds catalog motifs work begin) (to K).cache (to K).hits)
    in_order =
        record {
          numbers = λ t l. ap (λ (x : QueryEffect). x.answer) (single_is t l (cache_same t (omega arith))) ∙ answers t l;
          lists = λ t l.
              law.listed embeds catalog motifs work cache hits e t l ∙ sym (ap (λ (x : QueryEffect). x.hits) (single_is t l (cache_same t (omega arith))));
          cache_last = sym (cache_same K (omega arith));
        }

  pub batch_accepted : BatchLeaves embeds catalog motifs work cache hits (batch_outcome embeds catalog motifs work cache hits)
  unfolding batch_outcome
  batch_accepted =
      rw (by_accepted (batch_verdict catalog cache motifs work (length hits)) _ _ e) (record {
        in_order = in_order;
        queries = law.query_accepted_at embeds catalog motifs work cache hits e;
        answers = answers;
        searched_is = λ t l. law.searched_at_lem embeds catalog motifs work cache hits e t l ∙ searched_is t l;
        sizes = sizes;
        no_motif = no_motif;
        handed = law.handed embeds catalog motifs work cache hits e;
        listed = law.listed embeds catalog motifs work cache hits e;
        size = law.hits_size embeds catalog motifs work cache hits e K (omega arith);
        behind = law.behind embeds catalog motifs work cache hits e K (omega arith);
        read = unfold batch_answer in refl;
        reads = reads;
        read_rising = read_rising;
        each_read = λ t l. omega (arith, law.searched_at_lem embeds catalog motifs work cache hits e t l, searched_is t l, searched_read t l);
        read_held = read_held;
        cache_is = refl;
        cache_sound = last_sound;
      })

-- ---- a batch of one motif

-- A list, with the rest of the first piece behind it, put back into the slice.
first_piece : (w : ℕ) (list s : List ℕ) → length list ≤ w → w ≤ length s
    → put_piece w 0 (list ++ drop (length list) (piece w 0 s)) s ≡ list ++ drop (length list) s
unfolding put_piece
first_piece w list s h k =
    let end : w * 0 + w ≡ w = omega arith in
    let start : w * 0 ≡ 0 = omega arith in
    let width : w - 0 ≡ w = omega arith in
    rw (end, start, width) (
    append_assoc list (drop (length list) (take w s)) (drop w s)
    ∙ ap (λ (r : List ℕ). list ++ r)
    (sym (drop-append-le (length list) (take w s) (drop w s) (omega (arith, length-take-le w s k))) ∙ ap (drop (length list)) (take-append-drop w s))
    )

some_one : (p : ℕ → Bool) → some 1 p ≡ p 0
unfolding some
some_one p = or-false (p 0)

module _ (embeds : Strand → Strand → Bool) (catalog motifs : List ℕ) (work : ℕ) (cache hits : List ℕ)
    (e : batch_verdict catalog cache motifs work (length hits) ≡ Ok tt) (one : block_count motifs ≡ 1) where
  abbrev only : Strand
  only = motif_of motifs 0

  abbrev alone : QueryEffect
  alone = query_outcome embeds catalog cache only work hits

  abbrev in_batch : QueryEffect
  in_batch = query_at embeds catalog motifs work (batch_state cache hits) 0

  abbrev asked : List ℕ → QueryEffect
  asked h = query_accepted embeds catalog (clean_cache cache) (entry_for cache only) (slot_in cache only) only h

  there : 0 < block_count motifs
  there = omega (arith, one)

  fits : block_count catalog ≤ length hits
  fits =
      let f = (batch_facts catalog cache motifs work (length hits) e).2 in
      let g : 1 * block_count catalog ≤ length hits = rw one at f in
      omega arith

  alone_is : alone ≡ asked hits
  alone_is =
      let f = batch_facts catalog cache motifs work (length hits) e in
      query_does embeds catalog cache only work hits
      ((query_accepts catalog cache only work (length hits)).1 (f.0, motif_proper motifs f.1 0 there, fits, f.3 0 there))

  in_batch_is : in_batch ≡ asked (piece (block_count catalog) 0 hits)
  unfolding query_at batch_query batch_to
  in_batch_is =
      query_does embeds catalog cache only work (piece (block_count catalog) 0 hits) (law.query_accepted_at embeds catalog motifs work cache hits e 0 there)

  same_answer : alone.answer ≡ in_batch.answer
  unfolding query_accepted
  same_answer = ap (λ (x : QueryEffect). x.answer) alone_is ∙ sym (ap (λ (x : QueryEffect). x.answer) in_batch_is)

  same_cache : in_batch.cache ≡ alone.cache
  unfolding query_accepted
  same_cache = ap (λ (x : QueryEffect). x.cache) in_batch_is ∙ sym (ap (λ (x : QueryEffect). x.cache) alone_is)

  same_hits : put_piece (block_count catalog) 0 in_batch.hits hits ≡ alone.hits
  unfolding query_accepted
  same_hits =
      ap (λ (x : QueryEffect). put_piece (block_count catalog) 0 x.hits hits) in_batch_is
      ∙ first_piece (block_count catalog) (select (block_count catalog) (is_hit embeds catalog (entry_for cache only) only)) hits
      (select_short (is_hit embeds catalog (entry_for cache only) only) (block_count catalog)) fits
      ∙ sym (ap (λ (x : QueryEffect). x.hits) alone_is)

  read_one : length (read_list embeds catalog motifs work (batch_state cache hits))
      ≡ length (select (block_count catalog) (searches_at embeds catalog motifs work (batch_state cache hits) 0))
  unfolding read_list
  read_one =
      ap length (select_ext (block_count catalog) _ _
      (λ d l. ap (λ (n : ℕ). some n (λ t. searches_at embeds catalog motifs work (batch_state cache hits) t d)) one ∙ some_one _))

  hits_one : (batch_to embeds catalog motifs work 1 (batch_state cache hits)).hits ≡ put_piece (block_count catalog) 0 in_batch.hits hits
  unfolding batch_to
  hits_one = law.hits_next embeds catalog motifs work cache hits 0

  pub batch_of_one : IsQuery embeds catalog motifs work cache hits (batch_outcome embeds catalog motifs work cache hits)
  unfolding searched_of
  batch_of_one =
      let new = batch_accepted embeds catalog motifs work cache hits e in
      let searched = sym (searched_is embeds catalog motifs work cache hits e 0 there) ∙ ap searched_of (new.answers 0 there) in
      record {
        answer = same_answer ∙ new.answers 0 there;
        read = new.read ∙ ap Ok (read_one ∙ searched);
        cache_same =
            new.cache_is ∙ ap (λ (n : ℕ). (batch_to embeds catalog motifs work n (batch_state cache hits)).cache) one
            ∙ law.cache_next embeds catalog motifs work cache hits 0 ∙ same_cache;
        hits_same =
            ap (λ (x : BatchEffect). x.hits) (law.batch_done embeds catalog motifs work cache hits e)
            ∙ ap (λ (n : ℕ). (batch_to embeds catalog motifs work n (batch_state cache hits)).hits) one
            ∙ hits_one ∙ same_hits;
      }

pub claims : (embeds : Strand → Strand → Bool) → BatchClaims embeds
claims embeds =
    record {
      batch_accepts = batch_accepts;
      motifs_refuse = motifs_refuse;
      batch_order = batch_order;
      batch_refuses = batch_refuses embeds;
      motifs_sides = motifs_sides;
      batch_sides = batch_sides;
      batch_keeps = batch_keeps embeds;
      batch_no_numbers = batch_no_numbers embeds;
      batch_accepted = λ catalog cache motifs work hits. batch_accepted embeds catalog motifs work cache hits;
      batch_shares = λ catalog cache motifs work hits. slots_shared embeds catalog motifs work cache hits;
      batch_of_one = λ catalog cache motifs work hits. batch_of_one embeds catalog motifs work cache hits;
    }
