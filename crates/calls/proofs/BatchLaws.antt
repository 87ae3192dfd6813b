-- Batch: one law for each place where its judge can return, what is known of a batch that passes, and its queries, one after the other.
use Rattle.std.specs.Prelude.{Ok, Err}
use Prim.Native.Nat.{ℕ, zero, suc, ◌+◌, ◌-◌, ◌*◌, ◌≤◌, ◌<◌}
use native.Mathlib.Omega.{arith}
use native.Mathlib.Decide.{ℕ_discrete}
use mathlib.Core.Path.{◌≡◌, refl, sym, ap, ◌∙◌}
use mathlib.Core.Bool.{Bool}
use mathlib.Core.List.{List, []}
use lib.Dec.{ltb}
use lib.ListN.{length, take, replicate, get_or-append}
use lib.Seq.{get_or-append-add}
use borrow.Author.Tests.{lt-ltb, le-ltb, ltb-false}
use Rattle.lists.specs.Vocabulary.{nth, piece, put_piece, tab}
use Rattle.lists.proofs.ListLaws.{length_tab, nth_tab, tab_ext, zeros_at, zeros_zero}
use Rattle.lists.proofs.Stretches.{length_stretch, piece_within, length_pieces, piece_there, piece_else, piece_behind}
use Rattle.strand.specs.Strands.{Strand}
use Rattle.refusals.specs.Rules.{no_side, wrong_slice, work_too_short, refusal, refuse_if, work_size}
use Rattle.refusals.proofs.RuleLaws.{first_one, first_skip, first_stop, first_pass, rule_yes, rule_no, rule_pass, by_accepted, by_refused}
use Rattle.refusals.specs.declared.Refusal.{Refusal}
use Rattle.block.specs.Content.{padded}
use Rattle.block.specs.Block.{block_of, block_count}
use Rattle.calls.specs.declared.Batched.{Batched}
use Rattle.calls.specs.Buffers.{most_molecule_bases, buffers_verdict, slot_of, clean_cache, Usable}
use Rattle.calls.specs.Calls.{query_verdict, QueryEffect, slot_in, to_search, query_accepted, Found, found_all}
use Rattle.calls.specs.Motifs.{most_motifs, motif_of, motifs_verdict, UsableMotifs, longest_motif}
use Rattle.calls.specs.Batch.{batch_verdict, count_of, searched_of, BatchState, batch_state, batched, not_batched, batch_query, batch_to, query_at, searches_at}
use Rattle.calls.specs.Batch.{read_list, batch_answer, BatchEffect, batch_outcome, found_at, batch_result_by, batch_result}
use Rattle.calls.specs.Statements.{AllSound}
use Rattle.calls.proofs.ReadingLaws as read
use Rattle.calls.proofs.FactLaws.{sized}
use Rattle.calls.proofs.Accepting.{query_accepts}
use Rattle.calls.proofs.CallLaws.{query_does, query_hits_size, clean_sound}
use Rattle.calls.proofs.Claims.{query_accepted_lem}
use Rattle.calls.proofs.MotifLaws.{motifs_usable, motif_proper, longest_least}

-- Its rules

module _ (catalog cache motifs : List ℕ) (work room : ℕ) where
  pub batch_buffers_refused : (r : Refusal) → buffers_verdict catalog cache ≡ Err r → Err r ≡ batch_verdict catalog cache motifs work room
  unfolding batch_verdict
  batch_buffers_refused r e = sym (first_stop _ _ r e)

  module _ (buffers : buffers_verdict catalog cache ≡ Ok tt) where
    pub batch_motifs_refused : (r : Refusal) → motifs_verdict motifs ≡ Err r → Err r ≡ batch_verdict catalog cache motifs work room
    unfolding batch_verdict
    batch_motifs_refused r e = sym (first_skip _ _ buffers ∙ first_stop _ _ r e)

    module _ (usable : motifs_verdict motifs ≡ Ok tt) where
      pub batch_few_hits : room < block_count motifs * block_count catalog → refusal wrong_slice no_side 0 ≡ batch_verdict catalog cache motifs work room
      unfolding batch_verdict
      batch_few_hits h =
          sym (first_skip _ _ buffers ∙ first_skip _ _ usable ∙ first_stop _ _ _ (rule_yes wrong_slice no_side _ (lt-ltb room _ h)))

      module _ (fits : block_count motifs * block_count catalog ≤ room) where
        pub batch_short_work : work < work_size (longest_motif motifs) most_molecule_bases
            → refusal work_too_short no_side 0 ≡ batch_verdict catalog cache motifs work room
        unfolding batch_verdict
        batch_short_work h =
            sym (first_skip _ _ buffers ∙ first_skip _ _ usable ∙ first_skip _ _ (rule_no wrong_slice no_side _ (le-ltb room _ fits))
            ∙ first_one _ ∙ rule_yes work_too_short no_side _ (lt-ltb work _ h))

        pub batch_passes : work_size (longest_motif motifs) most_molecule_bases ≤ work → Ok tt ≡ batch_verdict catalog cache motifs work room
        unfolding batch_verdict
        batch_passes h =
            sym (first_skip _ _ buffers ∙ first_skip _ _ usable ∙ first_skip _ _ (rule_no wrong_slice no_side _ (le-ltb room _ fits))
            ∙ first_one _ ∙ rule_no work_too_short no_side _ (le-ltb work _ h))

  -- What they let pass.
  pub batch_facts : batch_verdict catalog cache motifs work room ≡ Ok tt
      → Usable catalog cache × UsableMotifs motifs × (block_count motifs * block_count catalog ≤ room)
      × ((t : ℕ) → t < block_count motifs → work_size (length (motif_of motifs t).bases) most_molecule_bases ≤ work)
  unfolding batch_verdict
  batch_facts e =
      let a = first_pass (buffers_verdict catalog cache) _ e in
      let b = first_pass (motifs_verdict motifs) _ a.1 in
      let c = first_pass (refuse_if wrong_slice no_side (ltb room (block_count motifs * block_count catalog))) _ b.1 in
      let d = first_pass (refuse_if work_too_short no_side (ltb work (work_size (longest_motif motifs) most_molecule_bases))) [] c.1 in
      let long = ltb-false work _ (rule_pass work_too_short no_side _ d.0) in (
        sized catalog cache a.0,
        motifs_usable motifs b.0,
        ltb-false room _ (rule_pass wrong_slice no_side _ c.0),
        (λ t l. omega (arith, long, longest_least motifs (block_count motifs) t l)),
      )

-- A refused batch.
pub batch_refused : (embeds : Strand → Strand → Bool) (catalog motifs : List ℕ) (work : ℕ) (cache hits : List ℕ) (r : Refusal)
    → batch_verdict catalog cache motifs work (length hits) ≡ Err r
    → batch_outcome embeds catalog motifs work cache hits ≡ batched (not_batched r) cache hits
unfolding batch_outcome
batch_refused embeds catalog motifs work cache hits r e = by_refused (batch_verdict catalog cache motifs work (length hits)) _ _ r e

-- Values at 0, 1, .., n - 1 with zeros behind them; two such lists.

pub padded_at : (m n : ℕ) (f : ℕ → ℕ) (i : ℕ) → i < n → nth (padded m (tab n f)) i ≡ f i
padded_at m n f i l = get_or-append (tab n f) (replicate (m - length (tab n f)) 0) 0 i (omega (arith, length_tab f n)) ∙ nth_tab f n i l

pub padded_behind : (m n : ℕ) (f : ℕ → ℕ) (i : ℕ) → n ≤ i → nth (padded m (tab n f)) i ≡ 0
padded_behind m n f i h =
    let there : i ≡ length (tab n f) + (i - n) = omega (arith, length_tab f n) in
    let zeros : List ℕ = replicate (m - length (tab n f)) 0 in
    ap (λ (k : ℕ). nth (padded m (tab n f)) k) there
    ∙ get_or-append-add (tab n f) zeros (i - n) 0
    ∙ zeros_at zeros (zeros_zero (m - length (tab n f))) (i - n)

-- The queries of a batch

module _ (embeds : Strand → Strand → Bool) (catalog motifs : List ℕ) (work : ℕ) (cache hits : List ℕ) where
  abbrev K : ℕ
  K = block_count motifs

  abbrev B : ℕ
  B = block_count catalog

  abbrev begin : BatchState
  begin = batch_state cache hits

  abbrev to : ℕ → BatchState
  to t = batch_to embeds catalog motifs work t begin

  abbrev query : ℕ → QueryEffect
  query t = query_at embeds catalog motifs work begin t

  -- The cache that query t works on: cleaned.
  abbrev pub clean_to : ℕ → List ℕ
  clean_to t = clean_cache (to t).cache

  pub cache_next : (t : ℕ) → (to (suc t)).cache ≡ (query t).cache
  unfolding batch_to query_at
  cache_next t = refl

  pub hits_next : (t : ℕ) → (to (suc t)).hits ≡ put_piece B t (query t).hits (to t).hits
  unfolding batch_to query_at
  hits_next t = refl

  module _ (e : batch_verdict catalog cache motifs work (length hits) ≡ Ok tt) where
    usable : Usable catalog cache
    usable = (batch_facts catalog cache motifs work (length hits) e).0

    usable_with : (c : List ℕ) → length c ≡ length cache → Usable catalog c
    usable_with c same =
        let u = usable in
        record {
          filled = u.filled;
          least = u.least;
          most = u.most;
          whole = omega arith;
          slots = omega arith;
          most_slots = omega arith;
          blocks = u.blocks;
        }

    -- the entries of motif t stand within the slice
    within : (t : ℕ) → t < K → (h : List ℕ) → length h ≡ length hits → B * t + B ≤ length h
    within t l h same = omega (arith, piece_within B t K l, (batch_facts catalog cache motifs work (length hits) e).2)

    accepted : (t : ℕ) → t < K → (c h : List ℕ) → length c ≡ length cache → length h ≡ length hits
        → query_verdict catalog c (motif_of motifs t) work (length (piece B t h)) ≡ Ok tt
    accepted t l c h lc lh =
        let f = batch_facts catalog cache motifs work (length hits) e in
        let n = length_stretch (B * t) B h (within t l h lh) in
        (query_accepts catalog c (motif_of motifs t) work (length (piece B t h))).1
        (usable_with c lc, motif_proper motifs f.1 t l, omega (arith, n), f.3 t l)

    -- After t queries: the sizes are as before, and the entries of the motifs that follow as they were handed in.
    record Left (t : ℕ) : Type 0 where
      cache_size : length (to t).cache ≡ length cache
      hits_size : length (to t).hits ≡ length hits
      ahead : (u : ℕ) → t ≤ u → u < K → piece B u (to t).hits ≡ piece B u hits

    left_none : Left 0
    unfolding batch_to
    left_none = record { cache_size = refl; hits_size = refl; ahead = λ u h l. refl }

    module _ (t : ℕ) (l : t < K) (before : Left t) where
      passes : query_verdict catalog (to t).cache (motif_of motifs t) work (length (piece B t (to t).hits)) ≡ Ok tt
      passes = accepted t l (to t).cache (to t).hits before.cache_size before.hits_size

      cache_kept : length (query t).cache ≡ length cache
      unfolding query_at batch_query
      cache_kept =
          let u = usable_with (to t).cache before.cache_size in
          (query_accepted_lem embeds catalog (to t).cache (motif_of motifs t) work (piece B t (to t).hits) passes).only.size
          ∙ read.clean_length (to t).cache (block_count (to t).cache) u.whole ∙ sym u.whole ∙ before.cache_size

      list_size : length (query t).hits ≡ B
      unfolding query_at batch_query
      list_size =
          query_hits_size embeds catalog (to t).cache (motif_of motifs t) work (piece B t (to t).hits) passes
          ∙ length_stretch (B * t) B (to t).hits (within t l (to t).hits before.hits_size)

      left_next : Left (suc t)
      left_next =
          let there = within t l (to t).hits before.hits_size in
          record {
            cache_size = ap length (cache_next t) ∙ cache_kept;
            hits_size = ap length (hits_next t) ∙ length_pieces B t (query t).hits (to t).hits list_size there ∙ before.hits_size;
            ahead = λ u h k.
                ap (piece B u) (hits_next t)
                ∙ piece_else B t (query t).hits (to t).hits list_size there u (λ q. omega arith) (within u k (to t).hits before.hits_size)
                ∙ before.ahead u (omega arith) k;
          }

    left : (t : ℕ) → t ≤ K → Left t
    left zero l = left_none
    left (suc t) l = left_next t (omega arith) (left t (omega arith))

    pub hits_size : (t : ℕ) → t ≤ K → length (to t).hits ≡ length hits
    hits_size t l = (left t l).hits_size

    pub handed : (t : ℕ) → t < K → piece B t (to t).hits ≡ piece B t hits
    handed t l = (left t (omega arith)).ahead t (omega arith) l

    pub query_accepted_at : (t : ℕ) → t < K
        → query_verdict catalog (to t).cache (motif_of motifs t) work (length (piece B t (to t).hits)) ≡ Ok tt
    query_accepted_at t l = passes t l (left t (omega arith))

    -- Query t leaves a list of B entries, which later queries do not touch; nothing behind the entries of the last motif changes.

    pub list_length : (t : ℕ) → t < K → length (query t).hits ≡ B
    list_length t l = list_size t l (left t (omega arith))

    listed_to : (t u : ℕ) → t < u → u ≤ K → piece B t (to u).hits ≡ (query t).hits
    listed_to t zero h l = absurd (omega arith)
    listed_to t (suc u) h l =
        let k : u < K = omega arith in
        let there = within u k (to u).hits (hits_size u (omega arith)) in
        ap (piece B t) (hits_next u)
        ∙ elim (ℕ_discrete t u) [
          | yes q ↦ rw q (piece_there B u (query u).hits (to u).hits (list_length u k) there)
          | no q ↦ piece_else B u (query u).hits (to u).hits (list_length u k) there t q (within t (omega arith) (to u).hits (hits_size u (omega arith)))
              ∙ listed_to t u (omega arith) (omega arith)
        ]

    pub listed : (t : ℕ) → t < K → piece B t (to K).hits ≡ (query t).hits
    listed t l = listed_to t K l (omega arith)

    pub behind : (t : ℕ) → t ≤ K → (i : ℕ) → K * B ≤ i → nth (to t).hits i ≡ nth hits i
    unfolding batch_to
    behind zero l i h = refl
    behind (suc t) l i h =
        let k : t < K = omega arith in
        ap (λ (s : List ℕ). nth s i) (hits_next t)
        ∙ piece_behind B t (query t).hits (to t).hits (list_length t k) (within t k (to t).hits (hits_size t (omega arith))) i
        (omega (arith, piece_within B t K k))
        ∙ behind t (omega arith) i h

    -- The cache that query t works on

    pub cache_size : (t : ℕ) → t ≤ K → length (to t).cache ≡ length cache
    cache_size t l = (left t l).cache_size

    pub clean_size : (t : ℕ) → t ≤ K → length (clean_to t) ≡ length cache
    clean_size t l =
        let u = usable_with (to t).cache (cache_size t l) in
        read.clean_length (to t).cache (block_count (to t).cache) u.whole ∙ sym u.whole ∙ cache_size t l

    pub clean_count : (t : ℕ) → t ≤ K → block_count (clean_to t) ≡ block_count cache
    clean_count t l = omega (arith, clean_size t l)

    pub clean_sound_at : (t : ℕ) → t ≤ K → AllSound (clean_to t)
    unfolding clean_cache
    clean_sound_at t l = clean_sound (to t).cache (clean_cache (to t).cache) refl

    slot_same : (t : ℕ) → t ≤ K → (p : Strand) → slot_in (to t).cache p ≡ slot_in (clean_to t) p
    slot_same t l p =
        let same : block_count (to t).cache ≡ block_count (clean_to t) = omega (arith, clean_size t l, cache_size t l) in
        ap (λ (n : ℕ). slot_of n p) same

    pub query_at_is : (t : ℕ) → t < K
        → query t
        ≡ query_accepted embeds catalog (clean_to t) (block_of (slot_in (clean_to t) (motif_of motifs t)) (clean_to t)) (slot_in (clean_to t) (motif_of
        motifs t))
        (motif_of motifs t) (piece B t (to t).hits)
    unfolding query_at batch_query
    query_at_is t l =
        query_does embeds catalog (to t).cache (motif_of motifs t) work (piece B t (to t).hits) (query_accepted_at t l)
        ∙ ap (λ (s : ℕ). query_accepted embeds catalog (clean_to t) (block_of s (clean_to t)) s (motif_of motifs t) (piece B t (to t).hits))
        (slot_same t (omega arith) (motif_of motifs t))

    pub searches_is : (t d : ℕ) → t ≤ K
        → searches_at embeds catalog motifs work begin t d
        ≡ to_search catalog (block_of (slot_in (clean_to t) (motif_of motifs t)) (clean_to t)) (motif_of motifs t) d
    unfolding searches_at
    searches_is t d l = ap (λ (s : ℕ). to_search catalog (block_of s (clean_to t)) (motif_of motifs t) d) (slot_same t l (motif_of motifs t))

    -- An accepted query leaves sound blocks: cleaning them changes nothing.

    pub query_sound : (t : ℕ) → t < K → AllSound (query t).cache
    unfolding query_at batch_query
    query_sound t l =
        (query_accepted_lem embeds catalog (to t).cache (motif_of motifs t) work (piece B t (to t).hits) (query_accepted_at t l)).cache_sound

    pub clean_next : (t : ℕ) → t < K → (query t).cache ≡ clean_to (suc t)
    clean_next t l =
        let u = usable_with (query t).cache (cache_kept t l (left t (omega arith))) in
        sym (ap clean_cache (cache_next t) ∙ read.clean_same (query t).cache u.whole (query_sound t l))

    clean_after : (t : ℕ) → 1 ≤ t → t ≤ K → clean_to t ≡ (to t).cache
    clean_after zero h l = absurd (omega arith)
    clean_after (suc t) h l = sym (clean_next t (omega arith)) ∙ sym (cache_next t)

    pub clean_last : clean_to K ≡ (to K).cache
    clean_last = clean_after K (batch_facts catalog cache motifs work (length hits) e).1.least (omega arith)

    -- What an accepted batch answers and leaves, and what it comes to.

    pub batch_done : batch_outcome embeds catalog motifs work cache hits ≡ batched (batch_answer embeds catalog motifs work begin) (clean_to K) (to K).hits
    unfolding batch_outcome
    batch_done =
        by_accepted (batch_verdict catalog cache motifs work (length hits)) _ _ e
        ∙ ap (λ (c : List ℕ). batched (batch_answer embeds catalog motifs work begin) c (to K).hits) (sym clean_last)

    pub count_at : (t : ℕ) → t < K → nth (batch_answer embeds catalog motifs work begin).counts t ≡ count_of (query t).answer
    unfolding batch_answer
    count_at t l = padded_at most_motifs K (λ u. count_of (query u).answer) t l

    pub searched_at_lem : (t : ℕ) → t < K → nth (batch_answer embeds catalog motifs work begin).searched t ≡ searched_of (query t).answer
    unfolding batch_answer
    searched_at_lem t l = padded_at most_motifs K (λ u. searched_of (query u).answer) t l

    found_at_lem : (t : ℕ) → t < K → found_at B (batch_answer embeds catalog motifs work begin) (to K).hits t
        ≡ record {
          count = count_of (query t).answer;
          hits = take (count_of (query t).answer) (query t).hits;
          searched = searched_of (query t).answer;
        }
    unfolding found_at
    found_at_lem t l = λ i. record { count = count_at t l i; hits = take (count_at t l i) (listed t l i); searched = searched_at_lem t l i }

    result_is : (r : Batched) (h : List ℕ) (n : ℕ) → r.read ≡ Ok n → batch_result B K r h ≡ found_all (tab K (found_at B r h)) n
    unfolding batch_result batch_result_by
    result_is r h n q = rw q

    read_is : (batch_answer embeds catalog motifs work begin).read ≡ Ok (length (read_list embeds catalog motifs work begin))
    unfolding batch_answer
    read_is = refl

    pub batch_found : batch_result B K (batch_outcome embeds catalog motifs work cache hits).answer (batch_outcome embeds catalog motifs work cache hits).hits
        ≡ found_all
        (tab K (λ t. record {
          count = count_of (query t).answer;
          hits = take (count_of (query t).answer) (query t).hits;
          searched = searched_of (query t).answer;
        }))
        (length (read_list embeds catalog motifs work begin))
    batch_found =
        ap (λ (x : BatchEffect). batch_result B K x.answer x.hits) batch_done
        ∙ result_is (batch_answer embeds catalog motifs work begin) (to K).hits (length (read_list embeds catalog motifs work begin)) read_is
        ∙ ap (λ (l : List Found). found_all l (length (read_list embeds catalog motifs work begin))) (tab_ext _ _ K found_at_lem)
