-- A batch on the clean cache answers and leaves what it does on the cache as it was: each query cleans the cache first.
use Rattle.std.specs.Prelude.{Ok}
use Prim.Native.Nat.{ℕ, zero, suc, ◌<◌, ◌≤◌}
use native.Mathlib.Omega.{arith}
use mathlib.Core.Path.{◌≡◌, refl, sym, ap, ap₂, ◌∙◌}
use mathlib.Core.List.{List}
use lib.ListN.{length}
use Rattle.lists.specs.Vocabulary.{piece, put_piece}
use Rattle.lists.proofs.ListLaws.{tab_ext}
use Rattle.lists.proofs.Ranges.{some_ext, select_ext}
use Rattle.block.specs.Content.{padded}
use Rattle.block.specs.Block.{block_of, block_count, cleaned, each_block}
use Rattle.block.proofs.ContentLaws.{length_cleaned}
use Rattle.buffer.proofs.BlockLaws.{length_each}
use Rattle.embedding.specs.Longest.{embeds}
use Rattle.calls.specs.Buffers.{clean_cache, Usable}
use Rattle.calls.specs.Calls.{QueryEffect, slot_in, to_search, query_accepted}
use Rattle.calls.specs.Motifs.{motif_of}
use Rattle.calls.specs.Batch.{batch_verdict, BatchState, batch_state, batch_to, query_at, searches_at, read_list}
use Rattle.calls.specs.Batch.{batch_answer, batched, batch_outcome, count_of}
use Rattle.calls.specs.Batch.{searched_of}
use Rattle.calls.proofs.ReadingLaws.{clean_same}
use Rattle.calls.proofs.CallLaws.{clean_sound}
use Rattle.calls.proofs.BatchLaws as batch
use Rattle.calls.proofs.BatchRefusing.{batch_accepts}

module _ (catalog cache motifs : List ℕ) (work : ℕ) (hits : List ℕ) (e : batch_verdict catalog cache motifs work (length hits) ≡ Ok tt)
    (y : List ℕ) (ey : y ≡ each_block cleaned cache) where
  size : length y ≡ length cache
  size = ap length ey ∙ length_each cleaned length_cleaned cache

  usable : Usable catalog y
  usable =
      let u = (batch.batch_facts catalog cache motifs work (length hits) e).0 in
      record {
        filled = u.filled;
        least = u.least;
        most = u.most;
        whole = omega (arith, u.whole, size);
        slots = omega (arith, u.slots, size);
        most_slots = omega (arith, u.most_slots, size);
        blocks = u.blocks;
      }

  pub clean_verdict : batch_verdict catalog y motifs work (length hits) ≡ Ok tt
  clean_verdict =
      let f = batch.batch_facts catalog cache motifs work (length hits) e in
      (batch_accepts catalog y motifs work (length hits)).1 (usable, f.1, f.2, f.3)

  abbrev from : List ℕ → BatchState
  from c = batch_state c hits

  abbrev clean : List ℕ → ℕ → List ℕ
  clean c t = batch.clean_to embeds catalog motifs work c hits t

  abbrev to : List ℕ → ℕ → List ℕ
  to c t = (batch_to embeds catalog motifs work t (from c)).hits

  abbrev query : List ℕ → ℕ → QueryEffect
  query c t = query_at embeds catalog motifs work (from c) t

  -- Before each query both have the same clean cache and the same hits.
  record Same (t : ℕ) : Type 0 where
    caches : clean y t ≡ clean cache t
    lists : to y t ≡ to cache t

  queries : (t : ℕ) → t < block_count motifs → Same t → query y t ≡ query cache t
  queries t l s =
      batch.query_at_is embeds catalog motifs work y hits clean_verdict t l
      ∙ ap₂ (λ (c w : List ℕ). query_accepted embeds catalog c (block_of (slot_in c (motif_of motifs t)) c) (slot_in c (motif_of motifs t)) (motif_of motifs t)
      (piece (block_count catalog) t w)) s.caches s.lists
      ∙ sym (batch.query_at_is embeds catalog motifs work cache hits e t l)

  same_start : Same 0
  unfolding batch_to clean_cache
  same_start = record { caches = clean_same y usable.whole (clean_sound cache y ey) ∙ ey; lists = refl }

  same_next : (t : ℕ) → t < block_count motifs → Same t → Same (suc t)
  same_next t l s =
      record {
        caches =
            sym (batch.clean_next embeds catalog motifs work y hits clean_verdict t l)
            ∙ ap (λ (x : QueryEffect). x.cache) (queries t l s)
            ∙ batch.clean_next embeds catalog motifs work cache hits e t l;
        lists =
            batch.hits_next embeds catalog motifs work y hits t
            ∙ ap₂ (put_piece (block_count catalog) t) (ap (λ (x : QueryEffect). x.hits) (queries t l s)) s.lists
            ∙ sym (batch.hits_next embeds catalog motifs work cache hits t);
      }

  same : (t : ℕ) → t ≤ block_count motifs → Same t
  same zero l = same_start
  same (suc t) l = same_next t (omega arith) (same t (omega arith))

  searches : (t d : ℕ) → t < block_count motifs → searches_at embeds catalog motifs work (from y) t d ≡ searches_at embeds catalog motifs work (from cache) t d
  searches t d l =
      batch.searches_is embeds catalog motifs work y hits clean_verdict t d (omega arith)
      ∙ ap (λ (c : List ℕ). to_search catalog (block_of (slot_in c (motif_of motifs t)) c) (motif_of motifs t) d) (same t (omega arith)).caches
      ∙ sym (batch.searches_is embeds catalog motifs work cache hits e t d (omega arith))

  reads : read_list embeds catalog motifs work (from y) ≡ read_list embeds catalog motifs work (from cache)
  unfolding read_list
  reads = select_ext (block_count catalog) _ _ (λ d l. some_ext (block_count motifs) _ _ (λ t k. searches t d k))

  answers : batch_answer embeds catalog motifs work (from y) ≡ batch_answer embeds catalog motifs work (from cache)
  unfolding batch_answer
  answers = λ i. record {
    read = Ok (length (reads i));
    counts = padded 16 (tab_ext (λ t. count_of (query y t).answer) (λ t. count_of (query cache t).answer) (block_count motifs)
        (λ t l. ap (λ (x : QueryEffect). count_of x.answer) (queries t l (same t (omega arith)))) i);
    searched = padded 16 (tab_ext (λ t. searched_of (query y t).answer) (λ t. searched_of (query cache t).answer) (block_count motifs)
        (λ t l. ap (λ (x : QueryEffect). searched_of x.answer) (queries t l (same t (omega arith)))) i);
  }

  pub clean_outcome : batch_outcome embeds catalog motifs work y hits ≡ batch_outcome embeds catalog motifs work cache hits
  clean_outcome =
      batch.batch_done embeds catalog motifs work y hits clean_verdict
      ∙ (λ i. batched (answers i) ((same (block_count motifs) (omega arith)).caches i) ((same (block_count motifs) (omega arith)).lists i))
      ∙ sym (batch.batch_done embeds catalog motifs work cache hits e)
