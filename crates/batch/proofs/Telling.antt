-- The plan tells what each query of a batch has to search: the copy of the cache and the cache itself have, before each query, entries that know the same,
-- though not the same hits. So the maps that the search leaves give the answers of the batch.
use Rattle.std.specs.Prelude.{Ok}
use Prim.Native.Nat.{ℕ, zero, suc, ◌+◌, ◌-◌, ◌/◌, ◌<◌, ◌≤◌}
use native.Mathlib.Omega.{arith}
use native.Mathlib.Nat.{mod-lt}
use native.Mathlib.Decide.{ℕ_discrete}
use mathlib.Core.Path.{◌≡◌, refl, sym, ap, ap₂, ◌∙◌}
use mathlib.Core.Bool.{Bool, true, not, ◌&&◌}
use mathlib.Core.List.{List, [], ◌++◌}
use lib.ListN.{length, get_or, drop, replicate, length-drop, length-replicate}
use lib.Seq.{ext_get_or, get_or-drop}
use Rattle.lists.specs.Vocabulary.{select, tab}
use Rattle.lists.proofs.ListLaws.{and_left, tab_ext, length_tab, zeros_at, zeros_zero}
use Rattle.lists.proofs.Ranges.{some_ext, select_ext}
use Rattle.strand.specs.Strands.{Strand, same_strand, key}
use Rattle.octets.specs.Octets.{map_bit, map_bytes}
use Rattle.octets.proofs.MapLaws.{map_bit_lem, length_map}
use Rattle.block.specs.Content.{block_size, encode_entry, padded}
use Rattle.block.specs.Block.{block_of, block_count, put_block}
use Rattle.block.proofs.ContentLaws.{entry_length, entry_of_maps}
use Rattle.buffer.proofs.BlockLaws.{length_put, block_put, block_other}
use Rattle.embedding.specs.Longest.{embeds}
use Rattle.calls.specs.Buffers.{held, molecule_at, slot_of}
use Rattle.calls.specs.Calls.{slot_in, is_known, to_search, is_hit, QueryEffect, query_accepted}
use Rattle.calls.specs.Statements.{AllSound}
use Rattle.calls.specs.Motifs.{motif_of}
use Rattle.calls.specs.Batch.{batch_verdict, batch_state, batch_to, query_at, searches_at, read_list, batch_answer}
use Rattle.calls.specs.Batch.{count_of, searched_of, batched, batch_outcome}
use Rattle.calls.proofs.CallLaws.{entry_known}
use Rattle.calls.proofs.MotifLaws.{motif_proper, motif_verdict_lem}
use Rattle.calls.proofs.ReadingLaws.{clean_same}
use Rattle.calls.proofs.BatchLaws as batch
use Rattle.batch.specs.Steps.{planned_by, planned, planned_after, PlannedTo, hits_in, in_some, Batching, Found, told}

zeros_left : (k n : ℕ) → drop k (replicate {A = ℕ} n 0) ≡ replicate (n - k) 0
zeros_left k n =
    ext_get_or 0 (drop k (replicate {A = ℕ} n 0)) (replicate (n - k) 0)
    (length-drop k (replicate {A = ℕ} n 0) ∙ ap (λ (m : ℕ). m - k) (length-replicate n 0) ∙ sym (length-replicate (n - k) 0))
    (λ i l. get_or-drop k (replicate {A = ℕ} n 0) i 0 ∙ zeros_at (replicate n 0) (zeros_zero n) (k + i)
    ∙ sym (zeros_at (replicate (n - k) 0) (zeros_zero (n - k)) i))

-- What the plan asks for is held.
pub planned_held : (catalog motifs h cache : List ℕ) (todo : List (List ℕ)) → h ≡ map_bytes (held catalog)
    → PlannedTo motifs h cache todo (block_count motifs)
    → (t d : ℕ) → t < block_count motifs → d < 512 → map_bit (get_or todo t []) 0 d ≡ true → held catalog d ≡ true
unfolding planned_by
planned_held catalog motifs h cache todo eh P t d l k yes_bit =
    sym (ap (λ (m : List ℕ). map_bit m 0 d) eh ∙ map_bit_lem (held catalog) d k)
    ∙ and_left (map_bit h 0 d) _ (sym (ap (λ (m : List ℕ). map_bit m 0 d) (P.each t l) ∙ map_bit_lem _ d k) ∙ yes_bit)

module _ (catalog cache motifs : List ℕ) (work : ℕ) (hits : List ℕ) (e : batch_verdict catalog cache motifs work (length hits) ≡ Ok tt)
    (sound : AllSound cache) where
  abbrev h : List ℕ
  h = map_bytes (held catalog)

  abbrev copy : ℕ → List ℕ
  copy t = planned_after motifs h cache t

  abbrev clean : ℕ → List ℕ
  clean t = batch.clean_to embeds catalog motifs work cache hits t

  abbrev p : ℕ → Strand
  p t = motif_of motifs t

  facts_slots : 1 ≤ block_count cache
  facts_slots = (batch.batch_facts catalog cache motifs work (length hits) e).0.slots

  -- The two caches have as many blocks, and their blocks know the same.
  record Alike (t : ℕ) : Type 0 where
    size : length (copy t) ≡ length cache
    same : (s : ℕ) → s < block_count cache → (q : Strand) (d : ℕ) → d < 512 → is_known (block_of s (copy t)) q d ≡ is_known (block_of s (clean t)) q d

  alike_start : Alike 0
  unfolding planned_after batch_to
  alike_start =
      record {
        size = refl;
        same = λ s l q d k.
            ap (λ (c : List ℕ). is_known (block_of s c) q d)
            (sym (clean_same cache (batch.batch_facts catalog cache motifs work (length hits) e).0.whole sound));
      }

  module _ (t : ℕ) (l : t < block_count motifs) (A : Alike t) where
    size_clean : length (clean t) ≡ length cache
    size_clean = batch.clean_size embeds catalog motifs work cache hits e t (omega arith)

    abbrev slot : ℕ
    slot = slot_in (clean t) (p t)

    -- An entry of the motif with the held numbers searched.
    abbrev entry : (ℕ → Bool) → List ℕ
    entry m = encode_entry (p t) (held catalog) m

    slot_same : slot_in (copy t) (p t) ≡ slot
    slot_same = ap (λ (n : ℕ). slot_of (n / block_size) (p t)) (A.size ∙ sym size_clean)

    slot_below : slot < block_count (clean t)
    unfolding slot_of
    slot_below = let k : 1 ≤ block_count (clean t) = omega (arith, size_clean, facts_slots) in mod-lt (key (p t)) k

    -- what each of the two writes into it
    hit : ℕ → Bool
    hit = is_hit embeds catalog (block_of slot (clean t)) (p t)

    copy_next : copy (suc t) ≡ put_block slot (entry (held catalog)) (copy t)
    unfolding planned_after planned
    copy_next =
        ap₂ (λ (s : ℕ) (b : List ℕ). put_block s b (copy t)) slot_same (entry_of_maps (p t).bases (p t).mates (held catalog) (held catalog))

    clean_next : clean (suc t) ≡ put_block slot (entry hit) (clean t)
    unfolding query_accepted hit
    clean_next =
        sym (batch.clean_next embeds catalog motifs work cache hits e t l)
        ∙ ap (λ (x : QueryEffect). x.cache) (batch.query_at_is embeds catalog motifs work cache hits e t l)

    long : (m : ℕ → Bool) → length (entry m) ≡ block_size
    long m = entry_length (p t) (motif_proper motifs (batch.batch_facts catalog cache motifs work (length hits) e).1 t l) (held catalog) m

    in_copy : slot < block_count (copy t)
    in_copy = omega (arith, A.size, size_clean, slot_below)

    alike_next : Alike (suc t)
    alike_next =
        record {
          size = ap length copy_next ∙ length_put slot (entry (held catalog)) (copy t) (long (held catalog)) (omega (arith, in_copy)) ∙ A.size;
          same = λ s k q d m.
              elim (ℕ_discrete s slot) [
                | yes x ↦ ap (λ (c : List ℕ). is_known c q d)
                    (ap₂ block_of x copy_next ∙ block_put slot (entry (held catalog)) (copy t) (long (held catalog)) (omega (arith, in_copy)))
                    ∙ known (held catalog) q d m
                    ∙ sym (ap (λ (c : List ℕ). is_known c q d)
                    (ap₂ block_of x clean_next ∙ block_put slot (entry hit) (clean t) (long hit) (omega (arith, slot_below)))
                    ∙ known hit q d m)
                | no x ↦ ap (λ (c : List ℕ). is_known c q d)
                    (ap (block_of s) copy_next
                    ∙ block_other slot (entry (held catalog)) (copy t) (long (held catalog)) (omega (arith, in_copy)) s x (omega (arith, A.size)))
                    ∙ A.same s k q d m
                    ∙ sym (ap (λ (c : List ℕ). is_known c q d)
                    (ap (block_of s) clean_next
                    ∙ block_other slot (entry hit) (clean t) (long hit) (omega (arith, slot_below)) s x (omega (arith, size_clean))))
              ];
        }
      where
        known : (m : ℕ → Bool) (q : Strand) (d : ℕ) → d < 512 → is_known (entry m) q d ≡ (same_strand (p t) q && held catalog d)
        known m q d k =
            entry_known (p t) (motif_verdict_lem motifs (batch.batch_facts catalog cache motifs work (length hits) e).1 t l) (held catalog) m q d k

  alike : (t : ℕ) → t ≤ block_count motifs → Alike t
  alike zero l = alike_start
  alike (suc t) l = alike_next t (omega arith) (alike t (omega arith))

  -- So the plan tells what query t has to search.
  planned_is : (t d : ℕ) → t < block_count motifs → d < 512 → planned_by h (copy t) (p t) d
      ≡ searches_at embeds catalog motifs work (batch_state cache hits) t d
  unfolding planned_by to_search
  planned_is t d l k =
      let A = alike t (omega arith) in
      ap₂ (λ (a b : Bool). a && not b) (map_bit_lem (held catalog) d k)
      (ap (λ (s : ℕ). is_known (block_of s (copy t)) (p t) d) (slot_same t l A)
      ∙ A.same (slot_in (clean t) (p t)) (omega (arith, size_clean t l A, slot_below t l A)) (p t) d k)
      ∙ sym (batch.searches_is embeds catalog motifs work cache hits e t d (omega arith))

  module _ {g : List ℕ} {todo found : List (List ℕ)} {read : ℕ} (F : Found catalog cache motifs g todo found read) where
    asked_is : (t d : ℕ) → t < block_count motifs → d < 512
        → map_bit (get_or todo t []) 0 d ≡ searches_at embeds catalog motifs work (batch_state cache hits) t d
    asked_is t d l k =
        ap (λ (m : List ℕ). map_bit m 0 d) (F.plan.each t l)
        ∙ map_bit_lem (planned_by g (planned_after motifs g cache t) (p t)) d k
        ∙ ap (λ (m : List ℕ). planned_by m (planned_after motifs m cache t) (p t) d) F.held_is
        ∙ planned_is t d l k

    found_is : (t d : ℕ) → t < block_count motifs → d < 512
        → map_bit (get_or found t []) 0 d ≡ (searches_at embeds catalog motifs work (batch_state cache hits) t d && embeds (p t) (molecule_at catalog d))
    unfolding hits_in
    found_is t d l k =
        ap (λ (m : List ℕ). map_bit m 0 d) (F.hits.each t l)
        ∙ map_bit_lem (hits_in motifs todo catalog t) d k
        ∙ ap (λ (a : Bool). a && embeds (p t) (molecule_at catalog d)) (asked_is t d l k)

    pub batching : Batching catalog motifs g found cache work hits
    batching =
        record {
          verdict = e;
          sound = sound;
          held_is = F.held_is;
          sizes = λ t l. ap length (F.hits.each t l) ∙ length_map (hits_in motifs todo catalog t);
          found_is = found_is;
        }

    few : block_count catalog ≤ 512
    few = (batch.batch_facts catalog cache motifs work (length hits) e).0.most

    read_is : read ≡ length (read_list embeds catalog motifs work (batch_state cache hits))
    unfolding read_list in_some
    read_is =
        (unfold in_some in F.counted)
        ∙ ap length (select_ext (block_count catalog) _ _ (λ d l. some_ext (block_count motifs) _ _ (λ t k. asked_is t d k (omega (arith, few)))))

    query_searched : (t : ℕ) → t < block_count motifs
        → searched_of (query_at embeds catalog motifs work (batch_state cache hits) t).answer
        ≡ length (select (block_count catalog) (to_search catalog (block_of (slot_in (clean t) (p t)) (clean t)) (p t)))
    unfolding query_accepted searched_of
    query_searched t l = ap (λ (x : QueryEffect). searched_of x.answer) (batch.query_at_is embeds catalog motifs work cache hits e t l)

    searched_is : (t : ℕ) → t < block_count motifs
        → length (select (block_count catalog) (map_bit (get_or todo t []) 0))
        ≡ searched_of (query_at embeds catalog motifs work (batch_state cache hits) t).answer
    searched_is t l =
        ap length (select_ext (block_count catalog) _ _ (λ d k.
        asked_is t d l (omega (arith, few)) ∙ batch.searches_is embeds catalog motifs work cache hits e t d (omega arith)))
        ∙ sym (query_searched t l)

    -- The numbers of the motifs, with zeros behind them.
    padded_is : (f g : ℕ → ℕ) (w : List ℕ) → ((t : ℕ) → t < block_count motifs → f t ≡ g t)
        → w ≡ tab (block_count motifs) f ++ drop (block_count motifs) (replicate 16 0) → w ≡ padded 16 (tab (block_count motifs) g)
    padded_is f g w same ew =
        ew
        ∙ ap₂ (λ (a b : List ℕ). a ++ b) (tab_ext f g (block_count motifs) same)
        (zeros_left (block_count motifs) 16 ∙ ap (λ (n : ℕ). replicate (16 - n) 0) (sym (length_tab g (block_count motifs))))

    pub batch_answered : (counts searched cache' hits' : List ℕ)
        → counts ≡ tab (block_count motifs) (λ t. count_of (query_at embeds catalog motifs work (batch_state cache hits) t).answer)
        ++ drop (block_count motifs) (replicate 16 0)
        → searched
        ≡ tab (block_count motifs) (λ t. length (select (block_count catalog) (map_bit (get_or todo t []) 0))) ++ drop (block_count motifs) (replicate 16 0)
        → cache' ≡ (batch_to embeds catalog motifs work (block_count motifs) (batch_state cache hits)).cache
        → hits' ≡ (batch_to embeds catalog motifs work (block_count motifs) (batch_state cache hits)).hits
        → batched (told read counts searched) cache' hits' ≡ batch_outcome embeds catalog motifs work cache hits
    unfolding batch_answer
    batch_answered counts searched cache' hits' ec es ea eh =
        (λ i. batched
        (told (read_is i) (padded_is _ _ counts (λ t l. refl) ec i) (padded_is _ _ searched searched_is es i))
        ((ea ∙ sym (batch.clean_last embeds catalog motifs work cache hits e)) i) (eh i))
        ∙ sym (batch.batch_done embeds catalog motifs work cache hits e)
