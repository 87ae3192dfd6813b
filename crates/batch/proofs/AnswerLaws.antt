-- The answers of a batch: what one query leaves from the hits that were found for it, and the queries one after the other.
use Rattle.std.specs.Prelude.{Ok}
use Prim.Native.Nat.{ℕ, ◌+◌, ◌-◌, ◌*◌, ◌<◌, ◌≤◌}
use native.Mathlib.Omega.{arith}
use native.Mathlib.Numerals.{add-one}
use native.Mathlib.Nat.{mul_comm, mul-le-mul}
use mathlib.Core.Path.{◌≡◌, refl, sym, ap, ap₂, ◌∙◌}
use mathlib.Core.Bool.{Bool, ◌&&◌, ◌||◌}
use mathlib.Core.List.{List, [], ◌++◌}
use borrow.Rule.Slice.PartMut.{put_mid}
use lib.ListN.{length, get_or, drop}
use Rattle.lists.specs.Vocabulary.{piece, put_piece, select}
use Rattle.lists.proofs.Stretches.{piece_back, piece_within}
use Rattle.strand.specs.Strands.{Strand, strand_of}
use Rattle.octets.specs.Octets.{map_bit, map_bytes}
use Rattle.octets.proofs.MapLaws.{length_map, map_small, map_is, map_bit_lem, map_ext}
use Rattle.block.specs.Content.{entry_with, keeps_motif, searched_in, hit_in}
use Rattle.block.specs.Block.{block_of, block_count, put_block}
use Rattle.embedding.specs.Longest.{embeds}
use Rattle.calls.specs.Answers.{hits_of}
use Rattle.calls.specs.Buffers.{held, molecule_at}
use Rattle.calls.specs.Calls.{slot_in, to_search, is_hit, QueryEffect, queried}
use Rattle.calls.specs.Motifs.{motif_of}
use Rattle.calls.specs.Batch.{batch_state, batch_to, query_at, count_of}
use Rattle.calls.proofs.CallLaws.{hit_is}
use Rattle.calls.proofs.ReadingLaws.{clean_same}
use Rattle.calls.proofs.BatchLaws as batch
use Rattle.search.specs.Search.{answered}
use Rattle.search.proofs.AnswerLaws.{answer_is}
use Rattle.batch.specs.Steps.{Planning, known_of, Answering, Batching}

-- The hits that the slot's entry knows, joined to those of g.
pub hits_joined : (h entry known hit : List ℕ) (q : Strand) (same : Bool) (g : ℕ → Bool) → same ≡ keeps_motif entry q
    → known ≡ map_bytes (λ d. map_bit h 0 d && (same && (searched_in entry d && hit_in entry d))) → hit ≡ map_bytes (λ d. map_bit known 0 d || g d)
    → hit ≡ map_bytes (λ d. known_of h entry q d || g d)
unfolding known_of
hits_joined h entry known hit q same g es ek eh =
    eh
    ∙ map_ext _ _ (λ d l.
    ap (λ (b : Bool). b || g d)
    (ap (λ (m : List ℕ). map_bit m 0 d) ek ∙ map_bit_lem _ d l ∙ ap (λ (b : Bool). map_bit h 0 d && (b && (searched_in entry d && hit_in entry d))) es))

-- A map is the map of its own bits.
pub map_again : (w : List ℕ) (p : ℕ → Bool) → w ≡ map_bytes p → w ≡ map_bytes (map_bit w 0)
map_again w p e = map_is w (ap length e ∙ length_map p) (rw e (map_small p))

-- ---- one query: its motif p, pm, its slot s with the entry there, and the entries that its hits go to

module _ (catalog motifs h found cache : List ℕ) (t : ℕ) (A : Answering catalog motifs h found cache t) (p pm : List ℕ)
    (eq : strand_of p pm ≡ motif_of motifs t) (s : ℕ) (es : s ≡ slot_in cache (strand_of p pm)) (entry : List ℕ) (ee : entry ≡ block_of s cache)
    (hits : List ℕ) where
  entry_is : entry ≡ block_of (slot_in cache (motif_of motifs t)) cache
  entry_is = ee ∙ ap (λ (k : ℕ). block_of k cache) (es ∙ ap (slot_in cache) eq)

  hit_map : (hit : List ℕ) → hit ≡ map_bytes (λ d. known_of h entry (strand_of p pm) d || map_bit found 0 d)
      → hit ≡ map_bytes (is_hit embeds catalog entry (strand_of p pm))
  unfolding known_of
  hit_map hit e =
      e
      ∙ map_ext _ _ (λ d l.
      ap₂ (λ (a b : Bool). (a && (keeps_motif entry (strand_of p pm) && (searched_in entry d && hit_in entry d))) || b)
      (ap (λ (m : List ℕ). map_bit m 0 d) A.held_is ∙ map_bit_lem (held catalog) d l)
      (A.found_is d l
      ∙ ap₂ (λ (w : List ℕ) (q : Strand). to_search catalog w q d && embeds q (molecule_at catalog d)) (sym entry_is) (sym eq))
      ∙ sym (hit_is catalog entry (strand_of p pm) d embeds))

  -- c hits stand at the start of y, x is the cache with the new entry
  pub query_answered : (hit x y : List ℕ) (c : ℕ) → hit ≡ map_bytes (λ d. known_of h entry (strand_of p pm) d || map_bit found 0 d)
      → (c ≡ length (select (block_count catalog) (map_bit hit 0))) × (y ≡ select (block_count catalog) (map_bit hit 0) ++ drop c hits)
      → x ≡ put_block s (entry_with [] p pm h hit) cache
      → (c ≡ count_of (answered catalog cache (motif_of motifs t) hits).answer) × (x ≡ (answered catalog cache (motif_of motifs t) hits).cache)
      × (y ≡ (answered catalog cache (motif_of motifs t) hits).hits)
  unfolding count_of
  query_answered hit x y c eh listed ex =
      let whole : queried (Ok (hits_of c (length (select (block_count catalog) (to_search catalog entry (strand_of p pm)))))) x y
      ≡ answered catalog cache (motif_of motifs t) hits
      = answer_is catalog cache entry s p pm hits A.most es ee h hit A.held_is (hit_map hit eh) c _ x y refl listed ex
      ∙ ap (λ (q : Strand). answered catalog cache q hits) eq in (
        ap (λ (e : QueryEffect). count_of e.answer) whole,
        ap (λ (e : QueryEffect). e.cache) whole,
        ap (λ (e : QueryEffect). e.hits) whole,
      )

-- ---- all queries, in their order

module _ {catalog motifs h : List ℕ} {found : List (List ℕ)} {cache : List ℕ} {work : ℕ} {hits : List ℕ}
    (G : Batching catalog motifs h found cache work hits) where
  abbrev to : ℕ → List ℕ
  to t = (batch_to embeds catalog motifs work t (batch_state cache hits)).hits

  abbrev clean : ℕ → List ℕ
  clean t = batch.clean_to embeds catalog motifs work cache hits t

  abbrev query : ℕ → QueryEffect
  query t = query_at embeds catalog motifs work (batch_state cache hits) t

  pub cache_start : cache ≡ clean 0
  unfolding batch_to
  cache_start = sym (clean_same cache (batch.batch_facts catalog cache motifs work (length hits) G.verdict).0.whole G.sound)

  pub hits_start : hits ≡ to 0
  unfolding batch_to
  hits_start = refl

  pub few_motifs : block_count motifs ≤ 16
  few_motifs = (batch.batch_facts catalog cache motifs work (length hits) G.verdict).1.most

  pub few_blocks : block_count catalog ≤ 512
  few_blocks = (batch.batch_facts catalog cache motifs work (length hits) G.verdict).0.most

  pub cache_kept : (t : ℕ) (c : List ℕ) → t ≤ block_count motifs → c ≡ clean t → length c ≡ length cache
  cache_kept t c l e = ap length e ∙ batch.clean_size embeds catalog motifs work cache hits G.verdict t l

  pub hits_kept : (t : ℕ) (w : List ℕ) → t ≤ block_count motifs → w ≡ to t → length w ≡ length hits
  hits_kept t w l e = ap length e ∙ batch.hits_size embeds catalog motifs work cache hits G.verdict t l

  -- Where the entries of a motif begin is a small number.
  pub begin_small : (t : ℕ) → t < block_count motifs → block_count catalog * t ≤ 8192
  begin_small t l = mul-le-mul {n₂ = 512} {m₂ = 16} few_blocks (let k = few_motifs in omega arith)

  module _ (t : ℕ) (l : t < block_count motifs) (c w : List ℕ) (ec : c ≡ clean t) (ew : w ≡ to t) where
    pub within_hits : block_count catalog * t + block_count catalog ≤ length w
    within_hits =
        let f = (batch.batch_facts catalog cache motifs work (length hits) G.verdict).2 in
        let k = piece_within (block_count catalog) t (block_count motifs) l in
        let m = mul_comm (block_count catalog) (block_count motifs) in
        let n = ap length ew ∙ batch.hits_size embeds catalog motifs work cache hits G.verdict t (omega arith) in
        omega arith

    planning : Planning h (clean t)
    planning =
        let f = batch.batch_facts catalog cache motifs work (length hits) G.verdict in
        let n = batch.clean_size embeds catalog motifs work cache hits G.verdict t (omega arith) in
        record {
          held_map = map_again h (held catalog) G.held_is;
          slots = omega (arith, f.0.slots);
          cache_size = omega (arith, f.0.whole, f.0.most_slots);
          sound = batch.clean_sound_at embeds catalog motifs work cache hits G.verdict t (omega arith);
        }

    here : Answering catalog motifs h (get_or found t []) (clean t) t
    here =
        record {
          planning = planning;
          below = l;
          most = few_blocks;
          held_is = G.held_is;
          found_size = G.sizes t l;
          found_is = λ d k.
              G.found_is t d l k
              ∙ ap (λ (b : Bool). b && embeds (motif_of motifs t) (molecule_at catalog d))
              (batch.searches_is embeds catalog motifs work cache hits G.verdict t d (omega arith));
        }

    pub answering_at : Answering catalog motifs h (get_or found t []) c t
    answering_at = rw ec here

    query_is : answered catalog c (motif_of motifs t) (piece (block_count catalog) t w) ≡ query t
    query_is =
        ap₂ (λ (x y : List ℕ). answered catalog x (motif_of motifs t) (piece (block_count catalog) t y)) ec ew
        ∙ sym (batch.query_at_is embeds catalog motifs work cache hits G.verdict t l)

    pub next_count : (r : ℕ) → r ≡ count_of (answered catalog c (motif_of motifs t) (piece (block_count catalog) t w)).answer → r ≡ count_of (query t).answer
    next_count r e = e ∙ ap (λ (x : QueryEffect). count_of x.answer) query_is

    pub next_cache : (x : List ℕ) → x ≡ (answered catalog c (motif_of motifs t) (piece (block_count catalog) t w)).cache → x ≡ clean (t + 1)
    next_cache x e =
        e ∙ ap (λ (y : QueryEffect). y.cache) query_is ∙ batch.clean_next embeds catalog motifs work cache hits G.verdict t l
        ∙ ap clean (sym (add-one t))

    pub next_hits : (y : List ℕ) → y ≡ (answered catalog c (motif_of motifs t) (piece (block_count catalog) t w)).hits
        → put_mid (block_count catalog * t) (block_count catalog * t + block_count catalog - block_count catalog * t) w y ≡ to (t + 1)
    next_hits y e =
        piece_back (block_count catalog) t w y
        ∙ ap₂ (λ (a b : List ℕ). put_piece (block_count catalog) t a b) (e ∙ ap (λ (x : QueryEffect). x.hits) query_is) ew
        ∙ sym (batch.hits_next embeds catalog motifs work cache hits t)
        ∙ ap to (sym (add-one t))

  pub cache_end : (t : ℕ) (c : List ℕ) → t ≡ block_count motifs → c ≡ clean t
      → c ≡ (batch_to embeds catalog motifs work (block_count motifs) (batch_state cache hits)).cache
  cache_end t c q e = e ∙ ap clean q ∙ batch.clean_last embeds catalog motifs work cache hits G.verdict
