-- What is claimed of batch for all inputs and all contents of the buffers; `claims`, in proofs/BatchClaims, proves it.
use Rattle.std.specs.Prelude.{ℕ, suc, ◌*◌, ◌≤◌, ◌<◌, ◌≡◌, ◌↔◌, List, Bool, true, false, length, replicate, Ok, Err}
use Rattle.lists.specs.Vocabulary.{nth, piece, select}
use Rattle.strand.specs.Strands.{Strand, same_strand}
use Rattle.refusals.specs.Rules.{motif_side, no_side, too_long, work_too_short, wrong_slice, bad_motifs, refusal, RefusesBy, BatchNumbered, Keeps, work_size}
use Rattle.refusals.specs.Rules.{TableSides}
use Rattle.refusals.specs.declared.Refusal.{Refusal}
use Rattle.block.specs.Content.{block_size}
use Rattle.block.specs.Block.{block_of, block_count}
use Rattle.block.specs.Motif.{holds_motif}
use Rattle.calls.specs.Answers.{hits_of}
use Rattle.calls.specs.Buffers.{most_molecule_bases, most_motif_bases, buffers_verdict, held, slot_of, Usable}
use Rattle.calls.specs.Calls.{QueryEffect, entry_for, to_search, query_verdict, query_outcome}
use Rattle.calls.specs.Motifs.{most_motifs, motif_of, motifs_verdict, UsableMotifs}
use Rattle.calls.specs.Batch.{batch_verdict, BatchState, batch_state, BatchEffect, batch_to, query_at, searches_at, read_list, batch_outcome}
use Rattle.calls.specs.Statements.{AllSound}

-- It is accepted exactly where no rule applies; the work slice is enough for each motif.
abbrev pub BatchAccepts : List ℕ → List ℕ → List ℕ → ℕ → ℕ → Type 0
BatchAccepts catalog cache motifs work room =
    (batch_verdict catalog cache motifs work room ≡ Ok tt)
    ↔ (Usable catalog cache × UsableMotifs motifs × (block_count motifs * block_count catalog ≤ room)
    × ((t : ℕ) → t < block_count motifs → work_size (length (motif_of motifs t).bases) most_molecule_bases ≤ work))

-- 1 to 16 whole blocks.
abbrev pub MotifBlocks : List ℕ → Type 0
MotifBlocks motifs = (length motifs ≡ block_size * block_count motifs) × (1 ≤ block_count motifs) × (block_count motifs ≤ most_motifs)

-- What a motif buffer is refused for, and the place: its size, else the lowest block that holds no motif, else the lowest motif of more than 120 bases.
pub record MotifsRefuse (motifs : List ℕ) : Type 0 where
  pub wrong_size : (MotifBlocks motifs → ⊥) → motifs_verdict motifs ≡ refusal bad_motifs motif_side 0
  pub no_motif : MotifBlocks motifs → (t : ℕ) → t < block_count motifs → holds_motif (block_of t motifs) ≡ false
      → ((s : ℕ) → s < t → holds_motif (block_of s motifs) ≡ true) → motifs_verdict motifs ≡ refusal bad_motifs motif_side t
  pub too_long_lem : MotifBlocks motifs → ((s : ℕ) → s < block_count motifs → holds_motif (block_of s motifs) ≡ true)
      → (t : ℕ) → t < block_count motifs → most_motif_bases < length (motif_of motifs t).bases
      → ((s : ℕ) → s < t → length (motif_of motifs s).bases ≤ most_motif_bases) → motifs_verdict motifs ≡ refusal too_long motif_side t
  pub passes : UsableMotifs motifs → motifs_verdict motifs ≡ Ok tt

-- The order of its rules: 10 and 11, the motif buffer, 9, then 8 where the work slice is too short for some motif.
pub record BatchOrder (catalog cache motifs : List ℕ) (work room : ℕ) : Type 0 where
  pub buffers : (r : Refusal) → buffers_verdict catalog cache ≡ Err r → batch_verdict catalog cache motifs work room ≡ Err r
  pub motif_buffer : buffers_verdict catalog cache ≡ Ok tt
      → (r : Refusal) → motifs_verdict motifs ≡ Err r → batch_verdict catalog cache motifs work room ≡ Err r
  pub few_hits_lem : buffers_verdict catalog cache ≡ Ok tt → motifs_verdict motifs ≡ Ok tt → room < block_count motifs * block_count catalog
      → batch_verdict catalog cache motifs work room ≡ refusal wrong_slice no_side 0
  pub short_work : buffers_verdict catalog cache ≡ Ok tt → motifs_verdict motifs ≡ Ok tt → block_count motifs * block_count catalog ≤ room
      → (t : ℕ) → t < block_count motifs → work < work_size (length (motif_of motifs t).bases) most_molecule_bases
      → batch_verdict catalog cache motifs work room ≡ refusal work_too_short no_side 0

module _ (embeds : Strand → Strand → Bool) (catalog motifs : List ℕ) (work : ℕ) (cache hits : List ℕ) where
  -- Where the batch begins; the number of motifs; the slot of motif t; the molecules read.
  abbrev begin : BatchState
  begin = batch_state cache hits

  abbrev many : ℕ
  many = block_count motifs

  abbrev slot_at : ℕ → ℕ
  slot_at t = slot_of (block_count cache) (motif_of motifs t)

  abbrev reading : List ℕ
  reading = read_list embeds catalog motifs work begin

  -- Single queries of these motifs, in their order, each with its entries of the hits: `caches t` is the cache that query t is handed, which is the one that
  -- the query before it leaves.
  abbrev single : (ℕ → List ℕ) → ℕ → QueryEffect
  single caches t = query_outcome embeds catalog (caches t) (motif_of motifs t) work (piece (block_count catalog) t hits)

  pub record Singles (caches : ℕ → List ℕ) : Type 0 where
    pub begins : caches 0 ≡ cache
    pub goes_on : (t : ℕ) → t < many → caches (suc t) ≡ (single caches t).cache

  -- "Counts, hits, searched numbers and the shelf afterwards equal those of single queries in that order."
  pub record InOrder (caches : ℕ → List ℕ) (after : BatchEffect) : Type 0 where
    pub numbers : (t : ℕ) → t < many → (single caches t).answer ≡ Ok (hits_of (nth after.answer.counts t) (nth after.answer.searched t))
    pub lists : (t : ℕ) → t < many → piece (block_count catalog) t after.hits ≡ (single caches t).hits
    pub cache_last : after.cache ≡ caches many

  -- What an accepted batch leaves.
  pub record BatchLeaves (after : BatchEffect) : Type 0 where
    -- what single queries in that order answer and leave
    pub in_order : (caches : ℕ → List ℕ) → Singles caches → InOrder caches after
    -- every query of it is accepted
    pub queries : (t : ℕ) → t < many
        → query_verdict catalog (batch_to embeds catalog motifs work t begin).cache (motif_of motifs t) work
        (length (piece (block_count catalog) t (batch_to embeds catalog motifs work t begin).hits)) ≡ Ok tt
    -- of each motif the numbers that its query answers, and zeros where there is no motif; the searched number is that of the molecules it would search
    pub answers : (t : ℕ) → t < many
        → (query_at embeds catalog motifs work begin t).answer ≡ Ok (hits_of (nth after.answer.counts t) (nth after.answer.searched t))
    pub searched_is : (t : ℕ) → t < many
        → nth after.answer.searched t ≡ length (select (block_count catalog) (searches_at embeds catalog motifs work begin t))
    pub sizes : (length after.answer.counts ≡ most_motifs) × (length after.answer.searched ≡ most_motifs)
    pub no_motif : (t : ℕ) → many ≤ t → (nth after.answer.counts t ≡ 0) × (nth after.answer.searched t ≡ 0)
    -- each query gets its entries of the hits as they were handed in, and what it leaves there stays; nothing behind the entries of the last changes
    pub handed : (t : ℕ) → t < many
        → piece (block_count catalog) t (batch_to embeds catalog motifs work t begin).hits ≡ piece (block_count catalog) t hits
    pub listed : (t : ℕ) → t < many → piece (block_count catalog) t after.hits ≡ (query_at embeds catalog motifs work begin t).hits
    pub size : length after.hits ≡ length hits
    pub behind : (i : ℕ) → many * block_count catalog ≤ i → nth after.hits i ≡ nth hits i
    -- the molecules read, each once: just those that at least one of the queries would search
    pub read : after.answer.read ≡ Ok (length reading)
    pub reads : (d : ℕ) → ((i : ℕ) × (i < length reading) × (nth reading i ≡ d))
        ↔ ((d < block_count catalog) × (t : ℕ) × (t < many) × (searches_at embeds catalog motifs work begin t d ≡ true))
    pub read_rising : (i j : ℕ) → i < j → j < length reading → nth reading i < nth reading j
    -- so their number is at least the searched number of each query, and at most that of the molecules held
    pub each_read : (t : ℕ) → t < many → nth after.answer.searched t ≤ length reading
    pub read_held : length reading ≤ length (select (block_count catalog) (held catalog))
    -- the cache is that of the last query, and no block of it is unsound
    pub cache_is : after.cache ≡ (batch_to embeds catalog motifs work many begin).cache
    pub cache_sound : AllSound after.cache

  -- A batch of one motif is a query, with as many read as searched.
  pub record IsQuery (after : BatchEffect) : Type 0 where
    pub answer : (query_outcome embeds catalog cache (motif_of motifs 0) work hits).answer
        ≡ Ok (hits_of (nth after.answer.counts 0) (nth after.answer.searched 0))
    pub read : after.answer.read ≡ Ok (nth after.answer.searched 0)
    pub cache_same : after.cache ≡ (query_outcome embeds catalog cache (motif_of motifs 0) work hits).cache
    pub hits_same : after.hits ≡ (query_outcome embeds catalog cache (motif_of motifs 0) work hits).hits

  -- Query t is the last before query u in its slot.
  pub record LastInSlot (t u : ℕ) : Type 0 where
    pub before : t < u
    pub there : u < many
    pub slot : slot_at t ≡ slot_at u
    pub none_between : (v : ℕ) → t < v → v < u → slot_at v ≡ slot_at u → ⊥

  -- Query u is the first in its slot.
  pub record FirstInSlot (u : ℕ) : Type 0 where
    pub there : u < many
    pub none_before : (v : ℕ) → v < u → slot_at v ≡ slot_at u → ⊥

  -- The first motif of a slot finds the entry that the cache has there. The later motif of a slot finds the earlier one's entry: the same motif again searches
  -- nothing, another one all that is held.
  pub record SlotsShared : Type 0 where
    pub first_there : (u : ℕ) → FirstInSlot u
        → (d : ℕ) → searches_at embeds catalog motifs work begin u d ≡ to_search catalog (entry_for cache (motif_of motifs u)) (motif_of motifs u) d
    pub again : (t u : ℕ) → LastInSlot t u → same_strand (motif_of motifs t) (motif_of motifs u) ≡ true
        → (d : ℕ) → searches_at embeds catalog motifs work begin u d ≡ false
    pub another : (t u : ℕ) → LastInSlot t u → same_strand (motif_of motifs t) (motif_of motifs u) ≡ false
        → (d : ℕ) → searches_at embeds catalog motifs work begin u d ≡ held catalog d

-- All the claims.
pub record BatchClaims (embeds : Strand → Strand → Bool) : Type 0 where
  pub batch_accepts : (catalog cache motifs : List ℕ) (work room : ℕ) → BatchAccepts catalog cache motifs work room
  -- else the first rule that applies refuses it
  pub motifs_refuse : (motifs : List ℕ) → MotifsRefuse motifs
  pub batch_order : (catalog cache motifs : List ℕ) (work room : ℕ) → BatchOrder catalog cache motifs work room
  -- a batch answers a refusal exactly where its rules refuse, and then changes nothing
  pub batch_refuses : (catalog cache motifs : List ℕ) (work : ℕ) (hits : List ℕ)
      → RefusesBy BatchNumbered (batch_verdict catalog cache motifs work (length hits)) Err
      (batch_outcome embeds catalog motifs work cache hits).answer.read
  pub batch_keeps : (catalog cache motifs : List ℕ) (work : ℕ) (hits : List ℕ)
      → Keeps Err (batch_outcome embeds catalog motifs work cache hits).answer.read cache hits
      (batch_outcome embeds catalog motifs work cache hits).cache (batch_outcome embeds catalog motifs work cache hits).hits
  -- and has zeros for its numbers
  pub batch_no_numbers : (catalog cache motifs : List ℕ) (work : ℕ) (hits : List ℕ)
      → Keeps Err (batch_outcome embeds catalog motifs work cache hits).answer.read (replicate most_motifs 0) (replicate most_motifs 0)
      (batch_outcome embeds catalog motifs work cache hits).answer.counts (batch_outcome embeds catalog motifs work cache hits).answer.searched
  -- the side of its refusal is one of the table's three, and so is that of a refusal of its motif buffer
  pub motifs_sides : (motifs : List ℕ) → TableSides (motifs_verdict motifs)
  pub batch_sides : (catalog cache motifs : List ℕ) (work room : ℕ) → TableSides (batch_verdict catalog cache motifs work room)
  -- an accepted batch
  pub batch_accepted : (catalog cache motifs : List ℕ) (work : ℕ) (hits : List ℕ) → batch_verdict catalog cache motifs work (length hits) ≡ Ok tt
      → BatchLeaves embeds catalog motifs work cache hits (batch_outcome embeds catalog motifs work cache hits)
  pub batch_shares : (catalog cache motifs : List ℕ) (work : ℕ) (hits : List ℕ) → batch_verdict catalog cache motifs work (length hits) ≡ Ok tt
      → SlotsShared embeds catalog motifs work cache hits
  pub batch_of_one : (catalog cache motifs : List ℕ) (work : ℕ) (hits : List ℕ) → batch_verdict catalog cache motifs work (length hits) ≡ Ok tt
      → block_count motifs ≡ 1 → IsQuery embeds catalog motifs work cache hits (batch_outcome embeds catalog motifs work cache hits)
