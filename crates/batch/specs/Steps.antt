-- Only the functions behind batch need this file: what they ask of their inputs, which the judge of the call gives, and what each step of a batch leaves.
use Rattle.std.specs.Prelude.{ℕ, zero, suc, ◌*◌, ◌≤◌, ◌<◌, ◌≡◌, Bool, true, not, ◌&&◌, List, [], length, take, get_or, Ok}
use Rattle.lists.specs.Vocabulary.{some, select}
use Rattle.strand.specs.Strands.{Strand}
use Rattle.refusals.specs.Rules.{work_size}
use Rattle.octets.specs.Octets.{map_size, map_bit, map_bytes}
use Rattle.block.specs.Block.{block_of, block_count, put_block}
use Rattle.block.specs.Content.{block_size, entry_with, keeps_motif, searched_in, hit_in}
use Rattle.embedding.specs.Longest.{embeds}
use Rattle.calls.specs.Buffers.{most_catalog_blocks, most_cache_blocks, most_molecule_bases, held, molecule_at, Usable}
use Rattle.calls.specs.Calls.{slot_in, is_known, to_search}
use Rattle.calls.specs.Batch.{batch_verdict, batch_state, searches_at}
use Rattle.calls.specs.declared.Batched.{Batched}
use Rattle.calls.specs.Motifs.{most_motifs, motif_of}
use Rattle.judge.specs.Judge.{SoundCatalog}
use Rattle.calls.specs.Statements.{AllSound}
use Rattle.motifs.specs.Unpacked.{TablesOf}

-- A work slice that is long enough for each motif.
pub record HasRoom (motifs : List ℕ) (work : ℕ) : Type 0 where
  pub room : (t : ℕ) → t < block_count motifs → work_size (length (motif_of motifs t).bases) most_molecule_bases ≤ work

-- What the walk writes into: the tables of all motifs, and a work slice that is long enough for each.
pub record Ready (motifs : List ℕ) (tables : List (List ℕ)) (work : ℕ) : Type 0 where
  pub rows : length tables ≡ most_motifs
  pub tables_of : TablesOf motifs tables
  pub work_of : HasRoom motifs work

-- Number d is in map t, and motif t embeds in molecule d.
unfoldable pub hits_in : List ℕ → List (List ℕ) → List ℕ → ℕ → ℕ → Bool
hits_in motifs todo catalog t d = map_bit (get_or todo t []) 0 d && embeds (motif_of motifs t) (molecule_at catalog d)

-- The first k maps have the hits of the first k motifs.
pub record HitsTo (motifs : List ℕ) (todo : List (List ℕ)) (catalog : List ℕ) (found : List (List ℕ)) (k : ℕ) : Type 0 where
  pub rows : length found ≡ most_motifs
  pub each : (t : ℕ) → t < k → get_or found t [] ≡ map_bytes (hits_in motifs todo catalog t)

-- Some of the first k maps has number d.
unfoldable pub in_some : ℕ → List (List ℕ) → ℕ → Bool
in_some k todo d = some k (λ t. map_bit (get_or todo t []) 0 d)

-- Each motif asks for molecules of a sound catalog of at most 512 blocks: every number of its map is held.
pub record Asked (catalog motifs : List ℕ) (todo : List (List ℕ)) : Type 0 where
  pub blocks : SoundCatalog catalog
  pub most : block_count catalog ≤ most_catalog_blocks
  pub sizes : (t : ℕ) → t < block_count motifs → length (get_or todo t []) ≡ map_size
  pub holds : (t d : ℕ) → t < block_count motifs → d < most_catalog_blocks → map_bit (get_or todo t []) 0 d ≡ true → held catalog d ≡ true

-- A map of numbers of a sound catalog of at most 512 blocks: every one is held.
pub record Wanted (catalog wanted : List ℕ) : Type 0 where
  pub blocks : SoundCatalog catalog
  pub most : block_count catalog ≤ most_catalog_blocks
  pub holds : (d : ℕ) → d < most_catalog_blocks → map_bit wanted 0 d ≡ true → held catalog d ≡ true

-- The mates of the wanted molecules below k, each at the start of its row.
pub record BondsTo (catalog : List ℕ) (want : ℕ → Bool) (bonds : List (List ℕ)) (k : ℕ) : Type 0 where
  pub rows : length bonds ≡ most_catalog_blocks
  pub each : (d : ℕ) → d < k → want d ≡ true → take (length (molecule_at catalog d).bases) (get_or bonds d []) ≡ (molecule_at catalog d).mates

-- What the search of each motif asks: the mates of every molecule that some motif asks for were read.
pub record Searching (catalog motifs : List ℕ) (todo bonds : List (List ℕ)) : Type 0 where
  pub asked : Asked catalog motifs todo
  pub bonds_of : BondsTo catalog (in_some (block_count motifs) todo) bonds (block_count catalog)

-- Molecule d is held, and its mates were read.
pub record MoleculeRead (catalog : List ℕ) (bonds : List (List ℕ)) (d : ℕ) : Type 0 where
  pub blocks : SoundCatalog catalog
  pub there : held catalog d ≡ true
  pub within : d < most_catalog_blocks
  pub mates : take (length (molecule_at catalog d).bases) (get_or bonds d []) ≡ (molecule_at catalog d).mates

-- What the plan asks: the map of the held numbers, and a cache of 1 to 64 sound blocks.
pub record Planning (held cache : List ℕ) : Type 0 where
  pub held_map : held ≡ map_bytes (map_bit held 0)
  pub slots : 1 ≤ block_count cache
  pub cache_size : length cache ≤ block_size * most_cache_blocks
  pub sound : AllSound cache

-- A query of p on this cache has to search number d; the cache after it, but that every held number has its hit bit. h is the map of the held numbers.
unfoldable pub planned_by : List ℕ → List ℕ → Strand → ℕ → Bool
planned_by h cache p d = map_bit h 0 d && not (is_known (block_of (slot_in cache p) cache) p d)

unfoldable pub planned : List ℕ → List ℕ → Strand → List ℕ
planned h cache p = put_block (slot_in cache p) (entry_with [] p.bases p.mates h h) cache

-- The cache after the first t queries, so planned.
unfoldable pub planned_after : List ℕ → List ℕ → List ℕ → ℕ → List ℕ
planned_after motifs h cache zero = cache
planned_after motifs h cache (suc t) = planned h (planned_after motifs h cache t) (motif_of motifs t)

-- The first k maps have the numbers that the first k queries have to search.
pub record PlannedTo (motifs h cache : List ℕ) (todo : List (List ℕ)) (k : ℕ) : Type 0 where
  pub rows : length todo ≡ most_motifs
  pub each : (t : ℕ) → t < k → get_or todo t [] ≡ map_bytes (planned_by h (planned_after motifs h cache t) (motif_of motifs t))

-- The entry keeps this very motif and knows number d, which is held, as a hit. h is the map of the held numbers.
unfoldable pub known_of : List ℕ → List ℕ → Strand → ℕ → Bool
known_of h entry p d = map_bit h 0 d && (keeps_motif entry p && (searched_in entry d && hit_in entry d))

-- What query t asks to be answered on this cache: `found` has the hits among the numbers that it has to search.
pub record Answering (catalog motifs h found cache : List ℕ) (t : ℕ) : Type 0 where
  pub planning : Planning h cache
  pub below : t < block_count motifs
  pub most : block_count catalog ≤ most_catalog_blocks
  pub held_is : h ≡ map_bytes (held catalog)
  pub found_size : length found ≡ map_size
  pub found_is : (d : ℕ) → d < most_catalog_blocks
      → map_bit found 0 d
      ≡ (to_search catalog (block_of (slot_in cache (motif_of motifs t)) cache) (motif_of motifs t) d && embeds (motif_of motifs t) (molecule_at catalog d))

-- What all queries ask: an accepted batch on a clean cache, and in each map of `found` the hits among the numbers that its query has to search.
pub record Batching (catalog motifs h : List ℕ) (found : List (List ℕ)) (cache : List ℕ) (work : ℕ) (hits : List ℕ) : Type 0 where
  pub verdict : batch_verdict catalog cache motifs work (length hits) ≡ Ok tt
  pub sound : AllSound cache
  pub held_is : h ≡ map_bytes (held catalog)
  pub sizes : (t : ℕ) → t < block_count motifs → length (get_or found t []) ≡ map_size
  pub found_is : (t d : ℕ) → t < block_count motifs → d < most_catalog_blocks
      → map_bit (get_or found t []) 0 d
      ≡ (searches_at embeds catalog motifs work (batch_state cache hits) t d && embeds (motif_of motifs t) (molecule_at catalog d))

-- An accepted batch on a clean cache, as far as the search reads it.
pub record Begun (catalog cache motifs : List ℕ) (work : ℕ) : Type 0 where
  pub usable : Usable catalog cache
  pub work_of : HasRoom motifs work
  pub sound : AllSound cache

-- What the search leaves: the map h of the held numbers, the plan, the hits among what it asks for, and how many molecules were read.
pub record Found (catalog cache motifs h : List ℕ) (todo found : List (List ℕ)) (read : ℕ) : Type 0 where
  pub held_is : h ≡ map_bytes (held catalog)
  pub plan : PlannedTo motifs h cache todo (block_count motifs)
  pub hits : HitsTo motifs todo catalog found (block_count motifs)
  pub counted : read ≡ length (select (block_count catalog) (in_some (block_count motifs) todo))

-- The answer with these numbers.
abbrev pub told : ℕ → List ℕ → List ℕ → Batched
told read counts searched = record { read = Ok read; counts = counts; searched = searched }
