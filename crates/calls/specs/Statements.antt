-- What is claimed of add, remove and query for all inputs and all contents of the buffers; `claims`, in proofs/Claims, proves it.
use Rattle.std.specs.Prelude.{ℕ, ◌<◌, ◌≡◌, List, [], ◌∷◌, Bool, true, false, ◌&&◌, ltb, length, take, drop, Ok, Err}
use Rattle.lists.specs.Vocabulary.{select}
use Rattle.strand.specs.Folds.{fold_of}
use Rattle.strand.specs.Strands.{Strand, empty_motif}
use Rattle.octets.specs.Octets.{Bytes, map_bits}
use Rattle.block.specs.Block.{block_of, sound_molecule, sound_entry, cleaned, forgot, block_count}
use Rattle.block.specs.Content.{empty_block, encode_entry, keeps_motif, searched_in, hit_in}
use Rattle.refusals.specs.Rules.{no_side, wrong_slice, first, refuse_if, work_rule, Refuses, Keeps, TableSides}
use Rattle.calls.specs.Answers.{Added, Removed, hits_of}
use Rattle.calls.specs.Buffers.{most_molecule_bases, buffers_verdict, held, molecule_at, slot_of, clean_cache}
use Rattle.calls.specs.Calls.{Effect, add_verdict, add_outcome, remove_verdict, remove_outcome, QueryEffect, query_verdict, to_search}
use Rattle.calls.specs.Calls.{is_hit, slot_in, entry_for, query_outcome, QueryAccepts, AddAccepts, AddSays, RemoveAccepts}

-- Every block of the cache is sound.
abbrev pub AllSound : List ℕ → Type 0
AllSound cache = (s : ℕ) → s < block_count cache → sound_entry (block_of s cache) ≡ true

-- No block of the cache has bit d in either map.
abbrev pub Forgotten : ℕ → List ℕ → Type 0
Forgotten d cache = (s : ℕ) → s < block_count cache → (searched_in (block_of s cache) d ≡ false) × (hit_in (block_of s cache) d ≡ false)

-- A buffer changes in block d alone: it is as long as before, and every other block as it was.
pub record OnlyAt (d : ℕ) (before after : List ℕ) : Type 0 where
  pub size : length after ≡ length before
  pub others : (e : ℕ) → e < block_count before → (e ≡ d → ⊥) → block_of e after ≡ block_of e before

-- Each block of a cache becomes f of it, and there are as many as before.
pub record EachIs (f : List ℕ → List ℕ) (before after : List ℕ) : Type 0 where
  pub size : length after ≡ length before
  pub each : (s : ℕ) → s < block_count before → block_of s after ≡ f (block_of s before)

-- What an accepted add leaves.
pub record AddLeaves (catalog cache : List ℕ) (d : ℕ) (q : Strand) (after : Effect Added) : Type 0 where
  -- the number of arcs and the depth of the molecule
  pub answer : after.answer ≡ Ok (fold_of q.mates)
  -- block d is sound and holds the molecule; every other block stays
  pub block_sound : sound_molecule (block_of d after.catalog) ≡ true
  pub is_held_lem : held after.catalog d ≡ true
  pub molecule : molecule_at after.catalog d ≡ q
  pub only : OnlyAt d catalog after.catalog
  -- no block of the cache is unsound: else one later alteration could put it right; a sound one stays, an unsound one is zeroed
  pub cache_sound : AllSound after.cache
  pub cache_each : EachIs cleaned cache after.cache

-- What an accepted remove leaves.
pub record RemoveLeaves (catalog cache : List ℕ) (d : ℕ) (after : Effect Removed) : Type 0 where
  pub answer : after.answer ≡ Ok tt
  -- block d is empty, so the number is not held; every other block stays
  pub block_empty : block_of d after.catalog ≡ empty_block
  pub not_held_lem : held after.catalog d ≡ false
  pub only : OnlyAt d catalog after.catalog
  -- no bit of the number is left in the cache, and no block is unsound; each is cleaned, and the number taken out
  pub cache_forgets : Bytes cache → Forgotten d after.cache
  pub cache_sound : Bytes cache → AllSound after.cache
  pub cache_each : EachIs (λ b. forgot d (cleaned b)) cache after.cache

-- What an accepted query leaves: s is the motif's slot, `hit` and `search` are the numbers that it lists and those that it has to search.
pub record QueryLeaves (catalog cache : List ℕ) (s : ℕ) (p : Strand) (hits : List ℕ) (hit search : ℕ → Bool) (after : QueryEffect) : Type 0 where
  -- how many hits, how many searched
  pub answer : after.answer ≡ Ok (hits_of (length (select (block_count catalog) hit)) (length (select (block_count catalog) search)))
  -- the slice starts with the hits, rising; its later entries stay
  pub listed : take (length (select (block_count catalog) hit)) after.hits ≡ select (block_count catalog) hit
  pub later : drop (length (select (block_count catalog) hit)) after.hits ≡ drop (length (select (block_count catalog) hit)) hits
  -- every block of the cache but the slot's is as cleaned
  pub only : OnlyAt s (clean_cache cache) after.cache
  -- the slot is written anew
  pub entry : block_of s after.cache ≡ encode_entry p (held catalog) hit
  -- it keeps the motif, with searched bits for the held numbers and no other, and hit bits for the hits
  pub keeps : keeps_motif (block_of s after.cache) p ≡ true
  pub searched : (d : ℕ) → d < map_bits → searched_in (block_of s after.cache) d ≡ held catalog d
  pub hit_bits : (d : ℕ) → d < map_bits → hit_in (block_of s after.cache) d ≡ hit d
  -- no block is unsound
  pub cache_sound : AllSound after.cache

-- All the claims.
pub record Claims (embeds : Strand → Strand → Bool) : Type 0 where
  -- accepted calls
  pub add_accepted : (catalog cache : List ℕ) (d : ℕ) (q : Strand) → add_verdict catalog cache d q ≡ Ok tt
      → AddLeaves catalog cache d q (add_outcome catalog cache d q)
  pub remove_accepted : (catalog cache : List ℕ) (d : ℕ) → remove_verdict catalog cache d ≡ Ok tt
      → RemoveLeaves catalog cache d (remove_outcome catalog cache d)
  pub query_accepted_lem : (catalog cache : List ℕ) (p : Strand) (work : ℕ) (hits : List ℕ) → query_verdict catalog cache p work (length hits) ≡ Ok tt
      → QueryLeaves catalog cache (slot_in cache p) p hits (is_hit embeds catalog (entry_for cache p) p) (to_search catalog (entry_for cache p) p)
      (query_outcome embeds catalog cache p work hits)
  -- what add answers, as a proposition
  pub add_says : (catalog cache : List ℕ) (d : ℕ) (q : Strand) → AddSays catalog cache d q (add_outcome catalog cache d q).answer
  -- a call is accepted exactly where no rule applies
  pub add_accepts : (catalog cache : List ℕ) (d : ℕ) (q : Strand) → AddAccepts catalog cache d q
  pub remove_accepts : (catalog cache : List ℕ) (d : ℕ) → RemoveAccepts catalog cache d
  pub query_accepts : (catalog cache : List ℕ) (p : Strand) (work room : ℕ) → QueryAccepts catalog cache p work room
  -- a call answers a refusal exactly where its rules refuse, and then changes nothing
  pub add_refuses : (catalog cache : List ℕ) (d : ℕ) (q : Strand)
      → Refuses (add_verdict catalog cache d q) Err (add_outcome catalog cache d q).answer
  pub add_keeps : (catalog cache : List ℕ) (d : ℕ) (q : Strand)
      → Keeps Err (add_outcome catalog cache d q).answer catalog cache (add_outcome catalog cache d q).catalog (add_outcome catalog cache d q).cache
  pub remove_refuses : (catalog cache : List ℕ) (d : ℕ)
      → Refuses (remove_verdict catalog cache d) Err (remove_outcome catalog cache d).answer
  pub remove_keeps : (catalog cache : List ℕ) (d : ℕ)
      → Keeps Err (remove_outcome catalog cache d).answer catalog cache (remove_outcome catalog cache d).catalog (remove_outcome catalog cache d).cache
  pub query_refuses : (catalog cache : List ℕ) (p : Strand) (work : ℕ) (hits : List ℕ)
      → Refuses (query_verdict catalog cache p work (length hits)) Err (query_outcome embeds catalog cache p work hits).answer
  pub query_keeps : (catalog cache : List ℕ) (p : Strand) (work : ℕ) (hits : List ℕ)
      → Keeps Err (query_outcome embeds catalog cache p work hits).answer cache hits
      (query_outcome embeds catalog cache p work hits).cache (query_outcome embeds catalog cache p work hits).hits
  -- the side of a refusal is one of the table's three
  pub buffers_sides : (catalog cache : List ℕ) → TableSides (buffers_verdict catalog cache)
  pub add_sides : (catalog cache : List ℕ) (d : ℕ) (q : Strand) → TableSides (add_verdict catalog cache d q)
  pub remove_sides : (catalog cache : List ℕ) (d : ℕ) → TableSides (remove_verdict catalog cache d)
  pub query_sides : (catalog cache : List ℕ) (p : Strand) (work room : ℕ) → TableSides (query_verdict catalog cache p work room)
  -- hits are held numbers
  pub hit_held : (catalog entry : List ℕ) (p : Strand) (d : ℕ) → is_hit embeds catalog entry p d ≡ true → held catalog d ≡ true
  -- an entry of another motif is not trusted, whatever its key: the hits are the held numbers that embed, and all held are searched
  pub other_motif : (catalog entry : List ℕ) (p : Strand) → keeps_motif entry p ≡ false → (d : ℕ)
      → (is_hit embeds catalog entry p d ≡ (held catalog d && embeds p (molecule_at catalog d))) × (to_search catalog entry p d ≡ held catalog d)
  -- what an entry of this motif has searched is not searched again: its hit bit tells
  pub same_motif : (catalog entry : List ℕ) (p : Strand) (d : ℕ) → keeps_motif entry p ≡ true → searched_in entry d ≡ true
      → (is_hit embeds catalog entry p d ≡ (held catalog d && hit_in entry d)) × (to_search catalog entry p d ≡ false)
  -- 02, (iii), what a query of the motif with no bases refuses: 10, 11, 9, then with 8 a work slice of fewer than 64 + 8 × 160 entries
  pub empty_motif_verdict_lem : (catalog cache : List ℕ) (work room : ℕ) → query_verdict catalog cache empty_motif work room
      ≡ first (buffers_verdict catalog cache ∷ refuse_if wrong_slice no_side (ltb room (block_count catalog)) ∷ work_rule 0 most_molecule_bases work ∷ [])
  -- its slot, by key 0, is the first
  pub empty_motif_slot : (S : ℕ) → slot_of S empty_motif ≡ 0
