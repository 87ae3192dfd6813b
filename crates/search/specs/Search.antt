-- Only the functions behind the calls need this file: what they ask of their inputs, which the judge of a call gives, and what a query has before it
-- searches.
use Rattle.std.specs.Prelude.{ℕ, ◌+◌, ◌*◌, ◌≤◌, ◌≡◌, Bool, true, ◌&&◌, List, length}
use Rattle.strand.specs.Strands.{Strand, least_motif, Proper}
use Rattle.refusals.specs.Rules.{motif_side, work_size}
use Rattle.octets.specs.Octets.{map_bit}
use Rattle.block.specs.Block.{block_of, block_count}
use Rattle.block.specs.Content.{block_bases, keeps_motif, searched_in, hit_in}
use Rattle.embedding.specs.Longest.{embeds}
use Rattle.calls.specs.Buffers.{most_catalog_blocks, most_molecule_bases, most_motif_bases, held}
use Rattle.calls.specs.Calls.{QueryEffect, query_accepted}
use Rattle.calls.specs.Calls.{slot_in}
use Rattle.judge.specs.Judge.{SoundCatalog}

-- What an accepted query knows: a sound catalog of at most 512 blocks, an accepted motif, and a work slice that is long enough.
pub record Judged (catalog p pm : List ℕ) (work : ℕ) : Type 0 where
  pub blocks : SoundCatalog catalog
  pub most : block_count catalog ≤ most_catalog_blocks
  pub motif : Proper motif_side least_motif most_motif_bases p pm
  pub room : work_size (length p) most_molecule_bases ≤ work

-- Room for the tables of every motif of a query, five rows of 121 entries, and for the bounds of a molecule of 160 bases.
abbrev pub tables_size : ℕ
tables_size = 5 * (most_motif_bases + 1) + (block_bases + 1)

-- Every number of the map is held.
abbrev pub AllHeld : List ℕ → List ℕ → Type 0
AllHeld catalog map = (d : ℕ) → map_bit map 0 d ≡ true → held catalog d ≡ true

-- Molecule d is held, and the entry knows it as a hit of this very motif.
unfoldable pub known_hit : List ℕ → List ℕ → Strand → ℕ → Bool
known_hit catalog entry p d = held catalog d && (keeps_motif entry p && (searched_in entry d && hit_in entry d))

-- What an accepted query answers and leaves: it reads the entry of the motif's slot.
abbrev pub answered : List ℕ → List ℕ → Strand → List ℕ → QueryEffect
answered catalog cache p hits = query_accepted embeds catalog cache (block_of (slot_in cache p) cache) (slot_in cache p) p hits
