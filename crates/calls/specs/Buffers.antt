-- The catalog and the cache (01: catalogue and shelf) as buffers of blocks: their limits, all that the calls read of them, rules 10 and 11, and what
-- rules 1 to 8 ask of a molecule, a motif and a work slice.
use Rattle.std.specs.Prelude.{ℕ, ◌*◌, ◌%◌, ◌≤◌, ◌<◌, ◌≡◌, Bool, ◌&&◌, true, false, not, leb, eqb, ltb, length, List, [], ◌∷◌}
use Rattle.strand.specs.Strands.{Strand, strand_verdict, least_motif, least_molecule, key}
use Rattle.refusals.specs.Rules.{motif_side, molecule_side, work_rule, no_side, not_whole_blocks, unsound_block, first, refuse_if, refuse_at_lowest}
use Rattle.refusals.specs.Rules.{Verdict}
use Rattle.block.specs.Content.{block_bases, entry_bases, block_size, is_empty, molecule_in}
use Rattle.std.proofs.Math.Option.{Option, none as vacant, some as holds}
use Rattle.block.specs.Block.{block_of, sound_molecule, cleaned, block_count, each_block}

-- 01, Blocks: B from 1 to 512, S from 1 to 64.
abbrev pub most_catalog_blocks : ℕ
most_catalog_blocks = 512

abbrev pub most_cache_blocks : ℕ
most_cache_blocks = 64

unfoldable pub in_range : ℕ → ℕ → Bool
in_range B S = (leb 1 B && leb B most_catalog_blocks) && (leb 1 S && leb S most_cache_blocks)

-- 01, lengths: molecules in the catalog 1 to 160, which is what one block has places for; motifs of a query at most 120 (02, (iii): one with no bases too).
abbrev pub most_molecule_bases : ℕ
most_molecule_bases = block_bases

abbrev pub most_motif_bases : ℕ
most_motif_bases = entry_bases

-- Rules 1 to 7 of a molecule for the catalog, and of the motif of a query.
unfoldable pub molecule_verdict : Strand → Verdict
molecule_verdict q = strand_verdict molecule_side least_molecule most_molecule_bases q.bases q.mates

unfoldable pub motif_verdict : Strand → Verdict
motif_verdict p = strand_verdict motif_side least_motif most_motif_bases p.bases p.mates

-- Rule 8 of a query with a work slice of so many entries: n is 160, the most that a molecule of the catalog has.
unfoldable pub work_verdict : Strand → ℕ → Verdict
work_verdict p work = work_rule (length p.bases) most_molecule_bases work

-- What stands under a number: nothing, or a molecule; and whether it is one.
abbrev pub Holding : Type 0
Holding = Option Strand

unfoldable pub is_held : Holding → Bool
is_held vacant = false
is_held (holds q) = true

-- Whole blocks, and their number from 1 to most.
unfoldable pub is_whole : ℕ → List ℕ → Bool
is_whole most buf = eqb (length buf % block_size) 0 && leb 1 (block_count buf) && leb (block_count buf) most

-- Rule 10 lets the two buffers pass.
unfoldable pub are_whole : List ℕ → List ℕ → Bool
are_whole catalog cache = is_whole most_catalog_blocks catalog && is_whole most_cache_blocks cache

-- Block d of the catalog is unsound.
unfoldable pub unsound_at : List ℕ → ℕ → Bool
unsound_at catalog d = not (sound_molecule (block_of d catalog))

-- Molecule d is held. (01: block d of the catalogue holds molecule d; a block of zeros is empty.)
unfoldable pub held : List ℕ → ℕ → Bool
held catalog d = ltb d (block_count catalog) && not (is_empty (block_of d catalog))

-- Molecule d, where it is held.
unfoldable pub molecule_at : List ℕ → ℕ → Strand
molecule_at catalog d = molecule_in (block_of d catalog)

-- Rules 10 and 11: buffers that are not whole blocks or out of range, then the lowest unsound block of the catalog.
unfoldable pub buffers_verdict : List ℕ → List ℕ → Verdict
buffers_verdict catalog cache =
    first
    (refuse_if not_whole_blocks no_side (not (are_whole catalog cache))
    ∷ refuse_at_lowest unsound_block no_side (block_count catalog) (unsound_at catalog)
    ∷ [])

-- What they let pass: whole blocks, 1 to 512 and 1 to 64 of them, every block of the catalog sound.
pub record Usable (catalog cache : List ℕ) : Type 0 where
  pub filled : length catalog ≡ block_size * block_count catalog
  pub least : 1 ≤ block_count catalog
  pub most : block_count catalog ≤ most_catalog_blocks
  pub whole : length cache ≡ block_size * block_count cache
  pub slots : 1 ≤ block_count cache
  pub most_slots : block_count cache ≤ most_cache_blocks
  pub blocks : (d : ℕ) → d < block_count catalog → sound_molecule (block_of d catalog) ≡ true

-- The slot of a motif in a cache of S blocks: its key mod S.
unfoldable pub slot_of : ℕ → Strand → ℕ
slot_of S p = key p % S

-- Every accepted call first zeroes each unsound cache block.
unfoldable pub clean_cache : List ℕ → List ℕ
clean_cache cache = each_block cleaned cache
