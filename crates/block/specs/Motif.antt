-- A block handed in as a motif: the screen program reads one, a batch reads 1 to 16. It is laid out as a molecule block; its letters and its least length are
-- a motif's.
use Rattle.std.specs.Prelude.{ℕ, List, [], Bool, not, ◌&&◌}
use Rattle.refusals.specs.Rules.{motif_side}
use Rattle.strand.specs.Strands.{Strand, least_motif}
use Rattle.block.specs.Content.{Kind, block_bases, is_empty, strand_in, strand_block}
use Rattle.block.specs.Block.{sound_strand}

abbrev pub motif_kind : Kind
motif_kind = record { mark = 1; side = motif_side; least = least_motif; most = block_bases; blank = 2; start = 28 }

-- The motif of such a block; the block that hands a motif in.
unfoldable pub motif_handed_in : List ℕ → Strand
motif_handed_in s = strand_in motif_kind s

unfoldable pub encode_motif : Strand → List ℕ
encode_motif p = strand_block motif_kind [] p.bases p.mates

-- It is sound; it holds a motif: sound, and not a block of zeros. 02, (iii): a "motif block may have length 0", and then holds the motif with no bases.
unfoldable pub sound_motif : List ℕ → Bool
sound_motif s = sound_strand motif_kind s

unfoldable pub holds_motif : List ℕ → Bool
holds_motif s = sound_motif s && not (is_empty s)
