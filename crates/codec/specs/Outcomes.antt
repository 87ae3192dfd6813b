-- What the writers, the decoders and the motif test answer and leave, for any input: where something does not fit no byte changes, and the answer says so.
use Rattle.std.specs.Prelude.{ℕ, List, [], ◌++◌, Bool, ◌&&◌, Option, Some, None, length, drop, eqb, leb}
use Rattle.lists.specs.Vocabulary.{choose}
use Rattle.strand.specs.Strands.{Strand, strand_of}
use Rattle.block.specs.Content.{block_size, block_bases, molecule_kind, entry_kind, length_in, molecule_in, keeps_motif, entry_with, encode_molecule}
use Rattle.octets.specs.Octets.{map_size}
use Rattle.block.specs.Motif.{motif_handed_in}

-- ---- writers

-- What a writer answers, and the bytes it leaves.
pub record Wrote : Type 0 where
  pub done : Bool
  pub bytes : List ℕ

abbrev pub wrote : Bool → List ℕ → Wrote
wrote done bytes = record { done = done; bytes = bytes }

-- The answer is whether it fits. Where it does not, the old bytes stay.
unfoldable pub wrote_if : Bool → List ℕ → List ℕ → Wrote
wrote_if fits new old = wrote fits (choose fits new old)

-- By lengths alone: a place of one block, at most so many bases, and as many mates as bases.
unfoldable pub strand_fits : ℕ → ℕ → ℕ → ℕ → Bool
strand_fits size most bases mates = eqb size block_size && leb bases most && eqb mates bases

-- A molecule written into s; an entry written into s.
unfoldable pub molecule_wrote : List ℕ → List ℕ → List ℕ → Wrote
molecule_wrote s bases mates = wrote_if (strand_fits (length s) molecule_kind.most (length bases) (length mates)) (encode_molecule (strand_of bases mates)) s

unfoldable pub entry_wrote : List ℕ → List ℕ → List ℕ → List ℕ → List ℕ → Wrote
entry_wrote s bases mates searched hits =
    wrote_if (strand_fits (length s) entry_kind.most (length bases) (length mates) && eqb (length searched) map_size && eqb (length hits) map_size)
    (entry_with [] bases mates searched hits) s

-- ---- the decoder

-- How many bases, where there is a strand, and what the slices for bases and for mates hold then.
pub record Decoded : Type 0 where
  pub count : Option ℕ
  pub bases : List ℕ
  pub mates : List ℕ

abbrev pub decoded : Option ℕ → List ℕ → List ℕ → Decoded
decoded n bases mates = record { count = n; bases = bases; mates = mates }

-- A strand laid over the start of the slices.
unfoldable pub laid_over : Strand → List ℕ → List ℕ → Decoded
laid_over q bases mates = decoded (Some (length q.bases)) (q.bases ++ drop (length q.bases) bases) (q.mates ++ drop (length q.bases) mates)

-- s is of one block's length, its length byte is within the limit, and the slices have so many places.
unfoldable pub decodes : List ℕ → ℕ → ℕ → Bool
decodes s bases mates = eqb (length s) block_size && leb (length_in s) block_bases && leb (length_in s) bases && leb (length_in s) mates

-- The molecule of s; None, and the slices as they were, where it cannot be decoded.
unfoldable pub molecule_decoded : List ℕ → List ℕ → List ℕ → Decoded
molecule_decoded s bases mates =
    choose (decodes s (length bases) (length mates)) (laid_over (molecule_in s) bases mates) (decoded None bases mates)

-- The same of the motif of a block handed in as one.
unfoldable pub motif_decoded : List ℕ → List ℕ → List ℕ → Decoded
motif_decoded s bases mates =
    choose (decodes s (length bases) (length mates)) (laid_over (motif_handed_in s) bases mates) (decoded None bases mates)

-- ---- the motif test

-- False for what can be no entry: s not of one block's length, or its length byte over the limit.
unfoldable pub entry_keeps : List ℕ → Strand → Bool
entry_keeps s q = eqb (length s) block_size && leb (length_in s) entry_kind.most && keeps_motif s q
