-- Example blocks: 01's check of the block of A, and where bases and mates lie, for GC with an arc.
use Rattle.std.specs.Prelude.{ℕ, ◌≡◌, Bool, [], ◌∷◌}
use Rattle.lists.specs.Vocabulary.{between}
use Rattle.strand.specs.Strands.{Strand, strand_of}
use Rattle.octets.specs.Octets.{word32}
use Rattle.block.specs.Content.{checksum_at, encode_molecule, encode_entry}

-- A, mate 0, and GC, mates 1 0. The letters: A 65, C 67, G 71.
abbrev pub strand_a : Strand
strand_a = strand_of (65 ∷ []) (0 ∷ [])

abbrev pub strand_gc : Strand
strand_gc = strand_of (71 ∷ 67 ∷ []) (1 ∷ 0 ∷ [])

-- 01: "the block of A, 0 has check 1888"; "bases from 28; mates from 188, two bytes each"; in a kept block "bases from 20; mates from 140",
-- whatever its maps.
pub record LayoutExamples : Type 0 where
  pub checksum_of_a : word32 (encode_molecule strand_a) checksum_at ≡ 1888
  pub molecule_bases : between 28 30 (encode_molecule strand_gc) ≡ 71 ∷ 67 ∷ []
  pub molecule_mates : between 188 192 (encode_molecule strand_gc) ≡ 1 ∷ 0 ∷ 0 ∷ 0 ∷ []
  pub entry_bases_lem : (searched hits : ℕ → Bool) → between 20 22 (encode_entry strand_gc searched hits) ≡ 71 ∷ 67 ∷ []
  pub entry_mates : (searched hits : ℕ → Bool) → between 140 144 (encode_entry strand_gc searched hits) ≡ 1 ∷ 0 ∷ 0 ∷ 0 ∷ []
