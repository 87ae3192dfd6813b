-- The example blocks of specs/Examples, by computing.
use Prim.Native.Nat.{ℕ}
use mathlib.Core.Path.{◌≡◌, refl, ap}
use mathlib.Core.Bool.{Bool}
use mathlib.Core.List.{List, [], ◌∷◌}
use Rattle.lists.specs.Vocabulary.{between}
use Rattle.octets.specs.Octets.{word32, bytes_of}
use Rattle.block.specs.Content.{checksum_at, with_checksum, molecule_kind, content_of, strand_block, entry_with, encode_molecule}
use Rattle.block.specs.Content.{encode_entry}
use Rattle.block.specs.Examples.{strand_a, strand_gc, LayoutExamples}
use Rattle.block.proofs.SumLaws.{weighed}
use Rattle.block.proofs.PartLaws.{check_walk}

pub checksum_of_a : word32 (encode_molecule strand_a) checksum_at ≡ 1888
unfolding encode_molecule strand_block content_of bytes_of weighed word32
checksum_of_a = ap (λ (s : List ℕ). word32 s checksum_at) (check_walk (content_of molecule_kind [] (65 ∷ []) (0 ∷ [])) refl)

-- ---- where bases and mates lie: 28 and 188 in a molecule block, 20 and 140 in an entry

molecule_bases : between 28 30 (encode_molecule strand_gc) ≡ 71 ∷ 67 ∷ []
unfolding encode_molecule strand_block with_checksum content_of bytes_of
molecule_bases = refl

molecule_mates : between 188 192 (encode_molecule strand_gc) ≡ 1 ∷ 0 ∷ 0 ∷ 0 ∷ []
unfolding encode_molecule strand_block with_checksum content_of bytes_of
molecule_mates = refl

module _ (searched hits : ℕ → Bool) where
  entry_bases_lem : between 20 22 (encode_entry strand_gc searched hits) ≡ 71 ∷ 67 ∷ []
  unfolding encode_entry entry_with with_checksum content_of bytes_of
  entry_bases_lem = refl

  entry_mates : between 140 144 (encode_entry strand_gc searched hits) ≡ 1 ∷ 0 ∷ 0 ∷ 0 ∷ []
  unfolding encode_entry entry_with with_checksum content_of bytes_of
  entry_mates = refl

pub layout : LayoutExamples
layout =
    record {
      checksum_of_a = checksum_of_a;
      molecule_bases = molecule_bases;
      molecule_mates = molecule_mates;
      entry_bases_lem = entry_bases_lem;
      entry_mates = entry_mates;
    }
