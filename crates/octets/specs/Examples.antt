-- Example numbers and maps with their bytes (01: little-endian; "Molecule d is bit d mod 8, lowest first, of map byte d div 8").
use Rattle.std.specs.Prelude.{◌≡◌, true, false, [], ◌∷◌}
use Rattle.octets.specs.Octets.{word32, bytes32, words, bytes_of, map_bit}

-- 127005 = 29 + 256 × 240 + 65536 × 1, and 258 = 2 + 256 × 1. Map byte 1 is 2 = 2 ^ 1: it has number 9, and not 14.
pub record ByteExamples : Type 0 where
  pub four_bytes : bytes32 127005 ≡ 29 ∷ 240 ∷ 1 ∷ 0 ∷ []
  pub four_read : word32 (29 ∷ 240 ∷ 1 ∷ 0 ∷ []) 0 ≡ 127005
  pub two_bytes : bytes_of (258 ∷ 3 ∷ []) ≡ 2 ∷ 1 ∷ 3 ∷ 0 ∷ []
  pub two_read : words 2 (2 ∷ 1 ∷ 3 ∷ 0 ∷ []) ≡ 258 ∷ 3 ∷ []
  pub lowest_first : map_bit (0 ∷ 2 ∷ []) 0 9 ≡ true
  pub not_highest : map_bit (0 ∷ 2 ∷ []) 0 14 ≡ false
