-- Bytes, little-endian numbers of two and of four bytes, bits, and maps of the numbers below 512.
use Rattle.std.specs.Prelude.{ℕ, ◌+◌, ◌*◌, ◌/◌, ◌%◌, ◌<◌, ◌-◌, ◌^◌, zero, suc, List, [], ◌∷◌, Bool, not, ◌&&◌, eqb, set}
use Rattle.lists.specs.Vocabulary.{nth, tab, choose}

-- Every entry is a byte.
abbrev pub Bytes : List ℕ → Type 0
Bytes s = (i : ℕ) → nth s i < 256

-- A zero byte.
abbrev pub is_zero : ℕ → Bool
is_zero x = eqb x 0

-- The number in the two bytes from i (01: two-byte numbers are little-endian), and in the four bytes from i.
unfoldable pub word16 : List ℕ → ℕ → ℕ
word16 s i = nth s i + 256 * nth s (i + 1)

unfoldable pub word32 : List ℕ → ℕ → ℕ
word32 s i = nth s i + 256 * nth s (i + 1) + 65536 * nth s (i + 2) + 16777216 * nth s (i + 3)

-- The four bytes of a number.
abbrev pub bytes32 : ℕ → List ℕ
bytes32 x = x % 256 ∷ x / 256 % 256 ∷ x / 65536 % 256 ∷ x / 16777216 % 256 ∷ []

-- The first n two-byte numbers of s, and the bytes of a list of them.
abbrev pub words : ℕ → List ℕ → List ℕ
words n s = tab n (λ i. word16 s (2 * i))

unfoldable pub bytes_of : List ℕ → List ℕ
bytes_of [] = []
bytes_of (m ∷ ms) = m % 256 ∷ m / 256 % 256 ∷ bytes_of ms

-- Bit k of byte b, lowest first; b without it.
unfoldable pub bit_of : ℕ → ℕ → Bool
bit_of b k = eqb (b / 2 ^ k % 2) 1

unfoldable pub without_bit : ℕ → ℕ → ℕ
without_bit b k = choose (bit_of b k) (b - 2 ^ k) b

-- 01: "Molecule d is bit d mod 8, lowest first, of map byte d div 8." Bit d of the map that starts at byte `at` of s; s without it.
unfoldable pub map_bit : List ℕ → ℕ → ℕ → Bool
map_bit s at d = bit_of (nth s (at + d / 8)) (d % 8)

unfoldable pub clear_map : List ℕ → ℕ → ℕ → List ℕ
clear_map s at d = set s (at + d / 8) (without_bit (nth s (at + d / 8)) (d % 8))

-- A map has 64 bytes, for the numbers below 512.
abbrev pub map_size : ℕ
map_size = 64

abbrev pub map_bits : ℕ
map_bits = 512

-- The sum of 2 ^ k over the k below n in p: bit k is 1 exactly for those.
unfoldable pub bit_sum : (ℕ → Bool) → ℕ → ℕ
bit_sum p zero = 0
bit_sum p (suc k) = bit_sum p k + choose (p k) (2 ^ k) 0

-- The map of a set: number d is bit d mod 8 of byte d div 8.
unfoldable pub map_bytes : (ℕ → Bool) → List ℕ
map_bytes p = tab map_size (λ j. bit_sum (λ k. p (8 * j + k)) 8)

-- The set p without number d.
unfoldable pub without : ℕ → (ℕ → Bool) → ℕ → Bool
without d p e = p e && not (eqb e d)
