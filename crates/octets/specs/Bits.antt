-- Only the contracts that write or compare bits, and the laws of maps, need this file: a bit set, and bits within bits.
use Rattle.std.specs.Prelude.{ℕ, ◌+◌, ◌/◌, ◌%◌, ◌^◌, List, Bool, not, ◌||◌, set}
use Rattle.lists.specs.Vocabulary.{nth, choose, every}
use Rattle.octets.specs.Octets.{bit_of}

-- Byte b with bit k set.
unfoldable pub with_bit : ℕ → ℕ → ℕ
with_bit b k = choose (bit_of b k) b (b + 2 ^ k)

-- s with bit d set in the map that starts at byte `at`.
unfoldable pub set_map : List ℕ → ℕ → ℕ → List ℕ
set_map s at d = set s (at + d / 8) (with_bit (nth s (at + d / 8)) (d % 8))

-- Each bit of h is a bit of b too: what `within` answers.
unfoldable pub bits_within : ℕ → ℕ → Bool
bits_within h b = every 8 (λ k. not (bit_of h k) || bit_of b k)
