-- Only the walk over the content of a block needs this file: what a byte adds at most, what mates add to the sum by their low bytes, and what a stretch
-- hands on.
use Rattle.std.specs.Prelude.{ℕ, zero, suc, ◌+◌, ◌*◌, ◌%◌, ◌<◌, List, Bool, true, false, Result, Ok, Err}
use Rattle.lists.specs.Vocabulary.{nth}

-- The greatest weight, 508, times the greatest byte, 255.
abbrev pub most_term : ℕ
most_term = 129540

-- What the low bytes of the first n mates add, the first of them at byte `at`: each with its weight.
unfoldable pub low_sum : ℕ → List ℕ → ℕ → ℕ
low_sum at mates zero = 0
low_sum at mates (suc n) = low_sum at mates n + (at + 2 * n + 1) * (nth mates n % 256)

-- The first n mates have high bytes 0.
abbrev pub OneByte : List ℕ → ℕ → Type 0
OneByte mates n = (i : ℕ) → i < n → nth mates i < 256

-- What a stretch hands on: the sum over all bytes passed, and whether its own keep their rule.
unfoldable pub passed : Bool → ℕ → Result ℕ ℕ
passed true sum = Ok sum
passed false sum = Err sum
