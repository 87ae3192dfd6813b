-- Only the walk over the mates needs this file: what `nesting::closes` tells.
use Rattle.std.specs.Prelude.{ℕ, ◌<◌}

-- Every base strictly inside the arc of k, if k begins one, has its mate there too.
abbrev pub Closes : (ℕ → ℕ) → ℕ → Type 0
Closes mate k = (u : ℕ) → k < u → u < mate k → (k < mate u) × (mate u < mate k)
