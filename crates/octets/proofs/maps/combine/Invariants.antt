-- `octets::maps::combine` meets its contract: the first j bytes are made, the rest is as it was.
use Prim.Native.Nat.{ℕ, ◌+◌, ◌<◌, ◌≤◌}
use mathlib.Core.Path.{◌≡◌}
use lib.ListN.{length}
use Rattle.lists.specs.Vocabulary.{nth}
use Rattle.octets.proofs.maps.combine.Given as goal

abbrev pub invariant-loop-j : goal.invariant-loop-j
invariant-loop-j g l =
    (length l.map ≡ length l.initial.map) ×
    ((k : ℕ) → k < l.j → goal.F-post g l.f (nth l.initial.map k) (nth l.s (l.at + k)) (nth l.map k)) ×
    ((k : ℕ) → l.j ≤ k → nth l.map k ≡ nth l.initial.map k)
