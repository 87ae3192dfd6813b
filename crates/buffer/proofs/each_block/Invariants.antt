-- `buffer::each_block` meets its contract: the blocks passed are what the step leaves of them, the rest is as it was.
use Prim.Native.Nat.{◌*◌}
use lib.ListN.{drop}
use mathlib.Core.List.{◌++◌, List}
use mathlib.Core.Path.{◌≡◌}
use Prim.Native.Nat.{ℕ}
use Rattle.block.specs.Block.{blocks_to}
use Rattle.buffer.specs.Steps.{Leaves}
use Rattle.buffer.proofs.each_block.Given as goal

abbrev pub invariant-loop-d : goal.invariant-loop-d
invariant-loop-d g l =
    (f : List ℕ → List ℕ) → Leaves (goal.F-post g l.step) f → l.s ≡ blocks_to f l.d l.initial.s ++ drop (512 * l.d) l.initial.s
