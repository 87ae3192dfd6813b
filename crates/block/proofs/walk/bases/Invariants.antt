-- `block::walk::bases` meets its contract: the total is the sum over the bytes passed, and `least` is 1 exactly where those of the stretch are letters.
use Prim.Native.Nat.{◌+◌}
use mathlib.Core.Path.{◌≡◌}
use Rattle.letters.specs.Letters.{is_letter}
use Rattle.block.proofs.WalkLaws.{Tested}
use Rattle.block.proofs.walk.bases.Given as goal

abbrev pub invariant-loop-b : goal.invariant-loop-b
invariant-loop-b l = (l.weight ≡ l.a + l.b-index + 1) × Tested (is_letter l.side) l.s l.a l.b-index l.total l.least
