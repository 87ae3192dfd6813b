-- `octets::scan::read_words` meets its contract: the first i numbers are read, the rest is as it was.
use Prim.Native.Nat.{◌*◌, ◌≤◌}
use mathlib.Core.Path.{◌≡◌}
use mathlib.Core.List.{◌++◌}
use lib.ListN.{length, drop}
use Rattle.octets.specs.Octets.{word16}
use Rattle.lists.specs.Vocabulary.{tab}
use Rattle.octets.proofs.scan.read_words.Given as goal

abbrev pub invariant-loop-i : goal.invariant-loop-i
invariant-loop-i l =
    (2 * length l.initial.out ≤ length l.s) × (length l.out ≡ length l.initial.out) ×
    (l.out ≡ tab l.i (λ k. word16 l.s (2 * k)) ++ drop l.i l.initial.out)
