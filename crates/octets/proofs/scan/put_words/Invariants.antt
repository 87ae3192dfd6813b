-- `octets::scan::put_words` meets its contract: the first i numbers are written, the rest is as it was.
use Prim.Native.Nat.{◌*◌, ◌≤◌}
use Rattle.octets.specs.Octets.{bytes_of}
use lib.ListN.{drop, length, take}
use mathlib.Core.List.{◌++◌}
use mathlib.Core.Path.{◌≡◌}
use Rattle.octets.proofs.scan.put_words.Given as goal

abbrev pub invariant-loop-i : goal.invariant-loop-i
invariant-loop-i l = (2 * length l.src ≤ length l.initial.s) × (length l.s ≡ length l.initial.s) ×
    (l.s ≡ bytes_of (take l.i l.src) ++ drop (2 * l.i) l.initial.s)
