-- `codec::parts::put_bytes` meets its contract. The invariant: the first i bytes are copied, the rest is as it was.
use lib.ListN.{drop, length, take}
use mathlib.Core.List.{◌++◌}
use mathlib.Core.Path.{◌≡◌}
use Rattle.codec.proofs.parts.put_bytes.Given as goal

abbrev pub invariant-loop-i : goal.invariant-loop-i
invariant-loop-i l = (length l.dst ≡ length l.initial.dst) × (l.dst ≡ take l.i l.src ++ drop l.i l.initial.dst)
