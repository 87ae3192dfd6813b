-- `search::slot` meets its contract.
-- The slot is the key's remainder by the number of blocks.
use Prim.Native.Nat.{ℕ, ◌%◌}
use mathlib.Core.Path.{ap}
use native.Mathlib.Nat.{mod-lt}
use Rattle.calls.specs.Buffers.{slot_of}
use Rattle.search.proofs.slot.Goals as goal

pub returns : goal.returns
unfolding slot_of
returns c = (ap (λ (k : ℕ). k % c.args.n) c.key.ensures, mod-lt _ c.requires.2)
