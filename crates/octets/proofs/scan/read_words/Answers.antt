-- `octets::scan::read_words` meets its contract: the first i numbers are read, the rest is as it was.
use Prim.Native.Nat.{◌*◌}
use native.Mathlib.Omega.{arith}
use mathlib.Core.Path.{refl}
use lib.ListN.{length-set}
use Rattle.octets.specs.Octets.{word16}
use Rattle.lists.proofs.ListLaws.{tab_more, tab_none}
use Rattle.octets.proofs.scan.read_words.Goals as goal

pub loop-i-init : goal.loop-i-init
loop-i-init c = (omega arith, refl, tab_none _ _)

pub loop-i-preserved : goal.loop-i-preserved
loop-i-preserved c = (
  omega arith,
  simp length-set c.loop-i.invariant.1,
  rw (c.loop-i.invariant.2, c.word_at.ensures) (tab_more (λ k. word16 _ (2 * k)) _ _ (omega arith)),
)
