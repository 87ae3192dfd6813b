-- `strand::key::key` meets its contract: the sum over the first i positions lacks what stands from i on, and stays small.
use native.Mathlib.Omega.{arith}
use mathlib.Core.Path.{refl}
use Rattle.strand.proofs.KeyLaws.{key_start, key_more, key_end}
use Rattle.strand.proofs.key.key.Goals as goal

pub loop-i-init : goal.loop-i-init
loop-i-init c = (c.requires.0, c.requires.1, key_start _ _, omega arith)

pub loop-i-preserved : goal.loop-i-preserved
loop-i-preserved c = (
  c.loop-i.invariant.0,
  c.loop-i.invariant.1,
  key_more _ _ _ _ _ (omega arith) (omega arith) refl c.loop-i.invariant.2,
  omega (arith, c.type_inv.mates c.loop-i.i),
)

pub returns : goal.returns
returns c = key_end _ _ c.loop-i.i c.loop-i.sum (omega arith) (omega arith) c.loop-i.invariant.2
