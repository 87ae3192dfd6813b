-- `block::walk::gather` meets its contract: the total is the sum over the bytes passed, and at most 129,540 for each, so 32 bits hold it.
use native.Mathlib.Omega.{arith}
use mathlib.Core.Path.{◌≡◌, ◌∙◌, ap}
use Prim.Native.Nat.{◌+◌}
use Rattle.block.specs.Content.{sum_to}
use Rattle.block.proofs.SumLaws.{sum_small}
use Rattle.block.proofs.WalkLaws.{part_length, gathered_next}
use Rattle.block.proofs.walk.gather.Goals as goal

pub loop-b-init : goal.loop-b-init
loop-b-init c =
    let s = c.args.s.now in
    let bound = sum_small s c.args.a (λ i. omega (arith, c.type_inv.s i)) (omega arith) in
    let z : c.args.a + 0 ≡ c.args.a = omega arith in
    (omega arith, rw z c.requires.sum_value, omega (arith, c.requires.sum_value, bound))

pub loop-b-preserved : goal.loop-b-preserved
loop-b-preserved c =
    let long = part_length c.args.s.now c.args.a c.args.e (omega arith) (omega arith) in
    let adds = rw c.loop-b.invariant.0 at c.term-total.ensures.0 in (
      omega arith,
      gathered_next _ _ c.args.e _ _ _ (omega (arith, long)) c.loop-b.invariant.1 adds,
      omega (arith, c.term-total.ensures.1),
    )

pub returns : goal.returns
returns c =
    let long = part_length c.args.s.now c.args.a c.args.e (omega arith) (omega arith) in
    c.loop-b.invariant.1 ∙ ap (sum_to _) (omega (arith, long))
