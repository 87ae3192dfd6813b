-- `block::walk::bases` meets its contract: the total is the sum over the bytes passed, and `least` is 1 exactly where those of the stretch are letters.
use native.Mathlib.Omega.{arith}
use mathlib.Core.Path.{refl}
use Rattle.letters.specs.Letters.{is_letter}
use Rattle.block.proofs.WalkLaws.{pass_on, part_length, tested_none, tested_next, tested_end}
use Rattle.block.proofs.walk.bases.Goals as goal

pub loop-b-init : goal.loop-b-init
loop-b-init c = (
  omega arith,
  tested_none (is_letter c.args.side) c.args.s.now _ _ (λ i. omega (arith, c.type_inv.s i)) (omega arith) c.requires.sum_value,
)

pub loop-b-preserved : goal.loop-b-preserved
loop-b-preserved c =
    let long = part_length c.args.s.now c.args.a c.args.e (omega arith) (omega arith) in (
      omega arith,
      tested_next (is_letter c.args.side) c.args.s.now _ c.args.e _ _ _ _ _ _ c.loop-b.invariant.1 (omega (arith, long)) (omega arith) refl
          (λ i. omega (arith, c.type_inv.s i)) c.is_letter.ensures c.min-least.ensures (rw c.loop-b.invariant.0 at c.weighed-total.ensures),
    )

pub returns : goal.returns
returns c =
    let long = part_length c.args.s.now c.args.a c.args.e (omega arith) (omega arith) in
    let all = tested_end (is_letter c.args.side) c.args.s.now _ _ _ _ _ c.loop-b.invariant.1 (omega arith) (omega arith) (omega (arith, long)) in
    pass_on c.passed.ensures all.0 all.1
