-- `block::walk::maps` meets its contract: the total has the bytes of both maps that have been passed, and `least` is 1 exactly where each hit byte lies
-- within its searched byte.
use native.Mathlib.Omega.{arith}
use mathlib.Core.Path.{◌∙◌}
use Rattle.letters.proofs.LetterLaws.{least_none, least_next, least_end}
use Rattle.block.proofs.SumLaws.{sum_small}
use Rattle.block.proofs.SoundLaws.{hit_byte, hits_bytes}
use Rattle.block.proofs.WalkLaws.{pass_on, maps_none, maps_small, maps_next, maps_end}
use Rattle.block.proofs.walk.maps.Goals as goal

pub loop-i-init : goal.loop-i-init
loop-i-init c =
    let s = c.args.s.now in
    let bound = sum_small s 380 (λ i. omega (arith, c.type_inv.s i)) (omega arith) in
    (maps_none s _ c.requires.sum_value, omega (arith, c.requires.sum_value, bound), least_none (hit_byte s))

pub loop-i-preserved : goal.loop-i-preserved
loop-i-preserved c =
    let s = c.args.s.now in
    let x = c.weighed.ensures in
    let y = c.weighed-in-loop-i.ensures in
    let small = maps_small s c.loop-i.i _ _ (omega arith) x y (λ i. omega (arith, c.type_inv.s i)) in (
      maps_next s c.loop-i.i _ _ (omega arith) x y _ c.loop-i.invariant.0,
      omega (arith, small),
      least_next (hit_byte s) _ c.min-least.ensures c.loop-i.invariant.2 c.within.ensures,
    )

pub returns : goal.returns
returns c =
    let s = c.args.s.now in
    pass_on c.passed.ensures (least_end (hit_byte s) 64 _ c.loop-i.invariant.2 (omega arith) (omega arith) ∙ hits_bytes s)
    (maps_end s _ _ c.loop-i.invariant.0 (omega arith) (omega arith))
