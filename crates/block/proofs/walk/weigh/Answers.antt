-- `block::walk::weigh` meets its contract: the total has what the low bytes of the mates passed add, and `outside` is 0 exactly where they are in range.
use native.Mathlib.Omega.{arith}
use mathlib.Core.Path.{◌∙◌, sym, ap}
use Prim.Native.Nat.{ℕ, ◌+◌}
use Rattle.lists.specs.Vocabulary.{nth}
use Rattle.block.specs.Walk.{low_sum}
use Rattle.block.proofs.WalkLaws.{low_none, low_small, low_next, counted_none, counted_next, counted_end, passed_ok, passed_err}
use Rattle.block.proofs.walk.weigh.Goals as goal

pub loop-mate-init : goal.loop-mate-init
loop-mate-init c =
    let m = c.args.mates.now in
    (omega arith, omega (arith, low_none c.args.at m), omega (arith, c.requires.sum_bound), counted_none m _)

pub loop-mate-preserved : goal.loop-mate-preserved
loop-mate-preserved c =
    let m = c.args.mates.now in
    let adds = rw c.loop-mate.invariant.0 at c.weighed-total.ensures in
    let small = low_small c.args.at c.loop-mate.mate-index (nth m c.loop-mate.mate-index) (omega arith) adds in (
      omega arith,
      low_next c.args.at m c.loop-mate.mate-index c.args.sum c.loop-mate.invariant.1 (omega arith) adds,
      omega (arith, small),
      counted_next m _ _ _ c.loop-mate.invariant.3,
    )

pub returns : goal.returns
returns c =
    let t = counted_end c.args.mates.now _ _ _ c.loop-mate.invariant.3 (omega arith) (omega arith) in
    let all = c.loop-mate.invariant.1 ∙ ap (λ (k : ℕ). c.args.sum + low_sum c.args.at c.args.mates.now k) (omega arith) in
    record {
      inside = λ total e. let p = passed_ok _ _ total (sym e ∙ c.passed.ensures) in (t.yes p.0, p.1 ∙ all);
      outside = λ total e. let p = passed_err _ _ total (sym e ∙ c.passed.ensures) in (t.no p.0, p.1 ∙ all);
    }
