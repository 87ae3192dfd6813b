-- `strand::nesting::arcs_close` meets its contract: from the end on, the arcs that begin at i or later hold the mates inside them, so none of them
-- is crossed.
use Prim.Native.Nat.{◌-◌}
use native.Mathlib.Omega.{arith}
use mathlib.Core.Path.{sym, ap}
use mathlib.Core.Bool.{not}
use Rattle.strand.proofs.NestingLaws.{crossed_none, crossed_some}
use Rattle.strand.proofs.nesting.arcs_close.Goals as goal

pub returns-then-not-closes : goal.returns-then-not-closes
returns-then-not-closes c =
    ap not (sym (crossed_some c.args.mates.now c.requires.inside c.requires.paired (c.loop-i.i - 1) (omega arith)
    (c.closes.ensures.no c.if-not-closes.true)))

pub returns : goal.returns
returns c = ap not (sym (crossed_none c.args.mates.now (λ k l. c.loop-i.invariant.1 k (omega arith) l)))
