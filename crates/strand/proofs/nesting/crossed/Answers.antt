-- `strand::nesting::crossed` meets its contract: no arc that begins below a crosses the one at i.
use native.Mathlib.Omega.{arith}
use mathlib.Core.Path.{sym, ◌∙◌}
use Rattle.strand.specs.Strands.{crosses, crossed_at}
use Rattle.lists.proofs.ListLaws.{some_yes, some_no, some_more, some_end}
use Rattle.strand.proofs.nesting.crossed.Goals as goal

pub loop-a-init : goal.loop-a-init
loop-a-init c = some_no _ 0 (λ k l. absurd (omega arith))

pub returns-then-cross : goal.returns-then-cross
unfolding crossed_at
returns-then-cross c = sym (some_yes (λ k. crosses k _ _ _) _ _ (omega arith) (sym c.cross.ensures ∙ c.if-cross.true))

pub loop-a-preserved : goal.loop-a-preserved
loop-a-preserved c = some_more _ _ c.loop-a.invariant (sym c.cross.ensures ∙ c.if-cross.false)

pub returns : goal.returns
unfolding crossed_at
returns c = sym (some_end _ _ _ (omega arith) (omega arith) c.loop-a.invariant)
