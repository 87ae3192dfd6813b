-- `strand::nesting::lowest_crossed` meets its contract: none of the first i arcs is crossed.
use mathlib.Core.Path.{sym, ◌∙◌}
use Rattle.lists.proofs.ListLaws.{lowest_none, lowest_more, lowest_found}
use Rattle.strand.proofs.nesting.lowest_crossed.Goals as goal

pub loop-i-init : goal.loop-i-init
loop-i-init c = lowest_none _

pub returns-then-crossed : goal.returns-then-crossed
returns-then-crossed c = sym (lowest_found _ _ _ c.loop-i.invariant c.loop-i-test.true (sym c.crossed.ensures ∙ c.if-crossed.true))

pub loop-i-preserved : goal.loop-i-preserved
loop-i-preserved c = lowest_more _ _ c.loop-i.invariant (sym c.crossed.ensures ∙ c.if-crossed.false)
