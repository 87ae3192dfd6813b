-- `strand::nesting::lowest_not_mutual` meets its contract: the first i mates are mutual.
use mathlib.Core.Path.{sym, ap}
use mathlib.Core.Bool.{not}
use borrow.Author.Tests.{eq-eqb, ne_eqb}
use Rattle.lists.proofs.ListLaws.{lowest_none, lowest_more, lowest_found}
use Rattle.strand.proofs.NestingLaws.{mutual_test}
use Rattle.strand.proofs.nesting.lowest_not_mutual.Goals as goal

pub loop-i-init : goal.loop-i-init
loop-i-init c = lowest_none _

pub returns-then-mates-mate : goal.returns-then-mates-mate
returns-then-mates-mate c = sym (lowest_found _ _ _ c.loop-i.invariant c.loop-i-test.true (mutual_test _ _ _ (ap not (ne_eqb _ _ c.if-mates-mate.true))))

pub loop-i-preserved : goal.loop-i-preserved
loop-i-preserved c = lowest_more _ _ c.loop-i.invariant (mutual_test _ _ _ (ap not (eq-eqb _ _ c.if-mates-mate.false)))
