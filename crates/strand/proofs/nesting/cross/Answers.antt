-- `strand::nesting::cross` meets its contract: the three comparisons of the definition.
use mathlib.Core.Path.{sym}
use native.Mathlib.Omega.{arith}
use Rattle.std.proofs.lemmas.Bool.Decides.{nat_tests}
use Rattle.strand.specs.Strands.{crosses}
use Rattle.strand.proofs.NestingLaws.{cross_last}
use Rattle.strand.proofs.nesting.cross.Goals as goal

pub returns-then-i-b : goal.returns-then-i-b
returns-then-i-b c = sym (cross_last _ _ _ _ c.if-i-b.true.0 c.if-i-b.true.1)

pub returns-else-i-b : goal.returns-else-i-b
unfolding crosses
returns-else-i-b c = grind (arith, nat_tests)
