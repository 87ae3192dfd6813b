-- `strand::nesting::crossed` meets its contract: no arc that begins below a crosses the one at i.
use mathlib.Core.Path.{◌≡◌}
use mathlib.Core.Bool.{false}
use Rattle.lists.specs.Vocabulary.{nth, some}
use Rattle.strand.specs.Strands.{crosses}
use Rattle.strand.proofs.nesting.crossed.Given as goal

abbrev pub invariant-loop-a : goal.invariant-loop-a
invariant-loop-a l = some l.a (λ k. crosses k (nth l.mates k) l.i (nth l.mates l.i)) ≡ false
