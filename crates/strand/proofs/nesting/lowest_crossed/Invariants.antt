-- `strand::nesting::lowest_crossed` meets its contract: none of the first i arcs is crossed.
use mathlib.Core.Path.{◌≡◌}
use Rattle.lists.specs.Vocabulary.{lowest}
use Rattle.strand.specs.Strands.{crossed_at}
use Rattle.strand.proofs.nesting.lowest_crossed.Given as goal

abbrev pub invariant-loop-i : goal.invariant-loop-i
invariant-loop-i l = lowest l.i (crossed_at l.mates) ≡ l.i
