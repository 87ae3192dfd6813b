-- `strand::nesting::lowest_not_mutual` meets its contract: the first i mates are mutual.
use mathlib.Core.Path.{◌≡◌}
use Rattle.lists.specs.Vocabulary.{lowest}
use Rattle.strand.specs.Strands.{not_mutual}
use Rattle.strand.proofs.nesting.lowest_not_mutual.Given as goal

abbrev pub invariant-loop-i : goal.invariant-loop-i
invariant-loop-i l = lowest l.i (not_mutual l.mates) ≡ l.i
