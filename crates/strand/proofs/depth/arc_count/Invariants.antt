-- `strand::depth::arc_count` meets its contract: of the first i bases it has counted the left ends.
use mathlib.Core.Path.{◌≡◌}
use Rattle.lists.proofs.Counts.{count}
use Rattle.strand.specs.Folds.{begins}
use Rattle.strand.proofs.depth.arc_count.Given as goal

abbrev pub invariant-loop-mate : goal.invariant-loop-mate
invariant-loop-mate l = (l.place ≡ l.mate-index) × (l.arcs ≡ count l.mate-index (begins l.mates))
