-- `strand::levels::all_unbonded` meets its contract: of the first i bases it has counted those that are bonded.
use mathlib.Core.Path.{◌≡◌}
use lib.Dec.{eqb}
use Rattle.lists.specs.Vocabulary.{nth}
use Rattle.strand.proofs.LevelWalk.{Differing}
use Rattle.strand.proofs.levels.all_unbonded.Given as goal

abbrev pub invariant-loop-mate : goal.invariant-loop-mate
invariant-loop-mate l = (l.place ≡ l.mate-index) × Differing (λ k. eqb (nth l.mates k) k) l.mate-index l.bonded
