-- `strand::levels::same_names` meets its contract: of the first i names it has counted those that differ.
use lib.Dec.{eqb}
use Rattle.lists.specs.Vocabulary.{nth}
use Rattle.strand.proofs.LevelWalk.{Differing}
use Rattle.strand.proofs.levels.same_names.Given as goal

abbrev pub invariant-loop-i : goal.invariant-loop-i
invariant-loop-i l = Differing (λ k. eqb (nth l.a k) (nth l.b k)) l.i l.differing
