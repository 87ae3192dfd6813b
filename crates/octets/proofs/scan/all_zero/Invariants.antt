-- `octets::scan::all_zero` meets its contract: the largest byte passed is 0 exactly where every byte passed is.
use lib.Dec.{eqb}
use mathlib.Core.Path.{◌≡◌}
use Rattle.lists.specs.Vocabulary.{every, nth}
use Rattle.octets.specs.Octets.{is_zero}
use Rattle.octets.proofs.scan.all_zero.Given as goal

abbrev pub invariant-loop-b : goal.invariant-loop-b
invariant-loop-b l = eqb l.largest 0 ≡ every l.b-index (λ k. is_zero (nth l.s k))
