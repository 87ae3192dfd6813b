-- `letters::all_letters` meets its contract: `least` is 1 exactly where the bases passed are letters.
use mathlib.Core.Path.{◌≡◌}
use Rattle.lists.specs.Vocabulary.{nth, choose, every}
use Rattle.letters.specs.Letters.{is_letter}
use Rattle.letters.proofs.all_letters.Given as goal

abbrev pub invariant-loop-b : goal.invariant-loop-b
invariant-loop-b l = l.least ≡ choose (every l.b-index (λ k. is_letter l.side (nth l.bases k))) 1 0
