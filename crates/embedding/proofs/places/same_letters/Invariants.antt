-- `embedding::places::same_letters` meets its contract. The invariant: the letters of the positions that were passed match.
use mathlib.Core.Path.{◌≡◌}
use mathlib.Core.Bool.{true}
use Prim.Native.Nat.{ℕ, ◌<◌}
use Rattle.lists.specs.Vocabulary.{nth}
use Rattle.letters.specs.Letters.{letters_match}
use Rattle.embedding.proofs.places.same_letters.Given as goal

abbrev pub invariant-loop-i : goal.invariant-loop-i
invariant-loop-i l = (x : ℕ) → x < l.i → letters_match (nth l.p x) (nth l.q (nth l.places x)) ≡ true
