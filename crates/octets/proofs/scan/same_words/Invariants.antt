-- `octets::scan::same_words` meets its contract: the numbers passed are equal.
use Prim.Native.Nat.{ℕ, ◌*◌, ◌≤◌, ◌<◌}
use mathlib.Core.Path.{◌≡◌}
use lib.ListN.{length}
use Rattle.octets.specs.Octets.{words}
use Rattle.lists.specs.Vocabulary.{nth}
use Rattle.octets.proofs.scan.same_words.Given as goal

abbrev pub invariant-loop-i : goal.invariant-loop-i
invariant-loop-i l =
    (2 * length l.src ≤ length l.s) × ((k : ℕ) → k < l.i → nth (words (length l.src) l.s) k ≡ nth l.src k)
