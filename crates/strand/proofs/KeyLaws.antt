-- The key of a motif, summed from its first position on.
use mathlib.Core.Path.{◌≡◌}
use mathlib.Core.List.{List}
use Prim.Native.Nat.{ℕ, ◌+◌, ◌<◌, ◌≤◌}
use native.Mathlib.Omega.{arith}
use lib.ListN.{length, drop}
use Rattle.lists.specs.Vocabulary.{nth, total}
use Rattle.strand.specs.Strands.{strand_of, key}
use Rattle.lists.proofs.ListLaws.{total_next, total_none}

module _ (bases mates : List ℕ) (i sum : ℕ) where
  -- The sum over the first i positions lacks what stands from i on.
  abbrev pub SummedTo : Type 0
  SummedTo = sum + total (drop i bases) + total (drop i mates) ≡ key (strand_of bases mates)

  pub key_more : (next : ℕ) → i < length bases → i < length mates → next ≡ sum + (nth bases i + nth mates i) → SummedTo
      → next + total (drop (i + 1) bases) + total (drop (i + 1) mates) ≡ key (strand_of bases mates)
  key_more next hb hm is e = omega (arith, total_next bases i hb, total_next mates i hm)

  pub key_end : length bases ≤ i → length mates ≤ i → SummedTo → sum ≡ key (strand_of bases mates)
  key_end hb hm e = omega (arith, total_none bases i hb, total_none mates i hm)

pub key_start : (bases mates : List ℕ) → SummedTo bases mates 0 0
unfolding key
key_start bases mates = omega arith
