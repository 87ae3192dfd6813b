-- `batch::plan::count_all` meets its contract: the first t counts are written.
use mathlib.Core.Path.{◌≡◌}
use mathlib.Core.List.{[], ◌++◌}
use lib.ListN.{length, get_or, drop, replicate}
use Rattle.lists.specs.Vocabulary.{select, tab}
use Rattle.octets.specs.Octets.{map_bit}
use Rattle.calls.specs.Motifs.{most_motifs}
use Rattle.batch.proofs.plan.count_all.Given as goal

abbrev pub invariant-loop-t : goal.invariant-loop-t
invariant-loop-t l =
    (length l.searched ≡ most_motifs)
    × (l.searched ≡ tab l.t (λ t. length (select l.n (map_bit (get_or l.todo t []) 0))) ++ drop l.t (replicate most_motifs 0))
