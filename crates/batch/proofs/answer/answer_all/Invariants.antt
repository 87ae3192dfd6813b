-- `batch::answer::answer_all` meets its contract: before motif t cache and hits are as the queries before it leave them, and their counts are written.
use mathlib.Core.Path.{◌≡◌}
use mathlib.Core.List.{◌++◌}
use lib.ListN.{length, drop, replicate}
use Rattle.lists.specs.Vocabulary.{tab}
use Rattle.embedding.specs.Longest.{embeds}
use Rattle.calls.specs.Motifs.{most_motifs}
use Rattle.calls.specs.Batch.{batch_state, batch_to, query_at, count_of}
use Rattle.calls.proofs.BatchLaws.{clean_to}
use Rattle.batch.proofs.answer.answer_all.Given as goal

abbrev pub invariant-loop-t : goal.invariant-loop-t
invariant-loop-t l =
    (l.cache ≡ clean_to embeds l.catalog l.motifs.blocks.now l.work l.initial.cache l.initial.hits l.t)
    × (l.hits ≡ (batch_to embeds l.catalog l.motifs.blocks.now l.work l.t (batch_state l.initial.cache l.initial.hits)).hits)
    × (length l.counts ≡ most_motifs)
    × (l.counts ≡ tab l.t (λ u. count_of (query_at embeds l.catalog l.motifs.blocks.now l.work (batch_state l.initial.cache l.initial.hits) u).answer)
    ++ drop l.t (replicate most_motifs 0))
