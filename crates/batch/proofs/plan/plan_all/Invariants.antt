-- `batch::plan::plan_all` meets its contract: before motif t the cache is planned for the motifs before it, and their maps are filled.
use mathlib.Core.Path.{◌≡◌}
use Rattle.batch.specs.Steps.{Planning, planned_after, PlannedTo}
use Rattle.batch.proofs.plan.plan_all.Given as goal

abbrev pub invariant-loop-t : goal.invariant-loop-t
invariant-loop-t l =
    (l.cache ≡ planned_after l.motifs.blocks.now l.held l.initial.cache l.t) × Planning l.held l.cache
    × PlannedTo l.motifs.blocks.now l.held l.initial.cache l.todo l.t
