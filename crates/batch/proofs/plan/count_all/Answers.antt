-- `batch::plan::count_all` meets its contract: the first t counts are written.
use native.Mathlib.Omega.{arith}
use mathlib.Core.Path.{refl, ◌∙◌}
use mathlib.Core.List.{[]}
use lib.ListN.{length, length-set, get_or, replicate}
use Rattle.lists.specs.Vocabulary.{select}
use Rattle.lists.proofs.ListLaws.{tab_none}
use Rattle.octets.specs.Octets.{map_bit}
use Rattle.calls.specs.Motifs.{most_motifs}
use Rattle.batch.proofs.PlanLaws as laws
use Rattle.batch.proofs.plan.count_all.Goals as goal

pub loop-t-init : goal.loop-t-init
loop-t-init c = (refl, tab_none _ (replicate most_motifs 0))

pub loop-t-preserved : goal.loop-t-preserved
loop-t-preserved c = (
  simp length-set c.loop-t.invariant.0,
  laws.tab_next (λ t. length (select c.args.n (map_bit (get_or c.args.todo.now t []) 0))) c.loop-t.t (replicate most_motifs 0) _ _
      (omega (arith, c.requires)) c.loop-t.invariant.1
      (c.count_in.ensures ∙ laws.counted_all (map_bit (get_or c.args.todo.now c.loop-t.t []) 0) c.args.n),
)
