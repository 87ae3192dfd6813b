-- `batch::plan::plan_all` meets its contract: before motif t the cache is planned for the motifs before it, and their maps are filled.
use borrow.Author.Rules.{rules}
use native.Mathlib.Omega.{arith}
use mathlib.Core.Path.{refl}
use Rattle.batch.proofs.PlanLaws as laws
use Rattle.batch.proofs.plan.plan_all.Goals as goal

pub loop-t-init : goal.loop-t-init
loop-t-init c = (
  laws.after_start c.args.motifs.now.blocks.now c.args.held.now c.args.cache.now,
  c.requires,
  laws.plan_start c.args.motifs.now.blocks.now c.args.held.now c.args.cache.now _ refl,
)

pub loop-t-preserved : goal.loop-t-preserved
loop-t-preserved c = (
  laws.after_next c.args.motifs.now.blocks.now c.args.held.now c.args.cache.now c.loop-t.t _ _ c.loop-t.invariant.0
      c.plan_motif.ensures.1,
  laws.planning_next c.args.motifs.now.usable c.loop-t.t (search rules) c.loop-t.invariant.1 c.plan_motif.ensures.1,
  laws.plan_next c.args.motifs.now.blocks.now c.args.held.now c.args.cache.now c.loop-t.t c.loop-t.cache _ _
      (omega (arith, c.count-t-end.ensures, c.args.motifs.now.usable.most)) c.loop-t.invariant.2 c.loop-t.invariant.0 c.plan_motif.ensures.0,
)
