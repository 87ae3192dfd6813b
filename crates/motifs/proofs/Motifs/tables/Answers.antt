-- `motifs::Motifs::tables` meets its contract.
-- Invariant: the tables of the first t motifs stand in their rows.
use borrow.Author.Rules.{rules}
use native.Mathlib.Omega.{arith}
use mathlib.Core.Path.{ap}
use lib.ListN.{length, length-set}
use Rattle.calls.proofs.MotifLaws.{motif_proper}
use Rattle.motifs.proofs.ReadLaws as reading
use Rattle.motifs.proofs.Motifs.tables.Goals as goal

pub prepare-requires-clause-pm_len : goal.prepare-requires-clause-pm_len
prepare-requires-clause-pm_len c =
    let proper = motif_proper c.args.self.now.blocks.now c.args.self.now.usable c.loop-t.t (search rules) in
    rw (c.motif_at.ensures.1, c.motif_at.ensures.0) (proper.same, omega (arith, proper.small))

pub prepare-requires-clause-nested : goal.prepare-requires-clause-nested
prepare-requires-clause-nested c =
    rw (c.motif_at.ensures.1, c.motif_at.ensures.0)
    (motif_proper c.args.self.now.blocks.now c.args.self.now.usable c.loop-t.t (search rules)).nested

pub loop-t-preserved : goal.loop-t-preserved
loop-t-preserved c =
    let proper = motif_proper c.args.self.now.blocks.now c.args.self.now.usable c.loop-t.t (search rules) in (
      simp length-set c.loop-t.invariant.0,
      reading.tables_next _ _ _ _ c.loop-t.invariant.1 (omega (arith, c.loop-t.invariant.0, c.args.self.now.usable.most))
          (rw (c.motif_at.ensures.1, c.motif_at.ensures.0) at (c.prepare.ensures 160 (omega (arith, ap length c.motif_at.ensures.0, proper.small)))),
    )
