-- `rows::tables::add_mates` meets its contract. The invariant: the entries before j have both classes, those from j on as before (`Written`).
use native.Mathlib.Omega.{arith}
use Rattle.rows.proofs.Pass.{pass_set}
use Rattle.rows.proofs.TableLaws.{mates_step, mates_fit}
use Rattle.rows.proofs.tables.add_mates.Goals as goal

pub overflow_add-tables : goal.overflow_add-tables
overflow_add-tables c =
    omega (
      arith,
      mates_fit c.args.p.now c.args.pm.now c.args.tables.now c.loop-j.tables
          c.requires.by_index c.requires.by_index_2 c.loop-j.j c.loop-j.invariant
          (omega arith) (c.requires.nested.inside c.loop-j.j (omega arith)),
    )

pub loop-j-preserved : goal.loop-j-preserved
loop-j-preserved c =
    pass_set _ _ _ _ _ _ c.loop-j.invariant (omega arith) (omega arith) (mates_step c.args.p.now c.args.pm.now
    c.args.tables.now c.loop-j.tables c.requires.by_index c.requires.by_index_2
    c.loop-j.j c.loop-j.invariant (omega arith) (c.requires.nested.inside c.loop-j.j (omega arith)))
