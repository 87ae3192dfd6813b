-- `arcs::bounds::all_starts` meets its contract: the bounds behind the tables are filled with the motif's length (`pass_fill`).
use Prim.Native.Nat.{◌+◌, ◌-◌, ◌*◌}
use native.Mathlib.Omega.{arith}
use lib.ListN.{length}
use Rattle.rows.proofs.Pass.{pass_fill, pass_end}
use Rattle.arcs.proofs.BoundLaws.{starts_written}
use Rattle.arcs.proofs.bounds.all_starts.Goals as goal

pub returns : goal.returns
returns c =
    let m = length c.args.p.now in
    starts_written c.requires.tables (omega (arith, c.requires.p_len_bound)) (pass_end _ _ _ _ _ _
    (pass_fill c.args.tables.now c.fill.new.self (5 * (m + 1)) (5 * (m + 1) + c.args.n + 1 - 5 * (m + 1)) (c.args.n + 1) m (omega arith)
    (omega (arith, c.requires.p_len_bound)) (c.fill.ensures.after (λ y e. e))) (omega arith) (omega arith))
