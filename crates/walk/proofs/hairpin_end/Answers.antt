-- `walk::hairpin_end` meets its contract: the arc takes what the two entries of its inner row say (`arc_of_two`).
use native.Mathlib.Omega.{arith}
use Rattle.arcs.proofs.Pairs.{rest_setting}
use Rattle.arcs.proofs.Made.{letter_at}
use Rattle.walk.proofs.Hairpins.{arc_of_two}
use Rattle.walk.proofs.hairpin_end.Goals as goal

pub arc_entry-requires-clause-y_letter : goal.arc_entry-requires-clause-y_letter
arc_entry-requires-clause-y_letter c =
    letter_at (rest_setting c.args.pair.now {from = c.args.from} (omega (arith, c.requires.from_in_bounds))) _ c.requires.l_lt_r.1.0

pub returns : goal.returns
returns c =
    let S = rest_setting c.args.pair.now {from = c.args.from} (omega (arith, c.requires.from_in_bounds)) in
    rw c.arc_entry.ensures (arc_of_two _ _ S c.requires.l_lt_r.0 c.requires.l_lt_r.1.0
    c.requires.l_lt_r.1.1 c.loop_end-here.ensures c.next_end-next.ensures.best)
