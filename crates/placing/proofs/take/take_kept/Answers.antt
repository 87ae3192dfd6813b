-- `placing::take::take_kept` meets its contract: the second row of the work slice is the inner row for the whole segment (`taken_segment`), and the first
-- row is as it was.
use native.Mathlib.Omega.{arith}
use Rattle.arcs.proofs.Pairs.{setting_of}
use Rattle.placing.proofs.Descent.{taken_segment, around_under}
use Rattle.placing.proofs.take.take_kept.Goals as goal

pub returns : goal.returns
returns c =
    let L = c.requires.l_lt_r in
    let T = taken_segment _ (setting_of c.args.pair.now c.requires.segment) c.requires.from_lt_to.0 L.0 L.1.0 L.1.1 c.keep.ensures.row
    c.write_take.ensures.takes in record {
      taken = T;
      ended = c.write_take.ensures.ended;
      kept_around_2 = around_under _ _ T.low (omega (arith, T.goes, T.ends)) c.keep.ensures.under c.requires.kept_around;
    }
