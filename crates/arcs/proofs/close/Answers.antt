-- `arcs::close` meets its contract: the bases of the molecule are letters.
use Rattle.arcs.proofs.Pairs.{setting_of}
use Rattle.arcs.proofs.Made.{letter_at}
use Rattle.arcs.proofs.close.Goals as goal

pub close_arc-requires-clause-y_letter : goal.close_arc-requires-clause-y_letter
close_arc-requires-clause-y_letter c = letter_at (setting_of c.args.pair.now c.requires.segment) _ c.requires.l_lt_r.1
