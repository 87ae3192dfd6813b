-- `window::search::Strands::next_begin` meets its contract: the first base of the motif may stand at none of the bases that were passed.
use Rattle.window.specs.InStrands.{NoneBeginsIn}
use Rattle.window.proofs.search.Strands.next_begin.Given as goal

abbrev pub invariant-loop-j : goal.invariant-loop-j
invariant-loop-j l = NoneBeginsIn l.self l.i l.j
