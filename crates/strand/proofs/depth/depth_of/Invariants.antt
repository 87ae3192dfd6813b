-- `strand::depth::depth_of` meets its contract: after i bases it has counted the arcs that are open, and the most that were open at once.
use Rattle.strand.proofs.FoldWalk.{Walked}
use Rattle.strand.proofs.depth.depth_of.Given as goal

abbrev pub invariant-loop-i : goal.invariant-loop-i
invariant-loop-i l = Walked l.mates l.i l.level l.depth
