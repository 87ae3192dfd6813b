-- `strand::levels::put_names` meets its contract: the first i bases have put their names (`Named`).
use Rattle.strand.proofs.LevelWalk.{Named}
use Rattle.strand.proofs.levels.put_names.Given as goal

abbrev pub invariant-loop-i : goal.invariant-loop-i
invariant-loop-i l = Named l.mates l.initial.own l.i l.next l.own l.told
