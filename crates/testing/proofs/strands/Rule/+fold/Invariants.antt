-- The measure is the length of the stretch, and both calls are given a shorter one.
use Rattle.std.proofs.Common.{◌-◌}
use Rattle.testing.proofs.strands.Rule.+fold.Given as goal

abbrev pub decreases-fold : goal.decreases-fold
decreases-fold l = l.to - l.from
