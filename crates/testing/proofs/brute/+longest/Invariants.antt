-- The measure is how many positions of the molecule lie at v and behind it, and each call goes to v + 1.
use Rattle.std.proofs.Common.{◌-◌, length}
use Rattle.testing.proofs.brute.+longest.Given as goal

abbrev pub decreases-longest : goal.decreases-longest
decreases-longest l = length l.molecule.now.bases.now - l.v
