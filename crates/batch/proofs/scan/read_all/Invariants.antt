-- `batch::scan::read_all` meets its contract: before number d the wanted molecules below d were read, and they are counted.
use mathlib.Core.Path.{◌≡◌}
use lib.ListN.{length}
use Rattle.lists.specs.Vocabulary.{select}
use Rattle.octets.specs.Octets.{map_bit}
use Rattle.batch.specs.Steps.{BondsTo}
use Rattle.batch.proofs.scan.read_all.Given as goal

abbrev pub invariant-loop-d : goal.invariant-loop-d
invariant-loop-d l = (l.read ≡ length (select l.d (map_bit l.wanted 0))) × BondsTo l.catalog (map_bit l.wanted 0) l.bonds l.d
