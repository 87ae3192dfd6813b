-- `batch::scan::unite` meets its contract: before motif t the map has the numbers of the maps before it.
use mathlib.Core.Path.{◌≡◌}
use Rattle.octets.specs.Octets.{map_bytes}
use Rattle.batch.specs.Steps.{in_some}
use Rattle.batch.proofs.scan.unite.Given as goal

abbrev pub invariant-loop-t : goal.invariant-loop-t
invariant-loop-t l = l.wanted ≡ map_bytes (in_some l.t l.todo)
