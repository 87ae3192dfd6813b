-- `search::maps::fill_held` meets its contract.
-- Invariant: the map has the bits of the held numbers below d. Past the last block none is held, so at the end it has all of them.
use mathlib.Core.Path.{◌≡◌}
use mathlib.Core.Bool.{false}
use Rattle.octets.specs.Octets.{map_bytes}
use Rattle.calls.specs.Buffers.{held as held_in}
use Rattle.search.proofs.MarkLaws as laws
use Rattle.search.proofs.maps.fill_held.Given as goal

abbrev pub invariant-loop-d : goal.invariant-loop-d
invariant-loop-d l = (l.held ≡ map_bytes (laws.with_up_to (λ k. false) l.d (held_in l.catalog)))
