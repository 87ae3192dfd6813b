-- `search::list_hits` meets its contract.
-- Invariant: the numbers below d of the map are counted and stand at the start of the slice, and its later entries are as they were.
use Rattle.octets.specs.Octets.{map_bit}
use Rattle.search.proofs.ListingLaws as laws
use Rattle.search.proofs.list_hits.Given as goal

abbrev pub invariant-loop-d : goal.invariant-loop-d
invariant-loop-d l = laws.Listed (map_bit l.found 0) l.initial.hits l.hits l.d l.count
