-- `search::list_hits` meets its contract.
-- Invariant: the numbers below d of the map are counted and stand at the start of the slice, and its later entries are as they were.
use native.Mathlib.Omega.{arith}
use mathlib.Core.Path.{sym}
use Rattle.octets.specs.Octets.{map_bit}
use Rattle.search.proofs.ListingLaws as laws
use Rattle.search.proofs.list_hits.Goals as goal
use Rattle.search.proofs.list_hits.Goals.{then-test, else-test}

pub loop-d-init : goal.loop-d-init
loop-d-init c = laws.listed_start (map_bit c.args.found.now 0) c.args.hits.now

pub bounds-hits-count : goal.bounds-hits-count
bounds-hits-count c =
    omega (arith, c.requires, laws.count_short (map_bit c.args.found.now 0) c.loop-d.d c.loop-d.count c.loop-d.invariant.counted)

pub loop-d-preserved : goal.loop-d-preserved
loop-d-preserved c =
    elim c.if-test.branch [
      | then-test w ↦ rw (w.hits-is, w.count-is) (laws.listed_yes _ _ _ _ _ c.loop-d.invariant
          (omega (arith, c.requires, laws.count_short (map_bit c.args.found.now 0) c.loop-d.d c.loop-d.count c.loop-d.invariant.counted))
          (sym w.if-test.ensures))
      | else-test w ↦ rw (w.hits-is, w.count-is) (laws.listed_no _ _ _ _ _ c.loop-d.invariant (sym w.if-test.ensures))
    ]
