-- `batch::scan::read_all` meets its contract: before number d the wanted molecules below d were read, and they are counted.
use borrow.Author.Rules.{rules}
use native.Mathlib.Omega.{arith}
use mathlib.Core.Path.{sym, ap}
use lib.ListN.{length}
use Rattle.lists.proofs.ListLaws.{select_none}
use Rattle.octets.specs.Octets.{map_bit}
use Rattle.search.proofs.ListingLaws as counting
use Rattle.batch.proofs.MoleculeUse as molecules
use Rattle.batch.proofs.scan.read_all.Goals as goal
use Rattle.batch.proofs.scan.read_all.Goals.{then-test, else-test}

pub loop-d-init : goal.loop-d-init
loop-d-init c = (ap length (sym (select_none (map_bit c.args.wanted.now 0))), molecules.bonds_start _ _ c.args.bonds.now (search rules))

pub overflow_add-read : goal.overflow_add-read
overflow_add-read c =
    omega (arith, c.requires.most, counting.count_short (map_bit c.args.wanted.now 0) c.loop-d.d c.loop-d.read c.loop-d.invariant.0)

pub loop-d-preserved : goal.loop-d-preserved
loop-d-preserved c =
    elim c.if-test.branch [
      | then-test w ↦ rw (w.bonds-is, w.read-is) (
        counting.count_yes (map_bit c.args.wanted.now 0) c.loop-d.d c.loop-d.read c.loop-d.invariant.0 (sym w.if-test.ensures),
        molecules.bonds_next c.args.catalog.now (map_bit c.args.wanted.now 0) c.loop-d.bonds c.loop-d.d _ c.loop-d.invariant.1
            (omega (arith, c.requires.most)) w.read_bonds.ensures,
      )
      | else-test w ↦ rw (w.bonds-is, w.read-is) (
        counting.count_no (map_bit c.args.wanted.now 0) c.loop-d.d c.loop-d.read c.loop-d.invariant.0 (sym w.if-test.ensures),
        molecules.bonds_skip c.args.catalog.now (map_bit c.args.wanted.now 0) c.loop-d.bonds c.loop-d.d c.loop-d.invariant.1 (sym w.if-test.ensures),
      )
    ]
