-- `batch::scan::read_bonds` meets its contract: the words read are the mates of molecule d, which is held.
use Prim.Native.Nat.{◌≤◌}
use native.Mathlib.Omega.{arith}
use mathlib.Core.Path.{sym}
use lib.ListN.{length, length-drop, length-take}
use lib.Seq.{length-take-le}
use Rattle.batch.proofs.MoleculeUse as molecules
use Rattle.batch.proofs.scan.read_bonds.Goals as goal

pub block_at-src-requires : goal.block_at-src-requires
block_at-src-requires c = molecules.below c.args.catalog.now c.requires.0 c.args.d c.requires.1

pub bounds-src-1 : goal.bounds-src-1
bounds-src-1 c = omega (arith, molecules.block_size_lem c.args.catalog.now c.requires.0 c.args.d c.requires.1 _ c.block_at-src.ensures)

pub slice_bounds-read_words-count : goal.slice_bounds-read_words-count
slice_bounds-read_words-count c = omega (arith, molecules.block_size_lem c.args.catalog.now c.requires.0 c.args.d c.requires.1 _ c.block_at-src.ensures)

pub slice_bounds-read_words-start : goal.slice_bounds-read_words-start
slice_bounds-read_words-start c = omega (arith, molecules.block_size_lem c.args.catalog.now c.requires.0 c.args.d c.requires.1 _ c.block_at-src.ensures)

pub slice_bounds-read_words-end-2 : goal.slice_bounds-read_words-end-2
slice_bounds-read_words-end-2 c =
    omega (arith, c.requires.2, c.from-n.ensures, molecules.bases_fit c.args.catalog.now c.requires.0 c.args.d c.requires.1 _ c.block_at-src.ensures)

pub slice_bounds-read_words-end-3 : goal.slice_bounds-read_words-end-3
slice_bounds-read_words-end-3 c =
    sym (length-take-le _ c.args.bonds.now
    (omega (arith, c.requires.2, c.from-n.ensures, molecules.bases_fit c.args.catalog.now c.requires.0 c.args.d c.requires.1 _ c.block_at-src.ensures)))

pub read_words-requires : goal.read_words-requires
read_words-requires c =
    simp (length-take, length-drop) (omega (
      arith,
      c.from-n.ensures,
      molecules.block_size_lem c.args.catalog.now c.requires.0 c.args.d c.requires.1 _ c.block_at-src.ensures,
      molecules.bases_fit c.args.catalog.now c.requires.0 c.args.d c.requires.1 _ c.block_at-src.ensures,
    ))

pub returns : goal.returns
returns c =
    let fits : c.from-n.result ≤ length c.args.bonds.now
    = omega (arith, c.requires.2, c.from-n.ensures, molecules.bases_fit c.args.catalog.now c.requires.0 c.args.d c.requires.1 _ c.block_at-src.ensures) in
    molecules.mates_read c.args.catalog.now c.requires.0 c.args.d c.requires.1 _ c.block_at-src.ensures c.from-n.result _ _ c.from-n.ensures
    (rw (length-take-le c.from-n.result c.args.bonds.now fits) at c.read_words.ensures)
