-- `batch::scan::bases_of` meets its contract: the bases of a molecule that is held are a part of its block.
use native.Mathlib.Omega.{arith}
use Rattle.batch.proofs.MoleculeUse as molecules
use Rattle.batch.proofs.scan.bases_of.Goals as goal

pub block_at-b-requires : goal.block_at-b-requires
block_at-b-requires c = molecules.below c.args.catalog.now c.requires.0 c.args.d c.requires.1

pub bounds-b-1 : goal.bounds-b-1
bounds-b-1 c = omega (arith, molecules.block_size_lem c.args.catalog.now c.requires.0 c.args.d c.requires.1 _ c.block_at-b.ensures)

pub slice_bounds-result-end : goal.slice_bounds-result-end
slice_bounds-result-end c =
    omega (
      arith,
      c.from-e.ensures,
      molecules.block_size_lem c.args.catalog.now c.requires.0 c.args.d c.requires.1 _ c.block_at-b.ensures,
      molecules.bases_fit c.args.catalog.now c.requires.0 c.args.d c.requires.1 _ c.block_at-b.ensures,
    )

pub returns : goal.returns
returns c = rw c.from-e.ensures (molecules.bases_are c.args.catalog.now c.requires.0 c.args.d c.requires.1 _ c.block_at-b.ensures)
