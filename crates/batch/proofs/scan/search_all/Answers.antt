-- `batch::scan::search_all` meets its contract: the map of all numbers that are asked for says which molecules to read, and then each was read that a motif
-- asks for.
use Rattle.batch.proofs.MoleculeUse as molecules
use Rattle.batch.proofs.scan.search_all.Goals as goal

pub read_all-read-requires : goal.read_all-read-requires
read_all-read-requires c =
    molecules.wanted_held c.args.catalog.now c.args.motifs.now.blocks.now c.args.todo.now c.requires.0 _ (rw c.count.ensures at c.unite-wanted.ensures)

pub invariant_of-search : goal.invariant_of-search
invariant_of-search c = record {
  searching = molecules.searching c.args.catalog.now c.args.motifs.now.blocks.now c.args.todo.now c.requires.0 _
      (rw c.count.ensures at c.unite-wanted.ensures) _ c.read_all-read.ensures.1;
}

pub returns : goal.returns
returns c = (
  c.search_motifs.ensures,
  molecules.counted c.args.catalog.now c.args.motifs.now.blocks.now c.args.todo.now c.requires.0 _
      (rw c.count.ensures at c.unite-wanted.ensures) _ c.read_all-read.ensures.0,
)
