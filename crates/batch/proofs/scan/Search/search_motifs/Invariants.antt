-- `batch::scan::Search::search_motifs` meets its contract: before motif t the maps of the motifs before it have their hits.
use lib.ListN.{length}
use Rattle.batch.specs.Steps.{Ready, HitsTo}
use Rattle.batch.proofs.scan.Search.search_motifs.Given as goal

abbrev pub invariant-loop-t : goal.invariant-loop-t
invariant-loop-t l =
    HitsTo l.self.motifs.now.blocks.now l.self.todo.now l.self.catalog.now l.found l.t
    × Ready l.self.motifs.now.blocks.now l.room.tables (length l.room.work.now)
