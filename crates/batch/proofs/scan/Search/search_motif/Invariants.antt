-- `batch::scan::Search::search_motif` meets its contract: before number d the map has the hits below d.
use mathlib.Core.Path.{◌≡◌}
use mathlib.Core.Bool.{false}
use lib.ListN.{length}
use Rattle.octets.specs.Octets.{map_bytes}
use Rattle.search.proofs.MarkLaws.{with_up_to}
use Rattle.batch.specs.Steps.{Ready, hits_in}
use Rattle.batch.proofs.scan.Search.search_motif.Given as goal

abbrev pub invariant-loop-d : goal.invariant-loop-d
invariant-loop-d l =
    (l.hits ≡ map_bytes (with_up_to (λ x. false) l.d (hits_in l.self.motifs.now.blocks.now l.self.todo.now l.self.catalog.now l.t)))
    × Ready l.self.motifs.now.blocks.now l.room.tables (length l.room.work.now)
