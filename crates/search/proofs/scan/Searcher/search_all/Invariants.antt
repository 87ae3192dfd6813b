-- `search::scan::Searcher::search_all` meets its contract.
-- Invariant `Searched`: the map has the hits known before and those below d, and the numbers below d that were to be searched are counted. No number
-- from the last block on is to be searched.
use mathlib.Core.Path.{◌≡◌}
use Rattle.strand.specs.Lent.{lent}
use Rattle.octets.specs.Octets.{map_bit}
use Rattle.block.specs.Block.{block_count}
use Rattle.embedding.specs.Longest.{embeds}
use Rattle.calls.specs.Buffers.{molecule_at}
use Rattle.search.proofs.ScanLaws as laws
use Rattle.search.proofs.scan.Searcher.search_all.Given as goal

abbrev pub invariant-loop-d : goal.invariant-loop-d
invariant-loop-d l = laws.Searched
    (map_bit l.initial.found 0) (map_bit l.todo 0)
    (λ k. embeds (lent l.fn.self.motif) (molecule_at l.catalog k)) (block_count l.catalog) l.found l.d l.searched
    × (l.self.motif ≡ l.fn.self.motif)
