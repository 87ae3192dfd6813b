-- `search::answer` meets its contract.
-- The maps hold the held numbers, those to be searched and the known hits; the search of the second adds the other hits. So count, list and the entry
-- written are those of `query_accepted`.
use borrow.Author.Rules.{rules}
use native.Mathlib.Omega.{arith}
use Rattle.strand.specs.Lent.{lent}
use Rattle.buffer.proofs.OutcomeLaws.{entry_put_there}
use Rattle.search.proofs.AnswerLaws as laws
use Rattle.search.proofs.answer.Goals as goal

pub search_all-searched-requires : goal.search_all-searched-requires
search_all-searched-requires c = (
  c.requires.0.blocks,
  c.requires.0.most,
  search rules,
  laws.todo_held c.args.catalog.now _ (lent c.args.motif.now) _ c.new-maps.ensures.1,
)

pub returns : goal.returns
returns c =
    laws.answer_is c.args.catalog.now c.args.cache.now _ c.slot-s.result c.args.motif.now.bases.now c.args.motif.now.mates.now c.args.hits.now c.requires.0.most
    (rw c.block_count.ensures at c.slot-s.ensures.0) c.block_at.ensures c.new-maps.result.held c.search_all-searched.new.found c.new-maps.ensures.0
    (laws.found_is c.args.catalog.now _ (lent c.args.motif.now) _ c.new-maps.ensures.1 _ _ c.new-maps.ensures.2
    (simp c.new.ensures at c.search_all-searched.ensures.1))
    c.list_hits-count.result c.search_all-searched.result _ c.list_hits-count.new.hits
    (laws.searched_is c.args.catalog.now _ (lent c.args.motif.now) _ c.new-maps.ensures.1 _ c.requires.0.most
    c.search_all-searched.ensures.0)
    (rw c.block_count-2.ensures at c.list_hits-count.ensures)
    (entry_put_there c.slot-s.result c.args.motif.now.bases.now c.args.motif.now.mates.now c.new-maps.result.held c.search_all-searched.new.found
    c.args.cache.now c.put_entry.result _ (omega arith) c.requires.0.motif.small c.requires.0.motif.same
    (search rules) (search rules) c.put_entry.ensures)
