-- `window::search::tightest` meets its contract: a motif with no bases has the window of no bases at the start (`found_empty`); short strands take small
-- tables, all others large ones.
use mathlib.Core.Path.{sym, ◌∙◌}
use borrow.Author.Tests.{eqb-true}
use Rattle.window.proofs.CarryLaws.{found_empty}
use Rattle.window.proofs.search.tightest.Goals as goal

pub returns-then-is_empty : goal.returns-then-is_empty
returns-then-is_empty c = found_empty c.requires.proper.nested.inside (eqb-true _ _ (sym c.is_empty.ensures ∙ c.if-is_empty.true))
