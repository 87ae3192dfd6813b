-- `arcs::bounds::next` meets its contract: each return is a case of the choice, and the classes tell whether the letters match (`own_match`).
use mathlib.Core.Path.{sym, ◌∙◌}
use borrow.Author.Tests.{eq-eqb, ne_eqb}
use Rattle.rows.proofs.TableLaws.{own_match}
use Rattle.arcs.proofs.BoundLaws.{next_all, next_taken, next_left}
use Rattle.arcs.proofs.bounds.next.Goals as goal

pub returns-then-p-bound : goal.returns-then-p-bound
returns-then-p-bound c = next_all _ _ _ c.if-p-bound.true

pub returns-then-tables-bound : goal.returns-then-tables-bound
returns-then-tables-bound c =
    next_taken _ _ _ c.if-p-bound.false
    (sym (own_match c.requires.tables _ _ _ c.if-p-bound.false (c.from.ensures ∙ c.letter_class.ensures)) ∙ eq-eqb _ _ c.if-tables-bound.true)

pub returns : goal.returns
returns c =
    next_left _ _ _ c.if-p-bound.false
    (sym (own_match c.requires.tables _ _ _ c.if-p-bound.false (c.from.ensures ∙ c.letter_class.ensures)) ∙ ne_eqb _ _ c.if-tables-bound.false)
