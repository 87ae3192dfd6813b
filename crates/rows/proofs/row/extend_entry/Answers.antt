-- `rows::row::extend_entry` meets its contract: the two cases of the test.
use borrow.Author.Tests.{eq-eqb, ne_eqb}
use mathlib.Core.Path.{sym}
use Rattle.lists.proofs.ListLaws.{choose_yes, choose_no}
use Rattle.rows.proofs.row.extend_entry.Goals as goal

pub returns-then-step-j : goal.returns-then-step-j
returns-then-step-j c = sym (choose_yes _ _ _ (eq-eqb _ _ c.if-step-j.true))

pub returns : goal.returns
returns c = sym (choose_no _ _ _ (ne_eqb _ _ c.if-step-j.false))
