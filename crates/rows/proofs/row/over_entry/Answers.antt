-- `rows::row::over_entry` meets its contract: each return is a case of `over_by`.
use borrow.Author.Tests.{eq-eqb, ne_eqb}
use mathlib.Core.Path.{sym, ◌∙◌}
use native.Mathlib.Numerals.{add-one}
use Rattle.embedding.proofs.Entries as entries
use Rattle.rows.proofs.row.over_entry.Goals as goal

pub returns-then-pair-x : goal.returns-then-pair-x
returns-then-pair-x c = sym (entries.by_other _ _ _ _ _ _ (ne_eqb _ _ c.if-pair-x.true))

pub returns-then-k-j : goal.returns-then-k-j
returns-then-k-j c = sym (entries.by_free _ _ _ _ _ _ (eq-eqb _ _ c.if-pair-x.false) c.if-k-j.true)

pub returns-then-to-k : goal.returns-then-to-k
returns-then-to-k c = sym (entries.by_far _ _ _ _ _ _ (eq-eqb _ _ c.if-pair-x.false) c.if-k-j.false c.if-to-k.true)

pub returns-then-pair-y : goal.returns-then-pair-y
returns-then-pair-y c = sym (entries.by_unlike _ _ _ _ _ _ (eq-eqb _ _ c.if-pair-x.false) c.if-k-j.false c.if-to-k.false (ne_eqb _ _ c.if-pair-y.true))

pub returns-then-next-k : goal.returns-then-next-k
returns-then-next-k c = sym (entries.by_short _ _ _ _ _ _ (eq-eqb _ _ c.if-pair-x.false) c.if-k-j.false c.if-to-k.false
    (eq-eqb _ _ c.if-pair-y.false) c.if-next-k.true)

pub returns : goal.returns
returns c =
    add-one _
    ∙ sym (entries.by_arc _ _ _ _ _ _ (eq-eqb _ _ c.if-pair-x.false) c.if-k-j.false c.if-to-k.false (eq-eqb _ _ c.if-pair-y.false)
    c.if-next-k.false)
