-- `rows::row::unit` meets its contract: each return is a case of `unit_at`.
use mathlib.Core.Path.{sym, ◌∙◌}
use native.Mathlib.Omega.{arith}
use Rattle.lists.specs.Vocabulary.{nth}
use Rattle.rows.specs.Rows.{matches}
use Rattle.embedding.proofs.Entries.{unit_end, unit_left, unit_takes, unit_other}
use Rattle.rows.proofs.row.unit.Goals as goal

pub returns-then-to-from : goal.returns-then-to-from
returns-then-to-from c = sym (unit_end _ _ _ _ c.if-to-from.true)

pub returns-then-from-pm : goal.returns-then-from-pm
returns-then-from-pm c = sym (unit_left _ _ _ _ c.if-to-from.false c.if-from-pm.true)

pub returns-then-letters_match : goal.returns-then-letters_match
returns-then-letters_match c =
    omega (
      arith,
      unit_takes (matches c.args.p.now c.args.y) (nth c.args.pm.now) c.args.to c.args.from
          c.if-to-from.false c.if-from-pm.false (sym c.letters_match.ensures ∙ c.if-letters_match.true),
    )

pub returns : goal.returns
returns c = sym (unit_other _ _ _ _ c.if-to-from.false c.if-from-pm.false (sym c.letters_match.ensures ∙ c.if-letters_match.false))
