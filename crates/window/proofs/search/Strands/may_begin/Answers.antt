-- `window::search::Strands::may_begin` meets its contract: the letter does not fit, by its class; or the motif's first base begins no arc; or the molecule's
-- base tells.
use native.Mathlib.Omega.{arith}
use mathlib.Core.Path.{◌∙◌}
use borrow.Author.Tests.{eq-eqb, ne_eqb}
use Rattle.embedding.proofs.Answers.{tells_yes, tells_no}
use Rattle.window.proofs.CarryLaws.{match_by, begins_not, begins_free, begins_arc}
use Rattle.window.proofs.search.Strands.may_begin.Goals as goal

pub returns-then-letter_class : goal.returns-then-letter_class
returns-then-letter_class c = tells_no (begins_not (match_by _ _ c.letter_class.ensures c.letter_class-2.ensures ∙ ne_eqb _ _ c.if-letter_class.true))

pub returns-then-self-eq0 : goal.returns-then-self-eq0
returns-then-self-eq0 c =
    tells_yes (begins_free (match_by _ _ c.letter_class.ensures c.letter_class-2.ensures ∙ eq-eqb _ _ c.if-letter_class.false)
    (omega arith))

pub returns : goal.returns
returns c =
    rw c.mate.ensures (begins_arc
    (match_by _ _ c.letter_class.ensures c.letter_class-2.ensures ∙ eq-eqb _ _ c.if-letter_class.false)
    (λ e. omega (arith, c.if-self-eq0.false)))
