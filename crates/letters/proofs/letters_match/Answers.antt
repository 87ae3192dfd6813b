-- `letters::letters_match` meets its contract: the same byte, or the other spelling of the second.
use borrow.Author.Tests.{eq-eqb, ne_eqb}
use lib.Dec.{eqb}
use mathlib.Core.Bool.{true}
use mathlib.Core.Path.{◌≡◌, sym, ◌∙◌}
use Rattle.letters.proofs.LetterLaws.{match_other, either_yes, either_no}
use Rattle.letters.proofs.letters_match.Goals as goal

pub returns-then-p-q : goal.returns-then-p-q
returns-then-p-q c = let e : eqb c.args.p c.args.q ≡ true = eq-eqb _ _ c.if-p-q.true in e ∙ sym (match_other _ _ ∙ either_yes _ _ e)

pub returns-else-p-q : goal.returns-else-p-q
returns-else-p-q c = rw c.other_letter.ensures (sym (match_other _ _ ∙ either_no _ _ (ne_eqb _ _ c.if-p-q.false)))
