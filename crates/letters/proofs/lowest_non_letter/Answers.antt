-- `letters::lowest_non_letter` meets its contract: where all bases are letters it is the length; else what `position` finds is the lowest.
use borrow.Author.Rules.{rules}
use Prim.Native.Nat.{ℕ}
use borrow.Author.Tests.{tests}
use mathlib.Core.Bool.{Bool, true, false}
use mathlib.Core.Path.{sym, ◌∙◌, ◌≡◌}
use Rattle.lists.proofs.ListLaws.{lowest_all, lowest_position}
use Rattle.std.proofs.lemmas.Iterator.{IsFirst-from_position, YieldsList-from_slice}
use Rattle.letters.specs.Letters.{is_letter, not_letter}
use Rattle.letters.proofs.LetterLaws.{none_other, other_found, letter_found}
use Rattle.letters.proofs.lowest_non_letter.Goals as goal

pub returns-then-all_letters : goal.returns-then-all_letters
returns-then-all_letters c =
    let args = c.args in
    sym (lowest_all _ _ (none_other args.side args.bases.now (sym c.all_letters.ensures ∙ c.if-all_letters.true)))

pub returns : goal.returns
returns c =
    let test : ℕ → Bool = is_letter c.args.side in
    c.unwrap_or.ensures
    ∙ lowest_position (not_letter c.args.side c.args.bases.now) (λ b. test b ≡ false) (λ b. test b ≡ true) c.args.bases.now c.position.result
    (λ i l e. other_found _ _ i e) (λ i l e. letter_found _ _ i e)
    (IsFirst-from_position _ _ _ (λ b. test b ≡ false) (λ b. test b ≡ true) c.position.ensures.ran
    (YieldsList-from_slice c.args.bases.now cc) (λ x q k. search (rules, tests)) (λ x q k. search (rules, tests)))
