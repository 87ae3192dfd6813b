-- The claims of specs/Statements hold: letters and the rule by cases, the rest by classes.
use Prim.Native.Nat.{ℕ}
use mathlib.Core.Path.{◌≡◌, refl, sym, ap, ◌∙◌}
use mathlib.Core.Bool.{Bool, true, false, true≢false, ◌&&◌, ◌||◌}
use mathlib.Core.Logic.{◌⊎◌, inl, inr, ◌↔◌}
use native.Mathlib.Decide.{ℕ_discrete}
use lib.Dec.{eqb}
use borrow.Author.Tests.{eq-eqb, ne_eqb, eqb-true}
use Rattle.refusals.specs.declared.Side.{Side}
use Rattle.letters.specs.Letters.{is_t_or_u, is_letter, letters_match}
use Rattle.letters.specs.Classes.{letter_class}
use Rattle.letters.specs.Statements.{AmongTU, LetterSays, MatchSays, MatchesAlike, Claims}
use Rattle.letters.proofs.LetterLaws.{match_class, one_class, letter_class_lem}

-- One of two tests passes exactly when one of two propositions holds, where each test says its proposition; both pass exactly when both hold.
or_says : {P Q : Type 0} (a b : Bool) → (a ≡ true) ↔ P → (b ≡ true) ↔ Q → ((a || b) ≡ true) ↔ (P ⊎ Q)
or_says true b f g = ((λ e. inl (f.0 refl)), (λ h. refl))
or_says {P} {Q} false b f g = ((λ e. inr (g.0 e)), one)
  where
    one : P ⊎ Q → b ≡ true
    one (inl p) = absurd (true≢false (sym (f.1 p)))
    one (inr q) = g.1 q

and_says : {P Q : Type 0} (a b : Bool) → (a ≡ true) ↔ P → (b ≡ true) ↔ Q → ((a && b) ≡ true) ↔ (P × Q)
and_says true b f g = ((λ e. (f.0 refl, g.0 e)), (λ h. g.1 h.1))
and_says false b f g = ((λ e. absurd (true≢false (sym e))), (λ h. f.1 h.0))

same_says : (b c : ℕ) → (eqb b c ≡ true) ↔ (b ≡ c)
same_says b c = (eqb-true b c, eq-eqb b c)

among_says : (b : ℕ) → (is_t_or_u b ≡ true) ↔ AmongTU b
among_says b = or_says _ _ (same_says b 84) (same_says b 85)

or_right : (a b c d : Bool) → (a || b || c || d) ≡ (a || (b || (c || d)))
or_right true b c d = refl
or_right false true c d = refl
or_right false false c d = refl

letter_says : (side : Side) (b : ℕ) → LetterSays side b
unfolding is_letter
letter_says side b =
    rw (or_right (eqb b 65) (eqb b 67) (eqb b 71) (is_t_or_u b))
    (or_says _ _ (same_says b 65) (or_says _ _ (same_says b 67) (or_says _ _ (same_says b 71) (among_says b))))

match_says : (p q : ℕ) → MatchSays p q
unfolding letters_match
match_says p q = or_says _ _ (same_says p q) (and_says _ _ (among_says p) (among_says q))

turned : (a b : ℕ) → eqb a b ≡ eqb b a
turned a b = elim (ℕ_discrete a b) [
  | yes e ↦ rw e refl
  | no n ↦ ne_eqb a b n ∙ sym (ne_eqb b a (λ e. n (sym e)))
]

matches_alike : MatchesAlike
matches_alike =
    record {
      itself = λ b. match_class b b ∙ eq-eqb (letter_class b) (letter_class b) refl;
      either = λ p q. match_class p q ∙ turned (letter_class p) (letter_class q) ∙ sym (match_class q p);
      alike = λ a b c e. match_class a c ∙ ap (λ (k : ℕ). eqb k (letter_class c)) (one_class a b e) ∙ sym (match_class b c);
      letter = λ side a b e. sym (letter_class_lem side a) ∙ ap (is_letter side) (one_class a b e) ∙ letter_class_lem side b;
    }

pub claims : Claims
claims = record { letter_says = letter_says; match_says = match_says; matches_alike = matches_alike }
