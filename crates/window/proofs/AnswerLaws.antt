-- The answer of the call window: what an accepted call knows, and that the window which the search found is the one of the definition.
use Prim.Native.Nat.{ℕ, ◌≤◌, ◌<◌}
use mathlib.Core.Path.{◌≡◌, refl, sym, ◌∙◌}
use mathlib.Core.List.{List}
use native.Mathlib.Omega.{arith}
use lib.Dec.{leb}
use Rattle.std.specs.Prelude.{Option, Some, None}
use lib.ListN.{length}
use borrow.Author.Tests.{le-leb, lt-leb}
use Rattle.lists.specs.Vocabulary.{nth}
use Rattle.lists.proofs.ListLaws.{choose_yes, choose_no}
use Rattle.refusals.specs.declared.Refusal.{Refusal}
use Rattle.std.specs.Prelude.{Ok, Err}
use Rattle.refusals.specs.Rules.{work_size}
use Rattle.refusals.proofs.RuleLaws.{by_refused, by_accepted}
use Rattle.strand.specs.declared.Fold.{Fold}
use Rattle.strand.specs.Folds.{fold_of}
use Rattle.letters.specs.Letters.{letters_match}
use Rattle.strand.specs.Strands.{Nested, Pair, greatest_length}
use Rattle.strand.proofs.VerdictLaws.{proper_mates}
use Rattle.embedding.specs.Windows.{tightest_length, first_start, IsTightest}
use Rattle.embedding.proofs.Claims as embedding
use Rattle.matcher.specs.Answers.{length_verdict}
use Rattle.matcher.proofs.Claims as matcher
use Rattle.window.specs.declared.search.Window.{Window}
use Rattle.window.specs.Answers.{Windowed, window_at, window_nowhere, window_of, window_answer}
use Rattle.window.specs.Search.{Found}

module _ (p pm q qm : List ℕ) (work : ℕ) where
  pub answer_refused : (x : Refusal) → length_verdict p pm q qm work ≡ Err x → Err x ≡ window_answer p pm q qm work
  unfolding window_answer
  answer_refused x e = sym (by_refused (length_verdict p pm q qm work) Err _ x e)

  module _ (e : length_verdict p pm q qm work ≡ Ok tt) where
    pub window_facts : Pair p pm q qm × (work_size (length p) (length q) ≤ work)
    window_facts = ((matcher.claims).length_accepts p pm q qm work).0 e

    pub window_mates_lem : Nested (nth qm) (length qm) × (length qm ≤ greatest_length)
    window_mates_lem = proper_mates (omega arith) window_facts.0.molecule

    -- The answer of an accepted call, where the tightest window has w bases.
    answer_of : (w : ℕ) → w ≡ tightest_length letters_match p pm q qm → window_answer p pm q qm work ≡ window_of p pm q qm w
    unfolding window_answer
    answer_of w i = rw i (by_accepted (length_verdict p pm q qm work) Err _ e)

    pub answer_at : (s w : ℕ) (f : Fold) → IsTightest letters_match p pm q qm s w → f ≡ fold_of qm → window_at s w f ≡ window_answer p pm q qm work
    unfolding window_of
    answer_at s w f I g =
        let U = ((embedding.claims).windows_say letters_match p pm q qm window_facts.0.motif.nested.inside).unique s w I in
        let i : s ≡ first_start letters_match p pm q qm w = rw U.0 U.1 in
        rw (i, g) (sym (answer_of w U.0 ∙ choose_yes (leb w (length q)) _ _ (le-leb w (length q) (omega (arith, I.here.inside)))))

    pub answer_nowhere : (f : Fold) → length q < tightest_length letters_match p pm q qm → f ≡ fold_of qm → window_nowhere f ≡ window_answer p pm q qm work
    unfolding window_of
    answer_nowhere f h g = rw g (sym (answer_of _ refl ∙ choose_no (leb (tightest_length letters_match p pm q qm) (length q)) _ _ (lt-leb _ _ h)))

    -- The end of the search.
    module _ {best : Option Window} (F : Found p pm q qm best) (f : Fold) (g : f ≡ fold_of qm) where
      pub found_at_lem : (w : Window) → best ≡ Some w → window_at w.start w.length f ≡ window_answer p pm q qm work
      found_at_lem w h = answer_at w.start w.length f (F.tightest w h) g

      pub found_nowhere : best ≡ None → window_nowhere f ≡ window_answer p pm q qm work
      found_nowhere h =
          let W = (embedding.claims).windows_say letters_match p pm q qm window_facts.0.motif.nested.inside in
          answer_nowhere f (omega (arith, W.none_when.1 (F.none h))) g

    -- What the search answers is the call's window.
    pub answered : (best : Option Window) → Found p pm q qm best → (f : Fold) → f ≡ fold_of qm
        → ◌≡◌ {A = Windowed} (Ok (record { window = best; fold = f })) (window_answer p pm q qm work)
    answered None F f g = found_nowhere F f g refl
    answered (Some w) F f g = found_at_lem F f g w refl
