-- The refusals of length and show, rule by rule, and what an accepted call knows.
use mathlib.Core.Path.{◌≡◌, sym, ap₂, ◌∙◌}
use mathlib.Core.List.{List, [], ◌∷◌}
use Prim.Native.Nat.{ℕ, ◌≤◌, ◌<◌}
use native.Mathlib.Omega.{arith}
use lib.ListN.{length}
use borrow.Author.Tests.{lt-ltb, le-ltb, ltb-false}
use Rattle.refusals.specs.declared.Refusal.{Refusal}
use Rattle.std.specs.Prelude.{Ok, Err}
use Rattle.strand.specs.declared.Fold.{Fold}
use Rattle.strand.specs.Strands.{Nested, greatest_length, pair_verdict, Pair}
use Rattle.lists.specs.Vocabulary.{nth}
use Rattle.refusals.specs.Rules.{Verdict, work_too_short, wrong_slice, no_side, refusal, first, by_verdict, work_size, work_rule}
use Rattle.refusals.proofs.RuleLaws.{rule_yes, rule_no, rule_pass, first_one, first_pass, first_skip, first_stop, by_refused, by_accepted}
use Rattle.strand.proofs.VerdictLaws.{pair_proper, proper_mates}
use Rattle.arcs.specs.Arcs.{Setting}
use Rattle.placing.specs.Placing.{Laid}
use Rattle.walk.proofs.Whole.{whole_setting}
use Rattle.matcher.specs.Answers.{matched_prefix, Shown, places_rule, length_verdict, show_verdict}

-- The answer by a verdict v.
module _ (v : Verdict) (L : ℕ) (F : Fold) where
  pub answer_refused : (x : Refusal) → v ≡ Err x → Err x ≡ by_verdict v Err (matched_prefix L F)
  answer_refused x e = sym (by_refused v Err (matched_prefix L F) x e)

  pub answer_prefix : (k : ℕ) (f : Fold) → v ≡ Ok tt → k ≡ L → f ≡ F → matched_prefix k f ≡ by_verdict v Err (matched_prefix L F)
  answer_prefix k f e h g = ap₂ (λ (l : ℕ) (x : Fold). matched_prefix l x) h g ∙ sym (by_accepted v Err (matched_prefix L F) e)

module _ (p pm q qm : List ℕ) where
  pub pair_setting : pair_verdict p pm q qm ≡ Ok tt → Setting p pm q qm 0 (length p)
  pair_setting e = let P = pair_proper p pm q qm e in whole_setting P.motif P.molecule

  pair_mates : pair_verdict p pm q qm ≡ Ok tt → Nested (nth qm) (length qm) × (length qm ≤ greatest_length)
  pair_mates e = proper_mates (omega arith) (pair_proper p pm q qm e).molecule

  module _ (work : ℕ) where
    work_no : work_size (length p) (length q) ≤ work → work_rule (length p) (length q) work ≡ Ok tt
    work_no h = rule_no work_too_short no_side _ (le-ltb work (work_size (length p) (length q)) h)

    work_yes : work < work_size (length p) (length q) → work_rule (length p) (length q) work ≡ refusal work_too_short no_side 0
    work_yes h = rule_yes work_too_short no_side _ (lt-ltb work (work_size (length p) (length q)) h)

    pub length_pair : (x : Refusal) → pair_verdict p pm q qm ≡ Err x → Err x ≡ length_verdict p pm q qm work
    unfolding length_verdict
    length_pair x e = sym (first_stop _ _ x e)

    module _ (e : pair_verdict p pm q qm ≡ Ok tt) where
      pub length_work : work < work_size (length p) (length q) → refusal work_too_short no_side 0 ≡ length_verdict p pm q qm work
      unfolding length_verdict
      length_work h = sym (first_skip _ _ e ∙ first_stop _ _ _ (work_yes h))

      pub length_accepts : work_size (length p) (length q) ≤ work → Ok tt ≡ length_verdict p pm q qm work
      unfolding length_verdict
      length_accepts h = sym (first_skip _ _ e ∙ first_one _ ∙ work_no h)

    work_of : first (work_rule (length p) (length q) work ∷ []) ≡ Ok tt → work_size (length p) (length q) ≤ work
    work_of e = ltb-false _ _ (rule_pass work_too_short no_side _ (first_pass (work_rule (length p) (length q) work) [] e).0)

    pub length_rules : length_verdict p pm q qm work ≡ Ok tt → (pair_verdict p pm q qm ≡ Ok tt) × (work_size (length p) (length q) ≤ work)
    unfolding length_verdict
    length_rules e =
        let a = first_pass (pair_verdict p pm q qm) (work_rule (length p) (length q) work ∷ []) e in
        (a.0, work_of a.1)

    pub length_facts : length_verdict p pm q qm work ≡ Ok tt → Pair p pm q qm × (work_size (length p) (length q) ≤ work)
    length_facts e = let a = length_rules e in (pair_proper p pm q qm a.0, a.1)

    pub length_mates : length_verdict p pm q qm work ≡ Ok tt → Nested (nth qm) (length qm) × (length qm ≤ greatest_length)
    length_mates e = pair_mates (length_rules e).0

    module _ (places : ℕ) where
      pub show_pair : (x : Refusal) → pair_verdict p pm q qm ≡ Err x → Err x ≡ show_verdict p pm q qm places work
      unfolding show_verdict
      show_pair x e = sym (first_stop _ _ x e)

      module _ (e : pair_verdict p pm q qm ≡ Ok tt) where
        pub show_places : places < length p → refusal wrong_slice no_side 0 ≡ show_verdict p pm q qm places work
        unfolding show_verdict
        show_places h = sym (first_skip _ _ e ∙ first_stop _ _ _ (rule_yes wrong_slice no_side _ (lt-ltb places (length p) h)))

        module _ (k : length p ≤ places) where
          places_no : places_rule (length p) places ≡ Ok tt
          places_no = rule_no wrong_slice no_side _ (le-ltb places (length p) k)

          pub show_work : work < work_size (length p) (length q) → refusal work_too_short no_side 0 ≡ show_verdict p pm q qm places work
          unfolding show_verdict
          show_work h = sym (first_skip _ _ e ∙ first_skip _ _ places_no ∙ first_stop _ _ _ (work_yes h))

          pub show_accepts : work_size (length p) (length q) ≤ work → Ok tt ≡ show_verdict p pm q qm places work
          unfolding show_verdict
          show_accepts h = sym (first_skip _ _ e ∙ first_skip _ _ places_no ∙ first_one _ ∙ work_no h)

      pub show_rules : show_verdict p pm q qm places work ≡ Ok tt
          → (pair_verdict p pm q qm ≡ Ok tt) × (length p ≤ places) × (work_size (length p) (length q) ≤ work)
      unfolding show_verdict
      show_rules e =
          let a = first_pass (pair_verdict p pm q qm) (places_rule (length p) places ∷ work_rule (length p) (length q) work ∷ []) e in
          let b = first_pass (places_rule (length p) places) (work_rule (length p) (length q) work ∷ []) a.1 in
          (a.0, ltb-false _ _ (rule_pass wrong_slice no_side _ b.0), work_of b.1)

      pub show_facts : show_verdict p pm q qm places work ≡ Ok tt
          → Setting p pm q qm 0 (length p) × (length p ≤ places) × (work_size (length p) (length q) ≤ work)
      show_facts e = let a = show_rules e in (pair_setting a.0, a.1, a.2)

      pub show_mates : show_verdict p pm q qm places work ≡ Ok tt → Nested (nth qm) (length qm) × (length qm ≤ greatest_length)
      show_mates e = pair_mates (show_rules e).0

-- Places laid from 0 are places shown.
pub shown_of : {p pm q qm : List ℕ} {k : ℕ} {old new : List ℕ} → Laid p pm q qm 0 k 0 (length q) old new → Shown p pm q qm k old new
shown_of W = record { long = W.long; embeds = W.embeds; kept = λ x h. W.after x h }
