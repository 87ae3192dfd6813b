-- The refusals and the answers of verify, case by case.
use Prim.Native.Nat.{ℕ, ◌≤◌}
use mathlib.Core.Path.{◌≡◌, refl, sym, ap, ◌∙◌}
use mathlib.Core.Bool.{Bool, true, false, not, true≢false}
use mathlib.Core.List.{List}
use native.Mathlib.Omega.{arith}
use lib.ListN.{length}
use borrow.Author.Tests.{eq-eqb, ne_eqb, eqb-true}
use Rattle.refusals.specs.declared.Refusal.{Refusal}
use Rattle.std.specs.Prelude.{Ok, Err}
use Rattle.lists.specs.Vocabulary.{nth}
use Rattle.strand.specs.declared.Fold.{Fold}
use Rattle.strand.specs.Folds.{fold_of, IsFold}
use Rattle.letters.specs.Letters.{letters_match}
use Rattle.strand.specs.Strands.{Inside, Nested, greatest_length, pair_verdict}
use Rattle.refusals.specs.Rules.{Verdict, wrong_slice, no_side, refusal, Refuses, TableSide, is_neither, TableSides}
use Rattle.lists.proofs.ListLaws.{Tells, not_not}
use Rattle.refusals.proofs.RuleLaws.{first_one, first_pass, first_skip, first_stop, rule_yes, rule_no, rule_pass, by_refused, by_accepted}
use Rattle.refusals.proofs.Refusing.{Numbering, call_number, if_numbered, none_numbered, first_numbered, refuses_by, when_side, none_side, first_side}
use Rattle.strand.proofs.FoldLaws.{fold_is, fold_only}
use Rattle.strand.proofs.VerdictLaws.{pair_proper, proper_pair, proper_mates, pair_numbered, pair_sides}
use Rattle.embedding.specs.declared.Verified.{Verified}
use Rattle.embedding.specs.Longest.{verified, verify_verdict, VerifyAnswer, verify_answer, EmbedsAt, VerifySays, VerifyAccepts}
use Rattle.embedding.proofs.Answers.{not_true_is, tells_yes, tells_no}
use Rattle.embedding.proofs.Computed.{verified_iff}

module _ (p pm q qm v : List ℕ) where
  -- What the judge finds.
  pub judged_pair : (x : Refusal) → pair_verdict p pm q qm ≡ Err x → Err x ≡ verify_verdict p pm q qm v
  unfolding verify_verdict
  judged_pair x e = sym (first_stop _ _ x e)

  pub judged_count : pair_verdict p pm q qm ≡ Ok tt → (length v ≡ length p → ⊥) → refusal wrong_slice no_side 0 ≡ verify_verdict p pm q qm v
  unfolding verify_verdict
  judged_count e n = sym (first_skip _ _ e ∙ first_stop _ _ _ (rule_yes wrong_slice no_side _ (ap not (ne_eqb (length v) (length p) n))))

  pub judged_pass : pair_verdict p pm q qm ≡ Ok tt → length v ≡ length p → Ok tt ≡ verify_verdict p pm q qm v
  unfolding verify_verdict
  judged_pass e l = sym (first_skip _ _ e ∙ first_one _ ∙ rule_no wrong_slice no_side _ (ap not (eq-eqb (length v) (length p) l)))

  -- What an accepted call knows.
  accepted_pair : verify_verdict p pm q qm v ≡ Ok tt → pair_verdict p pm q qm ≡ Ok tt
  unfolding verify_verdict
  accepted_pair e = (first_pass _ _ e).0

  accepted_count : verify_verdict p pm q qm v ≡ Ok tt → length v ≡ length p
  unfolding verify_verdict
  accepted_count e = eqb-true _ _ (not_not _ (rule_pass wrong_slice no_side _ (first_pass _ _ (first_pass _ _ e).1).0))

  -- What the places have to be before they are tested.
  pub accepted_facts : verify_verdict p pm q qm v ≡ Ok tt
      → (length v ≡ length p) × (((length pm ≡ length p) × (length qm ≡ length q)) × Inside (nth pm) (length pm))
  accepted_facts e =
      let P = pair_proper p pm q qm (accepted_pair e) in
      let s : length pm ≡ length p = P.motif.same in
      (accepted_count e, ((s, P.molecule.same), λ i h. omega (arith, P.motif.nested.inside i (omega arith))))

  pub accepted_mates : verify_verdict p pm q qm v ≡ Ok tt → Nested (nth qm) (length qm) × (length qm ≤ greatest_length)
  accepted_mates e = proper_mates (omega arith) (pair_proper p pm q qm (accepted_pair e)).molecule

  -- The answers.
  pub answer_refused : (x : Refusal) → verify_verdict p pm q qm v ≡ Err x → Err x ≡ verify_answer p pm q qm v
  answer_refused x e = sym (by_refused _ _ _ x e)

  pub answer_accepted : verify_verdict p pm q qm v ≡ Ok tt → (b : Bool) (f : Fold) → b ≡ verified letters_match p pm q qm v → f ≡ fold_of qm
      → ◌≡◌ {A = VerifyAnswer} (Ok (record { embeds = b; fold = f })) (verify_answer p pm q qm v)
  answer_accepted e b f t g = rw (t, g) (sym (by_accepted _ _ _ e))

  -- A test that tells whether the places are an embedding is the one of the definition.
  pub tells_verified : verify_verdict p pm q qm v ≡ Ok tt → (b : Bool) → Tells b (EmbedsAt p pm q qm v) → b ≡ verified letters_match p pm q qm v
  tells_verified e true T = sym ((verified_iff letters_match p pm q qm v).1 (accepted_count e, T.yes refl))
  tells_verified e false T = sym (not_true_is _ (λ t. T.no refl ((verified_iff letters_match p pm q qm v).0 t).1))

  -- What an answer tells of the call: it is accepted, the test answered so, and the fold is that of Q.
  answer_told : (b : Bool) (f : Fold) → verify_answer p pm q qm v ≡ Ok (record { embeds = b; fold = f })
      → (verify_verdict p pm q qm v ≡ Ok tt) × (verified letters_match p pm q qm v ≡ b) × IsFold qm f
  answer_told b f a = go (verify_verdict p pm q qm v) refl
    where
      go : (w : Verdict) → verify_verdict p pm q qm v ≡ w → (verify_verdict p pm q qm v ≡ Ok tt) × (verified letters_match p pm q qm v ≡ b) × IsFold qm f
      go (Err x) e = let z = answer_refused x e ∙ a in cc
      go (Ok u) e =
          let z = answer_accepted e _ _ refl refl ∙ a in
          let same : ◌≡◌ {A = Verified} (record { embeds = verified letters_match p pm q qm v; fold = fold_of qm }) (record { embeds = b; fold = f }) = cc in
          let g : fold_of qm ≡ f = ap (λ (r : Verified). r.fold) same in
          (e, ap (λ (r : Verified). r.embeds) same, rw g at (fold_is qm))

  pub verify_says : VerifySays p pm q qm v (verify_answer p pm q qm v)
  verify_says =
      record {
        yes = λ f. (
          (λ a. let t = answer_told true f a in (t.0, ((verified_iff letters_match p pm q qm v).0 t.1).1, t.2)),
          (λ h. sym (answer_accepted h.0 true f (tells_verified h.0 true (tells_yes h.1)) (fold_only qm f h.2))),
        );
        no = λ f. (
          (λ a.
              let t = answer_told false f a in
              (t.0, (λ E. true≢false (sym ((verified_iff letters_match p pm q qm v).1 (accepted_count t.0, E)) ∙ t.1)), t.2)),
          (λ h. sym (answer_accepted h.0 false f (tells_verified h.0 false (tells_no h.1)) (fold_only qm f h.2))),
        );
      }

  pub verify_accepts : VerifyAccepts p pm q qm v
  verify_accepts = (
    (λ e. (pair_proper p pm q qm (accepted_pair e), accepted_count e)),
    (λ h. sym (judged_pass (proper_pair p pm q qm h.0) h.1)),
  )

  verify_numbered : Numbering (verify_verdict p pm q qm v)
  unfolding verify_verdict
  verify_numbered =
      first_numbered _ _ (pair_numbered p pm q qm)
      (first_numbered _ _ (if_numbered wrong_slice no_side (call_number 9 0 (omega arith) (omega arith) (λ n. refl)) _) none_numbered)

  pub verify_sides : TableSides (verify_verdict p pm q qm v)
  unfolding verify_verdict
  verify_sides =
      first_side TableSide _ _ (pair_sides p pm q qm)
      (first_side TableSide _ _ (when_side TableSide wrong_slice no_side _ (is_neither refl)) (none_side TableSide))

  -- It tells a refusal exactly where the rules refuse.
  pub verify_refuses : Refuses (verify_verdict p pm q qm v) Err (verify_answer p pm q qm v)
  verify_refuses =
      refuses_by {E = VerifyAnswer} (verify_verdict p pm q qm v) Err _ (λ r. r) Err (λ r. refl) (λ r e. cc) verify_numbered (λ r s e. cc)
