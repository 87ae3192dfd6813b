-- The claims of specs/Statements hold. An accepted answer is a window exactly where the definition's search finds one, and that one is the tightest.
use Prim.Native.Nat.{ℕ}
use mathlib.Core.Path.{◌≡◌, refl, sym, ap, ◌∙◌}
use mathlib.Core.Logic.{◌↔◌}
use mathlib.Core.List.{List, []}
use native.Mathlib.Decide.{dec_lt}
use native.Mathlib.Omega.{arith}
use lib.Dec.{leb}
use lib.ListN.{length}
use Rattle.refusals.specs.declared.Refusal.{Refusal}
use Rattle.std.specs.Prelude.{Option, Some, None, Ok, Err}
use Rattle.refusals.proofs.RuleLaws.{by_accepted, by_refused}
use Rattle.refusals.proofs.Refusing.{refuses_by}
use Rattle.refusals.specs.Rules.{Verdict, Refuses}
use Rattle.strand.specs.declared.Fold.{Fold}
use Rattle.strand.specs.Folds.{fold_of, IsFold}
use Rattle.letters.specs.Letters.{letters_match, ReadAlike}
use Rattle.strand.specs.Strands.{strand_of}
use Rattle.strand.proofs.FoldLaws.{fold_is, fold_only}
use Rattle.embedding.specs.Embedding.{EmbedsIn}
use Rattle.embedding.specs.Windows.{tightest_length, IsTightest, WindowsSay}
use Rattle.embedding.proofs.Answers.{by_test}
use Rattle.embedding.proofs.Spellings.{spelled_found}
use Rattle.embedding.proofs.Claims as embedding
use Rattle.matcher.specs.Answers.{length_verdict, empty_motif_verdict}
use Rattle.matcher.proofs.Claims as matcher
use Rattle.window.specs.declared.search.Window.{Window}
use Rattle.window.specs.declared.Tightest.{Tightest}
use Rattle.window.specs.Answers.{Windowed, window_at, window_nowhere, window_of, window_answer, WindowSays, EmptyMotifWindowed}
use Rattle.window.specs.Statements.{Claims}
use Rattle.window.proofs.AnswerLaws.{window_facts, answer_refused, answer_at, answer_nowhere}

-- Two answers that are the same have the same window, and the same fold; and none is no window.
same_fold : {f g : Fold} → window_nowhere f ≡ window_nowhere g → f ≡ g
same_fold {f} {g} e = let same : ◌≡◌ {A = Tightest} (record { window = None; fold = f }) (record { window = None; fold = g }) = cc in
    ap (λ (r : Tightest). r.fold) same

same_window : {s t w x : ℕ} {f g : Fold} → window_at s w f ≡ window_at t x g → (s ≡ t) × (w ≡ x) × (f ≡ g)
same_window {s} {t} {w} {x} {f} {g} e =
    let here : Window = record { start = s; length = w } in
    let there : Window = record { start = t; length = x } in
    let same : ◌≡◌ {A = Tightest} (record { window = Some here; fold = f }) (record { window = Some there; fold = g }) = cc in
    let windows : ◌≡◌ {A = Option Window} (Some here) (Some there) = ap (λ (r : Tightest). r.window) same in
    let stretch : here ≡ there = cc in
    (ap (λ (r : Window). r.start) stretch, ap (λ (r : Window). r.length) stretch, ap (λ (r : Tightest). r.fold) same)

apart : {s w : ℕ} {f g : Fold} → window_at s w f ≡ window_nowhere g → ⊥
apart {s} {w} {f} {g} e =
    let here : Window = record { start = s; length = w } in
    let same : ◌≡◌ {A = Tightest} (record { window = Some here; fold = f }) (record { window = None; fold = g }) = cc in
    let windows : ◌≡◌ {A = Option Window} (Some here) None = ap (λ (r : Tightest). r.window) same in
    cc

module _ (p pm q qm : List ℕ) (work : ℕ) where
  abbrev v : Verdict
  v = length_verdict p pm q qm work

  abbrev answer : Windowed
  answer = window_answer p pm q qm work

  -- What an answer is: a refusal, the tightest window, or none.
  data Case : Type 0 where
    refused : (r : Windowed) → ((s w : ℕ) (f : Fold) → r ≡ window_at s w f → ⊥) → ((f : Fold) → r ≡ window_nowhere f → ⊥) → r ≡ answer → (v ≡ Ok tt → ⊥) → Case
    at : (s w : ℕ) → v ≡ Ok tt → IsTightest letters_match p pm q qm s w → window_at s w (fold_of qm) ≡ answer → Case
    nowhere : v ≡ Ok tt → (EmbedsIn (strand_of p pm) (strand_of q qm) → ⊥) → window_nowhere (fold_of qm) ≡ answer → Case

  says : v ≡ Ok tt → WindowsSay letters_match p pm q qm
  says e = (embedding.claims).windows_say letters_match p pm q qm (window_facts p pm q qm work e).0.motif.nested.inside

  accepted : v ≡ Ok tt → Case
  accepted e = elim (dec_lt (length q) (tightest_length letters_match p pm q qm)) [
    | yes h ↦ nowhere e (λ E. omega (arith, (says e).found_when.1 E)) (answer_nowhere p pm q qm work e (fold_of qm) h refl)
    | no h ↦ let I = (says e).found (omega arith) in at _ _ e I (answer_at p pm q qm work e _ _ (fold_of qm) I refl)
  ]

  case : Case
  case = go v refl
    where
      go : (u : Verdict) → v ≡ u → Case
      go (Err x) e =
          refused (Err x) (λ s w f i. cc) (λ f i. cc) (answer_refused p pm q qm work x e) (λ i. let k = sym e ∙ i in cc)
      go (Ok u) e = accepted e

  -- P embeds in Q exactly when some window is the tightest.
  embeds_at_lem : v ≡ Ok tt → {s w : ℕ} → IsTightest letters_match p pm q qm s w → EmbedsIn (strand_of p pm) (strand_of q qm)
  embeds_at_lem e {s} {w} I = let U = (says e).unique s w I in (says e).found_when.0 (omega (arith, I.here.inside, U.0))

  window_says : WindowSays v p pm q qm answer
  window_says = record { at = at_says; somewhere = (somewhere_to, somewhere_from); nowhere = nowhere_says }
    where
      at_to : (s w : ℕ) (f : Fold) → Case → answer ≡ window_at s w f → (v ≡ Ok tt) × IsTightest letters_match p pm q qm s w × IsFold qm f
      at_to s w f (refused r n m i k) e = absurd (n s w f (i ∙ e))
      at_to s w f (at s' w' k I i) e =
          let j = same_window (i ∙ e) in let a : s' ≡ s = j.0 in let b : w' ≡ w = j.1 in let c : fold_of qm ≡ f = j.2 in
          (k, rw (a, b) at I, rw c at (fold_is qm))
      at_to s w f (nowhere k n i) e = absurd (apart (sym (i ∙ e)))

      at_says : (s w : ℕ) (f : Fold) → (answer ≡ window_at s w f) ↔ ((v ≡ Ok tt) × IsTightest letters_match p pm q qm s w × IsFold qm f)
      at_says s w f = (at_to s w f case, (λ h. sym (answer_at p pm q qm work h.0 s w f h.1 (fold_only qm f h.2))))

      somewhere_to : ((s : ℕ) × (w : ℕ) × (f : Fold) × (answer ≡ window_at s w f)) → (v ≡ Ok tt) × EmbedsIn (strand_of p pm) (strand_of q qm)
      somewhere_to (s, w, f, e) = let a = at_to s w f case e in (a.0, embeds_at_lem a.0 a.1)

      somewhere_from : (v ≡ Ok tt) × EmbedsIn (strand_of p pm) (strand_of q qm) → (s : ℕ) × (w : ℕ) × (f : Fold) × (answer ≡ window_at s w f)
      somewhere_from h =
          let I = (says h.0).found ((says h.0).found_when.1 h.1) in
          (_, _, fold_of qm, sym (answer_at p pm q qm work h.0 _ _ (fold_of qm) I refl))

      nowhere_to : (f : Fold) → Case → answer ≡ window_nowhere f → (v ≡ Ok tt) × (EmbedsIn (strand_of p pm) (strand_of q qm) → ⊥) × IsFold qm f
      nowhere_to f (refused r n m i k) e = absurd (m f (i ∙ e))
      nowhere_to f (at s w k I i) e = absurd (apart (i ∙ e))
      nowhere_to f (nowhere k n i) e = (k, n, rw (same_fold (i ∙ e)) at (fold_is qm))

      nowhere_says : (f : Fold) → (answer ≡ window_nowhere f) ↔ ((v ≡ Ok tt) × (EmbedsIn (strand_of p pm) (strand_of q qm) → ⊥) × IsFold qm f)
      nowhere_says f = (
        nowhere_to f case,
        (λ h. sym (answer_nowhere p pm q qm work h.0 f (omega (arith, (says h.0).none_when.1 h.1)) (fold_only qm f h.2))),
      )

  not_refused : (w : ℕ) (r : Refusal) → window_of p pm q qm w ≡ Err r → ⊥
  unfolding window_of
  not_refused w r = by_test (λ (a : Windowed). a ≡ Err r → ⊥) (leb w (length q)) (λ t e. cc) (λ t e. cc)

  window_refuses : Refuses v Err answer
  unfolding window_answer
  window_refuses =
      refuses_by {E = Windowed} v Err _ (λ r. r) Err (λ r. refl) (not_refused (tightest_length letters_match p pm q qm))
      ((matcher.claims).length_refuses p pm q qm work).numbered (λ r s e. cc)

-- The motif with no bases: where the call is accepted, the window of no bases at the start is the tightest.
empty_motif_windowed : (q qm : List ℕ) (work : ℕ) → EmptyMotifWindowed q qm work
empty_motif_windowed q qm work = go (v [] [] q qm work) refl
  where
    rules : v [] [] q qm work ≡ empty_motif_verdict q qm work
    rules = ((matcher.claims).empty_motif_matched q qm work).length_verdict_lem

    go : (u : Verdict) → v [] [] q qm work ≡ u → EmptyMotifWindowed q qm work
    go (Err x) e = sym (answer_refused [] [] q qm work x e) ∙ sym (by_refused _ _ _ x (sym rules ∙ e))
    go (Ok u) e =
        sym (answer_at [] [] q qm work e 0 0 (fold_of qm) ((says [] [] q qm work e).empty refl) refl) ∙ sym (by_accepted _ _ _ (sym rules ∙ e))

-- Two spellings: the rules are those of length, and the tightest window is the same.
alike_window : {p q p' q' : List ℕ} → ReadAlike p p' → ReadAlike q q' → (pm qm : List ℕ) (work : ℕ)
    → window_answer p pm q qm work ≡ window_answer p' pm q' qm work
unfolding window_answer window_of
alike_window P Q pm qm work =
    let S = spelled_found P Q pm qm in
    rw (matcher.alike_rules P Q pm qm work, S.same_tightest, S.same_start, Q.many) refl

pub claims : Claims
claims =
    record {
      window_says = window_says;
      window_refuses = window_refuses;
      empty_motif_windowed = empty_motif_windowed;
      window_respelled = λ p pm q qm p' q' work P Q. alike_window P Q pm qm work;
    }
