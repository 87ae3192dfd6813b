-- The tightest window: the test of a window says whether it carries P, and the lowest length that passes, with the lowest start for it, is the tightest
-- window. There is one exactly when P embeds in Q, for the whole of Q is a window, and what a window carries Q carries too.
use Prim.Native.Nat.{ℕ, suc, ◌+◌, ◌-◌, ◌≤◌, ◌<◌}
use mathlib.Core.Path.{◌≡◌, ◌∙◌}
use mathlib.Core.Bool.{Bool, true}
use mathlib.Core.Logic.{◌↔◌}
use mathlib.Core.List.{List}
use native.Mathlib.Decide.{dec_lt}
use native.Mathlib.Omega.{arith}
use lib.ListN.{length, drop, length-drop}
use lib.Seq.{length-take-le}
use borrow.Author.Tests.{eqb-true, eq-eqb}
use Rattle.lists.specs.Vocabulary.{nth, lowest}
use Rattle.lists.proofs.ListLaws.{some_yes, lowest_before, lowest_upto, lowest_passes}
use Rattle.lists.proofs.Ranges.{some_true}
use Rattle.strand.specs.Strands.{Inside}
use Rattle.embedding.specs.Windows.{window_bases, window_mates, EmbedsWithin, carries, some_carries, first_start, tightest_length, Carries, IsTightest}
use Rattle.embedding.specs.Windows.{WindowsSay}
use Rattle.embedding.proofs.Answers.{clash}
use Rattle.embedding.proofs.Computed.{whole_iff}
use Rattle.embedding.proofs.WindowLaws.{widened, same_arc, window_nested, window_embeds, window_back, window_cut}

-- The lowest number that passes is at most any that does.
lowest_least : (p : ℕ → Bool) (n i : ℕ) → i < n → p i ≡ true → lowest n p ≤ i
lowest_least p n i l t = elim (dec_lt i (lowest n p)) [ yes h ↦ absurd (clash (lowest_before p n i h l) t) | no h ↦ omega arith ]

module _ (rule : ℕ → ℕ → Bool) (pb pm qb qm : List ℕ) where
  -- A window carries P exactly when P embeds in Q with its places in the window.
  pub carries_within : (s w : ℕ) → s + w ≤ length qb → Carries rule pb pm qb qm s w ↔ EmbedsWithin rule pb pm qb qm s (s + w)
  carries_within s w h = (
    (λ C. let f = C.embeds.0 in ((λ x. s + f x), window_back rule pb qb qm s w f C.embeds.1)),
    (λ E. record { inside = h; embeds = window_embeds rule pb qb qm s w E }),
  )

  -- The tightest window for a P without bases has start 0 and length 0.
  tightest_empty : length pb ≡ 0 → IsTightest rule pb pm qb qm 0 0
  tightest_empty e = record { here = here; shortest = λ s w C. omega arith; first = λ s C. omega arith }
    where
      here : Carries rule pb pm qb qm 0 0
      here =
          record {
            inside = omega arith;
            embeds = (
              (λ x. x),
              record {
                low = λ x p q. omega arith;
                high = λ x p q. omega arith;
                order = λ x y p q r. omega arith;
                bases = λ x p q. absurd (omega arith);
                arcs = λ x y p q r. absurd (omega arith);
              },
            );
          }

  module _ (H : Inside (nth pm) (length pb)) where
    -- The test of a window.
    carries_iff : (s w : ℕ) → s + w ≤ length qb → (carries rule pb pm qb qm s w ≡ true) ↔ Carries rule pb pm qb qm s w
    unfolding carries
    carries_iff s w h =
        let bases : length (window_bases s w qb) ≡ w = length-take-le (s + w - s) (drop s qb) (omega (arith, length-drop s qb)) ∙ omega arith in
        let whole = rw bases at (whole_iff rule pb pm (window_bases s w qb) (window_mates s w qm) H) in (
          (λ e. record { inside = h; embeds = whole.0 (eqb-true _ _ e) }),
          (λ C. eq-eqb _ _ (whole.1 C.embeds)),
        )

    -- Where the window of w bases from s carries P the length w passes, the lowest start for w is at most s, and the lowest length at most w.
    module _ (s w : ℕ) (C : Carries rule pb pm qb qm s w) where
      some_carries_lem : some_carries rule pb pm qb qm w ≡ true
      unfolding some_carries
      some_carries_lem = some_yes _ _ s (omega (arith, C.inside)) ((carries_iff s w C.inside).1 C)

      start_least : first_start rule pb pm qb qm w ≤ s
      unfolding first_start
      start_least = lowest_least _ _ s (omega (arith, C.inside)) ((carries_iff s w C.inside).1 C)

      length_least : tightest_length rule pb pm qb qm ≤ w
      unfolding tightest_length
      length_least = lowest_least _ _ w (omega (arith, C.inside)) some_carries_lem

    -- Where some window of w bases passes, the one from the lowest start carries P.
    first_carries : (w : ℕ) → w ≤ length qb → some_carries rule pb pm qb qm w ≡ true → Carries rule pb pm qb qm (first_start rule pb pm qb qm w) w
    unfolding some_carries first_start
    first_carries w l t = (carries_iff (lowest k test) w (omega (arith, below))).0 (lowest_passes test k below)
      where
        k : ℕ
        k = suc (length qb) - w

        test : ℕ → Bool
        test s = carries rule pb pm qb qm s w

        below : lowest k test < k
        below = let r = some_true k test t in omega (arith, r.1, lowest_least test k r.0 r.1 r.2)

    -- Where the search finds a window it is the tightest.
    tightest_found : tightest_length rule pb pm qb qm ≤ length qb
        → IsTightest rule pb pm qb qm (first_start rule pb pm qb qm (tightest_length rule pb pm qb qm)) (tightest_length rule pb pm qb qm)
    tightest_found h = record { here = first_carries _ h passes; shortest = length_least; first = λ s C. start_least s _ C }
      where
        passes : some_carries rule pb pm qb qm (tightest_length rule pb pm qb qm) ≡ true
        passes = unfold tightest_length in (lowest_passes (some_carries rule pb pm qb qm) (suc (length qb)) (omega arith))

    -- It finds one exactly when P embeds in Q, ..
    tightest_some : (tightest_length rule pb pm qb qm ≤ length qb) ↔ EmbedsWithin rule pb pm qb qm 0 (length qb)
    tightest_some = (there, back)
      where
        there : tightest_length rule pb pm qb qm ≤ length qb → EmbedsWithin rule pb pm qb qm 0 (length qb)
        there h =
            let C = (tightest_found h).here in
            widened 0 (length qb) (omega arith) C.inside ((carries_within _ _ C.inside).0 C)

        back : EmbedsWithin rule pb pm qb qm 0 (length qb) → tightest_length rule pb pm qb qm ≤ length qb
        back E = length_least 0 (length qb) ((carries_within 0 (length qb) (omega arith)).1 (widened 0 (0 + length qb) (omega arith) (omega arith) E))

    -- .. and none exactly when it does not.
    tightest_none : (tightest_length rule pb pm qb qm ≡ suc (length qb)) ↔ (EmbedsWithin rule pb pm qb qm 0 (length qb) → ⊥)
    tightest_none = (
      (λ e E. omega (arith, tightest_some.1 E)),
      (λ n. elim (dec_lt (length qb) (tightest_length rule pb pm qb qm)) [ yes h ↦ omega (arith, upto) | no h ↦ absurd (n (tightest_some.0 (omega arith))) ]),
    )
      where
        upto : tightest_length rule pb pm qb qm ≤ suc (length qb)
        upto = unfold tightest_length in (lowest_upto (some_carries rule pb pm qb qm) (suc (length qb)))

    -- No other window is the tightest.
    tightest_only : (s w : ℕ) → IsTightest rule pb pm qb qm s w
        → (w ≡ tightest_length rule pb pm qb qm) × (s ≡ first_start rule pb pm qb qm (tightest_length rule pb pm qb qm))
    tightest_only s w I =
        let least = length_least s w I.here in
        let J = tightest_found (omega (arith, I.here.inside)) in
        let e : w ≡ tightest_length rule pb pm qb qm = omega (arith, I.shortest _ _ J.here) in
        let K : IsTightest rule pb pm qb qm s (tightest_length rule pb pm qb qm) = rw e at I in
        (e, omega (arith, J.first s K.here, K.first _ J.here))

    -- All that is claimed of windows.
    pub windows_say : WindowsSay rule pb pm qb qm
    windows_say =
        record {
          arcs = same_arc qm;
          nested = λ s w N h. window_nested qm s w N h;
          within = λ s w h f. (window_back rule pb qb qm s w f, window_cut rule pb qb qm s w f);
          test = carries_iff;
          found = tightest_found;
          found_when = tightest_some;
          none_when = tightest_none;
          unique = tightest_only;
          empty = tightest_empty;
        }
