-- The claims of specs/Statements hold.
use Prim.Native.Nat.{ℕ, ◌≤◌}
use mathlib.Core.Path.{◌≡◌, refl, sym, ◌∙◌}
use mathlib.Core.Bool.{Bool, true, not}
use mathlib.Core.Logic.{◌↔◌}
use mathlib.Core.List.{List, [], ◌∷◌}
use native.Mathlib.Decide.{dec_lt}
use native.Mathlib.Omega.{arith}
use lib.Dec.{eqb}
use lib.ListN.{length}
use borrow.Author.Tests.{eqb-true}
use Rattle.lists.specs.Vocabulary.{nth, every, largest}
use Rattle.lists.proofs.ListLaws.{and_left}
use Rattle.std.specs.Prelude.{Ok, Err}
use Rattle.refusals.specs.Rules.{Verdict, no_side, wrong_slice, refuse_if, first}
use Rattle.refusals.proofs.RuleLaws.{by_accepted, by_refused}
use Rattle.letters.specs.Letters.{letters_match}
use Rattle.strand.specs.Strands.{Strand, empty_motif, check_verdict, Inside}
use Rattle.strand.proofs.Claims as strand
use Rattle.embedding.specs.Embedding.{ClosedPrefix, IsLongest}
use Rattle.embedding.specs.Longest.{closed_to, places_ok, longest, verified, verify_verdict, EmptyMotifVerified, embeds}
use Rattle.embedding.specs.Row.{Closed}
use Rattle.embedding.specs.Statements.{VerifiedSays, EmptyMotifEmbeds, Claims}
use Rattle.embedding.proofs.Answers.{not_true_is, tells_yes}
use Rattle.embedding.proofs.VerifyLaws.{answer_refused, answer_accepted, tells_verified, verify_says, verify_accepts, verify_refuses, verify_sides}
use Rattle.embedding.proofs.Computed.{closed_iff, longest_best, verified_iff}
use Rattle.embedding.proofs.Tightest.{windows_say}
use Rattle.embedding.proofs.Spellings.{same_found, not_told_apart, embed_alike, verify_alike}

-- A closed prefix in 01's words and by its mates.
closed_mates : {mate : ℕ → ℕ} {m : ℕ} → Inside mate m → (k : ℕ) → k ≤ m → ClosedPrefix mate m k → Closed mate 0 k
closed_mates {mate} H k h C x p q = elim (dec_lt (mate x) k) [
  | yes t ↦ t
  | no t ↦ absurd (C x (mate x) q (omega arith) (H x (omega arith)) refl)
]

mates_closed : (mate : ℕ → ℕ) (m k : ℕ) → Closed mate 0 k → ClosedPrefix mate m k
mates_closed mate m k C x y p q r e = omega (arith, C x (omega arith) p)

closed_says : (mate : ℕ → ℕ) (m k : ℕ) → Inside mate m → k ≤ m → (closed_to mate k ≡ true) ↔ ClosedPrefix mate m k
closed_says mate m k H h = (
  (λ t. mates_closed mate m k ((closed_iff mate k).0 t)),
  (λ C. (closed_iff mate k).1 (closed_mates H k h C)),
)

module _ (rule : ℕ → ℕ → Bool) (pb pm qb qm : List ℕ) where
  longest_says : Inside (nth pm) (length pb) → IsLongest rule pb pm qb qm (longest rule pb pm qb qm)
  longest_says H =
      let B = longest_best rule pb pm qb qm in
      record {
        upto = B.reach.upto;
        closed = mates_closed (nth pm) (length pb) _ B.reach.closed;
        embeds = B.reach.embeds;
        largest = λ k h C E. B.most k record { from = omega arith; upto = h; closed = closed_mates H k h C; embeds = E };
      }

  -- No other number is the longest.
  pub longest_only : Inside (nth pm) (length pb) → (L : ℕ) → IsLongest rule pb pm qb qm L → L ≡ longest rule pb pm qb qm
  longest_only H L I =
      let J = longest_says H in
      omega (arith, I.largest _ J.upto J.closed J.embeds, J.largest L I.upto I.closed I.embeds)

  verified_says : (v : List ℕ) → VerifiedSays rule pb pm qb qm v
  verified_says v =
      record {
        yes = verified_iff rule pb pm qb qm v;
        outside = λ x h g. not_true_is _ (λ t.
            let r = (verified_iff rule pb pm qb qm v).0 t in
            omega (arith, r.0, r.1.high x (omega arith) (omega (arith, r.0))));
      }

-- ---- the motif with no bases

empty_list : (v : List ℕ) → length v ≡ 0 → v ≡ []
empty_list [] e = refl
empty_list (x ∷ v) e = absurd (omega arith)

empty_motif_lem : (rule : ℕ → ℕ → Bool) (qb qm : List ℕ) → EmptyMotifEmbeds rule qb qm
unfolding longest largest verified places_ok every
empty_motif_lem rule qb qm =
    record {
      embeds = λ f.
          record {
            low = λ x a b. absurd (omega arith);
            high = λ x a b. absurd (omega arith);
            order = λ x y a b c. absurd (omega arith);
            bases = λ x a b. absurd (omega arith);
            arcs = λ x y a b c. absurd (omega arith);
          };
      longest_0 = refl;
      no_places = λ v. ((λ e. empty_list v (eqb-true (length v) 0 (and_left (eqb (length v) 0) true e))), (λ e. rw e));
    }

empty_motif_verified : (q qm v : List ℕ) → EmptyMotifVerified q qm v
unfolding verify_verdict
empty_motif_verified q qm v = go (verify_verdict [] [] q qm v) refl
  where
    rules : verify_verdict [] [] q qm v ≡ first (check_verdict q qm ∷ refuse_if wrong_slice no_side (not (eqb (length v) 0)) ∷ [])
    rules = rw ((strand.claims).empty_motif_says.pair q qm)

    go : (w : Verdict) → verify_verdict [] [] q qm v ≡ w → EmptyMotifVerified q qm v
    go (Err x) e = sym (answer_refused [] [] q qm v x e) ∙ sym (by_refused _ _ _ x (sym rules ∙ e))
    go (Ok u) e =
        sym (answer_accepted [] [] q qm v e true _ (tells_verified [] [] q qm v e true (tells_yes ((empty_motif_lem letters_match q qm).embeds (nth v)))) refl)
        ∙ sym (by_accepted _ _ _ (sym rules ∙ e))

empty_motif_test : (q : Strand) → embeds empty_motif q ≡ true
unfolding embeds longest largest
empty_motif_test q = refl

pub claims : Claims
claims =
    record {
      closed = closed_says;
      ends = λ mate m. record { none = λ x y p q r e. omega arith; whole = λ x y p q r e. omega arith };
      longest_is = longest_says;
      longest_only = longest_only;
      windows_say = windows_say;
      verified_says = verified_says;
      verify_says = verify_says;
      verify_accepts = verify_accepts;
      verify_refuses = verify_refuses;
      verify_sides = verify_sides;
      empty_motif_lem = empty_motif_lem;
      empty_motif_verified = empty_motif_verified;
      empty_motif_test = empty_motif_test;
      same_found = λ rule p q p' q' pm qm N. same_found rule N pm qm;
      spellings = λ p q p' q' P Q. not_told_apart P Q;
      embed_alike = embed_alike;
      verify_respelled = λ p pm q qm p' q' v P Q. verify_alike P Q pm qm v;
    }
