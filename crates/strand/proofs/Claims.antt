-- The claims of specs/Statements hold.
use Prim.Native.Nat.{ℕ}
use mathlib.Core.Path.{◌≡◌, refl, sym, ap, ◌∙◌}
use mathlib.Core.Bool.{Bool, true}
use mathlib.Core.List.{List}
use native.Mathlib.Omega.{arith}
use Rattle.lists.specs.Vocabulary.{total}
use Rattle.std.specs.Prelude.{Ok, Err}
use Rattle.refusals.specs.declared.Side.{Side}
use Rattle.refusals.specs.Rules.{Verdict, molecule_side, by_verdict, Refuses}
use Rattle.refusals.proofs.RuleLaws.{by_accepted}
use Rattle.refusals.proofs.Refusing.{refuses_by}
use Rattle.strand.specs.declared.Fold.{Fold}
use Rattle.strand.specs.Folds.{fold_of}
use Rattle.strand.specs.Strands.{Checked, Strand, same_strand, key, least_molecule, greatest_length, check_verdict, check_answer, CheckAccepts, CheckSays}
use Rattle.strand.specs.Statements.{NestedSays, StrandSays, SideSays, LowestSays, EmptyMotifSays, FoldSays, Claims}
use Rattle.lists.proofs.ListLaws.{lowest_before, lowest_upto, lowest_passes}
use Rattle.strand.proofs.FoldLaws.{arcs_most, depth_most, fold_is, fold_only, depth_none}
use Rattle.strand.proofs.VerdictLaws.{nested_yes, nested_test, accepted_proper, proper_accepted, check_numbered, empty_passes, empty_pair}
use Rattle.strand.proofs.VerdictLaws.{same_strand_eq, strand_side, check_sides}
use Rattle.lists.proofs.ListLaws.{same_refl}
use Rattle.strand.proofs.Spellings.{alike_verdict, alike_check}

same_strand_refl : (p : Strand) → same_strand p p ≡ true
unfolding same_strand
same_strand_refl p = rw (same_refl p.bases) (same_refl p.mates)

nested_says : (mates : List ℕ) → NestedSays mates
nested_says mates = (nested_yes mates, nested_test mates)

strand_says : (side : Side) (least greatest : ℕ) (bases mates : List ℕ) → StrandSays side least greatest bases mates
strand_says side least greatest bases mates = (accepted_proper side least greatest bases mates, proper_accepted side least greatest bases mates)

nested_answered : (v : Verdict) (f g : Fold) → ◌≡◌ {A = Checked} (by_verdict v Err (Ok g)) (Ok f) → (v ≡ Ok tt) × (f ≡ g)
unfolding by_verdict
nested_answered (Ok u) f g e = (refl, cc)
nested_answered (Err x) f g e = cc

side_says : (side : Side) (least greatest : ℕ) (bases mates : List ℕ) → SideSays side least greatest bases mates
side_says side least greatest bases mates = strand_side (λ (s : Side). s ≡ side) side least greatest bases mates refl

check_accepts : (bases mates : List ℕ) → CheckAccepts bases mates
unfolding check_verdict
check_accepts bases mates = strand_says molecule_side least_molecule greatest_length bases mates

check_says : (bases mates : List ℕ) → CheckSays bases mates (check_answer bases mates)
unfolding check_answer check_verdict
check_says bases mates f =
    let r = strand_says molecule_side least_molecule greatest_length bases mates in (
      (λ e. let a = nested_answered _ f (fold_of mates) e in (r.0 a.0, rw a.1 (fold_is mates))),
      (λ w. by_accepted _ _ _ (r.1 w.0) ∙ ap (λ (g : Fold). let a : Checked = Ok g in a) (sym (fold_only mates f w.1))),
    )

check_refuses : (bases mates : List ℕ) → Refuses (check_verdict bases mates) Err (check_answer bases mates)
unfolding check_answer
check_refuses bases mates =
    refuses_by {E = Checked} (check_verdict bases mates) Err (Ok (fold_of mates)) (λ r. r) Err (λ r. refl)
    (λ r e. cc) (check_numbered bases mates) (λ r s e. cc)

empty_motif_says : EmptyMotifSays
unfolding key total
empty_motif_says = record { passes = empty_passes; pair = empty_pair; key_0 = refl }

fold_says : (mates : List ℕ) → FoldSays mates
fold_says mates = record { arcs = arcs_most mates; depth = depth_most mates; only = fold_only mates; without = depth_none mates }

lowest_says : (n : ℕ) (test : ℕ → Bool) → LowestSays n test
lowest_says n test =
    record {
      upto = lowest_upto test n;
      passes = lowest_passes test n;
      below = λ i l. lowest_before test n i l (omega (arith, lowest_upto test n));
    }

pub claims : Claims
claims =
    record {
      nested_says = nested_says;
      strand_says = strand_says;
      side_says = side_says;
      check_accepts = check_accepts;
      check_says = check_says;
      check_refuses = check_refuses;
      check_sides = check_sides;
      empty_motif_says = empty_motif_says;
      fold_says = fold_says;
      same_says = λ p q. (same_strand_eq p q, (λ e. rw e (same_strand_refl q)));
      respelled_verdict = λ a b mates R side least greatest. alike_verdict R side least greatest mates;
      check_respelled = λ a b mates R. alike_check R mates;
      lowest_says = lowest_says;
    }
