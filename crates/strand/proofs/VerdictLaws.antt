-- Tests and propositions of strands: nested mates, what an accepted strand is, a motif with a molecule, equal strands.
use mathlib.Core.Path.{◌≡◌, refl, sym, ap}
use mathlib.Core.Bool.{true, false, not, ◌&&◌}
use mathlib.Core.List.{List, []}
use Prim.Native.Nat.{ℕ, ◌≤◌, ◌<◌}
use native.Mathlib.Omega.{arith}
use lib.ListN.{length}
use borrow.Author.Tests.{eq-eqb, ltb-true, ltb-false, eqb-true, lt-leb}
use Rattle.std.specs.Prelude.{Ok}
use Rattle.refusals.specs.declared.Side.{Side}
use Rattle.lists.specs.Vocabulary.{nth, some, every, same_list}
use Rattle.letters.specs.Letters.{not_letter}
use Rattle.strand.specs.Strands.{Strand, same_strand, mate_outside, not_mutual, crossed_at, is_nested, Nested, Proper, strand_verdict}
use Rattle.strand.specs.Strands.{check_verdict, pair_verdict, Pair, least_motif, least_molecule, greatest_length}
use Rattle.refusals.specs.Rules.{unequal_lengths, no_bases, too_long, bad_letter, bad_mate, mates_not_mutual, arcs_cross}
use Rattle.refusals.specs.Rules.{number_of, number_of_side, motif_side, molecule_side, first, Numbered, TableSide, is_motif, is_molecule, TableSides}
use Rattle.refusals.proofs.Refusing.{Numbering, strand_number, when_numbered, if_numbered, lowest_numbered, none_numbered, first_numbered}
use Rattle.refusals.proofs.Refusing.{SidesBy, when_side, lowest_side, none_side, first_side}
use Rattle.refusals.proofs.RuleLaws.{first_one, first_pass, rule_pass, rule_at_pass}
use Rattle.lists.proofs.ListLaws.{and_true, not_not, true_not, every_true, some_no, some_none, lowest_all, same_eq}
use Rattle.strand.proofs.NestingLaws.{uncrossed_apart, apart_uncrossed, inside_of, paired_of}
use Rattle.letters.proofs.LetterLaws.{letter_at, none_other}
use Rattle.strand.proofs.CheckLaws.{accepted_strand}

-- ---- the mates: tests and propositions

module _ (ms : List ℕ) where
  nested_of : ((i : ℕ) → i < length ms → mate_outside ms i ≡ false) → ((i : ℕ) → i < length ms → not_mutual ms i ≡ false)
      → ((i : ℕ) → i < length ms → crossed_at ms i ≡ false) → Nested (nth ms) (length ms)
  nested_of h g k = record { inside = inside_of ms h; paired = paired_of ms g; apart = uncrossed_apart ms (length ms) k }

  module _ (N : Nested (nth ms) (length ms)) where
    none_outside : (i : ℕ) → i < length ms → mate_outside ms i ≡ false
    unfolding mate_outside
    none_outside i l = lt-leb (length ms) (nth ms i) (N.inside i l)

    none_single : (i : ℕ) → i < length ms → not_mutual ms i ≡ false
    unfolding not_mutual
    none_single i l = ap not (eq-eqb _ _ (N.paired i l))

    none_crossed : (i : ℕ) → i < length ms → crossed_at ms i ≡ false
    none_crossed = apart_uncrossed ms (length ms) N.apart

  pub nested_yes : is_nested ms ≡ true → Nested (nth ms) (length ms)
  unfolding is_nested
  nested_yes e =
      let a = and_true (not (some (length ms) (mate_outside ms)) && not (some (length ms) (not_mutual ms))) (not (some (length ms) (crossed_at ms))) e in
      let b = and_true (not (some (length ms) (mate_outside ms))) (not (some (length ms) (not_mutual ms))) a.0 in
      nested_of (λ i l. some_none (mate_outside ms) (length ms) i (true_not _ b.0) l)
      (λ i l. some_none (not_mutual ms) (length ms) i (true_not _ b.1) l)
      (λ i l. some_none (crossed_at ms) (length ms) i (true_not _ a.1) l)

  pub nested_test : Nested (nth ms) (length ms) → is_nested ms ≡ true
  unfolding is_nested
  nested_test N =
      rw (
        some_no (mate_outside ms) (length ms) (none_outside N),
        some_no (not_mutual ms) (length ms) (none_single N),
        some_no (crossed_at ms) (length ms) (none_crossed N),
      )

-- ---- an accepted strand

module _ (side : Side) (least greatest : ℕ) (bs ms : List ℕ) where
  pub accepted_proper : strand_verdict side least greatest bs ms ≡ Ok tt → Proper side least greatest bs ms
  unfolding strand_verdict
  accepted_proper e =
      let a1 = first_pass _ _ e in
      let a2 = first_pass _ _ a1.1 in
      let a3 = first_pass _ _ a2.1 in
      let a4 = first_pass _ _ a3.1 in
      let a5 = first_pass _ _ a4.1 in
      let a6 = first_pass _ _ a5.1 in
      let a7 = first_pass _ _ a6.1 in
      let same : length ms ≡ length bs = eqb-true _ _ (not_not _ (rule_pass unequal_lengths side _ a1.0)) in
      record {
        same = same;
        enough = ltb-false _ _ (rule_pass no_bases side _ a2.0);
        small = ltb-false _ _ (rule_pass too_long side _ a3.0);
        letters = every_true _ (length bs) (λ i l. letter_at side bs i (rule_at_pass bad_letter side _ _ a4.0 i l));
        nested = rw same at (nested_of ms (rule_at_pass bad_mate side _ _ a5.0) (rule_at_pass mates_not_mutual side _ _ a6.0)
            (rule_at_pass arcs_cross side _ _ a7.0));
      }

  pub proper_accepted : Proper side least greatest bs ms → strand_verdict side least greatest bs ms ≡ Ok tt
  proper_accepted P =
      sym (accepted_strand side least greatest bs ms P.same P.enough P.small
      (length bs) (sym (lowest_all (not_letter side bs) (length bs) (none_other side bs P.letters))) (omega arith)
      (length ms) (sym (lowest_all (mate_outside ms) (length ms) (none_outside ms N))) (omega arith)
      (length ms) (sym (lowest_all (not_mutual ms) (length ms) (none_single ms N))) (omega arith)
      (some_no (crossed_at ms) (length ms) (none_crossed ms N)))
    where
      N : Nested (nth ms) (length ms)
      N = rw P.same P.nested

-- What `depth::fold_of` asks: the mates of a proper strand are nested, by their own number, and not too many.
pub proper_mates : {side : Side} {least greatest : ℕ} {bs ms : List ℕ} → greatest ≤ greatest_length → Proper side least greatest bs ms
    → Nested (nth ms) (length ms) × (length ms ≤ greatest_length)
proper_mates h P = (rw P.same P.nested, omega (arith, P.same, P.small))

-- A strand that is proper with one greatest length is proper with a larger one.
pub proper_within : {side : Side} {least small large : ℕ} {bs ms : List ℕ} → small ≤ large → Proper side least small bs ms → Proper side least large bs ms
proper_within h P =
    record { same = P.same; enough = P.enough; small = (let z = P.small in omega arith); letters = P.letters; nested = P.nested }

-- ---- a motif and a molecule

pub pair_proper : (p pm q qm : List ℕ) → pair_verdict p pm q qm ≡ Ok tt → Pair p pm q qm
unfolding pair_verdict
pair_proper p pm q qm e =
    let a = first_pass _ _ e in
    let b = first_pass _ _ a.1 in
    record {
      motif = accepted_proper motif_side least_motif greatest_length p pm a.0;
      molecule = accepted_proper molecule_side least_molecule greatest_length q qm b.0;
    }

pub proper_pair : (p pm q qm : List ℕ) → Pair p pm q qm → pair_verdict p pm q qm ≡ Ok tt
unfolding pair_verdict first
proper_pair p pm q qm P =
    rw (
      proper_accepted motif_side least_motif greatest_length p pm P.motif,
      proper_accepted molecule_side least_molecule greatest_length q qm P.molecule,
    )

-- ---- the motif with no bases

pub empty_passes : (greatest : ℕ) → strand_verdict motif_side least_motif greatest [] [] ≡ Ok tt
unfolding every
empty_passes greatest =
    proper_accepted motif_side least_motif greatest [] []
    (record {
      same = refl;
      enough = omega arith;
      small = omega arith;
      letters = refl;
      nested = record { inside = λ i h. absurd (omega arith); paired = λ i h. absurd (omega arith); apart = λ a i h. absurd (omega arith) };
    })

pub empty_pair : (q qm : List ℕ) → pair_verdict [] [] q qm ≡ check_verdict q qm
unfolding pair_verdict check_verdict first
empty_pair q qm = rw (empty_passes greatest_length) (first_one _)

-- ---- equal strands

pub same_strand_eq : (p q : Strand) → same_strand p q ≡ true → p ≡ q
unfolding same_strand
same_strand_eq p q e =
    let y = and_true (same_list p.bases q.bases) (same_list p.mates q.mates) e in
    let x : p.bases ≡ q.bases = same_eq p.bases q.bases y.0 in
    let z : p.mates ≡ q.mates = same_eq p.mates q.mates y.1 in
    λ i. record { bases = x i; mates = z i }

-- ---- the refusals of a strand are those of the table

module _ (side : Side) (known : number_of_side side ≤ number_of_side molecule_side) where
  -- rules 1 to 3 name no place, rules 4 to 7 the lowest
  plain : (number : ℕ) → 1 ≤ number → number ≤ number_of arcs_cross → (number ≡ number_of no_bases → number_of_side side ≡ number_of_side molecule_side)
      → Numbered number (number_of_side side) 0
  plain number a b two = strand_number number (number_of_side side) 0 a b known two (λ h. refl)

  placed : (number : ℕ) → number_of bad_letter ≤ number → number ≤ number_of arcs_cross → (place : ℕ) → Numbered number (number_of_side side) place
  placed number a b place = strand_number number (number_of_side side) place (omega arith) b known (λ e. absurd (omega arith)) (λ h. absurd (omega arith))

  -- rule 2 applies where a strand must have a base, and that is a molecule
  pub strand_numbered : (least greatest : ℕ) (bases mates : List ℕ) → (0 < least → number_of_side side ≡ number_of_side molecule_side)
      → Numbering (strand_verdict side least greatest bases mates)
  unfolding strand_verdict
  strand_numbered least greatest bases mates only =
      first_numbered _ _ (if_numbered unequal_lengths side (plain 1 (omega arith) (omega arith) (λ e. absurd (omega arith))) _)
      (first_numbered _ _ (when_numbered no_bases side _
      (λ t. plain 2 (omega arith) (omega arith) (λ e. only (omega (arith, ltb-true (length bases) least t)))))
      (first_numbered _ _ (if_numbered too_long side (plain 3 (omega arith) (omega arith) (λ e. absurd (omega arith))) _)
      (first_numbered _ _ (lowest_numbered bad_letter side (placed 4 (omega arith) (omega arith)) _ _)
      (first_numbered _ _ (lowest_numbered bad_mate side (placed 5 (omega arith) (omega arith)) _ _)
      (first_numbered _ _ (lowest_numbered mates_not_mutual side (placed 6 (omega arith) (omega arith)) _ _)
      (first_numbered _ _ (lowest_numbered arcs_cross side (placed 7 (omega arith) (omega arith)) _ _) none_numbered))))))

pub check_numbered : (bases mates : List ℕ) → Numbering (check_verdict bases mates)
unfolding check_verdict
check_numbered bases mates = strand_numbered molecule_side (omega arith) least_molecule greatest_length bases mates (λ h. refl)

pub pair_numbered : (p pm q qm : List ℕ) → Numbering (pair_verdict p pm q qm)
unfolding pair_verdict
pair_numbered p pm q qm =
    first_numbered _ _ (strand_numbered motif_side (omega arith) least_motif greatest_length p pm (λ h. absurd (omega arith)))
    (first_numbered _ _ (strand_numbered molecule_side (omega arith) least_molecule greatest_length q qm (λ h. refl)) none_numbered)

-- ---- their sides: rules 1 to 7 hand on the one that they are given

pub strand_side : (said : Side → Type 0) (side : Side) (least greatest : ℕ) (bases mates : List ℕ) → said side
    → SidesBy said (strand_verdict side least greatest bases mates)
unfolding strand_verdict
strand_side said side least greatest bases mates ok =
    first_side said _ _ (when_side said unequal_lengths side _ ok)
    (first_side said _ _ (when_side said no_bases side _ ok)
    (first_side said _ _ (when_side said too_long side _ ok)
    (first_side said _ _ (lowest_side said bad_letter side _ _ ok)
    (first_side said _ _ (lowest_side said bad_mate side _ _ ok)
    (first_side said _ _ (lowest_side said mates_not_mutual side _ _ ok)
    (first_side said _ _ (lowest_side said arcs_cross side _ _ ok) (none_side said)))))))

pub check_sides : (bases mates : List ℕ) → TableSides (check_verdict bases mates)
unfolding check_verdict
check_sides bases mates = strand_side TableSide molecule_side least_molecule greatest_length bases mates (is_molecule refl)

pub pair_sides : (p pm q qm : List ℕ) → TableSides (pair_verdict p pm q qm)
unfolding pair_verdict
pair_sides p pm q qm =
    first_side TableSide _ _ (strand_side TableSide motif_side least_motif greatest_length p pm (is_motif refl))
    (first_side TableSide _ _ (strand_side TableSide molecule_side least_molecule greatest_length q qm (is_molecule refl)) (none_side TableSide))
