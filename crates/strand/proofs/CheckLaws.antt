-- Each return of the code that checks a strand: rules 1 to 7 one after the other, and what the searches for a place found.
use mathlib.Core.Path.{◌≡◌, sym, ap, ◌∙◌}
use mathlib.Core.Bool.{true, false, not}
use mathlib.Core.List.{List}
use Prim.Native.Nat.{ℕ, ◌<◌, ◌≤◌}
use native.Mathlib.Omega.{arith}
use lib.ListN.{length}
use lib.Dec.{eqb, ltb}
use borrow.Author.Tests.{eq-eqb, ne_eqb, lt-ltb, le-ltb, ltb-true}
use Rattle.std.specs.Prelude.{Ok}
use Rattle.refusals.specs.declared.Side.{Side}
use Rattle.lists.specs.Vocabulary.{nth, some, lowest}
use Rattle.letters.specs.Letters.{not_letter}
use Rattle.strand.specs.Strands.{mate_outside, not_mutual, crossed_at, Inside, Paired, strand_verdict}
use Rattle.refusals.specs.Rules.{unequal_lengths, no_bases, too_long, bad_letter, bad_mate, mates_not_mutual, arcs_cross}
use Rattle.refusals.specs.Rules.{refusal, refuse_if, refuse_at_lowest, first}
use Rattle.refusals.proofs.RuleLaws.{rule_yes, rule_no, rule_at_yes, rule_at_no}
use Rattle.lists.proofs.ListLaws.{some_none, lowest_all, lowest_before, some_lowest}
use Rattle.strand.proofs.NestingLaws.{inside_of, paired_of}

-- ---- the check of a strand, refusal by refusal

module _ (side : Side) (least greatest : ℕ) (bs ms : List ℕ) where
  pub refused_unequal : (length ms ≡ length bs → ⊥) → refusal unequal_lengths side 0 ≡ strand_verdict side least greatest bs ms
  unfolding strand_verdict first
  refused_unequal h = rw (rule_yes unequal_lengths side _ (ap not (ne_eqb (length ms) (length bs) h)))

  module _ (h1 : length ms ≡ length bs) where
    lengths_pass : refuse_if unequal_lengths side (not (eqb (length ms) (length bs))) ≡ Ok tt
    lengths_pass = rule_no unequal_lengths side _ (ap not (eq-eqb _ _ h1))

    pub refused_no_bases : length bs < least → refusal no_bases side 0 ≡ strand_verdict side least greatest bs ms
    unfolding strand_verdict first
    refused_no_bases h = rw (lengths_pass, rule_yes no_bases side _ (lt-ltb (length bs) least h))

    module _ (h2 : least ≤ length bs) where
      bases_pass : refuse_if no_bases side (ltb (length bs) least) ≡ Ok tt
      bases_pass = rule_no no_bases side _ (le-ltb _ _ h2)

      pub refused_too_long : greatest < length bs → refusal too_long side 0 ≡ strand_verdict side least greatest bs ms
      unfolding strand_verdict first
      refused_too_long h = rw (lengths_pass, bases_pass, rule_yes too_long side _ (lt-ltb greatest (length bs) h))

      module _ (h3 : length bs ≤ greatest) (i4 : ℕ) (is4 : i4 ≡ lowest (length bs) (not_letter side bs)) where
        length_passes : refuse_if too_long side (ltb greatest (length bs)) ≡ Ok tt
        length_passes = rule_no too_long side _ (le-ltb _ _ h3)

        pub refused_letter : i4 < length bs → refusal bad_letter side i4 ≡ strand_verdict side least greatest bs ms
        unfolding strand_verdict first
        refused_letter h = rw (lengths_pass, bases_pass, length_passes, rule_at_yes bad_letter side _ (not_letter side bs) i4 is4 h)

        module _ (h4 : length bs ≤ i4) (i5 : ℕ) (is5 : i5 ≡ lowest (length ms) (mate_outside ms)) where
          letters_pass : refuse_at_lowest bad_letter side (length bs) (not_letter side bs) ≡ Ok tt
          letters_pass = rule_at_no bad_letter side _ _ i4 is4 h4

          pub refused_mate : i5 < length ms → refusal bad_mate side i5 ≡ strand_verdict side least greatest bs ms
          unfolding strand_verdict first
          refused_mate h = rw (lengths_pass, bases_pass, length_passes, letters_pass, rule_at_yes bad_mate side _ (mate_outside ms) i5 is5 h)

          module _ (h5 : length ms ≤ i5) (i6 : ℕ) (is6 : i6 ≡ lowest (length ms) (not_mutual ms)) where
            range_passes : refuse_at_lowest bad_mate side (length ms) (mate_outside ms) ≡ Ok tt
            range_passes = rule_at_no bad_mate side _ _ i5 is5 h5

            pub refused_not_mutual : i6 < length ms → refusal mates_not_mutual side i6 ≡ strand_verdict side least greatest bs ms
            unfolding strand_verdict first
            refused_not_mutual h = rw (
              lengths_pass,
              bases_pass,
              length_passes,
              letters_pass,
              range_passes,
              rule_at_yes mates_not_mutual side _ (not_mutual ms) i6 is6 h,
            )

            module _ (h6 : length ms ≤ i6) where
              mutual_passes : refuse_at_lowest mates_not_mutual side (length ms) (not_mutual ms) ≡ Ok tt
              mutual_passes = rule_at_no mates_not_mutual side _ _ i6 is6 h6

              pub refused_crossing : (i7 : ℕ) → i7 ≡ lowest (length ms) (crossed_at ms) → some (length ms) (crossed_at ms) ≡ true
                  → refusal arcs_cross side i7 ≡ strand_verdict side least greatest bs ms
              unfolding strand_verdict first
              refused_crossing i7 is7 h =
                  let z : ltb (lowest (length ms) (crossed_at ms)) (length ms) ≡ true = sym (some_lowest (crossed_at ms) (length ms)) ∙ h in
                  rw (
                    lengths_pass,
                    bases_pass,
                    length_passes,
                    letters_pass,
                    range_passes,
                    mutual_passes,
                    rule_at_yes arcs_cross side _ (crossed_at ms) i7 is7 (omega (arith, ltb-true (lowest (length ms) (crossed_at ms)) (length ms) z)),
                  )

              pub accepted_strand : some (length ms) (crossed_at ms) ≡ false → Ok tt ≡ strand_verdict side least greatest bs ms
              unfolding strand_verdict first
              accepted_strand h = rw (lengths_pass, bases_pass, length_passes, letters_pass, range_passes, mutual_passes, arcs_pass)
                where
                  none : lowest (length ms) (crossed_at ms) ≡ length ms
                  none = lowest_all (crossed_at ms) (length ms) (λ i l. some_none (crossed_at ms) (length ms) i h l)

                  arcs_pass : refuse_at_lowest arcs_cross side (length ms) (crossed_at ms) ≡ Ok tt
                  arcs_pass = rule_at_no arcs_cross side _ (crossed_at ms) (length ms) (sym none) (omega arith)

-- ---- what the searches of the code found

module _ (ms : List ℕ) where
  pub found_inside : (i5 : ℕ) → i5 ≡ lowest (length ms) (mate_outside ms) → length ms ≤ i5 → Inside (nth ms) (length ms)
  found_inside i5 is5 h5 = inside_of ms (λ i l. lowest_before (mate_outside ms) (length ms) i (omega arith) l)

  pub found_paired : (i6 : ℕ) → i6 ≡ lowest (length ms) (not_mutual ms) → length ms ≤ i6 → Paired (nth ms) (length ms)
  found_paired i6 is6 h6 = paired_of ms (λ i l. lowest_before (not_mutual ms) (length ms) i (omega arith) l)
