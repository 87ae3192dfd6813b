-- The motif buffer of a batch: one law for each place where its judge can return, what is known of a buffer that passes, and the longest of its motifs.
use Rattle.std.specs.Prelude.{Ok}
use Prim.Native.Nat.{ℕ, zero, suc, ◌+◌, ◌≤◌, ◌<◌, max}
use native.Mathlib.Omega.{arith}
use native.Mathlib.Decide.{ℕ_discrete}
use native.Mathlib.Numerals.{add-one}
use mathlib.Core.Path.{◌≡◌, refl, sym, ap, ◌∙◌}
use mathlib.Core.Bool.{Bool, true, false, not}
use mathlib.Core.List.{List, []}
use lib.ListN.{length}
use borrow.Author.Tests.{le-leb, lt-ltb, le-ltb, ltb-false}
use Rattle.lists.specs.Vocabulary.{lowest}
use Rattle.lists.proofs.ListLaws.{lowest_all, not_not}
use Rattle.strand.specs.Strands.{Proper, least_motif}
use Rattle.strand.proofs.VerdictLaws.{proper_accepted}
use Rattle.refusals.specs.Rules.{motif_side, bad_motifs, too_long, refusal, refuse_if, refuse_at_lowest}
use Rattle.refusals.proofs.RuleLaws.{first_one, first_skip, first_stop, first_pass, rule_yes, rule_no, rule_pass, rule_at_yes, rule_at_no, rule_at_pass}
use Rattle.block.specs.Block.{block_of, block_count}
use Rattle.block.specs.Motif.{motif_handed_in, holds_motif}
use Rattle.block.proofs.ContentLaws.{motif_proper as handed_proper, held_sound}
use Rattle.calls.specs.Buffers.{most_motif_bases, motif_verdict, is_whole}
use Rattle.calls.specs.Motifs.{most_motifs, motif_of, no_motif_at, long_motif_at, motifs_verdict, UsableMotifs, longest_to}
use Rattle.calls.proofs.ReadingLaws.{whole_is}
use Rattle.calls.proofs.FactLaws.{whole_facts}

-- Its rules

module _ (motifs : List ℕ) where
  pub motif_at : (t : ℕ) → motif_handed_in (block_of t motifs) ≡ motif_of motifs t
  unfolding motif_of
  motif_at t = refl

  pub no_motif_is : (t : ℕ) {r b : Bool} → r ≡ holds_motif (block_of t motifs) → r ≡ b → no_motif_at motifs t ≡ not b
  unfolding no_motif_at
  no_motif_is t e q = rw (← e, q)

  pub long_at : (t : ℕ) → most_motif_bases < length (motif_of motifs t).bases → long_motif_at motifs t ≡ true
  unfolding long_motif_at
  long_at t h = lt-ltb most_motif_bases _ h

  pub short_at : (t : ℕ) → length (motif_of motifs t).bases ≤ most_motif_bases → long_motif_at motifs t ≡ false
  unfolding long_motif_at
  short_at t h = le-ltb most_motif_bases _ h

  pub motifs_not_whole : is_whole most_motifs motifs ≡ false → refusal bad_motifs motif_side 0 ≡ motifs_verdict motifs
  unfolding motifs_verdict
  motifs_not_whole h = sym (first_stop _ _ _ (rule_yes bad_motifs motif_side (not (is_whole most_motifs motifs)) (ap not h)))

  module _ (whole : is_whole most_motifs motifs ≡ true) (u : ℕ) (is : u ≡ lowest (block_count motifs) (no_motif_at motifs)) where
    size_passes : refuse_if bad_motifs motif_side (not (is_whole most_motifs motifs)) ≡ Ok tt
    size_passes = rule_no bad_motifs motif_side (not (is_whole most_motifs motifs)) (ap not whole)

    pub no_motif : u < block_count motifs → refusal bad_motifs motif_side u ≡ motifs_verdict motifs
    unfolding motifs_verdict
    no_motif h =
        sym (first_skip _ _ size_passes ∙ first_stop _ _ _ (rule_at_yes bad_motifs motif_side (block_count motifs) (no_motif_at motifs) u is h))

    module _ (all : block_count motifs ≤ u) (v : ℕ) (is' : v ≡ lowest (block_count motifs) (long_motif_at motifs)) where
      blocks_pass : refuse_at_lowest bad_motifs motif_side (block_count motifs) (no_motif_at motifs) ≡ Ok tt
      blocks_pass = rule_at_no bad_motifs motif_side (block_count motifs) (no_motif_at motifs) u is all

      pub long_motif_lem : v < block_count motifs → refusal too_long motif_side v ≡ motifs_verdict motifs
      unfolding motifs_verdict
      long_motif_lem h =
          sym (first_skip _ _ size_passes ∙ first_skip _ _ blocks_pass ∙ first_one _
          ∙ rule_at_yes too_long motif_side (block_count motifs) (long_motif_at motifs) v is' h)

      pub motifs_pass : block_count motifs ≤ v → Ok tt ≡ motifs_verdict motifs
      unfolding motifs_verdict
      motifs_pass h =
          sym (first_skip _ _ size_passes ∙ first_skip _ _ blocks_pass ∙ first_one _
          ∙ rule_at_no too_long motif_side (block_count motifs) (long_motif_at motifs) v is' h)

-- What they let pass

module _ (motifs : List ℕ) where
  held_at : (t : ℕ) → no_motif_at motifs t ≡ false → holds_motif (block_of t motifs) ≡ true
  unfolding no_motif_at
  held_at t e = not_not _ e

  not_long : (t : ℕ) → long_motif_at motifs t ≡ false → length (motif_of motifs t).bases ≤ most_motif_bases
  unfolding long_motif_at
  not_long t e = ltb-false most_motif_bases _ e

  pub motifs_usable : motifs_verdict motifs ≡ Ok tt → UsableMotifs motifs
  unfolding motifs_verdict
  motifs_usable e =
      let a = first_pass (refuse_if bad_motifs motif_side (not (is_whole most_motifs motifs))) _ e in
      let b = first_pass (refuse_at_lowest bad_motifs motif_side (block_count motifs) (no_motif_at motifs)) _ a.1 in
      let c = first_pass (refuse_at_lowest too_long motif_side (block_count motifs) (long_motif_at motifs)) [] b.1 in
      let w = whole_facts most_motifs motifs (not_not _ (rule_pass bad_motifs motif_side _ a.0)) in
      record {
        filled = w.0;
        least = w.1;
        most = w.2;
        each = λ t l. held_at t (rule_at_pass bad_motifs motif_side (block_count motifs) (no_motif_at motifs) b.0 t l);
        short = λ t l. not_long t (rule_at_pass too_long motif_side (block_count motifs) (long_motif_at motifs) c.0 t l);
      }

  module _ (ok : UsableMotifs motifs) where
    is_whole_lem : is_whole most_motifs motifs ≡ true
    is_whole_lem =
        whole_is most_motifs (block_count motifs) motifs ok.filled
        ∙ rw (le-leb 1 (block_count motifs) ok.least, le-leb (block_count motifs) most_motifs ok.most)

    pub usable_motifs : motifs_verdict motifs ≡ Ok tt
    usable_motifs =
        let all = lowest_all (no_motif_at motifs) (block_count motifs) (λ t l. no_motif_is motifs t refl (ok.each t l)) in
        let short = lowest_all (long_motif_at motifs) (block_count motifs) (λ t l. short_at motifs t (ok.short t l)) in
        sym (motifs_pass motifs is_whole_lem (block_count motifs) (sym all) (omega arith) (block_count motifs) (sym short) (omega arith))

    -- each of its motifs is one that a query takes
    pub motif_proper : (t : ℕ) → t < block_count motifs
        → Proper motif_side least_motif most_motif_bases (motif_of motifs t).bases (motif_of motifs t).mates
    unfolding motif_of
    motif_proper t l =
        let a = held_sound (block_of t motifs) (ok.each t l) in
        let p = handed_proper (block_of t motifs) a.0 a.1 in
        record { same = p.same; enough = p.enough; small = unfold motif_of in (ok.short t l); letters = p.letters; nested = p.nested }

    pub motif_verdict_lem : (t : ℕ) → t < block_count motifs → motif_verdict (motif_of motifs t) ≡ Ok tt
    unfolding motif_verdict
    motif_verdict_lem t l = proper_accepted motif_side least_motif most_motif_bases (motif_of motifs t).bases (motif_of motifs t).mates (motif_proper t l)

  -- The longest of the first k motifs: none of them is longer, it is the least such number, and one motif more.

  pub longest_least : (k t : ℕ) → t < k → length (motif_of motifs t).bases ≤ longest_to motifs k
  unfolding longest_to
  longest_least zero t l = absurd (omega arith)
  longest_least (suc k) t l =
      elim (ℕ_discrete t k) [
        | yes q ↦ rw q (omega arith)
        | no q ↦ omega (arith, longest_least k t (omega arith))
      ]

  pub longest_bound : (n k : ℕ) → ((t : ℕ) → t < k → length (motif_of motifs t).bases ≤ n) → longest_to motifs k ≤ n
  unfolding longest_to
  longest_bound n zero h = omega arith
  longest_bound n (suc k) h = omega (arith, longest_bound n k (λ t l. h t (omega arith)), h k (omega arith))

  pub longest_more : (k : ℕ) → max (longest_to motifs k) (length (motif_of motifs k).bases) ≡ longest_to motifs (k + 1)
  unfolding longest_to
  longest_more k = rw (add-one k)
