-- The claims of specs/Statements hold.
use Prim.Native.Nat.{ℕ}
use mathlib.Core.Path.{◌≡◌, refl, sym, ap, ◌∙◌}
use mathlib.Core.List.{List, []}
use native.Mathlib.Omega.{arith}
use Rattle.std.specs.Prelude.{Ok, Err}
use lib.Dec.{ltb}
use lib.ListN.{length}
use lib.Seq.{ext_get_or}
use borrow.Author.Tests.{le-ltb}
use Rattle.refusals.specs.Rules.{Verdict, no_side, wrong_slice, by_verdict, Refuses, TableSide, is_neither, TableSides}
use Rattle.refusals.proofs.RuleLaws.{first_without, rule_no, by_refused, by_accepted}
use Rattle.refusals.proofs.Refusing.{Numbering, call_number, if_numbered, none_numbered, first_numbered, work_numbered, refuses_by}
use Rattle.refusals.proofs.Refusing.{when_side, none_side, first_side, work_sides}
use Rattle.strand.proofs.FoldLaws.{fold_is, fold_only}
use Rattle.strand.proofs.VerdictLaws.{pair_proper, proper_pair, pair_numbered, pair_sides}
use Rattle.lists.specs.Vocabulary.{nth}
use Rattle.strand.specs.declared.Fold.{Fold}
use Rattle.strand.specs.Folds.{fold_of, IsFold}
use Rattle.letters.specs.Letters.{letters_match, ReadAlike}
use Rattle.strand.specs.Strands.{strand_of, check_verdict, pair_verdict}
use Rattle.strand.proofs.Spellings.{alike_pair}
use Rattle.strand.proofs.Claims as strand
use Rattle.embedding.specs.Longest.{longest}
use Rattle.embedding.specs.Embedding.{IsLongest, EmbedsIn}
use Rattle.embedding.proofs.Spellings.{spelled_found}
use Rattle.embedding.proofs.Claims as embedding
use Rattle.matcher.specs.declared.Prefix.{Prefix}
use Rattle.matcher.specs.Answers.{
  Matched,
  matched_prefix,
  length_verdict,
  length_answer,
  show_verdict,
  show_answer,
  empty_motif_verdict,
  PrefixSays,
  WholeSays,
  PlacesShown,
}
use Rattle.matcher.specs.Answers.{EmptyMotifMatched}
use Rattle.matcher.specs.Statements.{Claims}
use Rattle.matcher.proofs.CallLaws.{answer_prefix, pair_setting, length_rules, show_rules, length_facts, length_accepts, show_accepts}

-- An answer that is a prefix was accepted, and is the length, with the fold.
prefix_of : (v : Verdict) (K L : ℕ) (g f : Fold) → by_verdict v Err (matched_prefix K g) ≡ matched_prefix L f → (v ≡ Ok tt) × (K ≡ L) × (g ≡ f)
prefix_of (Err x) K L g f e = let z = sym (by_refused (Err x) Err (matched_prefix K g) x refl) ∙ e in cc
prefix_of (Ok u) K L g f e =
    let z = sym (by_accepted (Ok u) Err (matched_prefix K g) refl) ∙ e in
    let same : ◌≡◌ {A = Prefix} (record { length = K; fold = g }) (record { length = L; fold = f }) = cc in
    (refl, ap (λ (r : Prefix). r.length) same, ap (λ (r : Prefix). r.fold) same)

-- Of accepted strands the length is the longest, and an accepting verdict v answers it.
module _ (p pm q qm : List ℕ) (L : ℕ) (e : pair_verdict p pm q qm ≡ Ok tt) where
  is_longest : longest letters_match p pm q qm ≡ L → IsLongest letters_match p pm q qm L
  is_longest h = rw h at ((embedding.claims).longest_is letters_match p pm q qm (pair_setting p pm q qm e).motif.inside)

  answers_longest : IsLongest letters_match p pm q qm L → (f : Fold) → IsFold qm f → (v : Verdict) → Ok tt ≡ v
      → by_verdict v Err (matched_prefix (longest letters_match p pm q qm) (fold_of qm)) ≡ matched_prefix L f
  answers_longest I f F v h =
      sym
      (answer_prefix v (longest letters_match p pm q qm) (fold_of qm) L f (sym h)
      ((embedding.claims).longest_only letters_match p pm q qm (pair_setting p pm q qm e).motif.inside L I) (fold_only qm f F))

-- Where the rules accept only accepted strands.
module _ (p pm q qm : List ℕ) (v : Verdict) (strands : v ≡ Ok tt → pair_verdict p pm q qm ≡ Ok tt) where
  prefix_says : PrefixSays v p pm q qm (by_verdict v Err (matched_prefix (longest letters_match p pm q qm) (fold_of qm)))
  prefix_says L f = (
    (λ e.
        let a = prefix_of v (longest letters_match p pm q qm) L (fold_of qm) f e in
        (a.0, is_longest p pm q qm L (strands a.0) a.1, rw a.2 at (fold_is qm))),
    (λ h. answers_longest p pm q qm L (strands h.0) h.1 f h.2 v (sym h.0)),
  )

  -- The whole motif is closed, so it is the longest where it embeds.
  whole_longest : EmbedsIn (strand_of p pm) (strand_of q qm) → IsLongest letters_match p pm q qm (length p)
  whole_longest E =
      record { upto = omega arith; closed = ((embedding.claims).ends (nth pm) (length p)).whole; embeds = E; largest = λ k h C F. h }

  whole_says : WholeSays v p pm q qm (by_verdict v Err (matched_prefix (longest letters_match p pm q qm) (fold_of qm)))
  whole_says = (
    (λ e. let a = (prefix_says (length p) e.0).0 e.1 in (a.0, a.1.embeds)),
    (λ h. (fold_of qm, (prefix_says (length p) (fold_of qm)).1 (h.0, whole_longest h.1, fold_is qm))),
  )

  prefix_refuses : Numbering v → Refuses v Err (by_verdict v Err (matched_prefix (longest letters_match p pm q qm) (fold_of qm)))
  prefix_refuses ok =
      refuses_by {E = Matched} v Err _ (λ r. r) Err (λ r. refl) (λ r e. cc) ok (λ r s e. cc)

length_numbered : (p pm q qm : List ℕ) (work : ℕ) → Numbering (length_verdict p pm q qm work)
unfolding length_verdict
length_numbered p pm q qm work = first_numbered _ _ (pair_numbered p pm q qm) (first_numbered _ _ (work_numbered (length p) (length q) work) none_numbered)

length_sides : (p pm q qm : List ℕ) (work : ℕ) → TableSides (length_verdict p pm q qm work)
unfolding length_verdict
length_sides p pm q qm work =
    first_side TableSide _ _ (pair_sides p pm q qm) (first_side TableSide _ _ (work_sides (length p) (length q) work) (none_side TableSide))

show_numbered : (p pm q qm : List ℕ) (places work : ℕ) → Numbering (show_verdict p pm q qm places work)
unfolding show_verdict
show_numbered p pm q qm places work =
    first_numbered _ _ (pair_numbered p pm q qm)
    (first_numbered _ _ (if_numbered wrong_slice no_side (call_number 9 0 (omega arith) (omega arith) (λ n. refl)) _)
    (first_numbered _ _ (work_numbered (length p) (length q) work) none_numbered))

show_sides : (p pm q qm : List ℕ) (places work : ℕ) → TableSides (show_verdict p pm q qm places work)
unfolding show_verdict
show_sides p pm q qm places work =
    first_side TableSide _ _ (pair_sides p pm q qm)
    (first_side TableSide _ _ (when_side TableSide wrong_slice no_side _ (is_neither refl))
    (first_side TableSide _ _ (work_sides (length p) (length q) work) (none_side TableSide)))

-- ---- the motif with no bases

module _ (q qm : List ℕ) (work : ℕ) where
  empty_rules : length_verdict [] [] q qm work ≡ empty_motif_verdict q qm work
  unfolding length_verdict
  empty_rules = rw ((strand.claims).empty_motif_says.pair q qm)

  -- Rule 9 asks for no places.
  empty_shown : (places : ℕ) → show_verdict [] [] q qm places work ≡ empty_motif_verdict q qm work
  unfolding show_verdict
  empty_shown places =
      rw ((strand.claims).empty_motif_says.pair q qm, rule_no wrong_slice no_side (ltb places 0) (le-ltb places 0 (omega arith)))
      (first_without (check_verdict q qm) _)

  length_0 : length_answer [] [] q qm work ≡ by_verdict (empty_motif_verdict q qm work) Err (matched_prefix 0 (fold_of qm))
  unfolding length_answer
  length_0 = rw (empty_rules, ((embedding.claims).empty_motif_lem letters_match q qm).longest_0)

  show_0 : (places : ℕ) → show_answer [] [] q qm places work ≡ by_verdict (empty_motif_verdict q qm work) Err (matched_prefix 0 (fold_of qm))
  unfolding show_answer
  show_0 places = rw (empty_shown places, ((embedding.claims).empty_motif_lem letters_match q qm).longest_0)

  -- A refusal leaves the places as they were, and of 0 places all are later ones.
  places_kept : (before after : List ℕ) → PlacesShown (show_answer [] [] q qm (length before) work) [] [] q qm before after → after ≡ before
  unfolding PlacesShown by_verdict
  places_kept before after S = go (empty_motif_verdict q qm work) (rw (show_0 (length before)) at S)
    where
      go : (v : Verdict) → PlacesShown (by_verdict v Err (matched_prefix 0 (fold_of qm))) [] [] q qm before after → after ≡ before
      go (Ok u) T = ext_get_or 0 after before T.long (λ k h. T.kept k (omega arith))
      go (Err x) e = e

  empty_motif_matched : EmptyMotifMatched q qm work
  empty_motif_matched = record {
    length_verdict_lem = empty_rules;
    show_verdict_lem = empty_shown;
    length_0 = length_0;
    show_0 = show_0;
    places_kept =
        places_kept;
  }

-- ---- two spellings: the rules and the longest prefix are the same

module _ {p q p' q' : List ℕ} (P : ReadAlike p p') (Q : ReadAlike q q') (pm qm : List ℕ) where
  pub alike_rules : (work : ℕ) → length_verdict p pm q qm work ≡ length_verdict p' pm q' qm work
  unfolding length_verdict
  alike_rules work = rw (alike_pair P Q pm qm, P.many, Q.many) refl

  alike_length : (work : ℕ) → length_answer p pm q qm work ≡ length_answer p' pm q' qm work
  unfolding length_answer
  alike_length work = rw (alike_rules work, (spelled_found P Q pm qm).same_longest) refl

  alike_show : (places work : ℕ) → show_answer p pm q qm places work ≡ show_answer p' pm q' qm places work
  unfolding show_answer show_verdict
  alike_show places work = rw (alike_pair P Q pm qm, (spelled_found P Q pm qm).same_longest, P.many, Q.many) refl

pub claims : Claims
unfolding length_answer show_answer
claims =
    record {
      length_says = λ p pm q qm work. prefix_says p pm q qm (length_verdict p pm q qm work) (λ e. (length_rules p pm q qm work e).0);
      length_whole = λ p pm q qm work. whole_says p pm q qm (length_verdict p pm q qm work) (λ e. (length_rules p pm q qm work e).0);
      length_accepts = λ p pm q qm work. (
        (λ e. length_facts p pm q qm work e),
        (λ h. sym (length_accepts p pm q qm work (proper_pair p pm q qm h.0) h.1)),
      );
      length_refuses = λ p pm q qm work.
          prefix_refuses p pm q qm (length_verdict p pm q qm work) (λ e. (length_rules p pm q qm work e).0) (length_numbered p pm q qm work);
      length_sides = length_sides;
      show_says = λ p pm q qm places work. prefix_says p pm q qm (show_verdict p pm q qm places work) (λ e. (show_rules p pm q qm work places e).0);
      show_whole = λ p pm q qm places work. whole_says p pm q qm (show_verdict p pm q qm places work) (λ e. (show_rules p pm q qm work places e).0);
      show_accepts = λ p pm q qm places work. (
        (λ e. let a = show_rules p pm q qm work places e in (pair_proper p pm q qm a.0, a.1, a.2)),
        (λ h. sym (show_accepts p pm q qm work places (proper_pair p pm q qm h.0) h.1 h.2)),
      );
      empty_motif_matched = empty_motif_matched;
      length_respelled = λ p pm q qm p' q' work P Q. alike_length P Q pm qm work;
      show_respelled = λ p pm q qm p' q' places work P Q. alike_show P Q pm qm places work;
      show_refuses = λ p pm q qm places work.
          prefix_refuses p pm q qm (show_verdict p pm q qm places work) (λ e. (show_rules p pm q qm work places e).0) (show_numbered p pm q qm places work);
      show_sides = show_sides;
    }
