-- What a letter rule does not tell apart, no search does: all of them read of the bases their number and the places where the rule passes. Two spellings of the
-- same bases are not told apart by the letter rule.
use Prim.Native.Nat.{ℕ, ◌+◌, ◌-◌, ◌≤◌, min}
use mathlib.Core.Path.{◌≡◌, refl, sym, ap, ap₂, subst, fun_ext, ◌∙◌}
use mathlib.Core.Bool.{Bool}
use mathlib.Core.List.{List}
use native.Mathlib.Omega.{arith}
use native.Mathlib.Decide.{dec_lt}
use lib.Dec.{eqb}
use lib.ListN.{length, drop, length-take, length-drop, get_or-eq_default}
use Rattle.lists.specs.Vocabulary.{nth}
use Rattle.lists.proofs.Stretches.{nth_stretch}
use Rattle.letters.specs.Letters.{letters_match, ReadAlike}
use Rattle.letters.proofs.LetterLaws.{alike_first, alike_second}
use Rattle.strand.specs.Strands.{Strand, Respelled}
use Rattle.strand.proofs.Spellings.{alike_pair}
use Rattle.embedding.specs.Embedding.{fits, Emb}
use Rattle.embedding.specs.Longest.{longest, verified, verify_verdict, verify_answer, embeds}
use Rattle.embedding.specs.Windows.{window_bases, window_mates, carries, some_carries, first_start, tightest_length}
use Rattle.embedding.specs.Statements.{NotToldApart, SameFound, EmbedAlike}

module _ (rule : ℕ → ℕ → Bool) where
  module _ {p q p' q' : List ℕ} (N : NotToldApart rule p q p' q') where
    one_fit : fits rule p q ≡ fits rule p' q'
    one_fit = fun_ext (λ x. fun_ext (λ u. N.same x u))

    alike_longest : (pm qm : List ℕ) → longest rule p pm q qm ≡ longest rule p' pm q' qm
    unfolding longest
    alike_longest pm qm = rw (one_fit, N.motif, N.molecule) refl

    alike_verified : (pm qm v : List ℕ) → verified rule p pm q qm v ≡ verified rule p' pm q' qm v
    unfolding verified
    alike_verified pm qm v = rw (one_fit, N.motif, N.molecule) refl

    -- The letters of the same window of both.
    window_apart : (s w : ℕ) → NotToldApart rule p (window_bases s w q) p' (window_bases s w q')
    window_apart s w =
        record {
          motif = N.motif;
          molecule = cut q' ∙ ap (λ (n : ℕ). min (s + w - s) (n - s)) N.molecule ∙ sym (cut q);
          same = λ x u. elim (dec_lt u w) [
            | yes l ↦ ap (rule (nth p x)) (nth_stretch s w q u l) ∙ N.same x (s + u) ∙ sym (ap (rule (nth p' x)) (nth_stretch s w q' u l))
            | no l ↦ ap (rule (nth p x)) (past q u (omega arith)) ∙ none x ∙ sym (ap (rule (nth p' x)) (past q' u (omega arith)))
          ];
        }
      where
        cut : (l : List ℕ) → length (window_bases s w l) ≡ min (s + w - s) (length l - s)
        cut l = length-take (s + w - s) (drop s l) ∙ ap (min (s + w - s)) (length-drop s l)

        past : (l : List ℕ) (u : ℕ) → w ≤ u → nth (window_bases s w l) u ≡ 0
        past l u h = get_or-eq_default (window_bases s w l) 0 {n = u} (omega (arith, cut l))

        -- Past the end of both molecules the letters are 0.
        none : (x : ℕ) → rule (nth p x) 0 ≡ rule (nth p' x) 0
        none x =
            ap (rule (nth p x)) (sym (get_or-eq_default q 0 {n = length q} (omega arith))) ∙ N.same x (length q)
            ∙ ap (rule (nth p' x)) (get_or-eq_default q' 0 {n = length q} (omega (arith, N.molecule)))

  module _ {p q p' q' : List ℕ} (N : NotToldApart rule p q p' q') (pm qm : List ℕ) where
    alike_carries : carries rule p pm q qm ≡ carries rule p' pm q' qm
    unfolding carries
    alike_carries =
        fun_ext (λ s. fun_ext (λ w. ap₂ eqb (alike_longest (window_apart N s w) pm (window_mates s w qm)) (sym N.motif)))

    alike_start : (w : ℕ) → first_start rule p pm q qm w ≡ first_start rule p' pm q' qm w
    unfolding first_start
    alike_start w = rw (alike_carries, N.molecule) refl

    alike_some : some_carries rule p pm q qm ≡ some_carries rule p' pm q' qm
    unfolding some_carries
    alike_some = fun_ext (λ w. rw (alike_carries, N.molecule) refl)

    alike_tightest : tightest_length rule p pm q qm ≡ tightest_length rule p' pm q' qm
    unfolding tightest_length
    alike_tightest = rw (alike_some, N.molecule) refl

    pub same_found : SameFound rule p q p' q' pm qm
    same_found =
        record {
          embeddings = λ a b s e f. (
            (λ E. subst (λ (fit : ℕ → ℕ → Bool). Emb fit (nth pm) (nth qm) a b s e f) (one_fit N) E),
            (λ E. subst (λ (fit : ℕ → ℕ → Bool). Emb fit (nth pm) (nth qm) a b s e f) (sym (one_fit N)) E),
          );
          same_longest = alike_longest N pm qm;
          same_verified = alike_verified N pm qm;
          same_tightest = alike_tightest;
          same_start = alike_start;
        }

-- The letter rule passes on the letters of the same places of two spellings.
pub not_told_apart : {p q p' q' : List ℕ} → ReadAlike p p' → ReadAlike q q' → NotToldApart letters_match p q p' q'
not_told_apart {p} {q} {p'} {q'} P Q =
    record { motif = P.many; molecule = Q.many; same = λ x u. alike_first P x (nth q u) ∙ alike_second Q u (nth p' x) }

pub spelled_found : {p q p' q' : List ℕ} → ReadAlike p p' → ReadAlike q q' → (pm qm : List ℕ) → SameFound letters_match p q p' q' pm qm
spelled_found P Q pm qm = same_found letters_match (not_told_apart P Q) pm qm

pub embed_alike : (p q p' q' : Strand) → Respelled p p' → Respelled q q' → EmbedAlike p q p' q'
unfolding embeds
embed_alike p q p' q' P Q =
    let S = spelled_found P.bases Q.bases p.mates q.mates in
    rw (P.mates, Q.mates) record {
      embeds_in = rw (P.bases.many, Q.bases.many) (
        (λ E. (E.0, (S.embeddings _ _ _ _ E.0).0 E.1)),
        (λ E. (E.0, (S.embeddings _ _ _ _ E.0).1 E.1)),
      );
      test = rw P.bases.many (ap (λ (n : ℕ). eqb n (length p.bases)) S.same_longest);
    }

pub verify_alike : {p q p' q' : List ℕ} → ReadAlike p p' → ReadAlike q q' → (pm qm v : List ℕ) → verify_answer p pm q qm v ≡ verify_answer p' pm q' qm v
unfolding verify_verdict
verify_alike P Q pm qm v = rw (alike_pair P Q pm qm, (spelled_found P Q pm qm).same_verified v, P.many) refl
