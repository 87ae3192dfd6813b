-- The calls length and show: what they answer and leave, and what an answer says.
use Rattle.std.specs.Prelude.{ℕ, ◌≤◌, ◌≡◌, ◌↔◌, List, [], ◌∷◌, ltb, length, Result, Ok, Err}
use Rattle.refusals.specs.declared.Refusal.{Refusal}
use Rattle.lists.specs.Vocabulary.{nth}
use Rattle.strand.specs.declared.Fold.{Fold}
use Rattle.strand.specs.Folds.{fold_of, IsFold}
use Rattle.letters.specs.Letters.{letters_match}
use Rattle.strand.specs.Strands.{strand_of, check_verdict, pair_verdict, Pair}
use Rattle.refusals.specs.Rules.{Verdict, no_side, wrong_slice, refuse_if, first, by_verdict, work_size, work_rule}
use Rattle.embedding.specs.Embedding.{letters_fit, Emb, IsLongest, EmbedsIn}
use Rattle.embedding.specs.Longest.{longest}
use Rattle.matcher.specs.declared.Prefix.{Prefix}

-- An answer of length or show: a refusal, or the length of a prefix, with a fold.
abbrev pub Matched : Type 0
Matched = Result Prefix Refusal

abbrev pub matched_prefix : ℕ → Fold → Matched
matched_prefix L f = Ok (record { length = L; fold = f })

-- Rule 9: show's slice below m.
abbrev pub places_rule : ℕ → ℕ → Verdict
places_rule m places = refuse_if wrong_slice no_side (ltb places m)

-- The call length, with a work slice of so many entries: motif, molecule, then 8; else L. 02, (i): "the direct calls hand on those of Q", the number of arcs
-- and the depth.
unfoldable pub length_verdict : List ℕ → List ℕ → List ℕ → List ℕ → ℕ → Verdict
length_verdict p pm q qm work = first (pair_verdict p pm q qm ∷ work_rule (length p) (length q) work ∷ [])

unfoldable pub length_answer : List ℕ → List ℕ → List ℕ → List ℕ → ℕ → Matched
length_answer p pm q qm work = by_verdict (length_verdict p pm q qm work) Err (matched_prefix (longest letters_match p pm q qm) (fold_of qm))

-- The call show, with a slice of so many places: motif, molecule, 9, then 8; else L, and the fold of Q.
unfoldable pub show_verdict : List ℕ → List ℕ → List ℕ → List ℕ → ℕ → ℕ → Verdict
show_verdict p pm q qm places work =
    first (pair_verdict p pm q qm ∷ places_rule (length p) places ∷ work_rule (length p) (length q) work ∷ [])

unfoldable pub show_answer : List ℕ → List ℕ → List ℕ → List ℕ → ℕ → ℕ → Matched
show_answer p pm q qm places work = by_verdict (show_verdict p pm q qm places work) Err (matched_prefix (longest letters_match p pm q qm) (fold_of qm))

-- Both are accepted exactly where no rule applies.
abbrev pub LengthAccepts : List ℕ → List ℕ → List ℕ → List ℕ → ℕ → Type 0
LengthAccepts p pm q qm work = (length_verdict p pm q qm work ≡ Ok tt) ↔ (Pair p pm q qm × (work_size (length p) (length q) ≤ work))

abbrev pub ShowAccepts : List ℕ → List ℕ → List ℕ → List ℕ → ℕ → ℕ → Type 0
ShowAccepts p pm q qm places work =
    (show_verdict p pm q qm places work ≡ Ok tt) ↔ (Pair p pm q qm × (length p ≤ places) × (work_size (length p) (length q) ≤ work))

-- 02, (iii), what length, show and window refuse where the motif has no bases: the molecule, then with 8 a work slice of fewer than 64 + 8n entries. Any
-- slice of places will do.
abbrev pub empty_motif_verdict : List ℕ → List ℕ → ℕ → Verdict
empty_motif_verdict q qm work = first (check_verdict q qm ∷ work_rule 0 (length q) work ∷ [])

-- 01, Length: "the largest L such that the closed prefix of L bases embeds in Q". Where the rules of length or show give verdict v,
-- the answer r is L with f exactly when the call is accepted, the closed prefix of L bases embeds and no longer one does, and f is the fold of Q.
abbrev pub PrefixSays : Verdict → List ℕ → List ℕ → List ℕ → List ℕ → Matched → Type 0
PrefixSays v p pm q qm r = (L : ℕ) (f : Fold) → (r ≡ matched_prefix L f) ↔ ((v ≡ Ok tt) × IsLongest letters_match p pm q qm L × IsFold qm f)

-- 01: "L = m exactly when P embeds."
abbrev pub WholeSays : Verdict → List ℕ → List ℕ → List ℕ → List ℕ → Matched → Type 0
WholeSays v p pm q qm r =
    ((f : Fold) × (r ≡ matched_prefix (length p) f)) ↔ ((v ≡ Ok tt) × EmbedsIn (strand_of p pm) (strand_of q qm))

-- 01, Show: the first L places are an embedding of the prefix of L bases, and later entries keep their values.
pub record Shown (p pm q qm : List ℕ) (L : ℕ) (old new : List ℕ) : Type 0 where
  pub long : length new ≡ length old
  pub embeds : Emb (letters_fit p q) (nth pm) (nth qm) 0 L 0 (length q) (nth new)
  pub kept : (k : ℕ) → L ≤ k → nth new k ≡ nth old k

-- After a refusal the places are as before, after an accepted call they are as `Shown` says.
unfoldable pub PlacesShown : Matched → List ℕ → List ℕ → List ℕ → List ℕ → List ℕ → List ℕ → Type 0
PlacesShown (Ok r) p pm q qm before after = Shown p pm q qm r.length before after
PlacesShown (Err x) p pm q qm before after = after ≡ before

-- 02, (iii): "an empty motif embeds in every molecule, with L = 0 and no places". The whole answers of length and show for it; refused or not, show leaves
-- the places as they were.
pub record EmptyMotifMatched (q qm : List ℕ) (work : ℕ) : Type 0 where
  pub length_verdict_lem : length_verdict [] [] q qm work ≡ empty_motif_verdict q qm work
  pub show_verdict_lem : (places : ℕ) → show_verdict [] [] q qm places work ≡ empty_motif_verdict q qm work
  pub length_0 : length_answer [] [] q qm work ≡ by_verdict (empty_motif_verdict q qm work) Err (matched_prefix 0 (fold_of qm))
  pub show_0 : (places : ℕ) → show_answer [] [] q qm places work ≡ by_verdict (empty_motif_verdict q qm work) Err (matched_prefix 0 (fold_of qm))
  pub places_kept : (before after : List ℕ) → PlacesShown (show_answer [] [] q qm (length before) work) [] [] q qm before after → after ≡ before
