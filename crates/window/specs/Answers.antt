-- 02, (ii): the call window, what it answers, and what an answer says. Its rules are those of length, and of the work slice the same is said (`WorkKept`).
use Rattle.std.specs.Prelude.{ℕ, ◌≡◌, ◌↔◌, List, [], leb, length, Some, None, Result, Ok, Err}
use Rattle.lists.specs.Vocabulary.{choose}
use Rattle.refusals.specs.declared.Refusal.{Refusal}
use Rattle.refusals.specs.Rules.{Verdict, by_verdict}
use Rattle.strand.specs.declared.Fold.{Fold}
use Rattle.strand.specs.Folds.{fold_of, IsFold}
use Rattle.letters.specs.Letters.{letters_match}
use Rattle.strand.specs.Strands.{strand_of}
use Rattle.embedding.specs.Embedding.{EmbedsIn}
use Rattle.embedding.specs.Windows.{tightest_length, first_start, IsTightest}
use Rattle.matcher.specs.Answers.{length_verdict, empty_motif_verdict}
use Rattle.window.specs.declared.Tightest.{Tightest}

-- An answer of window: a refusal, or a window or none, with a fold.
abbrev pub Windowed : Type 0
Windowed = Result Tightest Refusal

-- The window of w bases from s on.
abbrev pub window_at : ℕ → ℕ → Fold → Windowed
window_at s w f = Ok (record { window = Some (record { start = s; length = w }); fold = f })

-- None.
abbrev pub window_nowhere : Fold → Windowed
window_nowhere f = Ok (record { window = None; fold = f })

-- The first of the shortest windows that carry P, w being the fewest bases of one, or none where w is more than Q has; and the fold of Q.
unfoldable pub window_of : List ℕ → List ℕ → List ℕ → List ℕ → ℕ → Windowed
window_of p pm q qm w = choose (leb w (length q)) (window_at (first_start letters_match p pm q qm w) w (fold_of qm)) (window_nowhere (fold_of qm))

-- The call, with a work slice of so many entries. "Inputs, limits, refusals and their order are those of length."
unfoldable pub window_answer : List ℕ → List ℕ → List ℕ → List ℕ → ℕ → Windowed
window_answer p pm q qm work = by_verdict (length_verdict p pm q qm work) Err (window_of p pm q qm (tightest_length letters_match p pm q qm))

-- 02, (iii): "Its tightest window has start 0 and length 0", that of an empty motif. The whole answer for it.
abbrev pub EmptyMotifWindowed : List ℕ → List ℕ → ℕ → Type 0
EmptyMotifWindowed q qm work = window_answer [] [] q qm work ≡ by_verdict (empty_motif_verdict q qm work) Err (window_at 0 0 (fold_of qm))

-- Where the rules give verdict v, the answer r ..
pub record WindowSays (v : Verdict) (p pm q qm : List ℕ) (r : Windowed) : Type 0 where
  -- is start s and length w with f exactly when the call is accepted, that window is the tightest that carries an embedding of P, and f is the fold of Q;
  pub at : (s w : ℕ) (f : Fold) → (r ≡ window_at s w f) ↔ ((v ≡ Ok tt) × IsTightest letters_match p pm q qm s w × IsFold qm f)
  -- is some window exactly when the call is accepted and P embeds in Q (it follows from the other two);
  pub somewhere : ((s : ℕ) × (w : ℕ) × (f : Fold) × (r ≡ window_at s w f)) ↔ ((v ≡ Ok tt) × EmbedsIn (strand_of p pm) (strand_of q qm))
  -- is none with f exactly when the call is accepted, P does not embed in Q, and f is the fold of Q.
  pub nowhere : (f : Fold) → (r ≡ window_nowhere f) ↔ ((v ≡ Ok tt) × (EmbedsIn (strand_of p pm) (strand_of q qm) → ⊥) × IsFold qm f)
