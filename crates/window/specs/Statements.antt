-- What is claimed of the answers of window, for all lists; `claims`, in proofs/Claims, proves it. `LengthAccepts`, of matcher, says when the call is
-- accepted.
use Rattle.std.specs.Prelude.{ℕ, ◌≡◌, List, Err}
use Rattle.letters.specs.Letters.{ReadAlike}
use Rattle.refusals.specs.Rules.{Refuses}
use Rattle.matcher.specs.Answers.{length_verdict}
use Rattle.window.specs.Answers.{window_answer, WindowSays, EmptyMotifWindowed}

-- All the claims.
pub record Claims : Type 0 where
  pub window_says : (p pm q qm : List ℕ) (work : ℕ) → WindowSays (length_verdict p pm q qm work) p pm q qm (window_answer p pm q qm work)
  pub empty_motif_windowed : (q qm : List ℕ) (work : ℕ) → EmptyMotifWindowed q qm work
  pub window_refuses : (p pm q qm : List ℕ) (work : ℕ) → Refuses (length_verdict p pm q qm work) Err (window_answer p pm q qm work)
  -- 02, (vi): two spellings of a motif, and two of a molecule, get the same answer
  pub window_respelled : (p pm q qm p' q' : List ℕ) (work : ℕ) → ReadAlike p p' → ReadAlike q q' → window_answer p pm q qm work ≡ window_answer p' pm q' qm work
