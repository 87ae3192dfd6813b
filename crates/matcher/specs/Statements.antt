-- What is claimed of the answers of length and show, for all lists; `claims`, in proofs/Claims, proves it.
use Rattle.std.specs.Prelude.{ℕ, ◌≡◌, List, Err}
use Rattle.letters.specs.Letters.{ReadAlike}
use Rattle.refusals.specs.Rules.{Refuses, TableSides}
use Rattle.matcher.specs.Answers.{length_verdict, length_answer, show_verdict, show_answer, LengthAccepts, ShowAccepts, PrefixSays, WholeSays}
use Rattle.matcher.specs.Answers.{EmptyMotifMatched}

-- All the claims.
pub record Claims : Type 0 where
  pub length_says : (p pm q qm : List ℕ) (work : ℕ) → PrefixSays (length_verdict p pm q qm work) p pm q qm (length_answer p pm q qm work)
  pub length_whole : (p pm q qm : List ℕ) (work : ℕ) → WholeSays (length_verdict p pm q qm work) p pm q qm (length_answer p pm q qm work)
  pub length_accepts : (p pm q qm : List ℕ) (work : ℕ) → LengthAccepts p pm q qm work
  pub length_refuses : (p pm q qm : List ℕ) (work : ℕ) → Refuses (length_verdict p pm q qm work) Err (length_answer p pm q qm work)
  pub length_sides : (p pm q qm : List ℕ) (work : ℕ) → TableSides (length_verdict p pm q qm work)
  pub show_says : (p pm q qm : List ℕ) (places work : ℕ) → PrefixSays (show_verdict p pm q qm places work) p pm q qm (show_answer p pm q qm places work)
  pub show_whole : (p pm q qm : List ℕ) (places work : ℕ) → WholeSays (show_verdict p pm q qm places work) p pm q qm (show_answer p pm q qm places work)
  pub show_accepts : (p pm q qm : List ℕ) (places work : ℕ) → ShowAccepts p pm q qm places work
  pub empty_motif_matched : (q qm : List ℕ) (work : ℕ) → EmptyMotifMatched q qm work
  pub show_refuses : (p pm q qm : List ℕ) (places work : ℕ) → Refuses (show_verdict p pm q qm places work) Err (show_answer p pm q qm places work)
  pub show_sides : (p pm q qm : List ℕ) (places work : ℕ) → TableSides (show_verdict p pm q qm places work)
  -- 02, (vi): two spellings of a motif, and two of a molecule, get the same answer
  pub length_respelled : (p pm q qm p' q' : List ℕ) (work : ℕ) → ReadAlike p p' → ReadAlike q q' → length_answer p pm q qm work ≡ length_answer p' pm q' qm work
  pub show_respelled : (p pm q qm p' q' : List ℕ) (places work : ℕ) → ReadAlike p p' → ReadAlike q q'
      → show_answer p pm q qm places work ≡ show_answer p' pm q' qm places work
