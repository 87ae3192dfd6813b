-- What is claimed of these definitions, for every letter rule and all lists; `claims`, in proofs/Claims, proves it.
use Rattle.std.specs.Prelude.{ℕ, ◌≤◌, ◌<◌, ◌≡◌, Bool, true, false, ◌↔◌, List, [], length, Err}
use Rattle.lists.specs.Vocabulary.{nth}
use Rattle.refusals.specs.Rules.{Refuses, TableSides}
use Rattle.letters.specs.Letters.{letters_match, ReadAlike}
use Rattle.strand.specs.Strands.{Strand, empty_motif, Respelled, Inside}
use Rattle.embedding.specs.Embedding.{fits, Emb, ClosedPrefix, IsLongest, EmbedsIn}
use Rattle.embedding.specs.Longest.{closed_to, longest, verified, verify_verdict, verify_answer, VerifySays, VerifyAccepts, EmptyMotifVerified, embeds}
use Rattle.embedding.specs.Windows.{WindowsSay, tightest_length, first_start}

-- The test of a prefix says what 01 says: it is closed when no arc of P has one end in it and one outside. Here and below the mates are in
-- range, as they are in every accepted strand.
abbrev pub ClosedSays : Type 0
ClosedSays = (mate : ℕ → ℕ) (m k : ℕ) → Inside mate m → k ≤ m → (closed_to mate k ≡ true) ↔ ClosedPrefix mate m k

-- The empty prefix and P itself are closed.
pub record EndsClosed (mate : ℕ → ℕ) (m : ℕ) : Type 0 where
  pub none : ClosedPrefix mate m 0
  pub whole : ClosedPrefix mate m m

-- Yes exactly when the places are as many as P has bases, and an embedding of the whole P; a place at or above n means no.
pub record VerifiedSays (rule : ℕ → ℕ → Bool) (pb pm qb qm v : List ℕ) : Type 0 where
  pub yes : (verified rule pb pm qb qm v ≡ true)
      ↔ ((length v ≡ length pb) × Emb (fits rule pb qb) (nth pm) (nth qm) 0 (length pb) 0 (length qb) (nth v))
  pub outside : (x : ℕ) → x < length v → length qb ≤ nth v x → verified rule pb pm qb qm v ≡ false

-- 02, (iii): "an empty motif embeds in every molecule, with L = 0 and no places", by any letter rule: every f is an embedding of it, for there is nothing to
-- place; the longest prefix has no bases; the test of places passes the empty list and no other.
pub record EmptyMotifEmbeds (rule : ℕ → ℕ → Bool) (qb qm : List ℕ) : Type 0 where
  pub embeds : (f : ℕ → ℕ) → Emb (fits rule [] qb) (nth []) (nth qm) 0 0 0 (length qb) f
  pub longest_0 : longest rule [] [] qb qm ≡ 0
  pub no_places : (v : List ℕ) → (verified rule [] [] qb qm v ≡ true) ↔ (v ≡ [])

-- 02, (vi), for any letter rule: it does not tell the bases p of a motif and q of a molecule from p' and q'. There are as many, and at any two
-- places, past the ends too, it says the same of the letters there.
pub record NotToldApart (rule : ℕ → ℕ → Bool) (p q p' q' : List ℕ) : Type 0 where
  pub motif : length p' ≡ length p
  pub molecule : length q' ≡ length q
  pub same : (x u : ℕ) → fits rule p q x u ≡ fits rule p' q' x u

-- Then with the same mates they have the same embeddings, longest closed prefix, verified places and tightest window.
pub record SameFound (rule : ℕ → ℕ → Bool) (p q p' q' pm qm : List ℕ) : Type 0 where
  pub embeddings : (a b s e : ℕ) (f : ℕ → ℕ) → Emb (fits rule p q) (nth pm) (nth qm) a b s e f ↔ Emb (fits rule p' q') (nth pm) (nth qm) a b s e f
  pub same_longest : longest rule p pm q qm ≡ longest rule p' pm q' qm
  pub same_verified : (v : List ℕ) → verified rule p pm q qm v ≡ verified rule p' pm q' qm v
  pub same_tightest : tightest_length rule p pm q qm ≡ tightest_length rule p' pm q' qm
  pub same_start : (w : ℕ) → first_start rule p pm q qm w ≡ first_start rule p' pm q' qm w

-- Two spellings of a motif, and two of a molecule: one embeds where the other does, and the test of a query says the same.
pub record EmbedAlike (p q p' q' : Strand) : Type 0 where
  pub embeds_in : EmbedsIn p q ↔ EmbedsIn p' q'
  pub test : embeds p q ≡ embeds p' q'

-- All the claims.
pub record Claims : Type 0 where
  pub closed : ClosedSays
  pub ends : (mate : ℕ → ℕ) (m : ℕ) → EndsClosed mate m
  pub longest_is : (rule : ℕ → ℕ → Bool) (pb pm qb qm : List ℕ) → Inside (nth pm) (length pb)
      → IsLongest rule pb pm qb qm (longest rule pb pm qb qm)
  pub longest_only : (rule : ℕ → ℕ → Bool) (pb pm qb qm : List ℕ) → Inside (nth pm) (length pb)
      → (L : ℕ) → IsLongest rule pb pm qb qm L → L ≡ longest rule pb pm qb qm
  pub windows_say : (rule : ℕ → ℕ → Bool) (pb pm qb qm : List ℕ) → Inside (nth pm) (length pb) → WindowsSay rule pb pm qb qm
  pub verified_says : (rule : ℕ → ℕ → Bool) (pb pm qb qm v : List ℕ) → VerifiedSays rule pb pm qb qm v
  pub verify_says : (p pm q qm v : List ℕ) → VerifySays p pm q qm v (verify_answer p pm q qm v)
  pub verify_accepts : (p pm q qm v : List ℕ) → VerifyAccepts p pm q qm v
  pub verify_refuses : (p pm q qm v : List ℕ) → Refuses (verify_verdict p pm q qm v) Err (verify_answer p pm q qm v)
  pub verify_sides : (p pm q qm v : List ℕ) → TableSides (verify_verdict p pm q qm v)
  pub empty_motif_lem : (rule : ℕ → ℕ → Bool) (qb qm : List ℕ) → EmptyMotifEmbeds rule qb qm
  pub empty_motif_verified : (q qm v : List ℕ) → EmptyMotifVerified q qm v
  -- the test of a query says yes to it
  pub empty_motif_test : (q : Strand) → embeds empty_motif q ≡ true
  -- what a rule does not tell apart, no search does; the letter rule does not tell spellings apart, nor does the call verify
  pub same_found : (rule : ℕ → ℕ → Bool) (p q p' q' pm qm : List ℕ) → NotToldApart rule p q p' q' → SameFound rule p q p' q' pm qm
  pub spellings : (p q p' q' : List ℕ) → ReadAlike p p' → ReadAlike q q' → NotToldApart letters_match p q p' q'
  pub embed_alike : (p q p' q' : Strand) → Respelled p p' → Respelled q q' → EmbedAlike p q p' q'
  pub verify_respelled : (p pm q qm p' q' v : List ℕ) → ReadAlike p p' → ReadAlike q q' → verify_answer p pm q qm v ≡ verify_answer p' pm q' qm v
