-- The length L as brute force, every list of places being tried; the test of given places, and the call verify.
use Rattle.std.specs.Prelude.{ℕ, Bool, true, false, Result, Ok, Err, ◌&&◌, not, ◌≡◌, ◌↔◌, List, [], ◌∷◌, ltb, eqb, length}
use Rattle.std.specs.Bool.{beq}
use Rattle.lists.specs.Vocabulary.{nth, every, some_list, largest}
use Rattle.embedding.specs.Embedding.{fits, letters_fit, Emb}
use Rattle.refusals.specs.declared.Refusal.{Refusal}
use Rattle.refusals.specs.Rules.{Verdict, no_side, wrong_slice, refuse_if, first, by_verdict}
use Rattle.strand.specs.declared.Fold.{Fold}
use Rattle.strand.specs.Folds.{fold_of, IsFold}
use Rattle.letters.specs.Letters.{letters_match}
use Rattle.strand.specs.Strands.{Strand, check_verdict, pair_verdict, Pair}
use Rattle.embedding.specs.declared.Verified.{Verified}

-- 01, Embedding: the places v embed the first k bases of P in a Q of n bases. Each y below k: its place is in Q, its letter fits, and for
-- each x below y the places rise, and x and y are an arc exactly when their places are.
unfoldable pub places_ok : (ℕ → ℕ → Bool) → (ℕ → ℕ) → (ℕ → ℕ) → ℕ → ℕ → List ℕ → Bool
places_ok fit pm qm n k v =
    every k λ y.
    ltb (nth v y) n && fit y (nth v y)
    && every y (λ x. ltb (nth v x) (nth v y) && beq (eqb (pm x) y) (eqb (qm (nth v x)) (nth v y)))

-- 01, Embedding: the prefix of k bases is closed. No mate of its bases lies outside.
unfoldable pub closed_to : (ℕ → ℕ) → ℕ → Bool
closed_to pm k = every k (λ x. ltb (pm x) k)

-- The prefix of k bases is closed, and some k places embed it.
unfoldable pub prefix_ok : (ℕ → ℕ → Bool) → (ℕ → ℕ) → (ℕ → ℕ) → ℕ → ℕ → Bool
prefix_ok fit pm qm n k =
    let r = some_list k n (places_ok fit pm qm n k) in
    closed_to pm k && r

-- 01, Length: the largest L such that the closed prefix of L bases embeds in Q.
unfoldable pub longest : (ℕ → ℕ → Bool) → List ℕ → List ℕ → List ℕ → List ℕ → ℕ
longest rule pb pm qb qm = largest (length pb) (prefix_ok (fits rule pb qb) (nth pm) (nth qm) (length qb))

-- 01, Verify: the places v, as many as P has bases, are an embedding of the whole P.
unfoldable pub verified : (ℕ → ℕ → Bool) → List ℕ → List ℕ → List ℕ → List ℕ → List ℕ → Bool
verified rule pb pm qb qm v = eqb (length v) (length pb) && places_ok (fits rule pb qb) (nth pm) (nth qm) (length qb) (length pb) v

-- 01, Refused inputs: the motif, the molecule, then 9 where the places are not as many as the motif's bases.
unfoldable pub verify_verdict : List ℕ → List ℕ → List ℕ → List ℕ → List ℕ → Verdict
verify_verdict p pm q qm v = first (pair_verdict p pm q qm ∷ refuse_if wrong_slice no_side (not (eqb (length v) (length p))) ∷ [])

-- An answer of verify: a refusal, or a yes or no with a fold.
abbrev pub VerifyAnswer : Type 0
VerifyAnswer = Result Verified Refusal

abbrev pub says_yes : Fold → VerifyAnswer
says_yes f = Ok (record { embeds = true; fold = f })

abbrev pub says_no : Fold → VerifyAnswer
says_no f = Ok (record { embeds = false; fold = f })

-- 01, Verify: unless it is refused, yes exactly when the places are an embedding of the whole P. 02, (i): "the direct calls hand on those of Q", the number of
-- arcs and the depth, with yes and with no.
abbrev pub verify_answer : List ℕ → List ℕ → List ℕ → List ℕ → List ℕ → VerifyAnswer
verify_answer p pm q qm v =
    by_verdict (verify_verdict p pm q qm v) Err (Ok (record { embeds = verified letters_match p pm q qm v; fold = fold_of qm }))

-- The lent places are an embedding of the whole P.
abbrev pub EmbedsAt : List ℕ → List ℕ → List ℕ → List ℕ → List ℕ → Type 0
EmbedsAt p pm q qm v = Emb (letters_fit p q) (nth pm) (nth qm) 0 (length p) 0 (length q) (nth v)

-- 01, Verify: the answer r is yes with f exactly when the call is accepted, "the lent places are an embedding of the whole P" and f is the fold of Q; it is no
-- with f exactly when the call is accepted, they are none, and f is the fold of Q.
pub record VerifySays (p pm q qm v : List ℕ) (r : VerifyAnswer) : Type 0 where
  pub yes : (f : Fold) → (r ≡ says_yes f) ↔ ((verify_verdict p pm q qm v ≡ Ok tt) × EmbedsAt p pm q qm v × IsFold qm f)
  pub no : (f : Fold) → (r ≡ says_no f) ↔ ((verify_verdict p pm q qm v ≡ Ok tt) × (EmbedsAt p pm q qm v → ⊥) × IsFold qm f)

-- It is accepted exactly where no rule applies.
abbrev pub VerifyAccepts : List ℕ → List ℕ → List ℕ → List ℕ → List ℕ → Type 0
VerifyAccepts p pm q qm v = (verify_verdict p pm q qm v ≡ Ok tt) ↔ (Pair p pm q qm × (length v ≡ length p))

-- 02, (iii): "an empty motif embeds in every molecule, with L = 0 and no places". The whole answer of verify for it: it refuses what check refuses of
-- the molecule, then by 9 any list of places but the empty one; else it says yes.
abbrev pub EmptyMotifVerified : List ℕ → List ℕ → List ℕ → Type 0
EmptyMotifVerified q qm v =
    verify_answer [] [] q qm v
    ≡ by_verdict (first (check_verdict q qm ∷ refuse_if wrong_slice no_side (not (eqb (length v) 0)) ∷ [])) Err (says_yes (fold_of qm))

-- 01: L = m exactly when P embeds. This is the test of a query; `EmbedsIn` is the relation that it decides (`Decides`, in history).
unfoldable pub embeds : Strand → Strand → Bool
embeds p q = eqb (longest letters_match p.bases p.mates q.bases q.mates) (length p.bases)
