-- What an embedding is: of a stretch P[a..b) of the motif in a stretch Q[s..e) of the molecule, positions from 0, under any letter rule.
-- A strand's arcs are given by its mates; an unbonded base has its own position as mate. Stretches may be empty.
use Rattle.std.specs.Prelude.{ℕ, ◌≤◌, ◌<◌, ◌≡◌, Bool, true, ◌↔◌, List, length}
use Rattle.lists.specs.Vocabulary.{nth}
use Rattle.letters.specs.Letters.{letters_match}
use Rattle.strand.specs.Strands.{Strand}

-- 01, bases: position x of P may go to position u of Q where the rule, motif letter first, passes on their letters.
abbrev pub fits : (ℕ → ℕ → Bool) → List ℕ → List ℕ → ℕ → ℕ → Bool
fits rule pb qb x u = rule (nth pb x) (nth qb u)

-- 01, bases, by the rule of 02, (vi): the two bases are the same byte, or both are among T and U.
abbrev pub letters_fit : List ℕ → List ℕ → ℕ → ℕ → Bool
letters_fit pb qb = fits letters_match pb qb

-- 01, Embedding (003: P[a..b) is an arc-preserving subsequence of Q[s..e)): f gives each position of P[a..b) a position of Q[s..e), such that ..
pub record Emb (fit : ℕ → ℕ → Bool) (pm qm : ℕ → ℕ) (a b s e : ℕ) (f : ℕ → ℕ) : Type 0 where
  pub low : (x : ℕ) → a ≤ x → x < b → s ≤ f x
  pub high : (x : ℕ) → a ≤ x → x < b → f x < e
  -- order: a later position of P goes to a later position of Q;
  pub order : (x y : ℕ) → a ≤ x → x < y → y < b → f x < f y
  -- bases: the letters fit;
  pub bases : (x : ℕ) → a ≤ x → x < b → fit x (f x) ≡ true
  -- arcs: two positions of P are an arc exactly when their images are an arc of Q.
  pub arcs : (x y : ℕ) → a ≤ x → x < y → y < b → (pm x ≡ y) ↔ (qm (f x) ≡ f y)

-- An embedding exists.
abbrev pub Embeds : (ℕ → ℕ → Bool) → (ℕ → ℕ) → (ℕ → ℕ) → ℕ → ℕ → ℕ → ℕ → Type 0
Embeds fit pm qm a b s e = (f : ℕ → ℕ) × Emb fit pm qm a b s e f

-- 01, Embedding: the prefix of k bases of a P of m bases is closed: no arc of P has one end in it and one outside.
abbrev pub ClosedPrefix : (ℕ → ℕ) → ℕ → ℕ → Type 0
ClosedPrefix pm m k = (x y : ℕ) → x < k → k ≤ y → y < m → pm x ≡ y → ⊥

-- 01, Length: the prefix of L bases of P is closed and embeds in Q, and no longer prefix is closed and embeds.
pub record IsLongest (rule : ℕ → ℕ → Bool) (pb pm qb qm : List ℕ) (L : ℕ) : Type 0 where
  pub upto : L ≤ length pb
  pub closed : ClosedPrefix (nth pm) (length pb) L
  pub embeds : Embeds (fits rule pb qb) (nth pm) (nth qm) 0 L 0 (length qb)
  pub largest : (k : ℕ) → k ≤ length pb → ClosedPrefix (nth pm) (length pb) k → Embeds (fits rule pb qb) (nth pm) (nth qm) 0 k 0 (length qb)
      → k ≤ L

-- An embedding of the motif p into the molecule q exists.
abbrev pub EmbedsIn : Strand → Strand → Type 0
EmbedsIn p q = Embeds (letters_fit p.bases q.bases) (nth p.mates) (nth q.mates) 0 (length p.bases) 0 (length q.bases)
