-- 02, (ii): windows of a molecule, and the tightest one that carries a motif, for any letter rule.
use Rattle.std.specs.Prelude.{ℕ, suc, ◌+◌, ◌-◌, ◌≤◌, ◌<◌, ◌≡◌, Bool, true, ◌&&◌, ◌↔◌, List, ltb, leb, eqb, length}
use Rattle.lists.specs.Vocabulary.{nth, between, choose, some, lowest, tab}
use Rattle.strand.specs.Strands.{Nested}
use Rattle.embedding.specs.Embedding.{fits, Emb, Embeds}
use Rattle.embedding.specs.Longest.{longest}

-- The window of w bases from s, cut out as a molecule of its own: its bases, and its mates. "A window has the arcs with both ends in it": a base whose mate
-- is not in the window is unbonded there.
abbrev pub window_bases : ℕ → ℕ → List ℕ → List ℕ
window_bases s w qb = between s (s + w) qb

unfoldable pub window_mate : ℕ → ℕ → List ℕ → ℕ → ℕ
window_mate s w qm i = choose (leb s (nth qm (s + i)) && ltb (nth qm (s + i)) (s + w)) (nth qm (s + i) - s) i

abbrev pub window_mates : ℕ → ℕ → List ℕ → List ℕ
window_mates s w qm = tab w (window_mate s w qm)

module _ (rule : ℕ → ℕ → Bool) (pb pm qb qm : List ℕ) where
  -- P embeds in Q with all its places from s to before e.
  abbrev pub EmbedsWithin : ℕ → ℕ → Type 0
  EmbedsWithin s e = Embeds (fits rule pb qb) (nth pm) (nth qm) 0 (length pb) s e

  -- f is an embedding of P in the window of w bases from s, cut out.
  abbrev pub EmbInWindow : ℕ → ℕ → (ℕ → ℕ) → Type 0
  EmbInWindow s w f = Emb (fits rule pb (window_bases s w qb)) (nth pm) (nth (window_mates s w qm)) 0 (length pb) 0 w f

  -- The window carries an embedding of P: the longest closed prefix of P that embeds in it is P.
  unfoldable pub carries : ℕ → ℕ → Bool
  carries s w = eqb (longest rule pb pm (window_bases s w qb) (window_mates s w qm)) (length pb)

  -- Some window of w bases carries P; the lowest start of one, or one more than the last where none does. Windows of w bases start at 0 to length qb - w.
  unfoldable pub some_carries : ℕ → Bool
  some_carries w = some (suc (length qb) - w) (λ s. carries s w)

  unfoldable pub first_start : ℕ → ℕ
  first_start w = lowest (suc (length qb) - w) (λ s. carries s w)

  -- The fewest bases of a window that carries P, every window being tried; one more than Q has where none does.
  unfoldable pub tightest_length : ℕ
  tightest_length = lowest (suc (length qb)) some_carries

  -- "A window of Q that carries an embedding of P": w bases from s are in Q, and an embedding of P in the window cut out exists.
  pub record Carries (s w : ℕ) : Type 0 where
    pub inside : s + w ≤ length qb
    pub embeds : (f : ℕ → ℕ) × EmbInWindow s w f

  -- The window of w bases from s is the tightest: ..
  pub record IsTightest (s w : ℕ) : Type 0 where
    pub here : Carries s w
    -- "No shorter window of Q carries an embedding of P, ..
    pub shortest : (s' w' : ℕ) → Carries s' w' → w ≤ w'
    -- .. and none of that length starts earlier."
    pub first : (s' : ℕ) → Carries s' w → s ≤ s'

  -- What the definitions say.
  pub record WindowsSay : Type 0 where
    -- "A window has the arcs with both ends in it": two of its bases are an arc of it exactly when they are one of Q
    pub arcs : (s w i j : ℕ) → i < j → j < w → (nth (window_mates s w qm) i ≡ j) ↔ (nth qm (s + i) ≡ s + j)
    -- the window of a nested molecule is nested
    pub nested : (s w : ℕ) → Nested (nth qm) (length qb) → s + w ≤ length qb → Nested (nth (window_mates s w qm)) w
    -- an embedding in the window cut out is, s further on, an embedding in Q with all its places in the window, and the other way round
    pub within : (s w : ℕ) → s + w ≤ length qb → (f : ℕ → ℕ)
        → EmbInWindow s w f ↔ Emb (fits rule pb qb) (nth pm) (nth qm) 0 (length pb) s (s + w) (λ x. s + f x)
    -- the test of a window
    pub test : (s w : ℕ) → s + w ≤ length qb → (carries s w ≡ true) ↔ Carries s w
    -- trying every window finds the tightest one; one is found exactly when P embeds in Q, and none exactly when it does not
    pub found : tightest_length ≤ length qb → IsTightest (first_start tightest_length) tightest_length
    pub found_when : (tightest_length ≤ length qb) ↔ EmbedsWithin 0 (length qb)
    pub none_when : (tightest_length ≡ suc (length qb)) ↔ (EmbedsWithin 0 (length qb) → ⊥)
    -- no other window is the tightest
    pub unique : (s w : ℕ) → IsTightest s w → (w ≡ tightest_length) × (s ≡ first_start tightest_length)
    -- 02, (iii), of a P without bases: "Its tightest window has start 0 and length 0."
    pub empty : length pb ≡ 0 → IsTightest 0 0
