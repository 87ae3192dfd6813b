-- Only the laws of Bille and Gørtz (proofs/Segment, Recurrence, Entries, Arc, Bounds, Rows and Computed of this crate) and the contracts and laws of rows,
-- arcs, placing, trace and walk need this file: reached ends, the largest of them, rows of such ends, and bounds of the starts.
use Rattle.std.specs.Prelude.{ℕ, suc, ◌≤◌, ◌<◌, max, ◌≡◌, Bool, true, ltb, leb}
use Rattle.lists.specs.Vocabulary.{choose}
use Rattle.embedding.specs.Embedding.{Embeds}

-- P[j..k) is a closed prefix of P[j..): no base of it has its mate at or after k.
abbrev pub Closed : (ℕ → ℕ) → ℕ → ℕ → Type 0
Closed pm j k = (x : ℕ) → j ≤ x → x < k → pm x < k

-- The split of Q[s..e) at i crosses no arc of Q[s..e).
abbrev pub Split : (ℕ → ℕ) → ℕ → ℕ → ℕ → Type 0
Split qm s i e = (u : ℕ) → s ≤ u → u < i → i ≤ qm u → e ≤ qm u

-- k is reached from j: P[j..k) is a closed prefix of P[j..m) and embeds in Q[s..e).
pub record Reach (fit : ℕ → ℕ → Bool) (pm qm : ℕ → ℕ) (m j k s e : ℕ) : Type 0 where
  pub from : j ≤ k
  pub upto : k ≤ m
  pub closed : Closed pm j k
  pub embeds : Embeds fit pm qm j k s e

-- k is the largest end reached from j (003: γ).
pub record Best (fit : ℕ → ℕ → Bool) (pm qm : ℕ → ℕ) (m j k s e : ℕ) : Type 0 where
  pub reach : Reach fit pm qm m j k s e
  pub most : (k' : ℕ) → Reach fit pm qm m j k' s e → k' ≤ k

-- The row (003: the Γ sequence) of Q[s..e) for the starts from lo to hi, where P ends at z.
pub record IsRow (fit : ℕ → ℕ → Bool) (pm qm : ℕ → ℕ) (lo hi z s e : ℕ) (row : ℕ → ℕ) : Type 0 where
  pub best : (j : ℕ) → lo ≤ j → j ≤ hi → Best fit pm qm z j (row j) s e

-- Bounds of the starts in Q[s..e), where P ends at z, letter by letter and whatever the bonds: what has taken no more than b i positions of P before base i
-- has taken no more than b (i + 1) after it. A row of a stretch that begins at i is wanted for the starts up to b i alone.
pub record Bounds (fit : ℕ → ℕ → Bool) (z s e : ℕ) (b : ℕ → ℕ) : Type 0 where
  pub rise : (i : ℕ) → s ≤ i → i < e → b i ≤ b (suc i)
  pub step : (i j : ℕ) → s ≤ i → i < e → j < z → j ≤ b i → fit j i ≡ true → j < b (suc i)

-- The row of one unbonded base: it takes position k if k is no left end and `has` says that it matches k.
unfoldable pub unit_at : (ℕ → Bool) → (ℕ → ℕ) → ℕ → ℕ → ℕ
unit_at has pm z k = choose (ltb k z) (choose (leb (pm k) k) (choose (has k) (suc k) k) k) k

-- What an arc of Q takes from j with its left end, by values: whether j matches the left end, whether the mate k of j matches the right end,
-- and the inner row's entry `next` for j + 1. It is j alone and on to `next`; or the arc of P from j, if it ends before z and all between its
-- ends is taken; or nothing.
unfoldable pub over_by : Bool → Bool → ℕ → ℕ → ℕ → ℕ → ℕ
over_by left right k z next j = choose left (choose (leb k j) next (choose (ltb k z) (choose right (choose (leb k next) (suc k) 0) 0) 0)) 0

-- The same in a segment that ends at z; `left` and `right` say which positions match the ends.
unfoldable pub over_at : (ℕ → Bool) → (ℕ → Bool) → (ℕ → ℕ) → ℕ → ℕ → ℕ → ℕ
over_at left right pm z next j = choose (ltb j z) (over_by (left j) (right (pm j)) (pm j) z next j) 0

-- The entry for j of an arc of Q, from its inner row's entries `here` for j and `next` for j + 1; `left` and `right` say which positions
-- match its ends.
abbrev pub arc_at : (ℕ → Bool) → (ℕ → Bool) → (ℕ → ℕ) → ℕ → ℕ → ℕ → ℕ → ℕ
arc_at left right pm z here next j = max (unit_at right pm z here) (over_at left right pm z next j)
