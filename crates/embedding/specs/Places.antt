-- Only the contracts inside this crate need this file: the parts of the test of places (order and range, letters, arcs).
use Rattle.std.specs.Prelude.{ℕ, ◌<◌, ◌≡◌, true, List, ◌↔◌, length}
use Rattle.lists.specs.Vocabulary.{nth}
use Rattle.letters.specs.Letters.{letters_match}

-- The places rise, and are below n.
pub record Ordered (v : List ℕ) (n : ℕ) : Type 0 where
  pub below : (x : ℕ) → x < length v → nth v x < n
  pub rises : (x y : ℕ) → x < y → y < length v → nth v x < nth v y

-- Each base of the motif matches the base at its place.
pub record Lettered (p q v : List ℕ) : Type 0 where
  pub match_at : (x : ℕ) → x < length v → letters_match (nth p x) (nth q (nth v x)) ≡ true

-- Some position has the place u.
pub record Has (v : List ℕ) (u : ℕ) : Type 0 where
  pub position : ℕ
  pub inside : position < length v
  pub here : nth v position ≡ u

-- The position x and a later one are an arc exactly when their places are.
pub record ArcKept (pm qm v : List ℕ) (x : ℕ) : Type 0 where
  pub with : (y : ℕ) → x < y → y < length v → (nth pm x ≡ y) ↔ (nth qm (nth v x) ≡ nth v y)

-- The same of every position.
pub record ArcsKept (pm qm v : List ℕ) : Type 0 where
  pub all : (x : ℕ) → x < length v → ArcKept pm qm v x
