-- Only the contracts and laws of this crate and of those above it that search need this file: segments, what a pass over a row writes, and the tables of a
-- motif.
use Rattle.std.specs.Prelude.{ℕ, ◌+◌, ◌*◌, ◌/◌, ◌%◌, ◌≤◌, ◌<◌, min, ◌≡◌, Bool, true, List, length}
use Rattle.lists.specs.Vocabulary.{nth}
use Rattle.letters.specs.Letters.{is_letter, letters_match}
use Rattle.letters.specs.Classes.{letter_class}
use Rattle.refusals.specs.Rules.{molecule_side}
use Rattle.embedding.specs.Row.{unit_at}

-- A segment P[from..to) of the motif. A row has an entry for each start from `from` to its last one, which is `to` or less, at that index of its stretch of
-- the work slice.
pub record Segment (p pm : List ℕ) (from to : ℕ) : Type 0 where
  pub same : length pm ≡ length p
  pub small : length p ≤ 4096
  pub order : from ≤ to
  pub ends : to ≤ length p

-- Of a slice only the entries from a to before e were written, with the values of f.
pub record Written (f : ℕ → ℕ) (old new : List ℕ) (a e : ℕ) : Type 0 where
  pub long : length new ≡ length old
  pub under : (k : ℕ) → k < a → nth new k ≡ nth old k
  pub done : (k : ℕ) → a ≤ k → k < e → nth new k ≡ f k
  pub past : (k : ℕ) → e ≤ k → nth new k ≡ nth old k

-- Of a row the entries from a to before e were written, with the values of f, and the entry at e stayed; what lies before a and past e is free.
pub record Remade (f : ℕ → ℕ) (old new : List ℕ) (a e : ℕ) : Type 0 where
  pub long : length new ≡ length old
  pub done : (k : ℕ) → a ≤ k → k < e → nth new k ≡ f k
  pub last : (k : ℕ) → e ≤ k → k ≤ e → nth new k ≡ nth old k

-- The positions whose letter matches the base b.
abbrev pub matches : List ℕ → ℕ → ℕ → Bool
matches p b x = letters_match (nth p x) b

-- The tables of P are five rows of m + 1 entries. The first has for each position two classes in one number: that of its letter, and 256 times that of its
-- mate's letter. Each other one is the row of an unbonded base, for A, C, U and G, in the order of two bits of the byte: that of the base b starts at
-- steps_at m b, and T has U's.
unfoldable pub classes_at : List ℕ → List ℕ → ℕ → ℕ
classes_at p pm j = letter_class (nth p j) + letter_class (nth p (nth pm j)) * 256

unfoldable pub steps_at : ℕ → ℕ → ℕ
steps_at m b = (m + 1) * (1 + b / 2 % 4)

pub record Tables (p pm tables : List ℕ) : Type 0 where
  pub long : 5 * (length p + 1) ≤ length tables
  pub own : (j : ℕ) → j < length p → nth tables j % 256 ≡ letter_class (nth p j)
  pub mate : (j : ℕ) → j < length p → nth tables j / 256 ≡ letter_class (nth p (nth pm j))
  pub step : (b : ℕ) → is_letter molecule_side b ≡ true → (k : ℕ) → k ≤ length p
      → nth tables (steps_at (length p) b + k) ≡ unit_at (matches p b) (nth pm) (length p) k

-- The row of an unbonded base, up to `to`: it takes no more than one position.
pub record Steps (steps : List ℕ) (to : ℕ) : Type 0 where
  pub long : to < length steps
  pub low : (k : ℕ) → k ≤ to → k ≤ nth steps k
  pub high : (k : ℕ) → k ≤ to → nth steps k ≤ k + 1

-- The number for base i of a molecule after the five rows of a motif of m bases. The crates above keep bounds of the starts there (`Bounded` of arcs).
unfoldable pub bound_at : ℕ → List ℕ → ℕ → ℕ
bound_at m tables i = nth tables (5 * (m + 1) + i)

-- The last start of the rows of stretches that begin at base i, in a segment that ends at `to`.
abbrev pub last_at : ℕ → List ℕ → ℕ → ℕ → ℕ
last_at m tables to i = min to (bound_at m tables i)
