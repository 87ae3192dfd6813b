-- Only the contracts and laws of this crate, placing, trace, walk and matcher need this file: what the walk over the arcs of the molecule asks and leaves.
use Rattle.std.specs.Prelude.{ℕ, ◌+◌, ◌-◌, ◌*◌, ◌^◌, ◌≤◌, ◌<◌, ◌≡◌, true, List, length}
use Rattle.lists.specs.Vocabulary.{nth, all}
use Rattle.letters.specs.Letters.{is_letter}
use Rattle.strand.specs.Strands.{Nested}
use Rattle.refusals.specs.Rules.{molecule_side}
use Rattle.embedding.specs.Embedding.{letters_fit}
use Rattle.embedding.specs.Row.{IsRow, Bounds}
use Rattle.rows.specs.Rows.{Segment, Tables, bound_at, last_at}

-- A nested motif, and a nested molecule of letters.
pub record Sound (p pm q qm : List ℕ) : Type 0 where
  pub same : length pm ≡ length p
  pub motif : Nested (nth pm) (length p)
  pub equal : length qm ≡ length q
  pub short : length q ≤ 4096
  pub bases : all (is_letter molecule_side) q ≡ true
  pub molecule : Nested (nth qm) (length q)

-- A segment of a nested motif, and a nested molecule of letters.
pub record Setting (p pm q qm : List ℕ) (from to : ℕ) : Type 0 where
  pub segment : Segment p pm from to
  pub motif : Nested (nth pm) (length p)
  pub equal : length qm ≡ length q
  pub short : length q ≤ 4096
  pub bases : all (is_letter molecule_side) q ≡ true
  pub molecule : Nested (nth qm) (length q)

-- No arc leaves Q[lo..hi).
pub record Sealed (qm : List ℕ) (lo hi : ℕ) : Type 0 where
  pub low : (u : ℕ) → lo ≤ u → u < hi → lo ≤ nth qm u
  pub high : (u : ℕ) → lo ≤ u → u < hi → nth qm u < hi

-- The left end of the first longest arc in Q[lo..hi), or hi where there is none.
pub record Heavy (qm : List ℕ) (lo hi l : ℕ) : Type 0 where
  pub low : lo ≤ l
  pub high : l ≤ hi
  pub arc : l < hi → l < nth qm l
  pub most : (c : ℕ) → lo ≤ c → c < hi → c < nth qm c → (l < hi) × (nth qm c - c ≤ nth qm l - l)
  pub first : (c : ℕ) → lo ≤ c → c < l → l < hi → c < nth qm c → nth qm c - c < nth qm l - l

-- Room for the inner row of an arc that is `size` long, in rows of w entries: two for each light edge below it, and two.
pub record Room (w size room : ℕ) : Type 0 where
  pub depth : ℕ
  pub short : size + 3 < 8 * 2 ^ depth
  pub rows : (2 * depth + 2) * w ≤ room

-- Room for a row and, past it, for the light arcs of Q[lo..hi).
pub record LightRoom (w : ℕ) (qm : List ℕ) (lo hi room : ℕ) : Type 0 where
  pub depth : ℕ
  pub rows : (2 * depth + 1) * w ≤ room
  pub light : (c : ℕ) → lo ≤ c → c < hi → c < nth qm c → 2 * (nth qm c - c + 3) < 8 * 2 ^ depth

-- The tables have bounds of the starts for the bases of Q[lo..hi) and for hi, and the bound at lo is no less than `from`: who begins at lo with `from` has
-- come at base i no further than the bound there. A row of a stretch that begins at base i has entries for the starts from `from` to that bound, or to the
-- end of the segment P[from..to).
pub record Bounded (p q tables : List ℕ) (from to lo hi : ℕ) : Type 0 where
  pub room : 5 * (length p + 1) + hi < length tables
  pub start : from ≤ bound_at (length p) tables lo
  pub bounds : Bounds (letters_fit p q) to lo hi (bound_at (length p) tables)

-- The tables of P with the length of P as the bound of each base of a molecule of n bases, and behind them: rows have entries for all starts.
pub record AllStarts (p pm : List ℕ) (n : ℕ) (tables : List ℕ) : Type 0 where
  pub motif : Tables p pm tables
  pub room : 5 * (length p + 1) + n < length tables
  pub all : (i : ℕ) → i ≤ n → bound_at (length p) tables i ≡ length p

-- The first row of the work slice is the row of Q[lo..hi), for the starts up to the bound at lo.
pub record RowOf (p pm q qm tables : List ℕ) (from to lo hi : ℕ) (work : List ℕ) : Type 0 where
  pub is : IsRow (letters_fit p q) (nth pm) (nth qm) from (last_at (length p) tables to lo) to lo hi (nth work)

-- The row `new` is the row `old` with Q[lo..hi) put in front of its stretch.
pub record Prepended (p pm q qm tables : List ℕ) (from to lo hi : ℕ) (old new : List ℕ) : Type 0 where
  pub row : ℕ → ℕ
  pub is : IsRow (letters_fit p q) (nth pm) (nth qm) from (last_at (length p) tables to lo) to lo hi row
  pub entry : (j : ℕ) → from ≤ j → j ≤ last_at (length p) tables to lo → nth new j ≡ nth old (row j)

-- The first row of the work slice is the row inside the arc of Q whose left end is `kept`, for every start of the segment, if that is a position of Q.
pub record KeptRow (p pm q qm : List ℕ) (from to kept : ℕ) (work : List ℕ) : Type 0 where
  pub row : kept < length q → IsRow (letters_fit p q) (nth pm) (nth qm) from to to (kept + 1) (nth qm kept) (nth work)
