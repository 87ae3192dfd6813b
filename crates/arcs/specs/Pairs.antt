-- Only the contracts and laws of this crate, placing, trace and walk need this file: what contracts say of a pair, the statements of `Arcs`, and the best of
-- `Row` of embedding, for its lists.
use Rattle.std.specs.Prelude.{ℕ, List, length}
use Rattle.lists.specs.Vocabulary.{nth}
use Rattle.embedding.specs.Embedding.{letters_fit}
use Rattle.embedding.specs.Row.{Best}
use Rattle.arcs.specs.Arcs.{Bounded, AllStarts, RowOf, Prepended, KeptRow}
use Rattle.arcs.specs.declared.pair.Pair.{Pair}

-- The tables have bounds of the starts for Q[lo..hi), where P[from..to) is come to with `from`.
abbrev pub BoundsIn : Pair → ℕ → ℕ → ℕ → ℕ → Type 0
BoundsIn t from to lo hi = Bounded t.motif.bases.now t.q.now t.motif.tables.now from to lo hi

-- The bounds let every start pass.
abbrev pub AllStartsIn : Pair → Type 0
AllStartsIn t = AllStarts t.motif.bases.now t.motif.mates.now (length t.q.now) t.motif.tables.now

-- The first row of the work slice is the row of Q[lo..hi).
abbrev pub RowIn : Pair → ℕ → ℕ → ℕ → ℕ → List ℕ → Type 0
RowIn t from to lo hi work = RowOf t.motif.bases.now t.motif.mates.now t.q.now t.qm.now t.motif.tables.now from to lo hi work

-- Q[lo..hi) was put in front of the stretch of the first row.
abbrev pub PutBefore : Pair → ℕ → ℕ → ℕ → ℕ → List ℕ → List ℕ → Type 0
PutBefore t from to lo hi old new = Prepended t.motif.bases.now t.motif.mates.now t.q.now t.qm.now t.motif.tables.now from to lo hi old new

-- The first row of the work slice is the row inside the arc of Q whose left end is `kept`, or no arc is kept.
abbrev pub KeptIn : Pair → ℕ → ℕ → ℕ → List ℕ → Type 0
KeptIn t from to kept work = KeptRow t.motif.bases.now t.motif.mates.now t.q.now t.qm.now from to kept work

-- Q[lo..hi) takes P[..to) from `from` to j and no further.
abbrev pub BestIn : Pair → ℕ → ℕ → ℕ → ℕ → ℕ → Type 0
BestIn t to from j lo hi = Best (letters_fit t.motif.bases.now t.q.now) (nth t.motif.mates.now) (nth t.qm.now) to from j lo hi
