-- Only the contracts and laws of this crate and trace need this file: what contracts say of a pair, the statements of `Placing` for its lists.
use Rattle.std.specs.Prelude.{ℕ, List, ◌+◌}
use Rattle.lists.specs.Vocabulary.{nth}
use Rattle.arcs.specs.declared.pair.Pair.{Pair}
use Rattle.placing.specs.declared.take.ArcTake.{ArcTake}
use Rattle.placing.specs.Placing.{Taken, Laid, LaidBut, KeptAround, SecondRow, AtArc, FromArc}

-- What the arc (l, r) of Q takes of P[from..to).
abbrev pub TakenIn : Pair → ℕ → ℕ → ℕ → ℕ → ArcTake → Type 0
TakenIn x from to l r t = Taken x.motif.bases.now x.motif.mates.now x.q.now x.qm.now from to l r t

-- Only places of P[from..to) in Q[lo..hi) were written.
abbrev pub LaidIn : Pair → ℕ → ℕ → ℕ → ℕ → List ℕ → List ℕ → Type 0
LaidIn x from to lo hi old new = Laid x.motif.bases.now x.motif.mates.now x.q.now x.qm.now from to lo hi old new

-- The same, all but those of the span P[a..b), which falls inside the kept arc.
abbrev pub LaidButIn : Pair → ℕ → ℕ → ℕ → ℕ → ℕ → ℕ → ℕ → List ℕ → List ℕ → Type 0
LaidButIn x from to lo hi a b kept old new =
    LaidBut x.motif.bases.now x.motif.mates.now x.q.now x.qm.now from to lo hi a b (kept + 1) (nth x.qm.now kept) old new

-- The first row of the work slice is the row inside the kept arc, for a segment around P[from..to).
abbrev pub KeptAroundIn : Pair → ℕ → ℕ → ℕ → List ℕ → Type 0
KeptAroundIn x from to kept work = KeptAround x.motif.bases.now x.motif.mates.now x.q.now x.qm.now from to kept work

-- Past the first row is the row inside the arc (l, r), for P[from..to).
abbrev pub SecondRowIn : Pair → ℕ → ℕ → ℕ → ℕ → List ℕ → List ℕ → Type 0
SecondRowIn x from to l r old new = SecondRow x.motif.bases.now x.motif.mates.now x.q.now x.qm.now from to l r old new

-- What the walk asks at the arc (l, r), and in Q[l..hi), where an arc begins at l, with room for so many places.
abbrev pub AtArcIn : Pair → ℕ → ℕ → ℕ → ℕ → ℕ → ℕ → List ℕ → Type 0
AtArcIn x from to l r kept places work =
    AtArc x.motif.bases.now x.motif.mates.now x.q.now x.qm.now from to l r kept places work x.motif.tables.now

abbrev pub FromArcIn : Pair → ℕ → ℕ → ℕ → ℕ → ℕ → ℕ → List ℕ → Type 0
FromArcIn x from to l hi kept places work =
    FromArc x.motif.bases.now x.motif.mates.now x.q.now x.qm.now from to l hi kept places work x.motif.tables.now
