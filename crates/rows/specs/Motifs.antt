-- Only the contracts and laws of this crate, arcs, placing, trace and walk need this file: what contracts say of a motif with its tables.
use Rattle.std.specs.Prelude.{ℕ, ◌≡◌, ◌≤◌, length}
use Rattle.rows.specs.Rows.{bound_at, last_at}
use Rattle.rows.specs.declared.motif.Motif.{Motif}

-- A segment P[from..to) of the motif, which has a mate for each base.
abbrev pub SegmentOf : Motif → ℕ → ℕ → Type 0
SegmentOf motif from to = (from ≤ to) × (to ≤ length motif.bases.now) × (length motif.mates.now ≡ length motif.bases.now)

-- The bound of the starts at base i, and the last start of the rows of stretches that begin there, in a segment that ends at `to`.
abbrev pub bound_of : Motif → ℕ → ℕ
bound_of motif i = bound_at (length motif.bases.now) motif.tables.now i

abbrev pub last_of : Motif → ℕ → ℕ → ℕ
last_of motif to i = last_at (length motif.bases.now) motif.tables.now to i
