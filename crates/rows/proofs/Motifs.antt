-- What a motif with its tables keeps, said of its lists.
use Prim.Native.Nat.{ℕ}
use Rattle.rows.specs.Rows.{Segment}
use Rattle.rows.specs.Motifs.{SegmentOf}
use Rattle.rows.specs.declared.motif.Motif.{Motif}

pub segment_at : (motif : Motif) {from to : ℕ} → SegmentOf motif from to → Segment motif.bases.now motif.mates.now from to
segment_at motif S = record { same = S.2; small = motif.small; order = S.0; ends = S.1 }
