-- A pair and a segment of its motif are what the laws ask for.
use Prim.Native.Nat.{ℕ, ◌≤◌}
use native.Mathlib.Omega.{arith}
use lib.ListN.{length}
use Rattle.rows.specs.Motifs.{SegmentOf}
use Rattle.rows.proofs.Motifs.{segment_at}
use Rattle.arcs.specs.Arcs.{Setting}
use Rattle.arcs.specs.declared.pair.Pair.{Pair}

pub setting_of : (t : Pair) {from to : ℕ} → SegmentOf t.motif from to → Setting t.motif.bases.now t.motif.mates.now t.q.now t.qm.now from to
setting_of t S =
    record {
      segment = segment_at t.motif S;
      motif = t.sound.motif;
      equal = t.sound.equal;
      short = t.sound.short;
      bases = t.sound.bases;
      molecule = t.sound.molecule;
    }

-- What lies behind a position of the motif is a segment of it.
pub rest_of : (t : Pair) {from : ℕ} → from ≤ length t.motif.bases.now → SegmentOf t.motif from (length t.motif.bases.now)
rest_of t h = (h, omega arith, t.sound.same)

pub rest_setting : (t : Pair) {from : ℕ} → from ≤ length t.motif.bases.now
    → Setting t.motif.bases.now t.motif.mates.now t.q.now t.qm.now from (length t.motif.bases.now)
rest_setting t h = setting_of t (rest_of t h)
