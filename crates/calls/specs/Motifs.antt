-- The motif buffer of a batch: motifs as blocks, and what it is refused for.
use Rattle.std.specs.Prelude.{ℕ, zero, suc, ◌*◌, ◌≤◌, ◌<◌, max, ◌≡◌, List, [], ◌∷◌, Bool, true, not, ltb, length}
use Rattle.strand.specs.Strands.{Strand}
use Rattle.refusals.specs.Rules.{motif_side, bad_motifs, too_long, first, refuse_if, refuse_at_lowest, Verdict}
use Rattle.block.specs.Content.{block_size}
use Rattle.block.specs.Block.{block_of, block_count}
use Rattle.block.specs.Motif.{motif_handed_in, holds_motif}
use Rattle.calls.specs.Buffers.{most_motif_bases, is_whole}

-- 02, (v): "A new call takes 1 to 16 motifs as molecule blocks in one lent buffer."
abbrev pub most_motifs : ℕ
most_motifs = 16

-- Motif t of the buffer, counted from 0.
unfoldable pub motif_of : List ℕ → ℕ → Strand
motif_of motifs t = motif_handed_in (block_of t motifs)

-- Block t is unsound or empty. Motif t is too long for a query.
unfoldable pub no_motif_at : List ℕ → ℕ → Bool
no_motif_at motifs t = not (holds_motif (block_of t motifs))

unfoldable pub long_motif_at : List ℕ → ℕ → Bool
long_motif_at motifs t = ltb most_motif_bases (length (motif_of motifs t).bases)

-- 02, (v): "It refuses with 15 a motif buffer that isn't 1 to 16 whole blocks or has an unsound or empty block, place 0 for its size, else the lowest such
-- block, side 0, after 11; then 3, place the lowest such motif's index".
unfoldable pub motifs_verdict : List ℕ → Verdict
motifs_verdict motifs =
    first
    (refuse_if bad_motifs motif_side (not (is_whole most_motifs motifs))
    ∷ refuse_at_lowest bad_motifs motif_side (block_count motifs) (no_motif_at motifs)
    ∷ refuse_at_lowest too_long motif_side (block_count motifs) (long_motif_at motifs)
    ∷ [])

-- What these rules let pass: 1 to 16 whole blocks, each with a motif that a query takes.
pub record UsableMotifs (motifs : List ℕ) : Type 0 where
  pub filled : length motifs ≡ block_size * block_count motifs
  pub least : 1 ≤ block_count motifs
  pub most : block_count motifs ≤ most_motifs
  pub each : (t : ℕ) → t < block_count motifs → holds_motif (block_of t motifs) ≡ true
  pub short : (t : ℕ) → t < block_count motifs → length (motif_of motifs t).bases ≤ most_motif_bases

-- The number of bases of the longest of the first k motifs, and of all of them.
unfoldable pub longest_to : List ℕ → ℕ → ℕ
longest_to motifs zero = 0
longest_to motifs (suc k) = max (longest_to motifs k) (length (motif_of motifs k).bases)

abbrev pub longest_motif : List ℕ → ℕ
longest_motif motifs = longest_to motifs (block_count motifs)
