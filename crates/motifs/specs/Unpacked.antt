-- Only the functions behind batch need this file: what they ask of its motif buffer, and what stands in the rows of its arrays once the motifs are unpacked.
use Rattle.std.specs.Prelude.{ℕ, ◌<◌, ◌≡◌, true, List, [], length, take, get_or}
use Rattle.walk.specs.Walk.{TablesFor}
use Rattle.block.specs.Content.{block_bases}
use Rattle.block.specs.Block.{block_of, block_count}
use Rattle.block.specs.Motif.{holds_motif}
use Rattle.calls.specs.Motifs.{motif_of}

-- Rule 15 lets the blocks pass: each has a motif.
pub record AllMotifs (motifs : List ℕ) : Type 0 where
  pub each : (t : ℕ) → t < block_count motifs → holds_motif (block_of t motifs) ≡ true

-- The mates of the first k motifs, each at the start of its row; so of all.
pub record MatesTo (motifs : List ℕ) (mates : List (List ℕ)) (k : ℕ) : Type 0 where
  pub each : (t : ℕ) → t < k → take (length (motif_of motifs t).bases) (get_or mates t []) ≡ (motif_of motifs t).mates

abbrev pub MatesOf : List ℕ → List (List ℕ) → Type 0
MatesOf motifs mates = MatesTo motifs mates (block_count motifs)

-- The tables of the first k motifs, each in its row, with room for the bounds of a molecule of 160 bases; so of all.
pub record TablesTo (motifs : List ℕ) (tables : List (List ℕ)) (k : ℕ) : Type 0 where
  pub each : (t : ℕ) → t < k → TablesFor (motif_of motifs t).bases (motif_of motifs t).mates block_bases (get_or tables t [])

abbrev pub TablesOf : List ℕ → List (List ℕ) → Type 0
TablesOf motifs tables = TablesTo motifs tables (block_count motifs)
