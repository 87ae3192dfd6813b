-- Only the functions inside this crate need this file: what the contracts of the walk say of its strands, the statements of Walk and Placing, the best of Row
-- and the length for their lists.
use Rattle.std.specs.Prelude.{ℕ, List, length}
use Rattle.lists.specs.Vocabulary.{nth}
use Rattle.strand.specs.Lent.{on_strand, on_pair}
use Rattle.letters.specs.Letters.{letters_match}
use Rattle.embedding.specs.Embedding.{letters_fit}
use Rattle.embedding.specs.Row.{Best}
use Rattle.embedding.specs.Longest.{longest}
use Rattle.placing.specs.Placing.{Walked}
use Rattle.walk.specs.declared.Place.{Place}
use Rattle.walk.specs.declared.Strands.{Strands}
use Rattle.walk.specs.Walk.{TablesFor}

-- The whole motif is taken to at.from by what lies before at.base.
abbrev pub WalkedIn : Strands → Place → Type 0
WalkedIn s at = on_pair Walked s.motif s.molecule (length s.motif.bases.now) 0 0 (length s.molecule.bases.now) at.from at.base

-- The tables of the motif, with room for the bounds of the molecule.
abbrev pub TablesIn : Strands → List ℕ → Type 0
TablesIn s tables = on_strand TablesFor s.motif (length s.molecule.bases.now) tables

-- Q[lo..hi) takes the motif from `from` to j and no further.
abbrev pub TakenIn : Strands → ℕ → ℕ → ℕ → ℕ → Type 0
TakenIn s from j lo hi =
    Best (letters_fit s.motif.bases.now s.molecule.bases.now) (nth s.motif.mates.now) (nth s.molecule.mates.now) (length s.motif.bases.now) from j lo hi

-- The length of the longest closed prefix of the motif that embeds in the molecule.
abbrev pub longest_in : Strands → ℕ
longest_in s = on_pair (longest letters_match) s.motif s.molecule
