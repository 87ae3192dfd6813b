-- Only the functions of the walk, and those above it that make the tables or ask for windows, need this file.
use Rattle.std.specs.Prelude.{ℕ, ◌+◌, ◌*◌, ◌≤◌, ◌<◌, ◌≡◌, List, length}
use Rattle.lists.specs.Vocabulary.{nth}
use Rattle.letters.specs.Letters.{letters_match}
use Rattle.embedding.specs.Windows.{EmbedsWithin}
use Rattle.rows.specs.Rows.{Tables}
use Rattle.strand.specs.declared.Strand.{Strand}
use Rattle.arcs.specs.declared.pair.Pair.{Pair}

-- The tables of P, with room for the bounds of a molecule of n bases after them.
pub record TablesFor (p pm : List ℕ) (n : ℕ) (tables : List ℕ) : Type 0 where
  pub motif : Tables p pm tables
  pub room : 5 * (length p + 1) + n < length tables

-- The pair is that of these strands, with these tables.
abbrev pub PairOf : Strand → List ℕ → Strand → Pair → Type 0
PairOf motif tables molecule t =
    (t.motif.bases.now ≡ motif.bases.now)
    × (t.motif.mates.now ≡ motif.mates.now)
    × (t.motif.tables.now ≡ tables)
    × (t.q.now ≡ molecule.bases.now)
    × (t.qm.now ≡ molecule.mates.now)

-- P embeds in Q with all its places in the window from lo to before hi, which is its end and not its length.
pub record Carried (p pm q qm : List ℕ) (lo hi : ℕ) : Type 0 where
  pub embeds : EmbedsWithin letters_match p pm q qm lo hi

-- The end r of what the walk over a window that ends at hi passes at base l: the arc from l, if it ends in the window, else l alone.
pub record ArcWithin (qm : List ℕ) (l hi r : ℕ) : Type 0 where
  pub arc : l < nth qm l → nth qm l < hi → r ≡ nth qm l
  pub alone : (l < nth qm l → hi ≤ nth qm l) → r ≡ l

-- The bases from lo to before hi are unbonded.
pub record Unbonded (qm : List ℕ) (lo hi : ℕ) : Type 0 where
  pub alone : (u : ℕ) → lo ≤ u → u < hi → nth qm u ≡ u
