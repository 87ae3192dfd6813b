-- Only the functions inside this crate need this file: the statements of Search, and those of walk that it rests on, for the motif and the molecule that are
-- searched.
use Rattle.std.specs.Prelude.{ℕ, List, length, Option}
use Rattle.strand.specs.Lent.{on_strand, on_pair}
use Rattle.walk.specs.Walk.{TablesFor, Carried}
use Rattle.window.specs.declared.search.Progress.{Progress}
use Rattle.window.specs.declared.search.Strands.{Strands}
use Rattle.window.specs.declared.search.Window.{Window}
use Rattle.window.specs.Search.{Ready, MayBegin, NoneBegins, EndsAt, StartsAt, Seek, Found}

abbrev pub ReadyIn : Strands → List ℕ → List ℕ → Type 0
ReadyIn s tables work = on_strand Ready s.motif tables s.molecule.bases.now work

abbrev pub TablesIn : Strands → List ℕ → Type 0
TablesIn s tables = on_strand TablesFor s.motif (length s.molecule.bases.now) tables

abbrev pub CarriedIn : Strands → ℕ → ℕ → Type 0
CarriedIn s lo hi = on_pair Carried s.motif s.molecule lo hi

abbrev pub BeginsIn : Strands → ℕ → Type 0
BeginsIn s i = on_pair MayBegin s.motif s.molecule i

abbrev pub NoneBeginsIn : Strands → ℕ → ℕ → Type 0
NoneBeginsIn s i j = on_pair NoneBegins s.motif s.molecule i j

abbrev pub EndsIn : Strands → ℕ → ℕ → ℕ → Type 0
EndsIn s start low e = on_pair EndsAt s.motif s.molecule start low e

abbrev pub StartsIn : Strands → ℕ → ℕ → ℕ → Type 0
StartsIn s start last e = on_pair StartsAt s.motif s.molecule start last e

abbrev pub SeekIn : Strands → Progress → Type 0
SeekIn s at = on_pair Seek s.motif s.molecule at

abbrev pub FoundIn : Strands → Option Window → Type 0
FoundIn s best = on_pair Found s.motif s.molecule best
