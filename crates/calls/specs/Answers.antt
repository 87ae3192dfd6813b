-- The answers of the calls, as src/lib.rt declares them: an accepted call's own, or a refusal.
use Rattle.std.specs.Prelude.{ℕ, Result}
use Rattle.strand.specs.declared.Fold.{Fold}
use Rattle.refusals.specs.declared.Refusal.{Refusal}
use Rattle.calls.specs.declared.Hits.{Hits}

-- Add: the fold of the molecule that is stored.
abbrev pub Added : Type 0
Added = Result Fold Refusal

-- Remove.
abbrev pub Removed : Type 0
Removed = Result Unit Refusal

-- Query: how many hits, and how many molecules it had to search.
abbrev pub Queried : Type 0
Queried = Result Hits Refusal

abbrev pub hits_of : ℕ → ℕ → Hits
hits_of count searched = record { count = count; searched = searched }

-- Batch: how many molecules it read.
abbrev pub BatchRead : Type 0
BatchRead = Result ℕ Refusal
