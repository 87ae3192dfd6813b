-- Only the functions inside this crate need this file: what a step that is handed a block may be relied on for, whatever it is.
use Rattle.std.specs.Prelude.{ℕ, List, Bool, ◌≡◌, length}
use Rattle.std.specs.Borrow.{MutBor}
use Rattle.block.specs.Content.{block_size}
use Rattle.codec.specs.Outcomes.{wrote, wrote_if}

-- The step leaves f of a block.
abbrev pub Leaves : (MutBor (List ℕ) → Unit {0} → MutBor (List ℕ) → Type 0) → (List ℕ → List ℕ) → Type 0
Leaves post f = (s t : MutBor (List ℕ)) → post s tt t → t.now ≡ f s.now

-- The step answers `fits`; it leaves b in a block where that is so, and the block as it was where it is not.
abbrev pub Writes : (MutBor (List ℕ) → Bool → MutBor (List ℕ) → Type 0) → Bool → List ℕ → Type 0
Writes post fits b =
    (s t : MutBor (List ℕ)) (done : Bool) → length s.now ≡ block_size → post s done t → wrote done t.now ≡ wrote_if fits b s.now
