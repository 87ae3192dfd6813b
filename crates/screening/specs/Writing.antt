-- Only the writers of text need this file: what each of them leaves.
use Rattle.std.specs.Prelude.{ℕ, ◌≡◌, List, length}
use Rattle.screening.specs.Text.{TextPut}
use Rattle.screening.specs.declared.text.Text.{Text}

-- The piece stands where the text ended, in the same slice, and the text ends behind it.
pub record Puts (piece : List ℕ) (old new : Text) : Type 0 where
  pub same : new.out.ghost_name ≡ old.out.ghost_name
  pub put : TextPut piece old.out.now new.out.now old.len new.len
  pub size : length new.out.now ≡ length old.out.now
