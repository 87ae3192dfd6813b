-- What the rules of the buffers give to the rules after them.
use Rattle.std.specs.Prelude.{Ok}
use mathlib.Core.Path.{◌≡◌}
use mathlib.Core.List.{List}
use Prim.Native.Nat.{ℕ}
use Rattle.calls.specs.Buffers.{buffers_verdict}
use Rattle.calls.proofs.FactLaws.{sized}
use Rattle.judge.specs.Judge.{SoundCatalog}

-- Rules 10 and 11 let a catalog of sound blocks pass only.
pub all_sound : (catalog cache : List ℕ) → buffers_verdict catalog cache ≡ Ok tt → SoundCatalog catalog
all_sound catalog cache e = record { sound = (sized catalog cache e).blocks }
