-- `walk::prefix_length` meets its contract: proper strands are what the walk asks for; where the walk to the first arc ends the motif or the
-- molecule, it has the answer.
use mathlib.Core.Logic.{⊎_elim}
use Rattle.walk.proofs.Whole.{all_taken, all_walked}
use Rattle.walk.proofs.prefix_length.Goals as goal

pub returns-then-n-at : goal.returns-then-n-at
returns-then-n-at c = ⊎_elim (λ h. all_walked c.first_arc-at.ensures h) (λ h. all_taken c.first_arc-at.ensures h.1) c.then-n-at.either
