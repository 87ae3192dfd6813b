-- `letters::all_letters` meets its contract: `least` is 1 exactly where the bases passed are letters.
use native.Mathlib.Omega.{arith}
use Rattle.letters.proofs.LetterLaws.{least_none, least_next, least_end}
use Rattle.letters.proofs.all_letters.Goals as goal

pub loop-b-init : goal.loop-b-init
loop-b-init c = least_none _

pub loop-b-preserved : goal.loop-b-preserved
loop-b-preserved c = least_next _ _ c.min-least.ensures c.loop-b.invariant c.is_letter.ensures

pub returns : goal.returns
returns c = least_end _ _ _ c.loop-b.invariant (omega arith) (omega arith)
