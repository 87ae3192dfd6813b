-- `strand::levels::same_names` meets its contract: of the first i names it has counted those that differ.
use mathlib.Core.Path.{◌∙◌}
use native.Mathlib.Omega.{arith}
use Rattle.strand.proofs.LevelWalk.{differ_start, differ_bit, differ_next, differ_end, same_every}
use Rattle.strand.proofs.levels.same_names.Goals as goal

pub loop-i-init : goal.loop-i-init
loop-i-init c = differ_start _

pub loop-i-preserved : goal.loop-i-preserved
loop-i-preserved c = differ_next _ _ (differ_bit _) c.loop-i.invariant

pub returns : goal.returns
returns c = differ_end _ c.loop-i.invariant (omega arith) (omega arith) ∙ same_every _ _ c.requires.a_len
