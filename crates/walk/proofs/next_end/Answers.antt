-- `walk::next_end` meets its contract: nothing is asked where the letters do not match, and else it is `loop_end` from the next position on.
use mathlib.Core.Path.{sym, ◌∙◌}
use native.Mathlib.Omega.{arith}
use borrow.Author.Tests.{ne_eqb}
use Rattle.rows.proofs.TableLaws.{own_match}
use Rattle.embedding.proofs.Answers.{clash}
use Rattle.walk.proofs.next_end.Goals as goal

pub returns-then-pair-from : goal.returns-then-pair-from
returns-then-pair-from c =
    record {
      upper_bound = omega (arith, c.requires.from_in_bounds);
      best = λ t. absurd (clash
          (sym (own_match c.args.pair.now.motif.made _ _ _ c.requires.from_in_bounds (c.from.ensures ∙ c.letter_class.ensures))
          ∙ ne_eqb _ _ c.if-pair-from.true) t);
    }
