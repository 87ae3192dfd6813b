-- `block::walk::nested` meets its contract: mates without an arc are nested; others are tested by levels, with arrays of its own, whose first entries are
-- zeros.
use native.Mathlib.Omega.{arith}
use mathlib.Core.Path.{◌∙◌, sym}
use lib.ListN.{length, replicate}
use lib.Seq.{length-take-le}
use Rattle.strand.proofs.LevelLaws.{unbonded_nested}
use Rattle.block.proofs.WalkLaws.{first_zeros}
use Rattle.block.proofs.walk.nested.Goals as goal

pub returns-then-all_unbonded : goal.returns-then-all_unbonded
returns-then-all_unbonded c = sym (unbonded_nested _ (sym c.all_unbonded.ensures ∙ c.if-all_unbonded.true))

pub is_nested-requires : goal.is_nested-requires
is_nested-requires c =
    let n = length c.args.mates.now in
    record {
      inside = c.requires.inside;
      mates_len_bound = omega arith;
      own_len = length-take-le n (replicate 160 0) (omega arith);
      told_value = first_zeros n 160 (omega arith);
    }
