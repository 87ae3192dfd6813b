-- `strand::levels::put_names` meets its contract: the first i bases have put their names (`Named`).
use mathlib.Core.Path.{refl}
use native.Mathlib.Omega.{arith}
use lib.Dec.{ltb}
use Rattle.lists.specs.Vocabulary.{nth}
use Rattle.strand.proofs.FoldWalk.{below_bit, bit_most}
use Rattle.strand.proofs.LevelWalk.{names_start, names_safe, names_fit, names_next}
use Rattle.strand.proofs.levels.put_names.Goals as goal

pub loop-i-init : goal.loop-i-init
loop-i-init c = names_start _ _ c.requires.own_len c.requires.told_value

pub overflow_sub-next : goal.overflow_sub-next
overflow_sub-next c = names_safe c.requires.mates_len_bound c.loop-i.invariant c.loop-i-test.true _ _ refl (below_bit _ _)

pub overflow_add-name : goal.overflow_add-name
overflow_add-name c =
    omega (
      arith,
      c.requires.inside c.loop-i.i c.loop-i-test.true,
      c.requires.mates_len_bound,
      names_fit c.requires.mates_len_bound c.loop-i.invariant c.loop-i-test.true _ _ refl (below_bit (nth c.args.mates.now c.loop-i.i) c.loop-i.i),
    )

pub overflow_add-next-in-loop-i : goal.overflow_add-next-in-loop-i
overflow_add-next-in-loop-i c =
    omega (
      arith,
      c.requires.mates_len_bound,
      bit_most (ltb c.loop-i.i (nth c.args.mates.now c.loop-i.i)),
      names_fit c.requires.mates_len_bound c.loop-i.invariant c.loop-i-test.true _ _ refl (below_bit (nth c.args.mates.now c.loop-i.i) c.loop-i.i),
    )

pub loop-i-preserved : goal.loop-i-preserved
loop-i-preserved c =
    names_next c.requires.mates_len_bound c.loop-i.invariant c.loop-i-test.true _ _ refl (below_bit _ _) c.requires.own_len
    (c.requires.inside _ c.loop-i-test.true) _ (below_bit _ _)
