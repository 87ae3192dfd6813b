-- `block::walk::mates` meets its contract: the first n of the mates that were read are those that lie in the block.
use mathlib.Core.Path.{ap, refl}
use native.Mathlib.Omega.{arith}
use Rattle.strand.specs.Strands.{is_nested}
use Rattle.block.proofs.SumLaws.{sum_small}
use Rattle.block.proofs.WalkLaws.{pass_on, read_first, mates_added, mates_passed}
use Rattle.block.proofs.walk.mates.Goals as goal

pub read_mates-requires-clause-sum_bound : goal.read_mates-requires-clause-sum_bound
read_mates-requires-clause-sum_bound c =
    let bound = sum_small c.args.s.now c.args.at (λ i. omega (arith, c.type_inv.s i)) (omega arith) in omega (arith, c.requires.sum_value, bound)

pub returns-clause-tested : goal.returns-clause-tested
returns-clause-tested c =
    let s = c.args.s.now in
    let first = read_first s c.read_words.new.out c.args.at c.args.n 160 (omega arith) c.read_words.ensures in
    pass_on c.read_mates.ensures (ap is_nested first) (mates_added s _ c.args.at _ first _ c.requires.sum_value refl)

pub returns-clause-summed : goal.returns-clause-summed
returns-clause-summed c small =
    let s = c.args.s.now in
    let first = read_first s c.read_words.new.out c.args.at c.args.n 160 (omega arith) c.read_words.ensures in
    pass_on c.read_mates.ensures (ap is_nested first)
    (mates_passed s _ c.args.at _ first (λ i. omega (arith, c.type_inv.s i)) _ c.requires.sum_value refl small)
