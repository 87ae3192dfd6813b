-- `strand::nesting::lowest_outside` meets its contract: where the largest mate is in range all are; else what `position` finds is the lowest.
use borrow.Author.Rules.{rules}
use borrow.Author.Tests.{tests, le-leb, lt-leb}
use native.Mathlib.Omega.{arith}
use mathlib.Core.Path.{sym, ◌∙◌}
use Prim.Native.Nat.{◌≤◌, ◌<◌}
use lib.ListN.{length}
use Rattle.lists.specs.Vocabulary.{nth}
use Rattle.strand.specs.Strands.{mate_outside}
use Rattle.lists.proofs.ListLaws.{lowest_all, lowest_position}
use Rattle.std.proofs.lemmas.Iterator.{IsFirst-from_position, YieldsList-from_slice}
use Rattle.strand.proofs.NestingLaws.{range_test}
use Rattle.strand.proofs.nesting.lowest_outside.Goals as goal

pub returns-then-largest_mate-mates : goal.returns-then-largest_mate-mates
returns-then-largest_mate-mates c =
    let mates = c.args.mates.now in
    sym (lowest_all (mate_outside mates) (length mates) (λ i l.
    let upto = c.largest_mate.ensures i l in
    range_test mates i _ (lt-leb (length mates) (nth mates i) (omega arith))))

pub returns : goal.returns
returns c =
    let mates = c.args.mates.now in
    c.unwrap_or.ensures
    ∙ lowest_position (mate_outside mates) (λ x. length mates ≤ x) (λ x. x < length mates) mates c.position.result
    (λ i l e. range_test mates i _ (le-leb _ _ e)) (λ i l e. range_test mates i _ (lt-leb _ _ e))
    (IsFirst-from_position _ _ _ (λ x. length mates ≤ x) (λ x. x < length mates) c.position.ensures.ran
    (YieldsList-from_slice mates cc) (λ x q k. search (rules, tests)) (λ x q k. search (rules, tests)))
