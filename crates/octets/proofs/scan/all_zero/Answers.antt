-- `octets::scan::all_zero` meets its contract: the largest byte passed is 0 exactly where every byte passed is.
use Rattle.octets.proofs.ScanLaws.{largest_none, largest_next}
use Rattle.octets.proofs.scan.all_zero.Goals as goal

pub loop-b-init : goal.loop-b-init
loop-b-init c = largest_none _

pub loop-b-preserved : goal.loop-b-preserved
loop-b-preserved c = largest_next c.args.s.now _ _ c.max-largest.ensures c.loop-b.invariant
