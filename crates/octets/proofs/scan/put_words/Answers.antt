-- `octets::scan::put_words` meets its contract: the first i numbers are written, the rest is as it was.
use borrow.Author.Rules.{rules}
use lib.ListN.{length-set}
use mathlib.Core.Path.{refl}
use native.Mathlib.Omega.{arith}
use Rattle.octets.proofs.ScanLaws as laws
use Rattle.octets.proofs.scan.put_words.Goals as goal

pub loop-i-init : goal.loop-i-init
loop-i-init c = (search rules, refl, laws.words_none c.args.src.now _)

pub loop-i-preserved : goal.loop-i-preserved
loop-i-preserved c = (
  omega arith,
  simp length-set c.loop-i.invariant.1,
  rw (c.loop-i.invariant.2, c.to_le_bytes.ensures) (laws.words_more c.loop-i.i c.args.src.now c.args.s.now (omega arith) (omega arith)),
)
