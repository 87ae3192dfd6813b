-- `codec::molecule::can_decode` meets its contract: each return is one condition; that of a block that is too long by the law that the function names.
use native.Mathlib.Omega.{arith}
use Rattle.codec.proofs.OutcomeLaws as law
use Rattle.codec.proofs.molecule.can_decode.Goals as goal

pub returns-then-s-ne-BLOCK_SIZE : goal.returns-then-s-ne-BLOCK_SIZE
returns-then-s-ne-BLOCK_SIZE c = law.decodes_no_block _ _ _ c.if-s-ne-BLOCK_SIZE.true

pub returns-then-bases-n : goal.returns-then-bases-n
returns-then-bases-n c = law.decodes_few_bases _ _ _ c.if-s-ne-BLOCK_SIZE.false (omega arith) c.if-bases-n.true

pub returns : goal.returns
returns c = law.decodes_by_mates _ _ _ c.if-s-ne-BLOCK_SIZE.false (omega arith) c.if-bases-n.false
