-- `block::checksum::put_checksum` meets its contract: less than a block stays; else the four bytes of the sum are stored.
use native.Mathlib.Omega.{arith}
use mathlib.Core.Path.{sym, ◌∙◌}
use Rattle.block.proofs.SumLaws.{sum_none, rechecked_short, checksum_put}
use Rattle.block.proofs.checksum.put_checksum.Goals as goal

pub returns-then-s-lt-BLOCK_SIZE : goal.returns-then-s-lt-BLOCK_SIZE
returns-then-s-lt-BLOCK_SIZE c = rechecked_short _ c.if-s-lt-BLOCK_SIZE.true

pub gather-x-requires : goal.gather-x-requires
gather-x-requires c =
    record {
      a_le_e = (omega arith, omega arith, omega arith);
      sum_value = sym (sum_none _);
    }

pub returns : goal.returns
returns c = checksum_put _ _ _ (omega arith) c.gather-x.ensures (c.copy_from_slice.ensures.after ∙ c.to_le_bytes.ensures)
