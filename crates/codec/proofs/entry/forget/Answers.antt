-- `codec::entry::forget` meets its contract: an entry loses bit d of both maps and gets its checksum; any other block stays.
use Rattle.block.proofs.ContentLaws.{forgot_size, forgot_mark, forgot_bits}
use native.Mathlib.Omega.{arith}
use mathlib.Core.Path.{◌∙◌}
use Rattle.block.proofs.SumLaws.{rechecked_whole_lem}
use Rattle.codec.proofs.entry.forget.Goals as goal

pub returns-then-s-ne-BLOCK_SIZE : goal.returns-then-s-ne-BLOCK_SIZE
returns-then-s-ne-BLOCK_SIZE c = forgot_size _ _ c.if-s-ne-BLOCK_SIZE.true

pub returns-then-k-ne-ENTRY_MARK : goal.returns-then-k-ne-ENTRY_MARK
returns-then-k-ne-ENTRY_MARK c = forgot_mark _ _ c.if-s-ne-BLOCK_SIZE.false c.if-k-ne-ENTRY_MARK.true

pub returns : goal.returns
returns c =
    forgot_bits _ _ _ _ _ c.if-s-ne-BLOCK_SIZE.false c.if-k-ne-ENTRY_MARK.false c.clear.ensures c.clear-2.ensures
    (c.put_checksum.ensures ∙ rechecked_whole_lem _ (omega (arith, c.if-s-ne-BLOCK_SIZE.false, c.clear.auto.s, c.clear-2.auto.s)))
