-- `judge::is_held` meets its contract.
-- A number past the last block is not held; else byte 0 of its block, which is sound, tells.
use native.Mathlib.Omega.{arith}
use Rattle.calls.proofs.JudgeLaws as judge
use Rattle.judge.proofs.is_held.Goals as goal

pub returns-then-block_count-d : goal.returns-then-block_count-d
returns-then-block_count-d c = judge.above_not_held c.args.catalog.now c.args.d (omega arith)

pub returns : goal.returns
returns c =
    judge.held_by_byte c.args.catalog.now c.args.d (c.requires.sound c.args.d (omega arith)) (omega arith) _
    c.block_at-b.ensures
