-- `judge::is_whole` meets its contract.
-- Each return is one test of `is_whole`, in its order.
use native.Mathlib.Omega.{arith}
use Rattle.calls.proofs.JudgeLaws as judge
use Rattle.judge.proofs.is_whole.Goals as goal

pub returns-then-buf-ne0 : goal.returns-then-buf-ne0
returns-then-buf-ne0 c = judge.not_blocks c.args.most c.args.buf.now c.if-buf-ne0.true

pub returns-then-n-lt1 : goal.returns-then-n-lt1
returns-then-n-lt1 c = judge.no_block c.args.most c.args.buf.now c.if-buf-ne0.false (omega arith)

pub returns : goal.returns
returns c = rw c.block_count-n.ensures (judge.some_blocks c.args.most c.args.buf.now c.if-buf-ne0.false (omega arith))
