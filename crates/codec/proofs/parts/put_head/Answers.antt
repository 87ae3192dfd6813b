-- `codec::parts::put_head` meets its contract: two bytes are stored, and the bytes from 2 on are the own bytes with zeros behind them.
use native.Mathlib.Omega.{arith}
use Rattle.codec.proofs.CodeLaws as laws
use Rattle.codec.proofs.parts.put_head.Goals as goal

pub returns : goal.returns
returns c =
    laws.head_is c.args.s.now c.args.own.now _ c.args.mark c.args.n (omega arith)
    c.put_padded.ensures
