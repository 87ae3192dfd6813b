-- `walk::Strands::first_arc` meets its contract. The invariant is what it promises (`Walked`).
use Rattle.walk.specs.InStrands.{WalkedIn}
use Rattle.walk.proofs.Strands.first_arc.Given as goal

abbrev pub invariant-loop-l : goal.invariant-loop-l
invariant-loop-l l = WalkedIn l.self (record { base = l.l; from = l.from })
