-- `embedding::places::in_order` meets its contract. The invariant: the places that were passed rise and lie below n.
use Rattle.embedding.proofs.Placing.{OrderedTo}
use Rattle.embedding.proofs.places.in_order.Given as goal

abbrev pub invariant-loop-i : goal.invariant-loop-i
invariant-loop-i l = OrderedTo l.places l.n l.i
