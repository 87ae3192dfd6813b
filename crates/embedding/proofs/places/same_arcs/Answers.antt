-- `embedding::places::same_arcs` meets its contract. The invariant: the arcs of the first i positions are kept.
use borrow.Author.Count.{below_more}
use Rattle.embedding.specs.Places.{ArcKept}
use Rattle.embedding.proofs.places.same_arcs.Goals as goal

pub loop-i-preserved : goal.loop-i-preserved
loop-i-preserved c = below_more (λ x. ArcKept _ _ _ x) _ c.loop-i.invariant (c.arc_kept.ensures.yes c.if-not-arc_kept.false)
