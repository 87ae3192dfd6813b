-- `strand::depth::fold_of` meets its contract: the two counts, and without arcs the depth is 0.
use mathlib.Core.Path.{sym, ◌∙◌}
use Rattle.strand.proofs.FoldLaws.{fold_eq, depth_none}
use Rattle.strand.proofs.depth.fold_of.Goals as goal

pub returns-then-arcs-eq0 : goal.returns-then-arcs-eq0
returns-then-arcs-eq0 c = fold_eq c.arc_count-arcs.ensures (sym (depth_none _ (sym c.arc_count-arcs.ensures ∙ c.if-arcs-eq0.true)))
