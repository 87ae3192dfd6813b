-- `walk::Strands::top_arc_end` meets its contract: a hairpin is walked (`hairpin_end`), and another arc takes what its rows say (`arc_end`).
use Rattle.walk.proofs.Whole.{tables_filled}
use Rattle.walk.proofs.Strands.top_arc_end.Goals as goal

pub pair_of-pair-requires-2-clause-tables : goal.pair_of-pair-requires-2-clause-tables
pair_of-pair-requires-2-clause-tables c = (tables_filled c.requires.tables_for c.fill-most.ensures.tables_len_unchanged).motif

pub arc_end-requires-clause-bounded : goal.arc_end-requires-clause-bounded
arc_end-requires-clause-bounded c =
    let E = c.pair_of-pair-2.ensures in
    rw (E.0, E.2, E.3) (c.fill-most.ensures.value.1, c.fill-most.ensures.value.0)

pub returns-clause-tables_for_2 : goal.returns-clause-tables_for_2
returns-clause-tables_for_2 c = tables_filled c.requires.tables_for c.fill-most.ensures.tables_len_unchanged
