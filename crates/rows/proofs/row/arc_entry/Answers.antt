-- `rows::row::arc_entry` meets its contract: the row of an unbonded y tells the one part, the classes in the tables the other (`over_known`).
use mathlib.Core.Path.{sym, ◌∙◌}
use native.Mathlib.Omega.{arith}
use lib.ListN.{length}
use Rattle.lists.specs.Vocabulary.{nth}
use Rattle.rows.specs.Rows.{matches}
use Rattle.embedding.proofs.Entries.{unit_small}
use Rattle.rows.proofs.Passes.{with_some}
use Rattle.rows.proofs.TableLaws.{over_known}
use Rattle.rows.proofs.row.arc_entry.Goals as goal

pub returns : goal.returns
returns c =
    with_some _ _ _ _ _ c.max.ensures c.next_of-both.ensures (sym (over_known c.args.x c.args.y _ _ _ _ _ _
    c.requires.from_in_bounds.0 (omega arith) c.args.motif.now.made (c.from-left.ensures ∙ c.letter_class.ensures) (c.from-right.ensures ∙
    c.letter_class-2.ensures)
    c.over_entry-over.ensures))

pub overflow_cast-both : goal.overflow_cast-both
overflow_cast-both c = omega (
  arith,
  c.next_of-both.ensures,
  unit_small (matches c.args.motif.now.bases.now c.args.y) (nth
      c.args.motif.now.mates.now) (length c.args.motif.now.bases.now) c.args.here,
  c.requires.from_in_bounds,
  c.args.motif.now.small,
)
