-- `search::maps::Maps::new` meets its contract.
-- The entry is sound, so `keeps` tells whether it keeps this motif; the numbers to be searched and the known hits are then those of the calls' definitions.
use borrow.Author.Rules.{rules}
use mathlib.Core.Path.{◌∙◌}
use Rattle.strand.specs.Lent.{lent}
use Rattle.block.proofs.ContentLaws.{entry_size}
use Rattle.codec.proofs.OutcomeLaws.{keeps_sound}
use Rattle.search.proofs.KnownLaws as laws
use Rattle.search.proofs.maps.Maps.new.Goals as goal

pub fill_todo-requires : goal.fill_todo-requires
fill_todo-requires c = (entry_size c.args.entry.now c.requires.2, search rules, search rules)

pub fill_known-requires : goal.fill_known-requires
fill_known-requires c = (entry_size c.args.entry.now c.requires.2, search rules, search rules)

pub returns : goal.returns
returns c = (
  c.fill_held.ensures,
  laws.todo_is c.args.catalog.now c.args.entry.now (lent c.args.motif.now) _
      (c.keeps-same.ensures ∙ keeps_sound c.args.entry.now (lent c.args.motif.now) c.requires.2)
      _ c.fill_held.ensures _ c.fill_todo.ensures,
  laws.known_is c.args.catalog.now c.args.entry.now (lent c.args.motif.now) _
      (c.keeps-same.ensures ∙ keeps_sound c.args.entry.now (lent c.args.motif.now) c.requires.2)
      _ c.fill_held.ensures _ c.fill_known.ensures,
)
