-- `batch::answer::hits_of` meets its contract: the entry is sound, so `keeps` tells whether it keeps the motif.
use borrow.Author.Rules.{rules}
use mathlib.Core.Path.{◌∙◌}
use Rattle.strand.specs.Lent.{lent}
use Rattle.octets.specs.Octets.{map_bit}
use Rattle.block.proofs.ContentLaws.{entry_size}
use Rattle.codec.proofs.OutcomeLaws.{keeps_sound}
use Rattle.batch.proofs.AnswerLaws as laws
use Rattle.batch.proofs.answer.hits_of.Goals as goal

pub fill_known-requires : goal.fill_known-requires
fill_known-requires c = (entry_size c.args.entry.now c.requires.0, c.requires.1, search rules)

pub returns : goal.returns
returns c =
    laws.hits_joined c.args.held.now c.args.entry.now _ _ (lent c.args.motif.now)
    c.keeps-same.result (map_bit c.args.found.now 0)
    (c.keeps-same.ensures ∙ keeps_sound c.args.entry.now (lent c.args.motif.now) c.requires.0)
    c.fill_known.ensures c.join.ensures
