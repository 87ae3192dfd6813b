-- `codec::entry::keeps_motif` meets its contract: bases, number of mates and mates are compared one after the other; each return is one law.
use mathlib.Core.Path.{sym, ◌∙◌}
use Rattle.lists.proofs.ListLaws.{same_pointwise, true_not, not_not}
use Rattle.codec.proofs.WriteLaws.{other_bases, other_count, same_bases}
use Rattle.codec.proofs.entry.keeps_motif.Goals as goal

pub returns-then-ne : goal.returns-then-ne
returns-then-ne c = other_bases _ _ _ (sym (same_pointwise _ _) ∙ true_not _ (sym c.if-ne.ensures))

pub returns-then-mates-n : goal.returns-then-mates-n
returns-then-mates-n c = other_count _ _ _ (sym (same_pointwise _ _) ∙ not_not _ (sym c.if-ne.ensures)) c.if-mates-n.true

pub returns : goal.returns
returns c =
    c.same_words.ensures
    ∙ same_bases _ _ _ (sym (same_pointwise _ _) ∙ not_not _ (sym c.if-ne.ensures)) c.requires.0 c.if-mates-n.false
