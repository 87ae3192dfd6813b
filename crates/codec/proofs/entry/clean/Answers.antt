-- `codec::entry::clean` meets its contract: a sound block stays, any other is zeroed.
use mathlib.Core.Path.{◌∙◌, sym}
use Rattle.block.proofs.ContentLaws.{clean_no, clean_yes}
use Rattle.codec.proofs.entry.clean.Goals as goal

pub returns-then-not-sound_entry : goal.returns-then-not-sound_entry
returns-then-not-sound_entry c = c.fill.ensures.after (λ y e. e) ∙ clean_no _ (sym c.sound_entry.ensures ∙ c.if-not-sound_entry.true)

pub returns-else-not-sound_entry : goal.returns-else-not-sound_entry
returns-else-not-sound_entry c = clean_yes _ (sym c.sound_entry.ensures ∙ c.if-not-sound_entry.false)
