-- `block::sound::holds_motif` meets its contract: sound, and not all zeros.
use mathlib.Core.Path.{sym, ◌∙◌}
use Rattle.block.proofs.SoundLaws.{motif_unsound, motif_empty_not}
use Rattle.block.proofs.sound.holds_motif.Goals as goal

pub returns-then-not-sound_motif : goal.returns-then-not-sound_motif
returns-then-not-sound_motif c = motif_unsound _ (sym c.sound_motif.ensures ∙ c.if-not-sound_motif.true)

pub returns : goal.returns
returns c = motif_empty_not _ _ (sym c.sound_motif.ensures ∙ c.if-not-sound_motif.false) c.all_zero.ensures
