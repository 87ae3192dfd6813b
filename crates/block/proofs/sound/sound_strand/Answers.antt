-- `block::sound::sound_strand` meets its contract: each return is one rule. A block that begins with 0 has no kind, so it must be empty; any other has a
-- content, and the sum over it is compared.
use mathlib.Core.Path.{◌∙◌, sym, ap}
use Rattle.block.specs.Content.{sum_to}
use Rattle.block.proofs.SoundLaws as laws
use Rattle.block.proofs.WalkLaws.{handed, not_handed}
use Rattle.block.proofs.sound.sound_strand.Goals as goal

pub returns-then-s-ne-BLOCK_SIZE : goal.returns-then-s-ne-BLOCK_SIZE
returns-then-s-ne-BLOCK_SIZE c = laws.strand_length _ _ c.if-s-ne-BLOCK_SIZE.true

pub returns-then-s-eq0 : goal.returns-then-s-eq0
returns-then-s-eq0 c = c.all_zero.ensures ∙ laws.strand_unmarked _ _ c.if-s-ne-BLOCK_SIZE.false c.requires.0 c.if-s-eq0.true

pub returns-in_default : goal.returns-in_default
returns-in_default c =
    laws.strand_content _ _ c.if-s-ne-BLOCK_SIZE.false c.if-s-eq0.false (not_handed _ _ (sym c.in_default.is ∙ c.content.ensures))

pub returns : goal.returns
returns c =
    let all = handed _ _ _ (sym c.in-Some.is ∙ c.content.ensures) in
    laws.sum_check _ (all.1 ∙ ap (sum_to _) c.requires.1) c.checksum_in.ensures ∙ laws.strand_check _ _ c.if-s-ne-BLOCK_SIZE.false c.if-s-eq0.false all.0
