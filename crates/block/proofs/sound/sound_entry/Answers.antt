-- `block::sound::sound_entry` meets its contract: each return is one rule. A block that begins with 0 has no kind, so it must be empty; any other has a
-- content and maps, and the sum over both is compared.
use mathlib.Core.Path.{◌∙◌, sym}
use Rattle.block.proofs.SoundLaws as laws
use Rattle.block.proofs.WalkLaws.{handed, not_handed, passed_ok, passed_err}
use Rattle.block.proofs.sound.sound_entry.Goals as goal

pub returns-then-s-ne-BLOCK_SIZE : goal.returns-then-s-ne-BLOCK_SIZE
returns-then-s-ne-BLOCK_SIZE c = laws.entry_length _ c.if-s-ne-BLOCK_SIZE.true

pub returns-then-s-eq0 : goal.returns-then-s-eq0
returns-then-s-eq0 c = c.all_zero.ensures ∙ laws.entry_unmarked _ c.if-s-ne-BLOCK_SIZE.false c.if-s-eq0.true

pub returns-in_default : goal.returns-in_default
returns-in_default c =
    laws.entry_content _ c.if-s-ne-BLOCK_SIZE.false c.if-s-eq0.false (not_handed _ _ (sym c.in_default.is ∙ c.content.ensures))

pub returns-in_default-maps : goal.returns-in_default-maps
returns-in_default-maps c =
    let content = handed _ _ _ (sym c.in-Some.is ∙ c.content.ensures) in
    laws.entry_hits _ c.if-s-ne-BLOCK_SIZE.false c.if-s-eq0.false content.0 (passed_err _ _ _ (sym c.in_default-maps.is ∙ c.maps.ensures)).0

pub returns : goal.returns
returns c =
    let content = handed _ _ _ (sym c.in-Some.is ∙ c.content.ensures) in
    let maps = passed_ok _ _ _ (sym c.in-Ok.is ∙ c.maps.ensures) in
    laws.sum_check _ maps.1 c.checksum_in.ensures ∙ laws.entry_check _ c.if-s-ne-BLOCK_SIZE.false c.if-s-eq0.false content.0 maps.0
