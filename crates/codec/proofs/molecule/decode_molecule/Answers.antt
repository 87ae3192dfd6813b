-- `codec::molecule::decode_molecule` meets its contract: where it can be decoded, the strand of the block is laid over the slices; else they stay.
use mathlib.Core.Path.{sym, ◌∙◌}
use Rattle.codec.proofs.OutcomeLaws as law
use Rattle.block.specs.Content.{molecule_in}
use Rattle.codec.proofs.molecule.decode_molecule.Goals as goal

pub returns-then-not-can_decode : goal.returns-then-not-can_decode
returns-then-not-can_decode c = law.decoded_not _ _ _ (sym c.can_decode.ensures ∙ c.if-not-can_decode.true)

pub decode-requires : goal.decode-requires
decode-requires c = let f = law.decodes_all _ _ _ (sym c.can_decode.ensures ∙ c.if-not-can_decode.false) in (f.0, f.1, f.2, f.3)

pub returns : goal.returns
unfolding molecule_in
returns c =
    law.decoded_done _ _ _ _ _ _ (sym c.can_decode.ensures ∙ c.if-not-can_decode.false) c.decode.ensures.0
    c.decode.ensures.1 c.decode.ensures.2
