-- `codec::molecule::decode_motif` meets its contract: a block handed in as a motif is laid out as a molecule block is.
use mathlib.Core.Path.{◌∙◌}
use Rattle.codec.proofs.OutcomeLaws.{motif_decoded_lem}
use Rattle.codec.proofs.molecule.decode_motif.Goals as goal

pub returns : goal.returns
returns c = c.decode_molecule.ensures ∙ motif_decoded_lem _ _ _
