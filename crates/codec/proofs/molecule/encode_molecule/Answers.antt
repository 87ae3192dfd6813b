-- `codec::molecule::encode_molecule` meets its contract: content and checksum make the block; where the molecule does not fit, no byte changed.
use native.Mathlib.Omega.{arith}
use mathlib.Core.Path.{sym, ◌∙◌}
use Rattle.codec.proofs.OutcomeLaws as law
use Rattle.block.proofs.SumLaws.{rechecked_whole_lem}
use Rattle.codec.proofs.CodeLaws.{molecule_put_lem}
use Rattle.codec.proofs.molecule.encode_molecule.Goals as goal

pub returns-then-not-strand_fits : goal.returns-then-not-strand_fits
returns-then-not-strand_fits c = law.molecule_not _ _ _ (sym c.strand_fits.ensures ∙ c.if-not-strand_fits.true)

pub put_content-requires : goal.put_content-requires
put_content-requires c =
    let f = law.fits_all 160 _ _ _ (sym c.strand_fits.ensures ∙ c.if-not-strand_fits.false) in
    (omega arith, omega (arith, f.0), f.1, f.2)

pub returns : goal.returns
returns c =
    let f = law.fits_all 160 _ _ _ (sym c.strand_fits.ensures ∙ c.if-not-strand_fits.false) in
    law.molecule_done _ _ _ _ (sym c.strand_fits.ensures ∙ c.if-not-strand_fits.false) (molecule_put_lem _ _ _ _ _ f.1 f.2
    (c.put_content.auto.s ∙ f.0) c.put_content.ensures
    (c.put_checksum.ensures ∙ rechecked_whole_lem _ (omega (arith, f.0, c.put_content.auto.s))))
