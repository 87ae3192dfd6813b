-- `codec::parts::strand_fits` meets its contract: each return is one condition.
use Rattle.codec.proofs.OutcomeLaws as law
use Rattle.codec.proofs.parts.strand_fits.Goals as goal

pub returns-then-size-ne-BLOCK_SIZE : goal.returns-then-size-ne-BLOCK_SIZE
returns-then-size-ne-BLOCK_SIZE c = law.fits_size _ _ _ _ c.if-size-ne-BLOCK_SIZE.true

pub returns-then-most-bases : goal.returns-then-most-bases
returns-then-most-bases c = law.fits_long _ _ _ _ c.if-size-ne-BLOCK_SIZE.false c.if-most-bases.true

pub returns : goal.returns
returns c = law.fits_last _ _ _ _ c.if-size-ne-BLOCK_SIZE.false c.if-most-bases.false
