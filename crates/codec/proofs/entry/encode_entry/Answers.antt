-- `codec::entry::encode_entry` meets its contract: content, both maps and checksum follow each other; where something does not fit, no byte changed.
use native.Mathlib.Omega.{arith}
use mathlib.Core.Path.{sym, ◌∙◌}
use Rattle.codec.proofs.OutcomeLaws as law
use Rattle.block.proofs.SumLaws.{rechecked_whole_lem}
use Rattle.codec.proofs.WriteLaws.{entry_put_lem}
use Rattle.codec.proofs.entry.encode_entry.Goals as goal

pub returns-then-not-strand_fits : goal.returns-then-not-strand_fits
returns-then-not-strand_fits c = law.entry_too_long _ _ _ _ _ (sym c.strand_fits.ensures ∙ c.if-not-strand_fits.true)

pub returns-then-searched-ne-MAP_SIZE : goal.returns-then-searched-ne-MAP_SIZE
returns-then-searched-ne-MAP_SIZE c = law.entry_searched_size _ _ _ _ _ (sym c.strand_fits.ensures ∙ c.if-not-strand_fits.false) c.if-searched-ne-MAP_SIZE.true

pub returns-then-hits-ne-MAP_SIZE : goal.returns-then-hits-ne-MAP_SIZE
returns-then-hits-ne-MAP_SIZE c = law.entry_hits_size _ _ _ _ _ (sym c.strand_fits.ensures ∙ c.if-not-strand_fits.false) c.if-searched-ne-MAP_SIZE.false
    c.if-hits-ne-MAP_SIZE.true

pub put_content-requires : goal.put_content-requires
put_content-requires c =
    let f = law.fits_all 120 _ _ _ (sym c.strand_fits.ensures ∙ c.if-not-strand_fits.false) in
    (omega arith, omega (arith, f.0), f.1, f.2)

pub slice_bounds-copy_from_slice-end : goal.slice_bounds-copy_from_slice-end
slice_bounds-copy_from_slice-end c =
    let f = law.fits_all 120 _ _ _ (sym c.strand_fits.ensures ∙ c.if-not-strand_fits.false) in
    omega (arith, f.0, c.put_content.auto.s)

pub slice_bounds-copy_from_slice-end-2 : goal.slice_bounds-copy_from_slice-end-2
slice_bounds-copy_from_slice-end-2 c =
    let f = law.fits_all 120 _ _ _ (sym c.strand_fits.ensures ∙ c.if-not-strand_fits.false) in
    omega (arith, f.0, c.copy_from_slice.ensures.len, c.put_content.auto.s)

pub returns : goal.returns
returns c =
    let f = law.fits_all 120 _ _ _ (sym c.strand_fits.ensures ∙ c.if-not-strand_fits.false) in
    law.entry_done _ _ _ _ _ (sym c.strand_fits.ensures ∙ c.if-not-strand_fits.false) _ c.if-searched-ne-MAP_SIZE.false c.if-hits-ne-MAP_SIZE.false
    (entry_put_lem
    _ _ _ _ c.args.s.now _ _ _ _ f.0 f.1 f.2 c.if-searched-ne-MAP_SIZE.false c.if-hits-ne-MAP_SIZE.false c.put_content.ensures
    c.copy_from_slice.ensures.after c.copy_from_slice-2.ensures.after (c.put_checksum.ensures
    ∙ rechecked_whole_lem _ (omega (arith, f.0, c.copy_from_slice-2.ensures.len, c.copy_from_slice.ensures.len, c.put_content.auto.s))))
