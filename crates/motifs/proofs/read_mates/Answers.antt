-- `motifs::read_mates` meets its contract: the words read are the mates of motif t.
use Prim.Native.Nat.{◌≤◌}
use native.Mathlib.Omega.{arith}
use mathlib.Core.Path.{sym}
use lib.ListN.{length}
use lib.Seq.{length-take-le}
use Rattle.motifs.proofs.ReadLaws as reading
use Rattle.motifs.proofs.read_mates.Goals as goal

pub slice_bounds-read_words-end-2 : goal.slice_bounds-read_words-end-2
slice_bounds-read_words-end-2 c =
    omega (arith, c.from-n.ensures, reading.count_small c.args.motifs.now c.requires.0 c.args.t c.requires.1 _ c.block_at-src.ensures)

pub slice_bounds-read_words-end-3 : goal.slice_bounds-read_words-end-3
slice_bounds-read_words-end-3 c =
    sym (length-take-le _ c.args.mates.now
    (omega (arith, c.from-n.ensures, reading.count_small c.args.motifs.now c.requires.0 c.args.t c.requires.1 _ c.block_at-src.ensures)))

pub returns : goal.returns
returns c =
    let fits : c.from-n.result ≤ length c.args.mates.now
    = omega (arith, c.from-n.ensures, reading.count_small c.args.motifs.now c.requires.0 c.args.t c.requires.1 _ c.block_at-src.ensures) in
    reading.mates_read c.args.motifs.now c.requires.0 c.args.t c.requires.1 _ c.block_at-src.ensures c.from-n.result _ _ c.from-n.ensures
    (rw (length-take-le c.from-n.result c.args.mates.now fits) at c.read_words.ensures)
