-- `screening::ask_lent` meets its contract. A block that holds a motif is decoded into the two slices (`motif_there`), n is at most 160, and the query
-- is asked for exactly the motif that the first block hands in.
use native.Mathlib.Omega.{arith}
use borrow.Author.Rules.{rules}
use mathlib.Core.Path.{sym}
use lib.ListN.{length, take}
use lib.Seq.{length-take-le}
use Rattle.embedding.specs.Longest.{embeds}
use Rattle.screening.proofs.ScreenLaws as law
use Rattle.codec.proofs.OutcomeLaws as outcome
use Rattle.screening.proofs.ask_lent.Goals as goal

pub slice_bounds-decode_motif-end : goal.slice_bounds-decode_motif-end
slice_bounds-decode_motif-end c = sym (length-take-le 512 c.args.input.now (omega (arith, (law.input_few c.args.input.now c.requires.input_whole).0)))

pub unwrap-n-requires : goal.unwrap-n-requires
unwrap-n-requires c =
    rw (outcome.motif_some (take 512 c.args.input.now) c.args.bases.now c.args.mates.now _ _ _
    (law.motif_sound (take 512 c.args.input.now) c.requires.motif_held) c.requires.block_bases_in_bounds.0 c.requires.block_bases_in_bounds.1
    c.decode_motif-decoded.ensures) (search rules)

pub slice_bounds-query-count : goal.slice_bounds-query-count
slice_bounds-query-count c = omega (arith, (law.input_few c.args.input.now c.requires.input_whole).0)

pub slice_bounds-query-start : goal.slice_bounds-query-start
slice_bounds-query-start c = omega (arith, (law.input_few c.args.input.now c.requires.input_whole).0)

pub slice_bounds-motif-end : goal.slice_bounds-motif-end
slice_bounds-motif-end c =
    let f = outcome.motif_at (take 512 c.args.input.now) c.args.bases.now c.args.mates.now
    c.unwrap-n.result c.decode_motif-decoded.new.bases c.decode_motif-decoded.new.mates
    (law.motif_sound (take 512 c.args.input.now) c.requires.motif_held) c.requires.block_bases_in_bounds.0 c.requires.block_bases_in_bounds.1
    (rw c.unwrap-n.ensures at c.decode_motif-decoded.ensures) in
    omega (
      arith,
      law.motif_fits (take 512 c.args.input.now) c.unwrap-n.result c.requires.motif_held f.0,
      c.requires.block_bases_in_bounds.0,
      c.decode_motif-decoded.auto.bases,
    )

pub slice_bounds-motif-end-2 : goal.slice_bounds-motif-end-2
slice_bounds-motif-end-2 c =
    let f = outcome.motif_at (take 512 c.args.input.now) c.args.bases.now c.args.mates.now
    c.unwrap-n.result c.decode_motif-decoded.new.bases c.decode_motif-decoded.new.mates
    (law.motif_sound (take 512 c.args.input.now) c.requires.motif_held) c.requires.block_bases_in_bounds.0 c.requires.block_bases_in_bounds.1
    (rw c.unwrap-n.ensures at c.decode_motif-decoded.ensures) in
    sym (length-take-le c.unwrap-n.result c.decode_motif-decoded.new.bases (omega (
      arith,
      law.motif_fits (take 512 c.args.input.now) c.unwrap-n.result c.requires.motif_held f.0,
      c.requires.block_bases_in_bounds.0,
      c.decode_motif-decoded.auto.bases,
    )))

pub slice_bounds-motif-end-3 : goal.slice_bounds-motif-end-3
slice_bounds-motif-end-3 c =
    let f = outcome.motif_at (take 512 c.args.input.now) c.args.bases.now c.args.mates.now
    c.unwrap-n.result c.decode_motif-decoded.new.bases c.decode_motif-decoded.new.mates
    (law.motif_sound (take 512 c.args.input.now) c.requires.motif_held) c.requires.block_bases_in_bounds.0 c.requires.block_bases_in_bounds.1
    (rw c.unwrap-n.ensures at c.decode_motif-decoded.ensures) in
    omega (
      arith,
      law.motif_fits (take 512 c.args.input.now) c.unwrap-n.result c.requires.motif_held f.0,
      c.requires.block_bases_in_bounds.1,
      c.decode_motif-decoded.auto.mates,
    )

pub slice_bounds-motif-end-4 : goal.slice_bounds-motif-end-4
slice_bounds-motif-end-4 c =
    let f = outcome.motif_at (take 512 c.args.input.now) c.args.bases.now c.args.mates.now
    c.unwrap-n.result c.decode_motif-decoded.new.bases c.decode_motif-decoded.new.mates
    (law.motif_sound (take 512 c.args.input.now) c.requires.motif_held) c.requires.block_bases_in_bounds.0 c.requires.block_bases_in_bounds.1
    (rw c.unwrap-n.ensures at c.decode_motif-decoded.ensures) in
    sym (length-take-le c.unwrap-n.result c.decode_motif-decoded.new.mates (omega (
      arith,
      law.motif_fits (take 512 c.args.input.now) c.unwrap-n.result c.requires.motif_held f.0,
      c.requires.block_bases_in_bounds.1,
      c.decode_motif-decoded.auto.mates,
    )))

pub returns : goal.returns
returns c =
    let f = outcome.motif_at (take 512 c.args.input.now) c.args.bases.now c.args.mates.now
    c.unwrap-n.result c.decode_motif-decoded.new.bases c.decode_motif-decoded.new.mates
    (law.motif_sound (take 512 c.args.input.now) c.requires.motif_held) c.requires.block_bases_in_bounds.0 c.requires.block_bases_in_bounds.1
    (rw c.unwrap-n.ensures at c.decode_motif-decoded.ensures) in (
      law.asked embeds c.args.input.now c.args.cache.now (length c.args.work.now) c.args.hits.now
          c.unwrap-n.result c.decode_motif-decoded.new.bases c.decode_motif-decoded.new.mates
          c.args.bases.now c.args.mates.now c.requires.motif_held f.0 f.1 f.2 _ c.query.ensures.0,
      law.asked_work embeds c.args.input.now c.args.cache.now (length c.args.work.now) c.args.hits.now
          c.unwrap-n.result c.decode_motif-decoded.new.bases c.decode_motif-decoded.new.mates
          c.args.bases.now c.args.mates.now c.requires.motif_held f.0 f.1 f.2 _ _ c.query.ensures.1,
    )
