-- The outcomes of the writers of one block of a buffer: each return of their code, and what a caller whose input fits may cite.
use mathlib.Core.Path.{◌≡◌, refl, ap, ◌∙◌}
use mathlib.Core.Bool.{Bool, true, false, ◌&&◌}
use mathlib.Core.List.{List, [], ◌++◌}
use Prim.Native.Nat.{ℕ, ◌+◌, ◌-◌, ◌*◌, ◌<◌, ◌≤◌}
use Rattle.std.proofs.Math.Bool.{and-true}
use borrow.Author.Tests.{lt-ltb, le-ltb, eq-eqb}
use lib.Dec.{eqb}
use borrow.Rule.Slice.PartMut.{put_mid}
use lib.ListN.{length, take, drop, take-append-drop, replicate}
use Rattle.lists.specs.Vocabulary.{choose}
use Rattle.strand.specs.Strands.{strand_of}
use Rattle.block.specs.Content.{empty_block, encode_molecule, entry_with}
use Rattle.block.specs.Block.{block_of, block_count, put_block}
use Rattle.buffer.specs.Buffer.{block_fits, molecule_put, entry_put, zero_put}
use Rattle.codec.specs.Outcomes.{Wrote, wrote, wrote_if, strand_fits, molecule_wrote, entry_wrote}
use Rattle.buffer.proofs.BufferLaws.{put_is}
use Rattle.codec.proofs.OutcomeLaws.{wrote_not, wrote_new, bytes_new, strand_fits_lem}

-- A part put back as it was.
put_same : (d : ℕ) (s : List ℕ) → put_mid (512 * d) (512 * d + 512 - 512 * d) s (block_of d s) ≡ s
put_same d s = ap (λ (l : List ℕ). take (512 * d) s ++ l) (take-append-drop (512 * d + 512 - 512 * d) (drop (512 * d) s)) ∙ take-append-drop (512 * d) s

-- What a writer of a part did, in the buffer.
part_put : (d : ℕ) (b buf x : List ℕ) (r fits : Bool) → wrote r x ≡ wrote_if fits b (block_of d buf)
    → wrote r (put_mid (512 * d) (512 * d + 512 - 512 * d) buf x) ≡ wrote_if fits (put_block d b buf) buf
unfolding wrote_if choose
part_put d b buf x r true q =
    ap (λ (w : Wrote). wrote w.done (put_mid (512 * d) (512 * d + 512 - 512 * d) buf w.bytes)) q ∙ ap (wrote true) (put_is d buf b b refl)
part_put d b buf x r false q =
    ap (λ (w : Wrote). wrote w.done (put_mid (512 * d) (512 * d + 512 - 512 * d) buf w.bytes)) q ∙ ap (wrote false) (put_same d buf)

-- One step at block d: there is none; what the step did stands in its place.
module _ (d : ℕ) (b buf : List ℕ) (fits : Bool) where
  pub at_not : block_count buf ≤ d → wrote false buf ≡ wrote_if (block_fits d buf && fits) (put_block d b buf) buf
  unfolding block_fits
  at_not h = wrote_not (put_block d b buf) buf _ (rw (le-ltb d (block_count buf) h))

  pub at_done : (r : Bool) (x : List ℕ) → d < block_count buf → wrote r x ≡ wrote_if fits b (block_of d buf)
      → wrote r (put_mid (512 * d) (512 * d + 512 - 512 * d) buf x) ≡ wrote_if (block_fits d buf && fits) (put_block d b buf) buf
  unfolding block_fits
  at_done r x h e = rw (lt-ltb d (block_count buf) h) (part_put d b buf x r fits e)

pub molecule_step : (bases mates s x : List ℕ) (r : Bool) → length s ≡ 512 → wrote r x ≡ molecule_wrote s bases mates
    → wrote r x ≡ wrote_if (strand_fits 512 160 (length bases) (length mates)) (encode_molecule (strand_of bases mates)) s
unfolding molecule_wrote
molecule_step bases mates s x r l e = rw l at e

module _ (d : ℕ) (bases mates buf : List ℕ) where
  pub molecule_done : (r : Bool) (x : List ℕ)
      → wrote r x
      ≡ wrote_if (block_fits d buf && strand_fits 512 160 (length bases) (length mates)) (put_block d (encode_molecule (strand_of bases mates)) buf) buf
      → wrote r x ≡ molecule_put d (strand_of bases mates) buf
  unfolding molecule_put
  molecule_done r x e = e

  -- Where there is a block d and the molecule fits, its block is written.
  pub molecule_put_there : (r : Bool) (x : List ℕ) → d < block_count buf → length bases ≤ 160 → length mates ≡ length bases
      → wrote r x ≡ molecule_put d (strand_of bases mates) buf → x ≡ put_block d (encode_molecule (strand_of bases mates)) buf
  unfolding molecule_put block_fits
  molecule_put_there r x h hb hm q =
      bytes_new (put_block d (encode_molecule (strand_of bases mates)) buf) buf _ r x
      (rw (lt-ltb d (block_count buf) h, strand_fits_lem 160 512 (length bases) (length mates) refl hb hm)) q

pub entry_step : (bases mates searched hits s x : List ℕ) (r : Bool) → length s ≡ 512 → wrote r x ≡ entry_wrote s bases mates searched hits
    → wrote r x
    ≡ wrote_if (strand_fits 512 120 (length bases) (length mates) && eqb (length searched) 64 && eqb (length hits) 64)
    (entry_with [] bases mates searched hits) s
unfolding entry_wrote
entry_step bases mates searched hits s x r l e = rw l at e

module _ (k : ℕ) (bases mates searched hits buf : List ℕ) where
  pub entry_done : (r : Bool) (x : List ℕ)
      → wrote r x
      ≡ wrote_if (block_fits k buf && (strand_fits 512 120 (length bases) (length mates) && eqb (length searched) 64 && eqb (length hits) 64))
      (put_block k (entry_with [] bases mates searched hits) buf) buf
      → wrote r x ≡ entry_put k (strand_of bases mates) searched hits buf
  unfolding entry_put
  entry_done r x e = e

  -- Where there is a block k and the motif fits, its entry is written.
  pub entry_put_there : (r : Bool) (x : List ℕ) → k < block_count buf → length bases ≤ 120 → length mates ≡ length bases
      → length searched ≡ 64 → length hits ≡ 64 → wrote r x ≡ entry_put k (strand_of bases mates) searched hits buf
      → x ≡ put_block k (entry_with [] bases mates searched hits) buf
  unfolding entry_put block_fits
  entry_put_there r x h hb hm hs hh q =
      bytes_new (put_block k (entry_with [] bases mates searched hits) buf) buf _ r x
      (rw (
        lt-ltb k (block_count buf) h,
        strand_fits_lem 120 512 (length bases) (length mates) refl hb hm,
        eq-eqb (length searched) 64 hs,
        eq-eqb (length hits) 64 hh,
      )) q

pub zero_step : (s x : List ℕ) (r : Bool) → length s ≡ 512 → r ≡ true → x ≡ replicate (length s) 0 → wrote r x ≡ wrote_if true empty_block s
unfolding empty_block
zero_step s x r l e q = rw e (wrote_new (replicate 512 0) s true x refl (q ∙ ap (λ (k : ℕ). replicate k 0) l))

module _ (d : ℕ) (buf : List ℕ) where
  pub zero_done : (r : Bool) (x : List ℕ) → wrote r x ≡ wrote_if (block_fits d buf && true) (put_block d empty_block buf) buf → wrote r x ≡ zero_put d buf
  unfolding zero_put
  zero_done r x e = rw and-true at e

  -- Where there is a block d, it is zeroed.
  pub zero_put_there : (r : Bool) (x : List ℕ) → d < block_count buf → wrote r x ≡ zero_put d buf → x ≡ put_block d empty_block buf
  unfolding zero_put block_fits
  zero_put_there r x h q = bytes_new (put_block d empty_block buf) buf _ r x (lt-ltb d (block_count buf) h) q
