-- What the writers of one block of a buffer answer and leave for any input: where something does not fit, the answer says so and no byte changes.
use Rattle.std.specs.Prelude.{ℕ, List, [], Bool, ◌&&◌, length, ltb, eqb}
use Rattle.strand.specs.Strands.{Strand}
use Rattle.octets.specs.Octets.{map_size}
use Rattle.block.specs.Content.{block_size, molecule_kind, entry_kind, empty_block, encode_molecule, entry_with}
use Rattle.block.specs.Block.{block_count, put_block}
use Rattle.codec.specs.Outcomes.{Wrote, wrote_if, strand_fits}

-- Number d is a block of the buffer.
unfoldable pub block_fits : ℕ → List ℕ → Bool
block_fits d buf = ltb d (block_count buf)

-- A molecule written as block d; the entry of a motif, with its two maps as bytes; block d zeroed.
unfoldable pub molecule_put : ℕ → Strand → List ℕ → Wrote
molecule_put d q buf =
    wrote_if (block_fits d buf && strand_fits block_size molecule_kind.most (length q.bases) (length q.mates)) (put_block d (encode_molecule q) buf) buf

unfoldable pub entry_put : ℕ → Strand → List ℕ → List ℕ → List ℕ → Wrote
entry_put k p searched hits buf =
    wrote_if
    (block_fits k buf
    && (strand_fits block_size entry_kind.most (length p.bases) (length p.mates) && eqb (length searched) map_size && eqb (length hits) map_size))
    (put_block k (entry_with [] p.bases p.mates searched hits) buf) buf

unfoldable pub zero_put : ℕ → List ℕ → Wrote
zero_put d buf = wrote_if (block_fits d buf) (put_block d empty_block buf) buf
