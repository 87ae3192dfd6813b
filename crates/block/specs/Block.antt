-- The blocks of a buffer, when a block is sound, and what the calls do to one.
use Rattle.std.specs.Prelude.{ℕ, zero, suc, ◌+◌, ◌*◌, ◌/◌, List, [], ◌++◌, Bool, not, ◌&&◌, ◌||◌, length, take, drop, replicate, eqb, leb}
use Rattle.lists.specs.Vocabulary.{nth, between, every, all, choose}
use Rattle.letters.specs.Letters.{is_letter}
use Rattle.strand.specs.Strands.{is_nested}
use Rattle.octets.specs.Octets.{is_zero, map_bit, clear_map, map_bits}
use Rattle.refusals.specs.declared.Side.{Side}
use Rattle.block.specs.Content.{block_size, checksum_ok, rechecked, Kind, molecule_kind, entry_kind, mates_at, searched_at, hit_at, is_empty, length_in}
use Rattle.block.specs.Content.{mates_in}

-- Block d of a buffer.
abbrev pub block_of : ℕ → List ℕ → List ℕ
block_of d buf = between (block_size * d) (block_size * d + block_size) buf

-- The number of its blocks: B of a catalog, S of a cache.
abbrev pub block_count : List ℕ → ℕ
block_count buf = length buf / block_size

-- Block d of the buffer replaced by b.
unfoldable pub put_block : ℕ → List ℕ → List ℕ → List ℕ
put_block d b s = take (block_size * d) s ++ b ++ drop (block_size * d + block_size) s

-- f of each of the first n blocks, one after the other; each whole block replaced by f of it.
unfoldable pub blocks_to : (List ℕ → List ℕ) → ℕ → List ℕ → List ℕ
blocks_to f zero s = []
blocks_to f (suc d) s = blocks_to f d s ++ f (block_of d s)

unfoldable pub each_block : (List ℕ → List ℕ) → List ℕ → List ℕ
each_block f s = blocks_to f (block_count s) s ++ drop (block_size * block_count s) s

-- The bytes of n bases that begin at `start`, with room for `most`: bytes from `blank` up to them zero, letters of the side, unused places zero.
unfoldable pub base_bytes_ok : Side → ℕ → ℕ → ℕ → ℕ → List ℕ → Bool
base_bytes_ok side blank start most n s =
    all is_zero (between blank start s)
    && all (is_letter side) (between start (start + n) s)
    && all is_zero (between (start + n) (start + most) s)

-- The bytes of n mates that begin at `at`, with room for `most`: unused places zero.
unfoldable pub mate_bytes_ok : ℕ → ℕ → ℕ → List ℕ → Bool
mate_bytes_ok at most n s = all is_zero (between (at + 2 * n) (at + 2 * most) s)

-- The rules on the bytes of a block of n bases: kind, length in range, bytes of bases and of mates.
unfoldable pub bytes_with : Kind → ℕ → List ℕ → Bool
bytes_with k n s =
    eqb (nth s 0) k.mark && leb k.least n && leb n k.most
    && base_bytes_ok k.side k.blank k.start k.most n s
    && mate_bytes_ok (mates_at k) k.most n s

-- The same with the length that the block names.
abbrev pub bytes_ok : Kind → List ℕ → Bool
bytes_ok k s = bytes_with k (length_in s) s

-- The rules on the content of a block: its bytes, and the mates nested.
unfoldable pub content_ok : Kind → List ℕ → Bool
content_ok k s = bytes_ok k s && is_nested (mates_in k s)

-- A hit bit needs its searched bit: bit d, and every bit.
unfoldable pub hit_ok : List ℕ → ℕ → Bool
hit_ok s d = not (map_bit s hit_at d) || map_bit s searched_at d

unfoldable pub hits_ok : List ℕ → Bool
hits_ok s = every map_bits (hit_ok s)

-- All the rules for a block that is not empty: of a strand, and of a cache.
unfoldable pub strand_rules : Kind → List ℕ → Bool
strand_rules k s = content_ok k s && checksum_ok s

unfoldable pub entry_rules : List ℕ → Bool
entry_rules s = content_ok entry_kind s && hits_ok s && checksum_ok s

-- 01: "A block is sound when it is empty, or has its buffer's kind, every rule above, a length in range, a nested content and the right check."
-- Of a block with a strand, of a catalog block, and of a cache block.
unfoldable pub sound_strand : Kind → List ℕ → Bool
sound_strand k s = eqb (length s) block_size && (is_empty s || strand_rules k s)

unfoldable pub sound_molecule : List ℕ → Bool
sound_molecule s = sound_strand molecule_kind s

unfoldable pub sound_entry : List ℕ → Bool
sound_entry s = eqb (length s) block_size && (is_empty s || entry_rules s)

-- An unsound cache block is zeroed.
unfoldable pub cleaned : List ℕ → List ℕ
cleaned s = choose (sound_entry s) s (replicate (length s) 0)

-- Bit d is cleared in both maps of an entry: a block whose byte 0 is 2. Any other stays.
unfoldable pub forgot : ℕ → List ℕ → List ℕ
forgot d s =
    choose (eqb (length s) block_size && eqb (nth s 0) entry_kind.mark) (rechecked (clear_map (clear_map s searched_at d) hit_at d)) s
