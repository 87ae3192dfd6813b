-- The checksum of a block (01: its check), what a block holds, and the block that holds it: molecule blocks and cache entries (01: kept blocks).
use Rattle.std.specs.Prelude.{ℕ, zero, suc, ◌+◌, ◌*◌, ◌-◌, List, ◌++◌, [], ◌∷◌, Bool, ◌&&◌, not, eqb, length, drop, replicate}
use Rattle.std.proofs.lemmas.List.Edits.{sets}
use Rattle.lists.specs.Vocabulary.{nth, between, all}
use Rattle.octets.specs.Octets.{word32, bytes32, is_zero, words, bytes_of, map_bit, map_bytes}
use Rattle.strand.specs.Strands.{Strand, same_strand, least_motif, least_molecule}
use Rattle.refusals.specs.declared.Side.{Side}
use Rattle.refusals.specs.Rules.{motif_side, molecule_side}

-- A block has 512 bytes, and its checksum stands in bytes 508 to 511.
abbrev pub block_size : ℕ
block_size = 512

abbrev pub checksum_at : ℕ
checksum_at = 508

-- The sum over the first n bytes, byte i weighed by i + 1.
unfoldable pub sum_to : List ℕ → ℕ → ℕ
sum_to s zero = 0
sum_to s (suc n) = sum_to s n + suc n * nth s n

-- The checksum that a block should have: the sum over bytes 0 to 507; and whether it has it.
unfoldable pub checksum_of : List ℕ → ℕ
checksum_of s = sum_to s checksum_at

unfoldable pub checksum_ok : List ℕ → Bool
checksum_ok s = eqb (checksum_of s) (word32 s checksum_at)

-- The first 508 bytes with their checksum after them; a block with its checksum written anew.
unfoldable pub with_checksum : List ℕ → List ℕ
with_checksum body = body ++ bytes32 (checksum_of body)

unfoldable pub rechecked : List ℕ → List ℕ
rechecked s = sets s checksum_at (bytes32 (checksum_of s))

-- The numbers of a kind of block: its byte 0; the side whose letters its bases are (01 has one alphabet for both sides); its least and its
-- greatest length; where its zero bytes begin, the bytes from 2 up to there being the kind's own; and where its bases begin.
pub record Kind : Type 0 where
  pub mark : ℕ
  pub side : Side
  pub least : ℕ
  pub most : ℕ
  pub blank : ℕ
  pub start : ℕ

-- A molecule block has places for 160 bases, a cache entry for 120.
abbrev pub block_bases : ℕ
block_bases = 160

abbrev pub entry_bases : ℕ
entry_bases = 120

-- 01: "Molecule block: byte 0 is 1; byte 1 the length; 2 to 27 zero; bases from 28 .. Kept block: byte 0 is 2; byte 1 the motif's length; 2 to 19
-- zero; bases from 20". Neither has bytes of its own.
abbrev pub molecule_kind : Kind
molecule_kind = record { mark = 1; side = molecule_side; least = least_molecule; most = block_bases; blank = 2; start = 28 }

abbrev pub entry_kind : Kind
entry_kind = record { mark = 2; side = motif_side; least = least_motif; most = entry_bases; blank = 2; start = 20 }

-- The mates follow the places for bases, two bytes each: from 188 and from 140. They end at 508 and at 380.
abbrev pub mates_at : Kind → ℕ
mates_at k = k.start + k.most

-- The searched map is bytes 380 to 443 of a cache entry, the hit map bytes 444 to 507.
abbrev pub searched_at : ℕ
searched_at = 380

abbrev pub hit_at : ℕ
hit_at = 444

-- A block of zeros is empty.
unfoldable pub empty_block : List ℕ
empty_block = replicate block_size 0

unfoldable pub is_empty : List ℕ → Bool
is_empty s = all is_zero s

-- ---- decode

-- Byte 1 is the length. The mates, and the strand of a block.
abbrev pub length_in : List ℕ → ℕ
length_in s = nth s 1

abbrev pub mates_in : Kind → List ℕ → List ℕ
mates_in k s = words (length_in s) (drop (mates_at k) s)

unfoldable pub strand_in : Kind → List ℕ → Strand
strand_in k s = record { bases = between k.start (k.start + length_in s) s; mates = mates_in k s }

-- The molecule of a molecule block; the motif of a cache entry, its searched bits and its hit bits.
unfoldable pub molecule_in : List ℕ → Strand
molecule_in s = strand_in molecule_kind s

unfoldable pub motif_in : List ℕ → Strand
motif_in s = strand_in entry_kind s

unfoldable pub searched_in : List ℕ → ℕ → Bool
searched_in s d = map_bit s searched_at d

unfoldable pub hit_in : List ℕ → ℕ → Bool
hit_in s d = map_bit s hit_at d

-- The entry keeps this very motif, byte by byte: same bases, same mates. An empty block keeps none, not the one with no bases either.
unfoldable pub keeps_motif : List ℕ → Strand → Bool
keeps_motif s q = not (is_empty s) && same_strand (motif_in s) q

-- ---- encode

-- The list, and zeros up to length n.
abbrev pub padded : ℕ → List ℕ → List ℕ
padded n l = l ++ replicate (n - length l) 0

-- Byte 0, the length, the kind's own bytes, and zeros up to where the bases begin.
abbrev pub head_of : ℕ → ℕ → ℕ → List ℕ → List ℕ
head_of start mark n own = mark ∷ n ∷ padded (start - 2) own

-- The bytes before the maps or the checksum; unused base and mate places are zero.
unfoldable pub content_of : Kind → List ℕ → List ℕ → List ℕ → List ℕ
content_of k own bases mates =
    head_of k.start k.mark (length bases) own ++ padded k.most bases ++ padded (2 * k.most) (bytes_of mates)

-- The block of a strand, and that of a motif with its searched and its hit map as 64 bytes each; `own` are the kind's own bytes.
unfoldable pub strand_block : Kind → List ℕ → List ℕ → List ℕ → List ℕ
strand_block k own bases mates = with_checksum (content_of k own bases mates)

unfoldable pub entry_with : List ℕ → List ℕ → List ℕ → List ℕ → List ℕ → List ℕ
entry_with own bases mates searched hits = with_checksum (content_of entry_kind own bases mates ++ searched ++ hits)

-- The block of a molecule; the entry of a motif, with its searched numbers and its hits as sets.
unfoldable pub encode_molecule : Strand → List ℕ
encode_molecule q = strand_block molecule_kind [] q.bases q.mates

unfoldable pub encode_entry : Strand → (ℕ → Bool) → (ℕ → Bool) → List ℕ
encode_entry p searched hits = entry_with [] p.bases p.mates (map_bytes searched) (map_bytes hits)
