-- The rows of blocks byte by byte: their checksums in one walk, the rest by computing.
use mathlib.Core.Path.{◌≡◌, refl}
use mathlib.Core.List.{[], ◌∷◌, ◌++◌}
use Rattle.lists.specs.Vocabulary.{choose, tab}
use Rattle.octets.specs.Octets.{bytes_of, map_bytes, bit_sum}
use Rattle.block.specs.Content.{molecule_kind, entry_kind, content_of, strand_block, entry_with, encode_molecule, encode_entry}
use Rattle.block.proofs.SumLaws.{weighed}
use Rattle.block.proofs.PartLaws.{check_walk}
use Rattle.history.specs.Examples.{bonded}
use Rattle.strand.specs.Strands.{strand_of, empty_motif}
use Rattle.block.specs.Motif.{encode_motif}
use Rattle.block.proofs.Claims as block
use Rattle.examples.specs.Table.{a, bytes_of_a, bytes_of_t, bytes_of_gc, was_searched, was_hit}
use Rattle.examples.specs.Table.{bytes_of_entry, bytes_of_empty_motif, bytes_of_empty_motif_entry}

pub a_bytes : encode_molecule a ≡ bytes_of_a
unfolding bytes_of_a encode_molecule strand_block content_of bytes_of weighed
a_bytes = check_walk (content_of molecule_kind [] a.bases a.mates) refl

pub t_bytes : encode_molecule (strand_of (84 ∷ []) (0 ∷ [])) ≡ bytes_of_t
unfolding bytes_of_t encode_molecule strand_block content_of bytes_of weighed
t_bytes = check_walk (content_of molecule_kind [] (84 ∷ []) (0 ∷ [])) refl

pub gc_bytes : encode_molecule bonded ≡ bytes_of_gc
unfolding bytes_of_gc encode_molecule strand_block content_of bytes_of weighed
gc_bytes = check_walk (content_of molecule_kind [] bonded.bases bonded.mates) refl

pub entry_bytes : encode_entry bonded was_searched was_hit ≡ bytes_of_entry
unfolding bytes_of_entry encode_entry entry_with content_of bytes_of map_bytes bit_sum tab choose weighed
entry_bytes = check_walk (content_of entry_kind [] bonded.bases bonded.mates ++ map_bytes was_searched ++ map_bytes was_hit) refl

pub empty_motif_bytes : encode_motif empty_motif ≡ bytes_of_empty_motif
unfolding bytes_of_empty_motif
empty_motif_bytes = (block.claims).empty_motif_lem.block

pub empty_motif_entry_bytes : encode_entry empty_motif was_searched was_searched ≡ bytes_of_empty_motif_entry
unfolding bytes_of_empty_motif_entry encode_entry entry_with content_of bytes_of map_bytes bit_sum tab choose weighed
empty_motif_entry_bytes = check_walk (content_of entry_kind [] [] [] ++ map_bytes was_searched ++ map_bytes was_searched) refl
