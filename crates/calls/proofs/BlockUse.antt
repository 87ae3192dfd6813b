-- What the catalog and its histories take from crate block: laws of empty blocks, of encoded molecules and of cache entries,
-- with the rules of a molecule or a motif in place of the facts that they give.
use Rattle.std.specs.Prelude.{Ok}
use Prim.Native.Nat.{ℕ, ◌<◌}
use mathlib.Core.Path.{◌≡◌, sym, ◌∙◌, ap}
use mathlib.Core.Bool.{Bool, true, false}
use mathlib.Core.List.{List}
use lib.ListN.{length, replicate}
use Rattle.strand.specs.Strands.{Strand, same_strand, Proper, least_motif, least_molecule}
use Rattle.refusals.specs.Rules.{motif_side, molecule_side}
use Rattle.strand.proofs.VerdictLaws.{accepted_proper}
use Rattle.block.specs.Content.{block_size, empty_block, is_empty, molecule_in, encode_molecule, encode_entry, motif_in, searched_in, hit_in, keeps_motif}
use Rattle.block.specs.Block.{sound_molecule, sound_entry, cleaned, forgot}
use Rattle.octets.specs.Octets.{without}
use Rattle.block.proofs.ContentLaws as law
pub use Rattle.block.proofs.ContentLaws.{empty_length, empty_empty, empty_molecule, empty_entry, empty_forgot, entry_changed, molecule_first}
use Rattle.calls.specs.Buffers.{most_molecule_bases, most_motif_bases, most_catalog_blocks, molecule_verdict, motif_verdict}

module _ (q : Strand) (ok : molecule_verdict q ≡ Ok tt) where
  good : Proper molecule_side least_molecule most_molecule_bases q.bases q.mates
  unfolding molecule_verdict
  good = accepted_proper molecule_side least_molecule most_molecule_bases q.bases q.mates ok

  pub molecule_length : length (encode_molecule q) ≡ block_size
  molecule_length = law.molecule_length q good

  pub molecule_sound : sound_molecule (encode_molecule q) ≡ true
  molecule_sound = law.molecule_sound q good

  pub molecule_back : molecule_in (encode_molecule q) ≡ q
  molecule_back = law.molecule_back q good

  pub molecule_full : is_empty (encode_molecule q) ≡ false
  molecule_full = law.molecule_full q good

module _ (p : Strand) (ok : motif_verdict p ≡ Ok tt) (searched hits : ℕ → Bool) where
  good' : Proper motif_side least_motif most_motif_bases p.bases p.mates
  unfolding motif_verdict
  good' = accepted_proper motif_side least_motif most_motif_bases p.bases p.mates ok

  pub entry_length : length (encode_entry p searched hits) ≡ block_size
  entry_length = law.entry_length p good' searched hits

  pub entry_sound : ((d : ℕ) → hits d ≡ true → searched d ≡ true) → sound_entry (encode_entry p searched hits) ≡ true
  entry_sound = law.entry_sound p good' searched hits

  pub entry_full : is_empty (encode_entry p searched hits) ≡ false
  entry_full = law.entry_full p good' searched hits

  pub entry_motif : motif_in (encode_entry p searched hits) ≡ p
  entry_motif = law.entry_motif p good' searched hits

  pub entry_searched : (d : ℕ) → d < most_catalog_blocks → searched_in (encode_entry p searched hits) d ≡ searched d
  entry_searched = law.entry_searched p good' searched hits

  pub entry_hit : (d : ℕ) → d < most_catalog_blocks → hit_in (encode_entry p searched hits) d ≡ hits d
  entry_hit = law.entry_hit p good' searched hits

  pub entry_forgot : (d : ℕ) → d < most_catalog_blocks → forgot d (encode_entry p searched hits) ≡ encode_entry p (without d searched) (without d hits)
  entry_forgot = law.entry_forgot p good' searched hits

  pub entry_keeps_lem : (q : Strand) → keeps_motif (encode_entry p searched hits) q ≡ same_strand p q
  unfolding keeps_motif
  entry_keeps_lem q = rw (entry_full, entry_motif)

pub empty_keeps : (q : Strand) → keeps_motif empty_block q ≡ false
unfolding keeps_motif
empty_keeps q = rw empty_empty

-- A sound block stays when the cache is cleaned; an unsound one becomes empty.
pub sound_clean : (b : List ℕ) → sound_entry b ≡ true → cleaned b ≡ b
sound_clean b e = sym (law.clean_yes b e)

pub unsound_clean : (b : List ℕ) → length b ≡ block_size → sound_entry b ≡ false → cleaned b ≡ empty_block
unfolding empty_block
unsound_clean b l e = sym (law.clean_no b e) ∙ ap (λ (n : ℕ). replicate n 0) l
