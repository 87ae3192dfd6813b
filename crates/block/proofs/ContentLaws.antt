-- The laws that the crates above go by: what is encoded is sound and is decoded again, a sound block is the encoding of what it holds,
-- a number is taken out of an entry, one changed byte makes a sound block unsound. They see layouts through these only.
use mathlib.Core.Path.{◌≡◌, refl, sym, ap, ◌∙◌}
use mathlib.Core.Bool.{Bool, true, false, not, ◌||◌, ◌&&◌}
use mathlib.Core.Logic.{⊎_elim}
use mathlib.Core.List.{List, [], ◌++◌, append_assoc}
use Prim.Native.Nat.{ℕ, suc, ◌+◌, ◌-◌, ◌<◌, ◌≤◌}
use native.Mathlib.Omega.{arith}
use lib.ListN.{length, drop, replicate, length-drop, length-set, length-replicate}
use lib.Seq.{length-take-le}
use Rattle.lists.specs.Vocabulary.{nth}
use Rattle.strand.specs.Strands.{Strand, strand_of, Proper, least_motif, least_molecule}
use Rattle.refusals.specs.Rules.{molecule_side, motif_side}
use Rattle.lists.proofs.ListLaws.{every_at, never, zeros_at, zeros_not, zeros_zero, zeros_are, by_bool, choose_yes, choose_no}
use Rattle.octets.specs.Octets.{Bytes, map_bit, map_bytes, without, clear_map}
use Rattle.block.specs.Content.{with_checksum, checksum_ok, rechecked, Kind, block_bases, entry_bases, molecule_kind, entry_kind, empty_block, is_empty}
use Rattle.block.specs.Content.{length_in, strand_in, molecule_in, motif_in, searched_in, hit_in, content_of, strand_block, entry_with}
use Rattle.block.specs.Content.{searched_at, hit_at, encode_molecule, encode_entry}
use Rattle.block.specs.Motif.{motif_kind, motif_handed_in, encode_motif, sound_motif}
use Rattle.block.specs.Block.{hit_ok, hits_ok, sound_molecule, sound_entry, forgot, cleaned}
use Rattle.block.proofs.SoundLaws.{Content, Sound, blank, filled, strand_zero, entry_zero, strand_size, strand_is, molecule_is, entry_is}
use Rattle.block.proofs.SoundLaws.{entry_hits_ok}
pub use Rattle.block.proofs.SoundLaws.{molecule_size, entry_size, held_sound, sound_held}
pub use Rattle.block.proofs.Altered.{molecule_changed, motif_changed, entry_changed}
use Rattle.block.proofs.RoundTrip as trip
use Rattle.block.proofs.EntryLaws as entry
use Rattle.block.proofs.EncodedLaws.{strand_proper, strand_same, entry_same}
use lib.Dec.{eqb}
use borrow.Author.Tests.{eq-eqb, ne_eqb}

-- ---- the empty block

pub empty_length : length empty_block ≡ 512
unfolding empty_block
empty_length = refl

pub empty_empty : is_empty empty_block ≡ true
unfolding empty_block is_empty
empty_empty = zeros_zero 512

pub empty_is : (s : List ℕ) → length s ≡ 512 → is_empty s ≡ true → s ≡ empty_block
unfolding is_empty empty_block
empty_is s l e = zeros_are s e ∙ ap (λ (n : ℕ). replicate n 0) l

pub empty_molecule : sound_molecule empty_block ≡ true
empty_molecule = unfold sound_molecule in (sym (strand_zero molecule_kind empty_block empty_length (unfold is_empty in empty_empty)))

pub empty_motif_lem : sound_motif empty_block ≡ true
empty_motif_lem = unfold sound_motif in (sym (strand_zero motif_kind empty_block empty_length (unfold is_empty in empty_empty)))

pub empty_entry : sound_entry empty_block ≡ true
empty_entry = sym (entry_zero empty_block empty_length (unfold is_empty in empty_empty))

-- ---- the block of a molecule

not_empty : (s : List ℕ) (k : ℕ) → length s ≡ 512 → nth s 0 ≡ suc k → is_empty s ≡ false
unfolding is_empty
not_empty s k l e = zeros_not s 0 (omega arith) (λ q. omega arith)

first_byte : (k : Kind) (own bases mates t : List ℕ) → nth (content_of k own bases mates ++ t) 0 ≡ k.mark
unfolding content_of
first_byte k own bases mates t = refl

module _ (q : Strand) (ok : Proper molecule_side least_molecule block_bases q.bases q.mates) where
  pub molecule_length : length (encode_molecule q) ≡ 512
  unfolding encode_molecule
  molecule_length = trip.block_length molecule_kind [] q.bases q.mates refl (omega arith) (omega arith) ok (omega arith)

  pub molecule_sound : sound_molecule (encode_molecule q) ≡ true
  unfolding encode_molecule sound_molecule
  molecule_sound = trip.block_sound molecule_kind [] q.bases q.mates refl (omega arith) (omega arith) ok (omega arith) (omega arith) trip.small_none

  -- Decoded again.
  pub molecule_back : molecule_in (encode_molecule q) ≡ q
  unfolding molecule_in encode_molecule
  molecule_back = trip.block_back molecule_kind [] q.bases q.mates refl (omega arith) (omega arith) ok (omega arith)

  pub molecule_full : is_empty (encode_molecule q) ≡ false
  molecule_full =
      not_empty (encode_molecule q) 0 molecule_length
      (unfold encode_molecule strand_block with_checksum in (first_byte molecule_kind [] q.bases q.mates _))

-- The same of the block that hands a motif in.
module _ (q : Strand) (ok : Proper motif_side least_motif block_bases q.bases q.mates) where
  pub motif_length : length (encode_motif q) ≡ 512
  unfolding encode_motif
  motif_length = trip.block_length motif_kind [] q.bases q.mates refl (omega arith) (omega arith) ok (omega arith)

  pub motif_sound : sound_motif (encode_motif q) ≡ true
  unfolding encode_motif sound_motif
  motif_sound = trip.block_sound motif_kind [] q.bases q.mates refl (omega arith) (omega arith) ok (omega arith) (omega arith) trip.small_none

  pub motif_back : motif_handed_in (encode_motif q) ≡ q
  unfolding motif_handed_in encode_motif
  motif_back = trip.block_back motif_kind [] q.bases q.mates refl (omega arith) (omega arith) ok (omega arith)

  pub motif_full : is_empty (encode_motif q) ≡ false
  motif_full =
      not_empty (encode_motif q) 0 motif_length
      (unfold encode_motif strand_block with_checksum in (first_byte motif_kind [] q.bases q.mates _))

-- A block that hands a motif in has the bytes of the molecule block with the same bases and mates.
pub motif_bytes : (q : Strand) → encode_motif q ≡ encode_molecule q
unfolding encode_motif encode_molecule strand_block content_of
motif_bytes q = refl

-- ---- the entry of a motif, searched numbers s and hits h

module _ (q : Strand) (ok : Proper motif_side least_motif entry_bases q.bases q.mates) (s h : ℕ → Bool) where
  pub entry_length : length (encode_entry q s h) ≡ 512
  unfolding encode_entry
  entry_length = unfold entry.kept in (entry.entry_length [] q.bases q.mates refl ok s h)

  pub entry_sound_below : ((d : ℕ) → d < 512 → h d ≡ true → s d ≡ true) → sound_entry (encode_entry q s h) ≡ true
  unfolding encode_entry
  entry_sound_below sub = entry.entry_sound [] q.bases q.mates refl ok s h (λ d l. needed d (h d) (s d) (sub d l)) trip.small_none
    where
      needed : (d : ℕ) (a b : Bool) → (a ≡ true → b ≡ true) → not a || b ≡ true
      needed d true b f = f refl
      needed d false b f = refl

  pub entry_sound : ((d : ℕ) → h d ≡ true → s d ≡ true) → sound_entry (encode_entry q s h) ≡ true
  entry_sound sub = entry_sound_below (λ d l. sub d)

  pub entry_full : is_empty (encode_entry q s h) ≡ false
  entry_full =
      not_empty (encode_entry q s h) 1 entry_length
      (unfold encode_entry entry_with with_checksum in
      (ap (λ (l : List ℕ). nth l 0) (append_assoc (content_of entry_kind [] q.bases q.mates ++ map_bytes s) (map_bytes h) _
      ∙ append_assoc (content_of entry_kind [] q.bases q.mates) (map_bytes s) _) ∙ first_byte entry_kind [] q.bases q.mates _))

  -- Decoded again: the motif, the searched and the hit bits.
  pub entry_motif : motif_in (encode_entry q s h) ≡ q
  unfolding motif_in encode_entry
  entry_motif = unfold entry.kept in (entry.entry_back [] q.bases q.mates refl ok s h)

  pub entry_searched : (d : ℕ) → d < 512 → searched_in (encode_entry q s h) d ≡ s d
  unfolding searched_in encode_entry
  entry_searched d l = unfold entry.kept in (entry.entry_searched [] q.bases q.mates refl ok s h d l)

  pub entry_hit : (d : ℕ) → d < 512 → hit_in (encode_entry q s h) d ≡ h d
  unfolding hit_in encode_entry
  entry_hit d l = unfold entry.kept in (entry.entry_hit [] q.bases q.mates refl ok s h d l)

  -- Bit d cleared in both maps.
  pub entry_forgot : (d : ℕ) → d < 512 → forgot d (encode_entry q s h) ≡ encode_entry q (without d s) (without d h)
  unfolding encode_entry
  entry_forgot d l = entry.entry_forget [] q.bases q.mates refl ok s h d l

-- The bits of a block's two maps, and the entry with the maps of two sets.
pub searched_bit : (s : List ℕ) (d : ℕ) → map_bit s searched_at d ≡ searched_in s d
unfolding searched_in
searched_bit s d = refl

pub hit_bit_lem : (s : List ℕ) (d : ℕ) → map_bit s hit_at d ≡ hit_in s d
unfolding hit_in
hit_bit_lem s d = refl

pub entry_of_maps : (p pm : List ℕ) (s h : ℕ → Bool) → entry_with [] p pm (map_bytes s) (map_bytes h) ≡ encode_entry (strand_of p pm) s h
unfolding encode_entry
entry_of_maps p pm s h = refl

-- ---- what soundness gives

fits_in : (k : Kind) (s : List ℕ) → Sound k s → length_in s ≤ k.most
unfolding is_empty
fits_in k s (blank z) = let x : length_in s ≡ 0 = zeros_at s z 1 in omega arith
fits_in k s (filled e c h) = c.bytes.fits

content_of_lem : (k : Kind) (s : List ℕ) → is_empty s ≡ false → Sound k s → Content k s × (checksum_ok s ≡ true)
content_of_lem k s ne (blank z) = never (sym ne ∙ z)
content_of_lem k s ne (filled e c h) = (c, h)

pub bases_count : (s : List ℕ) → length s ≡ 512 → length_in s ≤ 160 → length_in s ≡ length (molecule_in s).bases
unfolding molecule_in strand_in
bases_count s x y =
    let e : 28 + length_in s - 28 ≡ length_in s = omega arith in
    sym (length-take-le (28 + length_in s - 28) (drop 28 s) (omega (arith, length-drop 28 s)) ∙ e)

module _ (s : List ℕ) (ok : sound_molecule s ≡ true) where
  pub molecule_fits : length_in s ≤ 160
  molecule_fits = fits_in molecule_kind s (molecule_is s ok)

  pub molecule_count : length_in s ≡ length (molecule_in s).bases
  molecule_count = bases_count s (molecule_size s ok) molecule_fits

  -- The molecule held is a proper one, and the block is its encoding.
  module _ (full : is_empty s ≡ false) where
    pub molecule_proper : Proper molecule_side least_molecule block_bases (molecule_in s).bases (molecule_in s).mates
    unfolding molecule_in
    molecule_proper =
        strand_proper molecule_kind s (omega arith) (omega arith) (omega (arith, molecule_size s ok)) (content_of_lem molecule_kind s full (molecule_is s ok)).0

    pub molecule_again : Bytes s → encode_molecule (molecule_in s) ≡ s
    unfolding encode_molecule molecule_in
    molecule_again bytes =
        let r = content_of_lem molecule_kind s full (molecule_is s ok) in
        strand_same s bytes (molecule_size s ok) r.1 molecule_kind (omega arith) (omega arith) (omega arith) r.0

-- A sound block of a catalog is empty exactly when its byte 0 is 0; a byte 0 other than 0 and 1 makes a block unsound.
pub molecule_first : (s : List ℕ) → sound_molecule s ≡ true → eqb (nth s 0) 0 ≡ is_empty s
unfolding is_empty
molecule_first s ok = go (molecule_is s ok)
  where
    go : Sound molecule_kind s → eqb (nth s 0) 0 ≡ is_empty s
    go (blank z) = eq-eqb _ 0 (zeros_at s z 0) ∙ sym z
    go (filled e c h) = ne_eqb (nth s 0) 0 (λ q. omega (arith, c.bytes.marked)) ∙ sym e

pub other_first : (s : List ℕ) → (nth s 0 ≡ 0 → ⊥) → (nth s 0 ≡ 1 → ⊥) → sound_molecule s ≡ false
other_first s n m = not_true_false (λ ok. go (molecule_is s ok))
  where
    not_true_false : (sound_molecule s ≡ true → ⊥) → sound_molecule s ≡ false
    not_true_false f = ⊎_elim (λ e. absurd (f e)) (λ e. e) (by_bool (sound_molecule s))

    go : Sound molecule_kind s → ⊥
    go (blank z) = n (zeros_at s (unfold is_empty in z) 0)
    go (filled e c h) = m c.bytes.marked

module _ (s : List ℕ) (ok : sound_motif s ≡ true) where
  pub motif_size : length s ≡ 512
  motif_size = strand_size motif_kind s (unfold sound_motif in ok)

  motif_is : Sound motif_kind s
  motif_is = strand_is motif_kind s (unfold sound_motif in ok)

  pub motif_fits : length_in s ≤ 160
  motif_fits = fits_in motif_kind s motif_is

  -- The motif handed in is a proper one, and the block is its encoding.
  module _ (full : is_empty s ≡ false) where
    pub motif_proper : Proper motif_side least_motif block_bases (motif_handed_in s).bases (motif_handed_in s).mates
    unfolding motif_handed_in
    motif_proper = strand_proper motif_kind s (omega arith) (omega arith) (omega (arith, motif_size)) (content_of_lem motif_kind s full motif_is).0

    pub motif_again : Bytes s → encode_motif (motif_handed_in s) ≡ s
    unfolding encode_motif motif_handed_in
    motif_again bytes =
        let r = content_of_lem motif_kind s full motif_is in
        strand_same s bytes motif_size r.1 motif_kind (omega arith) (omega arith) (omega arith) r.0

module _ (s : List ℕ) (ok : sound_entry s ≡ true) where
  pub entry_fits : length_in s ≤ 120
  entry_fits = fits_in entry_kind s (entry_is s ok)

  -- The motif kept is a proper one, the block is its encoding, and a hit bit has its searched bit.
  module _ (full : is_empty s ≡ false) where
    pub entry_proper : Proper motif_side least_motif entry_bases (motif_in s).bases (motif_in s).mates
    unfolding motif_in
    entry_proper = strand_proper entry_kind s (omega arith) (omega arith) (omega (arith, entry_size s ok)) (content_of_lem entry_kind s full (entry_is s ok)).0

    pub entry_again : Bytes s → encode_entry (motif_in s) (searched_in s) (hit_in s) ≡ s
    unfolding encode_entry motif_in searched_in hit_in
    entry_again bytes = let r = content_of_lem entry_kind s full (entry_is s ok) in entry_same s bytes (entry_size s ok) r.1 r.0

    pub entry_hit_searched : (d : ℕ) → d < 512 → hit_in s d ≡ true → searched_in s d ≡ true
    unfolding hit_in searched_in hits_ok hit_ok
    entry_hit_searched d l h = rw h at (every_at (hit_ok s) 512 d (entry_hits_ok s ok full) l)

-- ---- a block cleaned, a number forgotten

pub clean_yes : (s : List ℕ) → sound_entry s ≡ true → s ≡ cleaned s
unfolding cleaned
clean_yes s h = sym (choose_yes _ s _ h)

pub clean_no : (s : List ℕ) → sound_entry s ≡ false → replicate (length s) 0 ≡ cleaned s
unfolding cleaned
clean_no s h = sym (choose_no _ s _ h)

pub length_cleaned : (s : List ℕ) → length (cleaned s) ≡ length s
length_cleaned s =
    ⊎_elim (λ e. ap length (sym (clean_yes s e))) (λ e. ap length (sym (clean_no s e)) ∙ length-replicate (length s) 0) (by_bool (sound_entry s))

module _ (d : ℕ) (s : List ℕ) where
  -- What is done to an entry, and whether the block is one.
  bits_cleared : List ℕ
  bits_cleared = rechecked (clear_map (clear_map s 380 d) 444 d)

  is_entry : Bool
  is_entry = eqb (length s) 512 && eqb (nth s 0) 2

  forgot_yes : is_entry ≡ true → forgot d s ≡ bits_cleared
  unfolding forgot is_entry bits_cleared
  forgot_yes e = choose_yes _ _ s e

  forgot_no : is_entry ≡ false → forgot d s ≡ s
  unfolding forgot is_entry
  forgot_no e = choose_no _ _ s e

  pub length_forgot : length (forgot d s) ≡ length s
  length_forgot = ⊎_elim (λ e. ap length (forgot_yes e) ∙ kept) (λ e. ap length (forgot_no e)) (by_bool is_entry)
    where
      kept : length bits_cleared ≡ length s
      kept = unfold bits_cleared rechecked clear_map in (simp length-set)

  pub forgot_size : (length s ≡ 512 → ⊥) → s ≡ forgot d s
  forgot_size h = sym (forgot_no (unfold is_entry in (rw (ne_eqb (length s) 512 h))))

  pub forgot_mark : length s ≡ 512 → (nth s 0 ≡ 2 → ⊥) → s ≡ forgot d s
  forgot_mark h k = sym (forgot_no (unfold is_entry in (rw (eq-eqb (length s) 512 h, ne_eqb (nth s 0) 2 k))))

  pub forgot_bits : (u v r : List ℕ) → length s ≡ 512 → nth s 0 ≡ 2 → u ≡ clear_map s 380 d → v ≡ clear_map u 444 d
      → r ≡ rechecked v → r ≡ forgot d s
  forgot_bits u v r h k eu ev er =
      er ∙ ap rechecked (ev ∙ ap (λ (l : List ℕ). clear_map l 444 d) eu)
      ∙ sym (unfold bits_cleared in (forgot_yes (unfold is_entry in (rw (eq-eqb (length s) 512 h, eq-eqb (nth s 0) 2 k)))))

pub empty_forgot : (d : ℕ) → forgot d empty_block ≡ empty_block
empty_forgot d = sym (forgot_mark d empty_block empty_length (λ e. omega (arith, zeros_at empty_block (unfold is_empty in empty_empty) 0)))
