-- What each test of the soundness test decides.
use mathlib.Core.Path.{◌≡◌, refl, sym, ap, ◌∙◌}
use mathlib.Core.Bool.{Bool, true, false, not, ◌&&◌, ◌||◌, or-true, or-false}
use mathlib.Core.List.{List}
use Prim.Native.Nat.{ℕ, ◌+◌, ◌*◌, ◌/◌, ◌%◌, ◌<◌, ◌≤◌}
use native.Mathlib.Omega.{arith}
use native.Mathlib.Decide.{ℕ_discrete, dec_lt}
use lib.ListN.{length, drop, length-take, length-drop}
use lib.Dec.{eqb}
use borrow.Author.Tests.{eq-eqb, ne_eqb, lt-leb, le-leb, eqb-true, not-true}
use Rattle.lists.specs.Vocabulary.{nth, every, all, between}
use Rattle.letters.specs.Letters.{is_letter}
use Rattle.strand.specs.Strands.{is_nested}
use Rattle.lists.proofs.ListLaws.{every_at, every_true, and_left, and_right, never, is_true, both_ways, zeros_not}
use Rattle.octets.specs.Octets.{is_zero, words, word32, bit_of, map_bit}
use Rattle.refusals.specs.declared.Side.{Side}
use Rattle.block.specs.Content.{sum_to, checksum_of, checksum_ok, Kind, molecule_kind, entry_kind, mates_at, is_empty, length_in, mates_in}
use Rattle.octets.specs.Bits.{bits_within}
use Rattle.block.proofs.PartLaws.{mates_end}
use Rattle.block.specs.Block.{block_of, block_count, base_bytes_ok, mate_bytes_ok, bytes_with, bytes_ok, content_ok, hit_ok, hits_ok, strand_rules, entry_rules}
use Rattle.block.specs.Block.{sound_strand, sound_molecule, sound_entry}
use Rattle.block.specs.Motif.{sound_motif, holds_motif}

-- ---- the content, rule by rule

module _ (side : Side) (blank start most n : ℕ) (s : List ℕ) where
  pub head_not_blank : all is_zero (between blank start s) ≡ false → false ≡ base_bytes_ok side blank start most n s
  unfolding base_bytes_ok
  head_not_blank h = rw h

  module _ (h1 : all is_zero (between blank start s) ≡ true) where
    pub not_all_letters : all (is_letter side) (between start (start + n) s) ≡ false → false ≡ base_bytes_ok side blank start most n s
    unfolding base_bytes_ok
    not_all_letters h = rw (h1, h)

    pub all_but_unused : all (is_letter side) (between start (start + n) s) ≡ true
        → all is_zero (between (start + n) (start + most) s) ≡ base_bytes_ok side blank start most n s
    unfolding base_bytes_ok
    all_but_unused h = rw (h1, h)

pub unused_mates : (at most n : ℕ) (s : List ℕ) → all is_zero (between (at + 2 * n) (at + 2 * most) s) ≡ mate_bytes_ok at most n s
unfolding mate_bytes_ok
unused_mates at most n s = refl

last_false : (a b : Bool) → b ≡ false → false ≡ (a && b)
last_false true b e = sym e
last_false false b e = refl

last_true : (a b : Bool) → b ≡ true → a ≡ (a && b)
last_true true b e = sym e
last_true false b e = refl

-- The bytes of the mates: nested, and zeros behind them.
module _ (at most n : ℕ) (s : List ℕ) where
  pub not_nested : is_nested (words n (drop at s)) ≡ false → false ≡ (mate_bytes_ok at most n s && is_nested (words n (drop at s)))
  not_nested h = last_false (mate_bytes_ok at most n s) _ h

  pub nested_unused : is_nested (words n (drop at s)) ≡ true
      → all is_zero (between (at + 2 * n) (at + 2 * most) s) ≡ (mate_bytes_ok at most n s && is_nested (words n (drop at s)))
  nested_unused h = unused_mates at most n s ∙ last_true (mate_bytes_ok at most n s) _ h

module _ (k : Kind) (n : ℕ) (s : List ℕ) where
  pub other_mark : (nth s 0 ≡ k.mark → ⊥) → false ≡ bytes_with k n s
  unfolding bytes_with
  other_mark h = rw (ne_eqb (nth s 0) k.mark h)

  module _ (h1 : nth s 0 ≡ k.mark) where
    pub too_few_bases : n < k.least → false ≡ bytes_with k n s
    unfolding bytes_with
    too_few_bases h = rw (eq-eqb (nth s 0) k.mark h1, lt-leb k.least n h)

    module _ (h2 : k.least ≤ n) where
      pub too_many_bases : k.most < n → false ≡ bytes_with k n s
      unfolding bytes_with
      too_many_bases h = rw (eq-eqb (nth s 0) k.mark h1, le-leb k.least n h2, lt-leb n k.most h)

      module _ (h3 : n ≤ k.most) where
        pub bases_wrong : base_bytes_ok k.side k.blank k.start k.most n s ≡ false → false ≡ bytes_with k n s
        unfolding bytes_with
        bases_wrong h = rw (eq-eqb (nth s 0) k.mark h1, le-leb k.least n h2, le-leb n k.most h3, h)

        pub all_but_mates : base_bytes_ok k.side k.blank k.start k.most n s ≡ true
            → mate_bytes_ok (mates_at k) k.most n s ≡ bytes_with k n s
        unfolding bytes_with
        all_but_mates h = rw (eq-eqb (nth s 0) k.mark h1, le-leb k.least n h2, le-leb n k.most h3, h)

module _ (k : Kind) (s : List ℕ) where
  pub bytes_wrong : bytes_ok k s ≡ false → false ≡ content_ok k s
  unfolding content_ok
  bytes_wrong h = rw h

  pub all_but_nested : bytes_ok k s ≡ true → is_nested (mates_in k s) ≡ content_ok k s
  unfolding content_ok
  all_but_nested h = rw h

  -- Kind, length and bases are right.
  pub content_mates : nth s 0 ≡ k.mark → k.least ≤ length_in s → length_in s ≤ k.most
      → base_bytes_ok k.side k.blank k.start k.most (length_in s) s ≡ true
      → (mate_bytes_ok (mates_at k) k.most (length_in s) s && is_nested (mates_in k s)) ≡ content_ok k s
  unfolding content_ok
  content_mates h1 h2 h3 h4 = ap (λ (b : Bool). b && is_nested (mates_in k s)) (all_but_mates k (length_in s) s h1 h2 h3 h4)

-- What bytes that pass say, fact by fact.
pub record RightBytes (k : Kind) (s : List ℕ) : Type 0 where
  pub marked : nth s 0 ≡ k.mark
  pub enough : k.least ≤ length_in s
  pub fits : length_in s ≤ k.most
  pub blank : all is_zero (between k.blank k.start s) ≡ true
  pub letters : all (is_letter k.side) (between k.start (k.start + length_in s) s) ≡ true
  pub unused : all is_zero (between (k.start + length_in s) (mates_at k) s) ≡ true
  pub unused₂ : all is_zero (between (mates_at k + 2 * length_in s) (mates_end k) s) ≡ true

right_bytes : (k : Kind) (s : List ℕ) → bytes_ok k s ≡ true → RightBytes k s
right_bytes k s e =
    record {
      marked = h1;
      enough = h2;
      fits = h3;
      blank = b1;
      letters = b2;
      unused = all_but_unused k.side k.blank k.start k.most n s b1 b2 ∙ h4;
      unused₂ = unused_mates (mates_at k) k.most n s ∙ all_but_mates k n s h1 h2 h3 h4 ∙ e;
    }
  where
    n : ℕ
    n = length_in s

    h1 : nth s 0 ≡ k.mark
    h1 = elim (ℕ_discrete (nth s 0) k.mark) [ yes q ↦ q | no q ↦ never (other_mark k n s q ∙ e) ]

    h2 : k.least ≤ n
    h2 = elim (dec_lt n k.least) [ yes q ↦ never (too_few_bases k n s h1 q ∙ e) | no q ↦ omega arith ]

    h3 : n ≤ k.most
    h3 = elim (dec_lt k.most n) [ yes q ↦ never (too_many_bases k n s h1 h2 q ∙ e) | no q ↦ omega arith ]

    h4 : base_bytes_ok k.side k.blank k.start k.most n s ≡ true
    h4 = is_true _ (λ q. never (bases_wrong k n s h1 h2 h3 q ∙ e))

    b1 : all is_zero (between k.blank k.start s) ≡ true
    b1 = is_true _ (λ q. never (head_not_blank k.side k.blank k.start k.most n s q ∙ h4))

    b2 : all (is_letter k.side) (between k.start (k.start + n) s) ≡ true
    b2 = is_true _ (λ q. never (not_all_letters k.side k.blank k.start k.most n s b1 q ∙ h4))

-- What a content that passes says.
pub record Content (k : Kind) (s : List ℕ) : Type 0 where
  pub bytes : RightBytes k s
  pub nested : is_nested (mates_in k s) ≡ true

pub facts : (k : Kind) (s : List ℕ) → content_ok k s ≡ true → Content k s
unfolding content_ok
facts k s e = record {
  bytes = right_bytes k s (and_left (bytes_ok k s) (is_nested (mates_in k s)) e);
  nested = and_right (bytes_ok k s) (is_nested
      (mates_in k s)) e;
}

-- ---- hit bits

-- The bits of byte j of the hit map lie within those of byte j of the searched map.
abbrev pub hit_byte : List ℕ → ℕ → Bool
hit_byte s j = bits_within (nth s (444 + j)) (nth s (380 + j))

-- One bit of it.
abbrev hit_bit : List ℕ → ℕ → ℕ → Bool
hit_bit s j k = not (bit_of (nth s (444 + j)) k) || bit_of (nth s (380 + j)) k

pub hits_bytes : (s : List ℕ) → every 64 (hit_byte s) ≡ hits_ok s
unfolding hits_ok hit_ok map_bit bits_within
hits_bytes s = both_ways (every 64 (hit_byte s)) (every 512 (hit_ok s)) to from
  where
    to : every 64 (hit_byte s) ≡ true → every 512 (hit_ok s) ≡ true
    to e = every_true (hit_ok s) 512 (λ d l. every_at (hit_bit s (d / 8)) 8 (d % 8) (every_at (hit_byte s) 64 (d / 8) e (omega arith)) (omega arith))

    from : every 512 (hit_ok s) ≡ true → every 64 (hit_byte s) ≡ true
    from e = every_true (hit_byte s) 64 (λ j l. every_true (hit_bit s j) 8 (λ k h. at j k h (every_at (hit_ok s) 512 (8 * j + k) e (omega arith))))
      where
        at : (j k : ℕ) → k < 8 → hit_ok s (8 * j + k) ≡ true → hit_bit s j k ≡ true
        at j k h q =
            let x : (8 * j + k) / 8 ≡ j = omega arith in
            let y : (8 * j + k) % 8 ≡ k = omega arith in
            rw (x, y) at q

-- ---- the whole block: of a strand, and of a cache

-- A block whose first byte is not 0 is not empty.
begins_filled : (s : List ℕ) → length s ≡ 512 → (nth s 0 ≡ 0 → ⊥) → is_empty s ≡ false
unfolding is_empty
begins_filled s hl h = zeros_not s 0 (omega arith) h

-- The sum that the walk gathered against the checksum that the block has.
pub sum_check : (s : List ℕ) {sum has : ℕ} → sum ≡ sum_to s 508 → has ≡ word32 s 508 → eqb sum has ≡ checksum_ok s
unfolding checksum_ok checksum_of
sum_check s e h = rw (e, h)

module _ (k : Kind) (s : List ℕ) where
  pub strand_length : (length s ≡ 512 → ⊥) → false ≡ sound_strand k s
  unfolding sound_strand
  strand_length h = rw (ne_eqb (length s) 512 h)

  module _ (hl : length s ≡ 512) where
    pub strand_zero : all is_zero s ≡ true → true ≡ sound_strand k s
    unfolding sound_strand is_empty
    strand_zero h = rw (eq-eqb (length s) 512 hl, h)

    -- A block that begins with 0 has no kind.
    pub strand_unmarked : 0 < k.mark → nth s 0 ≡ 0 → all is_zero s ≡ sound_strand k s
    unfolding sound_strand strand_rules is_empty content_ok
    strand_unmarked h e =
        let wrong : bytes_ok k s ≡ false = sym (other_mark k (length_in s) s (λ q. omega arith)) in
        rw (eq-eqb (length s) 512 hl, wrong) (sym (or-false (all is_zero s)))

    module _ (hz : nth s 0 ≡ 0 → ⊥) where
      pub strand_content : content_ok k s ≡ false → false ≡ sound_strand k s
      unfolding sound_strand strand_rules
      strand_content h = rw (eq-eqb (length s) 512 hl, begins_filled s hl hz, h)

      pub strand_check : content_ok k s ≡ true → checksum_ok s ≡ sound_strand k s
      unfolding sound_strand strand_rules
      strand_check h = rw (eq-eqb (length s) 512 hl, begins_filled s hl hz, h)

    pub strand_rules_lem : content_ok k s ≡ true → checksum_ok s ≡ true → sound_strand k s ≡ true
    unfolding sound_strand strand_rules
    strand_rules_lem h c = rw (eq-eqb (length s) 512 hl, h, c) (or-true (is_empty s))

module _ (s : List ℕ) where
  pub entry_length : (length s ≡ 512 → ⊥) → false ≡ sound_entry s
  unfolding sound_entry
  entry_length h = rw (ne_eqb (length s) 512 h)

  module _ (hl : length s ≡ 512) where
    pub entry_zero : all is_zero s ≡ true → true ≡ sound_entry s
    unfolding sound_entry is_empty
    entry_zero h = rw (eq-eqb (length s) 512 hl, h)

    pub entry_unmarked : nth s 0 ≡ 0 → all is_zero s ≡ sound_entry s
    unfolding sound_entry entry_rules is_empty content_ok
    entry_unmarked e =
        let wrong : bytes_ok entry_kind s ≡ false = sym (other_mark entry_kind (length_in s) s (λ q. omega arith)) in
        rw (eq-eqb (length s) 512 hl, wrong) (sym (or-false (all is_zero s)))

    module _ (hz : nth s 0 ≡ 0 → ⊥) where
      pub entry_content : content_ok entry_kind s ≡ false → false ≡ sound_entry s
      unfolding sound_entry entry_rules
      entry_content h = rw (eq-eqb (length s) 512 hl, begins_filled s hl hz, h)

      pub entry_hits : content_ok entry_kind s ≡ true → hits_ok s ≡ false → false ≡ sound_entry s
      unfolding sound_entry entry_rules
      entry_hits h k = rw (eq-eqb (length s) 512 hl, begins_filled s hl hz, h, k)

      pub entry_check : content_ok entry_kind s ≡ true → hits_ok s ≡ true → checksum_ok s ≡ sound_entry s
      unfolding sound_entry entry_rules
      entry_check h k = rw (eq-eqb (length s) 512 hl, begins_filled s hl hz, h, k)

    pub entry_rules_lem : content_ok entry_kind s ≡ true → hits_ok s ≡ true → checksum_ok s ≡ true → sound_entry s ≡ true
    unfolding sound_entry entry_rules
    entry_rules_lem h j k = rw (eq-eqb (length s) 512 hl, h, j, k) (or-true (is_empty s))

-- ---- what soundness gives

-- What a sound block of either buffer is: empty, or of the rules that all kinds share.
pub data Sound (k : Kind) (s : List ℕ) : Type 0 where
  blank : is_empty s ≡ true → Sound k s
  filled : is_empty s ≡ false → Content k s → checksum_ok s ≡ true → Sound k s

split : {P : Type 0} (s : List ℕ) → (is_empty s ≡ true → P) → (is_empty s ≡ false → P) → P
split {P} s f g = go (is_empty s) refl
  where
    go : (b : Bool) → is_empty s ≡ b → P
    go true e = f e
    go false e = g e

module _ (k : Kind) (s : List ℕ) (ok : sound_strand k s ≡ true) where
  pub strand_size : length s ≡ 512
  unfolding sound_strand
  strand_size = eqb-true (length s) 512 (and_left (eqb (length s) 512) _ ok)

  filled_strand : is_empty s ≡ false → content_ok k s && checksum_ok s ≡ true
  unfolding sound_strand strand_rules
  filled_strand e = rw e at (and_right (eqb (length s) 512) _ ok)

  pub strand_is : Sound k s
  strand_is =
      split s blank
      (λ e. filled e (facts k s (and_left (content_ok k s) (checksum_ok s) (filled_strand e))) (and_right (content_ok k s) (checksum_ok s) (filled_strand e)))

module _ (s : List ℕ) (ok : sound_molecule s ≡ true) where
  pub molecule_size : length s ≡ 512
  molecule_size = strand_size molecule_kind s (unfold sound_molecule in ok)

  pub molecule_is : Sound molecule_kind s
  molecule_is = strand_is molecule_kind s (unfold sound_molecule in ok)

module _ (s : List ℕ) (ok : sound_entry s ≡ true) where
  pub entry_size : length s ≡ 512
  unfolding sound_entry
  entry_size = eqb-true (length s) 512 (and_left (eqb (length s) 512) _ ok)

  filled_rules : is_empty s ≡ false → content_ok entry_kind s && hits_ok s && checksum_ok s ≡ true
  unfolding sound_entry entry_rules
  filled_rules e = rw e at (and_right (eqb (length s) 512) _ ok)

  pub entry_is : Sound entry_kind s
  entry_is =
      split s blank
      (λ e. let r = filled_rules e in
      filled e (facts entry_kind s (and_left (content_ok entry_kind s) (hits_ok s) (and_left (content_ok entry_kind s && hits_ok s) (checksum_ok s) r)))
      (and_right (content_ok entry_kind s && hits_ok s) (checksum_ok s) r))

  pub entry_hits_ok : is_empty s ≡ false → hits_ok s ≡ true
  entry_hits_ok e = and_right (content_ok entry_kind s) (hits_ok s) (and_left (content_ok entry_kind s && hits_ok s) (checksum_ok s) (filled_rules e))

-- A block that holds a motif: sound, and not empty.
module _ (s : List ℕ) where
  pub motif_unsound : sound_motif s ≡ false → false ≡ holds_motif s
  unfolding holds_motif
  motif_unsound h = rw h

  pub motif_empty_not : (z : Bool) → sound_motif s ≡ true → z ≡ all is_zero s → not z ≡ holds_motif s
  unfolding holds_motif is_empty
  motif_empty_not z h e = rw (h, e)

  pub held_sound : holds_motif s ≡ true → (sound_motif s ≡ true) × (is_empty s ≡ false)
  unfolding holds_motif
  held_sound h = (and_left (sound_motif s) (not (is_empty s)) h, not-true (is_empty s) (and_right (sound_motif s) (not (is_empty s)) h))

  pub sound_held : sound_motif s ≡ true → is_empty s ≡ false → holds_motif s ≡ true
  unfolding holds_motif
  sound_held h e = rw (h, e)

-- A buffer that ends before block d has no such block.
pub no_block : (buf : List ℕ) (d : ℕ) → block_count buf ≤ d → length (block_of d buf) ≡ 512 → ⊥
no_block buf d h e = omega (arith, h, simp (length-take, length-drop) at e)
