-- What is decoded from an encoded block is what was encoded, and an encoded block is sound.
use mathlib.Core.Path.{◌≡◌, refl, sym, ap, ap₂, ◌∙◌}
use mathlib.Core.Bool.{true}
use mathlib.Core.List.{List, [], ◌∷◌, ◌++◌, append_assoc}
use Prim.Native.Nat.{ℕ, zero, suc, ◌+◌, ◌-◌, ◌*◌, ◌/◌, ◌%◌, ◌<◌, ◌≤◌}
use native.Mathlib.Omega.{arith}
use native.Mathlib.Decide.{dec_lt}
use native.Mathlib.Nat.{not-suc-le-zero, le_of_suc-le-suc}
use lib.ListN.{get_or-eq_default, length, take, drop, replicate, length-append, length-replicate}
use lib.Seq.{take_at, drop_at, ext_get_or, get_or-append-add}
use lib.Dec.{lit<}
use lib.Pow.{shr-shr}
use borrow.Author.Tests.{eq-eqb}
use Rattle.lists.specs.Vocabulary.{nth, all, between}
use Rattle.letters.specs.Letters.{is_letter}
use Rattle.letters.proofs.LetterLaws.{letter_byte}
use Rattle.strand.specs.Strands.{strand_of, is_nested, Proper}
use Rattle.lists.proofs.ListLaws.{length_tab, nth_tab, every_at, zeros_zero}
use Rattle.strand.proofs.VerdictLaws.{nested_test}
use Rattle.octets.specs.Octets.{Bytes, is_zero, word16, word32, bytes32, words, bytes_of}
use Rattle.refusals.specs.declared.Side.{Side}
use Rattle.block.specs.Content.{sum_to, checksum_of, checksum_ok, with_checksum, Kind, mates_at, length_in, mates_in, strand_in, padded, head_of, content_of}
use Rattle.block.specs.Content.{strand_block}
use Rattle.block.proofs.PartLaws.{mates_end, own_in, regroup, length_content, length_padded, length_head}
use Rattle.block.specs.Block.{bytes_with, bytes_ok, content_ok, sound_strand}
use Rattle.octets.proofs.ByteLaws.{small_append, small_zeros, small_bytes}
use Rattle.block.proofs.SumLaws.{sum_append, sum_small}
use Rattle.octets.proofs.ScanLaws.{length_bytes}
use Rattle.block.proofs.SoundLaws.{all_but_unused, unused_mates, all_but_mates, all_but_nested, strand_rules_lem}

-- ---- two-byte numbers

word_bytes : (m t : List ℕ) (i : ℕ) → i < length m → nth m i < 65536 → word16 (bytes_of m ++ t) (2 * i) ≡ nth m i
unfolding word16 bytes_of
word_bytes [] t i h b = absurd (not-suc-le-zero h)
word_bytes (x ∷ m) t zero h b = omega arith
word_bytes (x ∷ m) t (suc i) h b = rw (e, e') (word_bytes m t i (le_of_suc-le-suc h) b)
  where
    e : 2 * suc i ≡ suc (suc (2 * i))
    e = omega arith

    e' : suc (suc (2 * i)) + 1 ≡ suc (suc (2 * i + 1))
    e' = omega arith

pub words_bytes : (m t : List ℕ) → ((i : ℕ) → i < length m → nth m i < 65536) → words (length m) (bytes_of m ++ t) ≡ m
words_bytes m t small =
    ext_get_or 0 _ m (length_tab f (length m))
    (λ i h. let h' : i < length m = omega (arith, length_tab f (length m)) in nth_tab f (length m) i h' ∙ word_bytes m t i h' (small i h'))
  where
    f : ℕ → ℕ
    f i = word16 (bytes_of m ++ t) (2 * i)

-- ---- a part of a list that is put together

part_at : (a e : ℕ) (s p m q : List ℕ) → s ≡ p ++ (m ++ q) → length p ≡ a → length m ≡ e - a → between a e s ≡ m
part_at a e s p m q cut hp hm = ap (between a e) cut ∙ ap (take (e - a)) (drop_at p (m ++ q) a hp) ∙ take_at m q (e - a) hm

join : (x q₁ q₂ q₃ r₀ r₁ r₂ r₃ : ℕ) → x ≡ r₀ + 256 * q₁ → q₁ ≡ r₁ + 256 * q₂ → q₂ ≡ r₂ + 256 * q₃ → q₃ ≡ r₃
    → r₀ + 256 * r₁ + 65536 * r₂ + 16777216 * r₃ ≡ x
join x q₁ q₂ q₃ r₀ r₁ r₂ r₃ a b c d = omega arith

pub word_check : (x : ℕ) → x < 4294967296 → x % 256 + 256 * (x / 256 % 256) + 65536 * (x / 65536 % 256) + 16777216 * (x / 16777216 % 256) ≡ x
word_check x h =
    rw (← shr-shr x 16 8, ← shr-shr x 8 8)
    (join x (x / 256) (x / 256 / 256) (x / 256 / 256 / 256) (x % 256) (x / 256 % 256) (x / 256 / 256 % 256) (x / 256 / 256 / 256 % 256)
    (omega arith) (omega arith) (omega arith) (omega arith))

regroup₀ : (a b z p m t : List ℕ) → a ++ (b ++ z) ++ p ++ m ++ t ≡ a ++ b ++ (z ++ (p ++ (m ++ t)))
regroup₀ a b z p m t = simp append_assoc

regroup₁ : (h b z m t : List ℕ) → h ++ (b ++ z) ++ m ++ t ≡ h ++ (b ++ (z ++ (m ++ t)))
regroup₁ h b z m t = simp append_assoc

-- A content of any kind with any bytes of its own, followed by t.
module _ (k : Kind) (own bases mates t : List ℕ) (ho : 2 + length own ≡ k.blank) (ha : k.blank ≤ k.start) (hk : k.most ≤ 160)
    (P : Proper k.side k.least k.most bases mates) where
  hb : length bases ≤ k.most
  hb = P.small

  hm : length mates ≡ length bases
  hm = P.same

  -- A mate is below the length, so it fits two bytes.
  mate_small : (i : ℕ) → i < length mates → nth mates i < 65536
  mate_small i l = omega (arith, P.nested.inside i (omega arith))

  abbrev pub block : List ℕ
  block = content_of k own bases mates ++ t

  H : List ℕ
  H = head_of k.start k.mark (length bases) own

  Z₀ : List ℕ
  Z₀ = replicate (k.start - 2 - length own) 0

  Z₁ : List ℕ
  Z₁ = replicate (k.most - length bases) 0

  Z₂ : List ℕ
  Z₂ = replicate (2 * k.most - length (bytes_of mates)) 0

  M : List ℕ
  M = padded (2 * k.most) (bytes_of mates)

  -- The block, cut at each part.
  cut_0 : block ≡ (k.mark ∷ length bases ∷ []) ++ own ++ (Z₀ ++ (padded k.most bases ++ (M ++ t)))
  unfolding content_of Z₀ M
  cut_0 = regroup₀ (k.mark ∷ length bases ∷ []) own (replicate (k.start - 2 - length own) 0) (padded k.most bases) (padded (2 * k.most) (bytes_of mates)) t

  cut_1 : block ≡ H ++ (bases ++ (Z₁ ++ (M ++ t)))
  unfolding content_of H Z₁ M
  cut_1 = regroup₁ (head_of k.start k.mark (length bases) own) bases _ (padded (2 * k.most) (bytes_of mates)) t

  cut_2 : block ≡ H ++ bases ++ (Z₁ ++ (M ++ t))
  cut_2 = cut_1 ∙ sym (append_assoc H bases _)

  cut_3 : block ≡ H ++ padded k.most bases ++ (bytes_of mates ++ (Z₂ ++ t))
  unfolding content_of H Z₂
  cut_3 = regroup (head_of k.start k.mark (length bases) own ++ padded k.most bases) (bytes_of mates) _ t

  cut_4 : block ≡ H ++ padded k.most bases ++ bytes_of mates ++ (Z₂ ++ t)
  cut_4 = cut_3 ∙ sym (append_assoc (H ++ padded k.most bases) (bytes_of mates) _)

  pub kind_byte : nth block 0 ≡ k.mark
  unfolding content_of
  kind_byte = refl

  pub length_byte : nth block 1 ≡ length bases
  unfolding content_of
  length_byte = refl

  l_h : length H ≡ k.start
  unfolding H
  l_h = length_head k.start k.mark (length bases) own (omega arith)

  front : length (H ++ padded k.most bases) ≡ mates_at k
  front = length-append H (padded k.most bases) ∙ ap₂ (λ (x y : ℕ). x + y) l_h (length_padded k.most bases hb)

  bases_part : between k.start (k.start + length bases) block ≡ bases
  bases_part = part_at k.start (k.start + length bases) block H bases (Z₁ ++ (M ++ t)) cut_1 l_h (omega arith)

  pub bases_back : between k.start (k.start + length_in block) block ≡ bases
  bases_back = ap (λ (n : ℕ). between k.start (k.start + n) block) length_byte ∙ bases_part

  mates_part : words (length bases) (drop (mates_at k) block) ≡ mates
  mates_part =
      ap (λ (l : List ℕ). words (length bases) (drop (mates_at k) l)) cut_3
      ∙ ap (words (length bases)) (drop_at (H ++ padded k.most bases) (bytes_of mates ++ (Z₂ ++ t)) (mates_at k) front)
      ∙ ap (λ (n : ℕ). words n (bytes_of mates ++ (Z₂ ++ t))) (sym hm)
      ∙ words_bytes mates (Z₂ ++ t) mate_small

  pub mates_back : mates_in k block ≡ mates
  mates_back = ap (λ (n : ℕ). words n (drop (mates_at k) block)) length_byte ∙ mates_part

  blank_part : between k.blank k.start block ≡ replicate (k.start - 2 - length own) 0
  unfolding Z₀
  blank_part =
      part_at k.blank k.start block ((k.mark ∷ length bases ∷ []) ++ own) Z₀ (padded k.most bases ++ (M ++ t)) cut_0 (omega arith)
      (length-replicate (k.start - 2 - length own) 0 ∙ omega arith)

  unused_part : between (k.start + length bases) (mates_at k) block ≡ replicate (k.most - length bases) 0
  unfolding Z₁
  unused_part =
      part_at (k.start + length bases) (mates_at k) block (H ++ bases) Z₁ (M ++ t) cut_2
      (length-append H bases ∙ ap (λ (n : ℕ). n + length bases) l_h) (length-replicate (k.most - length bases) 0 ∙ omega arith)

  unused₂_part : between (mates_at k + 2 * length bases) (mates_end k) block ≡ replicate (2 * k.most - length (bytes_of mates)) 0
  unfolding Z₂
  unused₂_part =
      part_at (mates_at k + 2 * length bases) (mates_end k) block (H ++ padded k.most bases ++ bytes_of mates) Z₂ t cut_4
      (length-append (H ++ padded k.most bases) (bytes_of mates)
      ∙ ap₂ (λ (x y : ℕ). x + y) front (length_bytes mates ∙ ap (λ (n : ℕ). 2 * n) hm))
      (length-replicate (2 * k.most - length (bytes_of mates)) 0 ∙ omega (arith, length_bytes mates))

  -- The kind's own bytes come back too.
  pub own_back : own_in k block ≡ own
  own_back = part_at 2 k.blank block (k.mark ∷ length bases ∷ []) own (Z₀ ++ (padded k.most bases ++ (M ++ t))) cut_0 refl (omega arith)

  pub strand_back : strand_in k block ≡ strand_of bases mates
  unfolding strand_in
  strand_back =
      let x : between k.start (k.start + length_in block) block ≡ bases = bases_back in
      let y : mates_in k block ≡ mates = mates_back in
      λ i. record { bases = x i; mates = y i }

  bytes_sound : bytes_ok k block ≡ true
  bytes_sound =
      ap (λ (n : ℕ). bytes_with k n block) length_byte
      ∙ sym (unused_mates (mates_at k) k.most (length bases) block
      ∙ all_but_mates k (length bases) block kind_byte P.enough hb
      (sym (all_but_unused k.side k.blank k.start k.most (length bases) block
      (ap (all is_zero) blank_part ∙ zeros_zero (k.start - 2 - length own))
      (ap (all (is_letter k.side)) bases_part ∙ P.letters))
      ∙ ap (all is_zero) unused_part ∙ zeros_zero (k.most - length bases)))
      ∙ ap (all is_zero) unused₂_part ∙ zeros_zero (2 * k.most - length (bytes_of mates))

  pub content_sound : content_ok k block ≡ true
  content_sound = sym (all_but_nested k block bytes_sound) ∙ ap is_nested mates_back ∙ nested_test mates (rw (← hm) at P.nested)

-- ---- bytes

small_letters : (side : Side) (l : List ℕ) → all (is_letter side) l ≡ true → Bytes l
small_letters side l e i =
    elim (dec_lt i (length l)) [
      | yes h ↦ letter_byte side (nth l i) (every_at (λ j. is_letter side (nth l j)) (length l) i e h)
      | no h ↦ rw (get_or-eq_default l 0 {n = i} (omega arith)) (lit< tt)
    ]

pub small_content : (k : Kind) (own bases mates : List ℕ) → k.mark < 256 → Bytes own → length bases < 256 → all (is_letter k.side) bases ≡ true
    → Bytes (content_of k own bases mates)
unfolding content_of
small_content k own bases mates hk ho hn letters =
    small_append (head_of k.start k.mark (length bases) own ++ padded k.most bases) (padded (2 * k.most) (bytes_of mates))
    (small_append (head_of k.start k.mark (length bases) own) (padded k.most bases) head
    (small_append bases _ (small_letters k.side bases letters) (small_zeros (k.most - length bases))))
    (small_append (bytes_of mates) _ (small_bytes mates) (small_zeros (2 * k.most - length (bytes_of mates))))
  where
    head : Bytes (head_of k.start k.mark (length bases) own)
    head zero = hk
    head (suc zero) = hn
    head (suc (suc i)) = small_append own _ ho (small_zeros (k.start - 2 - length own)) i

-- No bytes of its own.
pub small_none : Bytes []
small_none i = lit< tt

-- ---- the checksum

get_d_after : (p q : List ℕ) (j k : ℕ) → j ≡ length p + k → nth (p ++ q) j ≡ nth q k
get_d_after p q j k e = rw e (get_or-append-add p q k 0)

pub check_sound : (p : List ℕ) → length p ≡ 508 → Bytes p → checksum_ok (with_checksum p) ≡ true
unfolding checksum_ok with_checksum checksum_of word32
check_sound p hp small =
    eq-eqb _ _ (sum_append p _ 508 (omega arith)
    ∙ sym (word_check (sum_to p 508) (omega (arith, sum_small p 508 small (omega arith))))
    ∙ sym (rw (
      get_d_after p q 508 0 (omega arith),
      get_d_after p q 509 1 (omega arith),
      get_d_after p q 510 2 (omega arith),
      get_d_after p q 511 3 (omega arith),
    )))
  where
    q : List ℕ
    q = bytes32 (sum_to p 508)

-- ---- the block of a strand is sound, and gives the strand back

-- A kind of strand block: its content fills the bytes before the checksum.
module _ (k : Kind) (own bases mates : List ℕ) (ho : 2 + length own ≡ k.blank) (ha : k.blank ≤ k.start) (hk : k.most ≤ 160)
    (P : Proper k.side k.least k.most bases mates) (he : k.start + 3 * k.most ≡ 508) where
  body : length (content_of k own bases mates) ≡ 508
  body = length_content k own bases mates (omega arith) P.small P.same ∙ he

  pub block_length : length (strand_block k own bases mates) ≡ 512
  unfolding strand_block with_checksum
  block_length =
      length-append (content_of k own bases mates) (bytes32 (checksum_of (content_of k own bases mates))) ∙ ap (λ (n : ℕ). n + 4) body

  pub block_back : strand_in k (strand_block k own bases mates) ≡ strand_of bases mates
  unfolding strand_block with_checksum
  block_back = strand_back k own bases mates _ ho ha hk P

  content_part : content_ok k (strand_block k own bases mates) ≡ true
  unfolding strand_block with_checksum
  content_part = content_sound k own bases mates _ ho ha hk P

  pub block_sound : k.mark < 256 → Bytes own → sound_strand k (strand_block k own bases mates) ≡ true
  block_sound h small = strand_rules_lem k (strand_block k own bases mates) block_length content_part check_part
    where
      check_part : checksum_ok (strand_block k own bases mates) ≡ true
      check_part =
          unfold strand_block in
          (check_sound (content_of k own bases mates) body (small_content k own bases mates h small (omega (arith, P.small)) P.letters))
