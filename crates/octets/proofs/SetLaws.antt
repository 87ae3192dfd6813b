-- A map made byte by byte from another map and one that lies in a slice.
use mathlib.Core.Path.{◌≡◌, sym, ap, ap₂, ◌∙◌}
use mathlib.Core.Bool.{Bool, not, ◌&&◌, ◌||◌}
use mathlib.Core.List.{List}
use Prim.Native.Nat.{ℕ, ◌+◌, ◌-◌, ◌*◌, ◌/◌, ◌%◌, ◌<◌}
use native.Mathlib.Omega.{arith}
use native.Mathlib.Nat.{zero-add}
use lib.Bits.{bit_and, bit_or, and_le_l, or_lt}
use lib.ListN.{length}
use lib.Seq.{ext_get_or}
use Rattle.lists.specs.Vocabulary.{nth}
use Rattle.lists.proofs.ListLaws.{nth_tab}
use Rattle.octets.specs.Octets.{Bytes, bit_of, map_bit, bit_sum, map_bytes}
use Rattle.octets.proofs.BitLaws.{and_bit, not_bit, or_bit}
use Rattle.octets.proofs.MapLaws.{byte_bits, sum_ext, length_map}

-- Byte j of the map of p.
byte_of : (ℕ → Bool) → ℕ → ℕ
byte_of p j = bit_sum (λ k. p (8 * j + k)) 8

-- ---- one byte

module _ (m : List ℕ) (at j k : ℕ) (h : k < 8) where
  byte_is : at + (8 * j + k) / 8 ≡ at + j
  byte_is = omega arith

  bit_is : (8 * j + k) % 8 ≡ k
  bit_is = omega arith

  bit_at : map_bit m at (8 * j + k) ≡ bit_of (nth m (at + j)) k
  unfolding map_bit
  bit_at = ap₂ (λ (x y : ℕ). bit_of (nth m x) y) byte_is bit_is

-- A byte with the bits of p is p's.
byte_from : (p : ℕ → Bool) (j x : ℕ) → x < 256 → ((k : ℕ) → k < 8 → bit_of x k ≡ p (8 * j + k)) → x ≡ byte_of p j
unfolding byte_of
byte_from p j x h e = sym (byte_bits x h) ∙ sum_ext (bit_of x) (λ k. p (8 * j + k)) 8 e

module _ (m s : List ℕ) (at j : ℕ) (small : nth m j < 256) where
  first_at : (k : ℕ) → k < 8 → bit_of (nth m j) k ≡ map_bit m 0 (8 * j + k)
  first_at k h = sym (bit_at m 0 j k h ∙ ap (λ (x : ℕ). bit_of (nth m x) k) (zero-add j))

  kept_byte : bit_and (nth m j) (nth s (at + j)) ≡ byte_of (λ d. map_bit m 0 d && map_bit s at d) j
  kept_byte =
      byte_from (λ d. map_bit m 0 d && map_bit s at d) j _ (omega (arith, and_le_l (nth m j) (nth s (at + j))))
      (λ k h. and_bit (nth m j) (nth s (at + j)) k ∙ ap₂ (λ (a b : Bool). a && b) (first_at k h) (sym (bit_at s at j k h)))

  out_byte : nth s (at + j) < 256 → bit_and (nth m j) (255 - nth s (at + j)) ≡ byte_of (λ d. map_bit m 0 d && not (map_bit s at d)) j
  out_byte small_s =
      byte_from (λ d. map_bit m 0 d && not (map_bit s at d)) j _ (omega (arith, and_le_l (nth m j) (255 - nth s (at + j))))
      (λ k h. and_bit (nth m j) (255 - nth s (at + j)) k
      ∙ ap₂ (λ (a b : Bool). a && b) (first_at k h) (not_bit (nth s (at + j)) k small_s h ∙ ap not (sym (bit_at s at j k h))))

  join_byte : nth s (at + j) < 256 → bit_or (nth m j) (nth s (at + j)) ≡ byte_of (λ d. map_bit m 0 d || map_bit s at d) j
  join_byte small_s =
      byte_from (λ d. map_bit m 0 d || map_bit s at d) j _ (or_lt 8 (nth m j) (nth s (at + j)) small small_s)
      (λ k h. or_bit (nth m j) (nth s (at + j)) k ∙ ap₂ (λ (a b : Bool). a || b) (first_at k h) (sym (bit_at s at j k h)))

-- 64 bytes are the map of p where each is p's.
map_from : (p : ℕ → Bool) (w : List ℕ) → length w ≡ 64 → ((j : ℕ) → j < 64 → nth w j ≡ byte_of p j) → w ≡ map_bytes p
unfolding map_bytes byte_of
map_from p w l e =
    ext_get_or 0 w (map_bytes p) (l ∙ sym (length_map p))
    (λ i h. e i (omega arith) ∙ sym (nth_tab (byte_of p) 64 i (omega arith)))

-- The map w that a pass makes of m and s.
module _ (m s w : List ℕ) (at : ℕ) (l : length w ≡ 64) (small : Bytes m) where
  pub keep_all : ((j : ℕ) → j < 64 → nth w j ≡ bit_and (nth m j) (nth s (at + j))) → w ≡ map_bytes (λ d. map_bit m 0 d && map_bit s at d)
  keep_all e = map_from _ w l (λ j h. e j h ∙ kept_byte m s at j (small j))

  module _ (small_s : Bytes s) where
    pub out_all : ((j : ℕ) → j < 64 → nth w j ≡ bit_and (nth m j) (255 - nth s (at + j))) → w ≡ map_bytes (λ d. map_bit m 0 d && not (map_bit s at d))
    out_all e = map_from _ w l (λ j h. e j h ∙ out_byte m s at j (small j) (small_s (at + j)))

    pub join_all : ((j : ℕ) → j < 64 → nth w j ≡ bit_or (nth m j) (nth s (at + j))) → w ≡ map_bytes (λ d. map_bit m 0 d || map_bit s at d)
    join_all e = map_from _ w l (λ j h. e j h ∙ join_byte m s at j (small j) (small_s (at + j)))
