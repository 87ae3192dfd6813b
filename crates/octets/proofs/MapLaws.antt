-- The bytes of a set of numbers and the set of the bits of bytes are each other's inverse.
use mathlib.Core.Path.{◌≡◌, refl, sym, ap, ap₂, ◌∙◌}
use mathlib.Core.Bool.{Bool, true, false, not, ◌&&◌, ◌||◌, and-true, and-false, or-true, or-false}
use mathlib.Core.List.{List, [], ◌∷◌, ◌++◌}
use Prim.Native.Nat.{ℕ, zero, suc, ◌+◌, ◌*◌, ◌/◌, ◌%◌, ◌^◌, ◌<◌}
use native.Mathlib.Omega.{arith}
use lib.Dec.{T, eqb, eqb→eq}
use lib.ListN.{replicate, length, get_or, set, length-set, get_or-append, get_or-eq_default}
use lib.Seq.{ext_get_or, get_or-append-add, set-append_left}
use native.Mathlib.Nat.{suc-add, zero-add}
use native.Mathlib.Decide.{ℕ_discrete, dec_lt}
use borrow.Author.Tests.{eq-eqb, ne_eqb}
use Rattle.octets.specs.Octets.{Bytes, bit_of, map_bit, clear_map, without_bit, bit_sum, map_bytes, without}
use Rattle.octets.specs.Bits.{set_map}
use Rattle.octets.proofs.ByteLaws.{small_set}
use Rattle.octets.proofs.BitLaws.{set_same, set_other, clear_same, clear_other, apart_in_map, with_small, without_small}
use Rattle.lists.specs.Vocabulary.{nth, choose, tab}
use Rattle.octets.proofs.Table.{same, same→eq, both, both_left, both_right, below, below_at}
use Rattle.lists.proofs.ListLaws.{length_tab, nth_tab, tab_ext}

-- ---- a test at both truth values, and at all values of eight of them

abbrev either : (Bool → Bool) → Bool
either f = both (f true) (f false)

either_at : (f : Bool → Bool) → T (either f) → (b : Bool) → T (f b)
either_at f t true = both_left (f true) (f false) t
either_at f t false = both_right (f true) (f false) t

-- The test at every list of n truth values in front of l.
abbrev lists : (List Bool → Bool) → ℕ → List Bool → Bool
lists f zero l = f l
lists f (suc n) l = either (λ b. lists f n (b ∷ l))

abbrev front : (ℕ → Bool) → ℕ → List Bool → List Bool
front p zero l = l
front p (suc n) l = front p n (p n ∷ l)

lists_at : (f : List Bool → Bool) (p : ℕ → Bool) (n : ℕ) (l : List Bool) → T (lists f n l) → T (f (front p n l))
lists_at f p zero l t = t
lists_at f p (suc n) l t = lists_at f p n (p n ∷ l) (either_at (λ b. lists f n (b ∷ l)) t (p n))

-- ---- a byte

bit_test : ℕ → List Bool → Bool
bit_test k l = same (bit_of (bit_sum (λ j. get_or l j false) 8) k) (get_or l k false)

bit_all : T (below (λ k. lists (bit_test k) 8 []) 8)
unfolding bit_test bit_of bit_sum choose
bit_all = tt

sum_front : (p : ℕ → Bool) → bit_sum p 8 ≡ bit_sum (λ j. get_or (front p 8 []) j false) 8
unfolding bit_sum
sum_front p = refl

nth_front : (p : ℕ → Bool) (k : ℕ) → k < 8 → get_or (front p 8 []) k false ≡ p k
nth_front p zero h = refl
nth_front p (suc zero) h = refl
nth_front p (suc (suc zero)) h = refl
nth_front p (suc (suc (suc zero))) h = refl
nth_front p (suc (suc (suc (suc zero)))) h = refl
nth_front p (suc (suc (suc (suc (suc zero))))) h = refl
nth_front p (suc (suc (suc (suc (suc (suc zero)))))) h = refl
nth_front p (suc (suc (suc (suc (suc (suc (suc zero))))))) h = refl
nth_front p (suc (suc (suc (suc (suc (suc (suc (suc k)))))))) h = absurd (omega arith)

pub bit_byte : (p : ℕ → Bool) (k : ℕ) → k < 8 → bit_of (bit_sum p 8) k ≡ p k
unfolding bit_test
bit_byte p k h =
    ap (λ (b : ℕ). bit_of b k) (sum_front p)
    ∙ same→eq _ _ (lists_at (bit_test k) p 8 [] (below_at (λ k. lists (bit_test k) 8 []) 8 bit_all k h))
    ∙ nth_front p k h

byte_test : ℕ → Bool
byte_test b = eqb (bit_sum (bit_of b) 8) b

pub byte_bits : (b : ℕ) → b < 256 → bit_sum (bit_of b) 8 ≡ b
unfolding byte_test bit_sum bit_of choose
byte_bits b h = eqb→eq _ _ (below_at byte_test 256 tt b h)

pub sum_ext : (p q : ℕ → Bool) (n : ℕ) → ((k : ℕ) → k < n → p k ≡ q k) → bit_sum p n ≡ bit_sum q n
unfolding bit_sum
sum_ext p q zero e = refl
sum_ext p q (suc n) e = ap₂ (λ (x : ℕ) (b : Bool). x + choose b (2 ^ n) 0) (sum_ext p q n (λ k h. e k (omega arith))) (e n (omega arith))

-- ---- a map

pub map_bit_lem : (p : ℕ → Bool) (d : ℕ) → d < 512 → map_bit (map_bytes p) 0 d ≡ p d
unfolding map_bit map_bytes
map_bit_lem p d h =
    ap (λ (b : ℕ). bit_of b (d % 8)) (ap (λ (n : ℕ). nth (tab 64 f) n) zero_plus ∙ nth_tab f 64 (d / 8) (omega arith))
    ∙ bit_byte (λ k. p (8 * (d / 8) + k)) (d % 8) (omega arith)
    ∙ ap p back
  where
    f : ℕ → ℕ
    f j = bit_sum (λ k. p (8 * j + k)) 8

    zero_plus : 0 + d / 8 ≡ d / 8
    zero_plus = omega arith

    back : 8 * (d / 8) + d % 8 ≡ d
    back = omega arith

-- 64 bytes are the map of their bits.
pub map_is : (m : List ℕ) → length m ≡ 64 → Bytes m → m ≡ map_bytes (map_bit m 0)
unfolding map_bytes map_bit
map_is m hm small =
    sym (ext_get_or 0 (map_bytes (map_bit m 0)) m (length_tab _ 64 ∙ sym hm) (λ i l. at i (omega (arith, length_tab f 64))))
  where
    f : ℕ → ℕ
    f j = bit_sum (λ k. map_bit m 0 (8 * j + k)) 8

    at : (i : ℕ) → i < 64 → nth (tab 64 f) i ≡ nth m i
    at i l = nth_tab f 64 i l ∙ sum_ext _ _ 8 (λ k h. ap₂ (λ (x y : ℕ). bit_of (nth m x) y) (byte i k h) (bit i k h)) ∙ byte_bits (nth m i) (small i)
      where
        byte : (i k : ℕ) → k < 8 → 0 + (8 * i + k) / 8 ≡ i
        byte i k h = omega arith

        bit : (i k : ℕ) → k < 8 → (8 * i + k) % 8 ≡ k
        bit i k h = omega arith

pub length_map : (p : ℕ → Bool) → length (map_bytes p) ≡ 64
unfolding map_bytes
length_map p = length_tab _ 64

sum_lt : (p : ℕ → Bool) (n : ℕ) → bit_sum p n < 2 ^ n
unfolding bit_sum choose
sum_lt p zero = omega arith
sum_lt p (suc n) = go (p n) (sum_lt p n)
  where
    go : (b : Bool) → bit_sum p n < 2 ^ n → bit_sum p n + choose b (2 ^ n) 0 < 2 ^ suc n
    go true h = omega arith
    go false h = omega arith

pub map_small : (p : ℕ → Bool) → Bytes (map_bytes p)
unfolding map_bytes
map_small p i =
    elim (dec_lt i 64) [
      | yes h ↦ rw (nth_tab f 64 i h) (sum_lt (λ k. p (8 * i + k)) 8)
      | no h ↦ rw (get_or-eq_default (tab 64 f) 0 {n = i} (omega (arith, length_tab f 64))) (omega arith)
    ]
  where
    f : ℕ → ℕ
    f j = bit_sum (λ k. p (8 * j + k)) 8

pub map_ext : (p q : ℕ → Bool) → ((d : ℕ) → d < 512 → p d ≡ q d) → map_bytes p ≡ map_bytes q
unfolding map_bytes
map_ext p q e = tab_ext _ _ 64 (λ j h. sum_ext _ _ 8 (λ k l. e (8 * j + k) (omega arith)))

pub length_clear : (s : List ℕ) (at d : ℕ) → length (clear_map s at d) ≡ length s
unfolding clear_map
length_clear s at d = length-set s _ _

pub small_clear : (s : List ℕ) (at d : ℕ) → Bytes s → Bytes (clear_map s at d)
unfolding clear_map
small_clear s at d h = small_set s (at + d / 8) _ h (without_small (nth s (at + d / 8)) (d % 8) (h (at + d / 8)) (omega arith))

-- A number taken out of a map.
pub map_clear : (p : ℕ → Bool) (d : ℕ) → d < 512 → clear_map (map_bytes p) 0 d ≡ map_bytes (without d p)
unfolding without
map_clear p d h = map_is m' len small ∙ map_ext _ _ bit
  where
    m : List ℕ
    m = map_bytes p

    m' : List ℕ
    m' = clear_map m 0 d

    inside : 0 + d / 8 < length m
    inside = omega (arith, length_map p)

    len : length m' ≡ 64
    len = length_clear m 0 d ∙ length_map p

    small : Bytes m'
    small i = small_clear m 0 d (map_small p) i

    bit : (x : ℕ) → x < 512 → map_bit m' 0 x ≡ p x && not (eqb x d)
    bit x l = go (ℕ_discrete x d)
      where
        go : Dec (x ≡ d) → map_bit m' 0 x ≡ p x && not (eqb x d)
        go (yes q) = rw q (clear_same m 0 d inside (map_small p (0 + d / 8)) ∙ sym (rw (eq-eqb d d refl) (and-false (p d))))
        go (no n) =
            clear_other m 0 d inside (map_small p (0 + d / 8)) 0 x (apart_in_map 0 d x n)
            ∙ map_bit_lem p x l ∙ sym (rw (ne_eqb x d n) (and-true (p x)))

pub length_set_map : (s : List ℕ) (at d : ℕ) → length (set_map s at d) ≡ length s
unfolding set_map
length_set_map s at d = length-set s _ _

pub small_set_map : (s : List ℕ) (at d : ℕ) → Bytes s → Bytes (set_map s at d)
unfolding set_map
small_set_map s at d h = small_set s (at + d / 8) _ h (with_small (nth s (at + d / 8)) (d % 8) (h (at + d / 8)) (omega arith))

-- A number put into a map.
pub map_set : (p : ℕ → Bool) (d : ℕ) → d < 512 → set_map (map_bytes p) 0 d ≡ map_bytes (λ x. p x || eqb x d)
map_set p d h = map_is m' (length_set_map m 0 d ∙ length_map p) (small_set_map m 0 d (map_small p)) ∙ map_ext _ _ bit
  where
    m : List ℕ
    m = map_bytes p

    m' : List ℕ
    m' = set_map m 0 d

    inside : 0 + d / 8 < length m
    inside = omega (arith, length_map p)

    bit : (x : ℕ) → x < 512 → map_bit m' 0 x ≡ p x || eqb x d
    bit x l = go (ℕ_discrete x d)
      where
        go : Dec (x ≡ d) → map_bit m' 0 x ≡ p x || eqb x d
        go (yes q) = rw q (set_same m 0 d inside (map_small p (0 + d / 8)) ∙ sym (rw (eq-eqb d d refl) (or-true (p d))))
        go (no n) =
            set_other m 0 d inside (map_small p (0 + d / 8)) 0 x (apart_in_map 0 d x n)
            ∙ map_bit_lem p x l ∙ sym (rw (ne_eqb x d n) (or-false (p x)))

-- The map of no number.
pub map_none : map_bytes (λ x. false) ≡ replicate 64 0
unfolding map_bytes tab bit_sum choose
map_none = refl

-- ---- a map within a list

pub set_after : (p q : List ℕ) (i v : ℕ) → set (p ++ q) (length p + i) v ≡ p ++ set q i v
set_after [] q i v = ap (λ (k : ℕ). set q k v) (zero-add i)
set_after (x ∷ p) q i v = rw (suc-add (length p) i) (ap (λ (l : List ℕ). x ∷ l) (set_after p q i v))

module _ (at : ℕ) (p m q : List ℕ) (hp : length p ≡ at) (hm : length m ≡ 64) (d : ℕ) (hd : d < 512) where
  byte_at : nth (p ++ (m ++ q)) (at + d / 8) ≡ nth m (0 + d / 8)
  byte_at =
      ap (λ (k : ℕ). nth (p ++ (m ++ q)) (k + d / 8)) (sym hp) ∙ get_or-append-add p (m ++ q) (d / 8) 0
      ∙ get_or-append m q 0 (d / 8) (omega arith) ∙ ap (λ (k : ℕ). nth m k) (sym (zero-add (d / 8)))

  pub map_in : map_bit (p ++ (m ++ q)) at d ≡ map_bit m 0 d
  unfolding map_bit
  map_in = ap (λ (b : ℕ). bit_of b (d % 8)) byte_at

  pub clear_in : clear_map (p ++ (m ++ q)) at d ≡ p ++ (clear_map m 0 d ++ q)
  unfolding clear_map
  clear_in =
      ap (λ (v : ℕ). set (p ++ (m ++ q)) (at + d / 8) v) (ap (λ (b : ℕ). without_bit b (d % 8)) byte_at)
      ∙ ap (λ (k : ℕ). set (p ++ (m ++ q)) (k + d / 8) v) (sym hp)
      ∙ set_after p (m ++ q) (d / 8) v
      ∙ ap (λ (l : List ℕ). p ++ l) (ap (λ (k : ℕ). set (m ++ q) k v) (sym (zero-add (d / 8))) ∙ set-append_left m q (0 + d / 8) v (omega arith))
    where
      v : ℕ
      v = without_bit (nth m (0 + d / 8)) (d % 8)
