-- What the masks do to a byte, and what a set and a cleared bit say of the others: tests over all bytes and places that antt computes.
use mathlib.Core.Path.{◌≡◌, refl, sym, ap, ◌∙◌}
use mathlib.Core.Bool.{Bool, true, false, not, ◌&&◌, ◌||◌}
use mathlib.Core.List.{List}
use Prim.Native.Nat.{ℕ, ◌+◌, ◌-◌, ◌*◌, ◌/◌, ◌%◌, ◌^◌, ◌<◌, ◌≤◌}
use native.Mathlib.Omega.{arith}
use native.Mathlib.Nat.{zero_div}
use native.Mathlib.Decide.{ℕ_discrete}
use lib.Dec.{T, eqb, eqb→eq, ltb, ltb→lt}
use lib.Bits.{bit_and, bit_or, and_mask, and_shr, and_mod, and_le_l, or_shr, or_mod}
use lib.ListN.{length, set, get_or-eq_default}
use lib.Seq.{get_or-set_same, get_or-set_other, set_out}
use borrow.Author.Tests.{eq-eqb, ne_eqb, eqb-true}
use Rattle.lists.specs.Vocabulary.{nth, choose, every}
use Rattle.octets.specs.Octets.{bit_of, without_bit, map_bit, clear_map}
use Rattle.octets.specs.Bits.{with_bit, set_map, bits_within}
use Rattle.lists.proofs.ListLaws.{every_at, every_true, both_ways}
use Rattle.octets.proofs.Table.{same, same→eq, below, below_at, below₂_at, below₃_at}

-- ---- shifts and masks, as the machine computes them at 8 bits

pub test_mask : (b k : ℕ) → eqb (bit_and (b / 2 ^ k) 1) 1 ≡ bit_of b k
unfolding bit_of
test_mask b k = ap (λ (x : ℕ). eqb x 1) (and_mask (b / 2 ^ k) 1)

with_test : ℕ → ℕ → Bool
with_test k b = eqb (bit_or b ((1 * 2 ^ k) % 2 ^ 8)) (with_bit b k)

pub with_mask : (b k : ℕ) → b < 256 → k < 8 → bit_or b ((1 * 2 ^ k) % 2 ^ 8) ≡ with_bit b k
unfolding with_test with_bit bit_of choose
with_mask b k hb hk = eqb→eq _ _ (below₂_at with_test 8 256 tt k b hk hb)

without_test : ℕ → ℕ → Bool
without_test k b = eqb (bit_and b (255 - (1 * 2 ^ k) % 2 ^ 8)) (without_bit b k)

pub without_mask : (b k : ℕ) → b < 256 → k < 8 → bit_and b (255 - (1 * 2 ^ k) % 2 ^ 8) ≡ without_bit b k
unfolding without_test without_bit bit_of choose
without_mask b k hb hk = eqb→eq _ _ (below₂_at without_test 8 256 tt k b hk hb)

-- ---- bit j of a byte whose bit k was set or cleared

abbrev pub pick : Bool → Bool → Bool → Bool
pick true a b = a
pick false a b = b

set_test : ℕ → ℕ → ℕ → Bool
set_test k j b = same (bit_of (with_bit b k) j) (pick (eqb j k) true (bit_of b j))

clear_test : ℕ → ℕ → ℕ → Bool
clear_test k j b = same (bit_of (without_bit b k) j) (pick (eqb j k) false (bit_of b j))

set_all : T (below (λ k. below (λ j. below (set_test k j) 256) 8) 8)
unfolding set_test with_bit bit_of choose
set_all = tt

clear_all : T (below (λ k. below (λ j. below (clear_test k j) 256) 8) 8)
unfolding clear_test without_bit bit_of choose
clear_all = tt

with_test₂ : ℕ → ℕ → Bool
with_test₂ k b = ltb (with_bit b k) 256

without_test₂ : ℕ → ℕ → Bool
without_test₂ k b = ltb (without_bit b k) 256

module _ (b k : ℕ) (hb : b < 256) (hk : k < 8) where
  pub with_small : with_bit b k < 256
  unfolding with_test₂ with_bit bit_of choose
  with_small = ltb→lt _ _ (below₂_at with_test₂ 8 256 tt k b hk hb)

  pub without_small : without_bit b k < 256
  unfolding without_test₂ without_bit bit_of choose
  without_small = ltb→lt _ _ (below₂_at without_test₂ 8 256 tt k b hk hb)

  module _ (j : ℕ) (hj : j < 8) where
    pub with_bit_lem : bit_of (with_bit b k) j ≡ pick (eqb j k) true (bit_of b j)
    unfolding set_test
    with_bit_lem = same→eq _ _ (below₃_at set_test 8 8 256 set_all k j b hk hj hb)

    pub without_bit_lem : bit_of (without_bit b k) j ≡ pick (eqb j k) false (bit_of b j)
    unfolding clear_test
    without_bit_lem = same→eq _ _ (below₃_at clear_test 8 8 256 clear_all k j b hk hj hb)

-- ---- past the end

pub test_out : (s : List ℕ) (at d : ℕ) → length s ≤ at + d / 8 → map_bit s at d ≡ false
unfolding map_bit bit_of
test_out s at d h =
    ap (λ (b : ℕ). eqb (b / 2 ^ (d % 8) % 2) 1) (get_or-eq_default s 0 h) ∙ ap (λ (b : ℕ). eqb (b % 2) 1) (zero_div (2 ^ (d % 8)))

pub set_map_out : (s : List ℕ) (at d : ℕ) → length s ≤ at + d / 8 → set_map s at d ≡ s
unfolding set_map
set_map_out s at d h = set_out s _ _ h

pub clear_map_out : (s : List ℕ) (at d : ℕ) → length s ≤ at + d / 8 → clear_map s at d ≡ s
unfolding clear_map
clear_map_out s at d h = set_out s _ _ h

-- ---- the laws of the map: the bit that is set or cleared, the others, and the bytes outside it

mod8 : (d : ℕ) → d % 8 < 8
mod8 d = omega arith

module _ (s : List ℕ) (at d : ℕ) (hd : at + d / 8 < length s) where
  -- A byte v in place of the byte of d. Bit d is v's; where v has the old byte's other bits, no other bit changes.
  bit_same : (v : ℕ) → map_bit (set s (at + d / 8) v) at d ≡ bit_of v (d % 8)
  unfolding map_bit
  bit_same v = rw (get_or-set_same s (at + d / 8) v 0 hd)

  bit_other : (v at' d' : ℕ) → ((k : ℕ) → k < 8 → (k ≡ d % 8 → ⊥) → bit_of v k ≡ bit_of (nth s (at + d / 8)) k)
      → (at' + d' / 8 ≡ at + d / 8 → d' % 8 ≡ d % 8 → ⊥) → map_bit (set s (at + d / 8) v) at' d' ≡ map_bit s at' d'
  unfolding map_bit
  bit_other v at' d' like apart = go (ℕ_discrete (at' + d' / 8) (at + d / 8))
    where
      go : Dec (at' + d' / 8 ≡ at + d / 8) → bit_of (nth (set s (at + d / 8) v) (at' + d' / 8)) (d' % 8) ≡ bit_of (nth s (at' + d' / 8)) (d' % 8)
      go (yes e) = rw (e, get_or-set_same s (at + d / 8) v 0 hd) (like (d' % 8) (mod8 d') (apart e))
      go (no n) = ap (λ (x : ℕ). bit_of x (d' % 8)) (get_or-set_other s (at + d / 8) (at' + d' / 8) v 0 n)

  module _ (hs : nth s (at + d / 8) < 256) where
    pub set_same : map_bit (set_map s at d) at d ≡ true
    unfolding set_map
    set_same = bit_same _ ∙ with_bit_lem (nth s (at + d / 8)) (d % 8) hs (mod8 d) (d % 8) (mod8 d) ∙ simp (eq-eqb (d % 8) (d % 8) refl)

    pub clear_same : map_bit (clear_map s at d) at d ≡ false
    unfolding clear_map
    clear_same = bit_same _ ∙ without_bit_lem (nth s (at + d / 8)) (d % 8) hs (mod8 d) (d % 8) (mod8 d) ∙ simp (eq-eqb (d % 8) (d % 8) refl)

    module _ (at' d' : ℕ) (apart : at' + d' / 8 ≡ at + d / 8 → d' % 8 ≡ d % 8 → ⊥) where
      pub set_other : map_bit (set_map s at d) at' d' ≡ map_bit s at' d'
      unfolding set_map
      set_other = bit_other _ at' d' (λ k l n. with_bit_lem (nth s (at + d / 8)) (d % 8) hs (mod8 d) k l ∙ simp (ne_eqb k (d % 8) n)) apart

      pub clear_other : map_bit (clear_map s at d) at' d' ≡ map_bit s at' d'
      unfolding clear_map
      clear_other = bit_other _ at' d' (λ k l n. without_bit_lem (nth s (at + d / 8)) (d % 8) hs (mod8 d) k l ∙ simp (ne_eqb k (d % 8) n)) apart

-- Two numbers of one map have different bits.
pub apart_in_map : (at d d' : ℕ) → (d' ≡ d → ⊥) → at + d' / 8 ≡ at + d / 8 → d' % 8 ≡ d % 8 → ⊥
apart_in_map at d d' n e q = n (omega arith)

-- ---- one byte's bits within another's

-- The byte 0 has no bit.
pub zero_bit : (k : ℕ) → bit_of 0 k ≡ false
unfolding bit_of
zero_bit k = ap (λ (q : ℕ). eqb (q % 2) 1) (zero_div (2 ^ k))

and_test : ℕ → ℕ → Bool
and_test x y = same (eqb (bit_and x y) 1) (eqb x 1 && eqb y 1)

pub and_bit : (a b k : ℕ) → bit_of (bit_and a b) k ≡ (bit_of a k && bit_of b k)
unfolding bit_of and_test
and_bit a b k =
    ap (λ (x : ℕ). eqb x 1) (ap (λ (x : ℕ). x % 2) (and_shr a b k) ∙ and_mod (a / 2 ^ k) (b / 2 ^ k) 1)
    ∙ same→eq _ _ (below₂_at and_test 2 2 tt (a / 2 ^ k % 2) (b / 2 ^ k % 2) (omega arith) (omega arith))

or_test : ℕ → ℕ → Bool
or_test x y = same (eqb (bit_or x y) 1) (eqb x 1 || eqb y 1)

pub or_bit : (a b k : ℕ) → bit_of (bit_or a b) k ≡ (bit_of a k || bit_of b k)
unfolding bit_of or_test
or_bit a b k =
    ap (λ (x : ℕ). eqb x 1) (ap (λ (x : ℕ). x % 2) (or_shr a b k) ∙ or_mod (a / 2 ^ k) (b / 2 ^ k) 1)
    ∙ same→eq _ _ (below₂_at or_test 2 2 tt (a / 2 ^ k % 2) (b / 2 ^ k % 2) (omega arith) (omega arith))

not_test : ℕ → ℕ → Bool
not_test k b = same (bit_of (255 - b) k) (not (bit_of b k))

pub not_bit : (b k : ℕ) → b < 256 → k < 8 → bit_of (255 - b) k ≡ not (bit_of b k)
unfolding not_test
not_bit b k hb hk = same→eq _ _ (below₂_at not_test 8 256 (unfold not_test bit_of in tt) k b hk hb)

zero_test : ℕ → Bool
zero_test x = pick (every 8 (λ k. not (bit_of x k))) (eqb x 0) true

no_bits : (x : ℕ) → x < 256 → every 8 (λ k. not (bit_of x k)) ≡ true → x ≡ 0
unfolding zero_test
no_bits x h e = eqb→eq x 0 (rw e at (below_at zero_test 256 (unfold zero_test bit_of every in tt) x h))

pub within_mask : (h b : ℕ) → h < 256 → b < 256 → eqb (bit_and h (255 - b)) 0 ≡ bits_within h b
unfolding bits_within
within_mask h b hh hb = both_ways (eqb (bit_and h (255 - b)) 0) (every 8 (λ k. not (bit_of h k) || bit_of b k)) to from
  where
    x : ℕ
    x = bit_and h (255 - b)

    masked : (k : ℕ) → k < 8 → bit_of x k ≡ (bit_of h k && not (bit_of b k))
    masked k l = and_bit h (255 - b) k ∙ ap (λ (t : Bool). bit_of h k && t) (not_bit b k hb l)

    flip : (p q : Bool) → (p && not q) ≡ false → (not p || q) ≡ true
    flip true true e = refl
    flip true false e = sym e
    flip false q e = refl

    flop : (p q : Bool) → (not p || q) ≡ true → not (p && not q) ≡ true
    flop true true e = refl
    flop true false e = e
    flop false q e = refl

    to : eqb x 0 ≡ true → every 8 (λ k. not (bit_of h k) || bit_of b k) ≡ true
    to e = every_true _ 8 (λ k l. flip (bit_of h k) (bit_of b k) (sym (masked k l) ∙ ap (λ (y : ℕ). bit_of y k) (eqb-true x 0 e) ∙ zero_bit k))

    from : every 8 (λ k. not (bit_of h k) || bit_of b k) ≡ true → eqb x 0 ≡ true
    from e =
        eq-eqb x 0 (no_bits x (omega (arith, and_le_l h (255 - b)))
        (every_true (λ k. not (bit_of x k)) 8 (λ k l. ap not (masked k l)
        ∙ flop (bit_of h k) (bit_of b k) (every_at (λ k. not (bit_of h k) || bit_of b k) 8 k e l))))
