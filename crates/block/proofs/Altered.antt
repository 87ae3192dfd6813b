-- A sound block in which one byte is changed is not sound any more: the weights of the checksum are not zero, and the sum does not wrap.
use mathlib.Core.Path.{◌≡◌, refl, sym, ap₂, ◌∙◌}
use mathlib.Core.Bool.{true, false, and-false}
use mathlib.Core.Logic.{⊎_elim}
use mathlib.Core.List.{List}
use Prim.Native.Nat.{ℕ, zero, suc, ◌+◌, ◌*◌, ◌<◌, ◌≤◌}
use native.Mathlib.Omega.{arith}
use native.Mathlib.Decide.{ℕ_discrete, dec_lt}
use native.Mathlib.Nat.{eq_of_mul-eq-mul_left}
use lib.ListN.{length, set, length-set}
use lib.Seq.{get_or-set_same, get_or-set_other}
use borrow.Author.Tests.{eqb-true, eq-eqb, ne_eqb}
use Rattle.lists.specs.Vocabulary.{nth, all}
use Rattle.octets.specs.Octets.{is_zero, word32}
use Rattle.block.specs.Content.{sum_to, checksum_of, checksum_ok, Kind, molecule_kind, entry_kind, is_empty}
use Rattle.block.specs.Motif.{motif_kind, sound_motif}
use Rattle.block.specs.Block.{strand_rules, entry_rules, sound_strand, sound_molecule, sound_entry}
use Rattle.lists.proofs.ListLaws.{zeros_at, zeros_not, by_bool}
use Rattle.block.proofs.SumLaws.{sum_set, sum_set_out}
use Rattle.block.proofs.SoundLaws.{Sound, blank, filled, strand_is, strand_size, molecule_is, molecule_size, entry_is, entry_size}

-- ---- the checksum

same_word : (s : List ℕ) (i v : ℕ) → i < 508 → word32 (set s i v) 508 ≡ word32 s 508
unfolding word32
same_word s i v h =
    rw (
      get_or-set_other s i 508 v 0 (omega arith),
      get_or-set_other s i 509 v 0 (omega arith),
      get_or-set_other s i 510 v 0 (omega arith),
      get_or-set_other s i 511 v 0 (omega arith),
    )

-- A byte of the checksum itself changed.
word_508 : (s : List ℕ) (v : ℕ) → 508 < length s → (v ≡ nth s 508 → ⊥) → word32 (set s 508 v) 508 ≡ word32 s 508 → ⊥
unfolding word32
word_508 s v h n e =
    n (omega (
      arith,
      rw (
        get_or-set_same s 508 v 0 h,
        get_or-set_other s 508 509 v 0 (omega arith),
        get_or-set_other s 508 510 v 0 (omega arith),
        get_or-set_other s 508 511 v 0 (omega arith),
      ) at e,
    ))

word_509 : (s : List ℕ) (v : ℕ) → 509 < length s → (v ≡ nth s 509 → ⊥) → word32 (set s 509 v) 508 ≡ word32 s 508 → ⊥
unfolding word32
word_509 s v h n e =
    n (omega (
      arith,
      rw (
        get_or-set_other s 509 508 v 0 (omega arith),
        get_or-set_same s 509 v 0 h,
        get_or-set_other s 509 510 v 0 (omega arith),
        get_or-set_other s 509 511 v 0 (omega arith),
      ) at e,
    ))

word_510 : (s : List ℕ) (v : ℕ) → 510 < length s → (v ≡ nth s 510 → ⊥) → word32 (set s 510 v) 508 ≡ word32 s 508 → ⊥
unfolding word32
word_510 s v h n e =
    n (omega (
      arith,
      rw (
        get_or-set_other s 510 508 v 0 (omega arith),
        get_or-set_other s 510 509 v 0 (omega arith),
        get_or-set_same s 510 v 0 h,
        get_or-set_other s 510 511 v 0 (omega arith),
      ) at e,
    ))

word_511 : (s : List ℕ) (v : ℕ) → 511 < length s → (v ≡ nth s 511 → ⊥) → word32 (set s 511 v) 508 ≡ word32 s 508 → ⊥
unfolding word32
word_511 s v h n e =
    n (omega (
      arith,
      rw (
        get_or-set_other s 511 508 v 0 (omega arith),
        get_or-set_other s 511 509 v 0 (omega arith),
        get_or-set_other s 511 510 v 0 (omega arith),
        get_or-set_same s 511 v 0 h,
      ) at e,
    ))

word_changed : (s : List ℕ) (i v : ℕ) → length s ≡ 512 → 508 ≤ i → i < 512 → (v ≡ nth s i → ⊥) → word32 (set s i v) 508 ≡ word32 s 508 → ⊥
word_changed s i v hs lo hi n e = go (ℕ_discrete i 508) (ℕ_discrete i 509) (ℕ_discrete i 510)
  where
    at : (k : ℕ) → i ≡ k → ((v ≡ nth s k → ⊥) → word32 (set s k v) 508 ≡ word32 s 508 → ⊥) → ⊥
    at k q f = f (rw q at n) (rw q at e)

    go : Dec (i ≡ 508) → Dec (i ≡ 509) → Dec (i ≡ 510) → ⊥
    go (yes q) b c = at 508 q (word_508 s v (omega arith))
    go (no a) (yes q) c = at 509 q (word_509 s v (omega arith))
    go (no a) (no b) (yes q) = at 510 q (word_510 s v (omega arith))
    go (no a) (no b) (no c) = at 511 (omega arith) (word_511 s v (omega arith))

-- One byte of a block changed: the checksum is not right any more.
pub check_altered : (s : List ℕ) (i v : ℕ) → length s ≡ 512 → i < 512 → (v ≡ nth s i → ⊥) → checksum_ok s ≡ true → checksum_ok (set s i v) ≡ false
unfolding checksum_ok checksum_of
check_altered s i v hs hi n ok = ne_eqb (sum_to (set s i v) 508) (word32 (set s i v) 508) (go (dec_lt i 508))
  where
    was : sum_to s 508 ≡ word32 s 508
    was = eqb-true (sum_to s 508) (word32 s 508) ok

    go : Dec (i < 508) → sum_to (set s i v) 508 ≡ word32 (set s i v) 508 → ⊥
    go (yes l) e =
        n (eq_of_mul-eq-mul_left (suc i) (omega arith) v (nth s i)
        (omega (arith, was, sum_set s i v 508 (omega arith) l, same_word s i v l)))
    go (no l) e = word_changed s i v hs (omega arith) hi n (sym e ∙ sum_set_out s i v 508 (omega arith) ∙ was)

-- ---- a sound block, empty or not, with one byte changed

-- Byte 0 is counted once.
sum_from : (s : List ℕ) (n : ℕ) → nth s 0 ≤ sum_to s (suc n)
unfolding sum_to
sum_from s zero = omega arith
sum_from s (suc n) = omega (arith, sum_from s n)

sum_first : (s : List ℕ) → nth s 0 ≤ sum_to s 508
sum_first s = sum_from s 507

word_zero : (s : List ℕ) → ((j : ℕ) → 508 ≤ j → nth s j ≡ 0) → word32 s 508 ≡ 0
unfolding word32
word_zero s z = rw (z 508 (omega arith), z 509 (omega arith), z 510 (omega arith), z 511 (omega arith))

sum_zero : (s : List ℕ) (n : ℕ) → ((i : ℕ) → nth s i ≡ 0) → sum_to s n ≡ 0
unfolding sum_to
sum_zero s zero z = refl
sum_zero s (suc n) z = ap₂ (λ (x y : ℕ). x + suc n * y) (sum_zero s n z) (z n) ∙ none
  where
    none : 0 + suc n * 0 ≡ 0
    none = omega arith

zero_check : (s : List ℕ) → ((i : ℕ) → nth s i ≡ 0) → checksum_ok s ≡ true
unfolding checksum_ok checksum_of word32
zero_check s z = eq-eqb _ _ (sum_zero s 508 z ∙ sym (rw (z 508, z 509, z 510, z 511)))

module _ (k : Kind) (hk : 1 ≤ k.mark) (s : List ℕ) (i v : ℕ) (hs : length s ≡ 512) (hi : i < 512) (n : v ≡ nth s i → ⊥) where
  right : Sound k s → checksum_ok s ≡ true
  unfolding is_empty
  right (blank z) = zero_check s (zeros_at s z)
  right (filled e c k) = k

  long : (j : ℕ) → j < 512 → j < length (set s i v)
  long j h = rw length-set (omega arith)

  -- From the empty block; from a block whose byte 0 is not zero.
  filled_now : Sound k s → is_empty (set s i v) ≡ false
  unfolding is_empty
  filled_now (blank z) =
      zeros_not (set s i v) i (long i hi) (λ q. n (sym (get_or-set_same s i v 0 (omega arith)) ∙ q ∙ sym (zeros_at s z i)))
  filled_now (filled e c k) = go (ℕ_discrete i 0)
    where
      -- Byte 0 changed: the checksum is not zero, since byte 0 was counted in it.
      go : Dec (i ≡ 0) → all is_zero (set s i v) ≡ false
      go (yes q) =
          not_all
          (λ z. omega (arith, c.bytes.marked, sum_first s, eqb-true (sum_to s 508) (word32 s 508) (unfold checksum_ok checksum_of in k), word_zero s (rest z)))
        where
          not_all : (all is_zero (set s i v) ≡ true → ⊥) → all is_zero (set s i v) ≡ false
          not_all f = ⊎_elim (λ e. absurd (f e)) (λ e. e) (by_bool (all is_zero (set s i v)))

          rest : all is_zero (set s i v) ≡ true → (j : ℕ) → 508 ≤ j → nth s j ≡ 0
          rest z j l = sym (get_or-set_other s i j v 0 (omega arith)) ∙ zeros_at (set s i v) z j
      go (no q) = zeros_not (set s i v) 0 (long 0 (omega arith)) (λ e. omega (arith, c.bytes.marked, get_or-set_other s i 0 v 0 (λ x. q (sym x))))

  changed : Sound k s → (is_empty (set s i v) ≡ false) × (checksum_ok (set s i v) ≡ false)
  changed x = (filled_now x, check_altered s i v hs hi n (right x))

-- For readers, and for the histories: a sound block with one byte changed to another value is unsound.
module _ (s : List ℕ) (i v : ℕ) where
  pub molecule_changed : sound_molecule s ≡ true → i < 512 → (nth s i ≡ v → ⊥) → sound_molecule (set s i v) ≡ false
  unfolding sound_molecule sound_strand strand_rules
  molecule_changed e h n =
      let x = changed molecule_kind (omega arith) s i v (molecule_size s e) h (λ q. n (sym q)) (molecule_is s e) in rw (x.0, x.1, and-false, and-false)

  pub motif_changed : sound_motif s ≡ true → i < 512 → (nth s i ≡ v → ⊥) → sound_motif (set s i v) ≡ false
  unfolding sound_motif sound_strand strand_rules
  motif_changed e h n =
      let x = changed motif_kind (omega arith) s i v (strand_size motif_kind s e) h (λ q. n (sym q)) (strand_is motif_kind s e) in
      rw (x.0, x.1, and-false, and-false)

  pub entry_changed : sound_entry s ≡ true → i < 512 → (nth s i ≡ v → ⊥) → sound_entry (set s i v) ≡ false
  unfolding sound_entry entry_rules
  entry_changed e h n =
      let x = changed entry_kind (omega arith) s i v (entry_size s e) h (λ q. n (sym q)) (entry_is s e) in rw (x.0, x.1, and-false, and-false)
