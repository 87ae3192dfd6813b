-- What the calls read of catalog and cache after a block of the catalog is written, and after each block of the cache is cleaned.
use Rattle.std.specs.Prelude.{Ok}
use Prim.Native.Nat.{ℕ, ◌+◌, ◌*◌, ◌-◌, ◌/◌, ◌%◌, ◌<◌, ◌≤◌}
use native.Mathlib.Omega.{arith}
use native.Mathlib.Decide.{ℕ_discrete, dec_lt}
use mathlib.Core.Path.{◌≡◌, refl, sym, ◌∙◌, ap}
use mathlib.Core.Bool.{Bool, true, false, ◌&&◌}
use mathlib.Core.Logic.{⊎_elim}
use mathlib.Core.List.{List}
use lib.Dec.{leb, eqb}
use lib.ListN.{length, take, drop, set, replicate, length-take, length-drop, length-replicate, get_or-replicate}
use lib.Seq.{drop-set-add, take-set-lt, drop-set-lt, take-set-le, ext_get_or, get_or-take, get_or-drop}
use borrow.Author.Tests.{eq-eqb, ne_eqb}
use Rattle.lists.specs.Vocabulary.{nth, choose}
use Rattle.lists.proofs.Stretches.{nth_stretch}
use Rattle.refusals.specs.Rules.{refuse_at_lowest}
use Rattle.lists.proofs.ListLaws.{by_bool, lowest_all, choose_yes, choose_no}
use Rattle.refusals.specs.declared.Rule.{Rule}
use Rattle.refusals.specs.declared.Side.{Side}
use Rattle.refusals.proofs.RuleLaws.{rule_at_no}
use Rattle.block.specs.Content.{block_size, empty_block}
use Rattle.block.specs.Block.{block_of, sound_entry, cleaned, forgot, block_count, each_block, put_block}
use Rattle.block.proofs.ContentLaws.{length_cleaned, length_forgot}
use Rattle.buffer.proofs.BlockLaws.{block_each, length_each, length_put, block_put, block_other}
use Rattle.calls.specs.Buffers.{is_whole, clean_cache}
use Rattle.calls.specs.Statements.{AllSound}
use Rattle.calls.proofs.BlockUse as leaf

-- Buffers of n blocks

pub count_is : (buf : List ℕ) (n : ℕ) → length buf ≡ block_size * n → block_count buf ≡ n
count_is buf n e = rw e (omega arith)

-- rule 10 reads the length only
pub whole_is : (most n : ℕ) (buf : List ℕ) → length buf ≡ block_size * n → is_whole most buf ≡ (leb 1 n && leb n most)
unfolding is_whole
whole_is most n buf e =
    let z : length buf % block_size ≡ 0 = rw e (omega arith) in
    rw (count_is buf n e, eq-eqb (length buf % block_size) 0 z)

-- a buffer that is not whole blocks
pub not_whole : (most : ℕ) (buf : List ℕ) → (length buf % block_size ≡ 0 → ⊥) → is_whole most buf ≡ false
unfolding is_whole
not_whole most buf h = rw (ne_eqb (length buf % block_size) 0 h)

-- A rule that names a place, where none is

pub no_place : (rule : Rule) (side : Side) (n : ℕ) (p : ℕ → Bool) → ((d : ℕ) → d < n → p d ≡ false) → refuse_at_lowest rule side n p ≡ Ok tt
no_place rule side n p h = rule_at_no rule side n p n (sym (lowest_all p n h)) (omega arith)

-- One block of the catalog written

module _ (cat : List ℕ) (n : ℕ) (len : length cat ≡ block_size * n) (d : ℕ) (l : d < n) (b : List ℕ) (lb : length b ≡ block_size) where
  fits : (e : ℕ) → e < n → block_size * e + block_size ≤ length cat
  fits e k = omega (arith, len)

  pub put_length : length (put_block d b cat) ≡ block_size * n
  put_length = length_put d b cat lb (fits d l) ∙ len

  pub put_block_lem : (e : ℕ) → e < n → block_of e (put_block d b cat) ≡ choose (eqb e d) b (block_of e cat)
  put_block_lem e k =
      elim (ℕ_discrete e d) [
        | yes q ↦ rw q (block_put d b cat lb (fits d l) ∙ sym (choose_yes (eqb d d) b (block_of d cat) (eq-eqb d d refl)))
        | no q ↦ block_other d b cat lb (fits d l) e q (fits e k) ∙ sym (choose_no (eqb e d) b (block_of e cat) (ne_eqb e d q))
      ]

-- The cache, block by block

pub cleaned_sound : (b : List ℕ) → length b ≡ block_size → sound_entry (cleaned b) ≡ true
cleaned_sound b l =
    ⊎_elim
    (λ (e : sound_entry b ≡ true). rw (leaf.sound_clean b e) e)
    (λ (e : sound_entry b ≡ false). rw (leaf.unsound_clean b l e) leaf.empty_entry)
    (by_bool (sound_entry b))

module _ (cache : List ℕ) (n : ℕ) (len : length cache ≡ block_size * n) where
  pub clean_length : length (clean_cache cache) ≡ block_size * n
  unfolding clean_cache
  clean_length = length_each cleaned length_cleaned cache ∙ len

  pub clean_block : (s : ℕ) → s < n → block_of s (clean_cache cache) ≡ cleaned (block_of s cache)
  unfolding clean_cache
  clean_block s l = block_each cleaned length_cleaned s cache (omega (arith, count_is cache n len))

  pub forgot_length : (d : ℕ) → length (each_block (forgot d) (clean_cache cache)) ≡ block_size * n
  forgot_length d = length_each (forgot d) (length_forgot d) (clean_cache cache) ∙ clean_length

  pub forgot_block : (d s : ℕ) → s < n → block_of s (each_block (forgot d) (clean_cache cache)) ≡ forgot d (cleaned (block_of s cache))
  forgot_block d s l =
      block_each (forgot d) (length_forgot d) s (clean_cache cache) (omega (arith, count_is (clean_cache cache) n clean_length))
      ∙ ap (forgot d) (clean_block s l)

-- buffers with the same blocks are the same
same_blocks : (a b : List ℕ) (n : ℕ) → length a ≡ block_size * n → length b ≡ block_size * n → ((s : ℕ) → s < n → block_of s a ≡ block_of s b) → a ≡ b
same_blocks a b n la lb same = ext_get_or 0 a b (la ∙ sym lb) (λ i l. here i (i / block_size) (i % block_size) (omega arith) (omega arith) (omega (arith, la)))
  where
    here : (i s j : ℕ) → block_size * s + j ≡ i → j < block_size → s < n → nth a i ≡ nth b i
    here i s j e h l =
        ap (nth a) (sym e)
        ∙ sym (nth_stretch (block_size * s) block_size a j h)
        ∙ ap (λ (w : List ℕ). nth w j) (same s l)
        ∙ nth_stretch (block_size * s) block_size b j h
        ∙ ap (nth b) e

-- a cache whose blocks are all sound is clean
pub clean_same : (cache : List ℕ) → length cache ≡ block_size * block_count cache → AllSound cache → clean_cache cache ≡ cache
clean_same cache len ok =
    same_blocks (clean_cache cache) cache (block_count cache) (clean_length cache (block_count cache) len) len
    (λ s l. clean_block cache (block_count cache) len s l ∙ leaf.sound_clean (block_of s cache) (ok s l))

-- One byte of a buffer altered

pub alter_same : (buf : List ℕ) (s i v : ℕ) → i < block_size → block_of s (set buf (block_size * s + i) v) ≡ set (block_of s buf) i v
alter_same buf s i v h =
    rw (
      drop-set-add (block_size * s) buf i v,
      take-set-lt (block_size * s + block_size - block_size * s) (drop (block_size * s) buf) i v (omega arith),
    )

alter_above : (buf : List ℕ) (t k j v : ℕ) → k ≡ block_size * t + j → block_size ≤ j → block_of t (set buf k v) ≡ block_of t buf
alter_above buf t k j v e h =
    rw (
      e,
      drop-set-add (block_size * t) buf j v,
      take-set-le (block_size * t + block_size - block_size * t) (drop (block_size * t) buf) j v (omega arith),
    )

alter_below : (buf : List ℕ) (t k v : ℕ) → k < block_size * t → block_of t (set buf k v) ≡ block_of t buf
alter_below buf t k v h = rw (drop-set-lt (block_size * t) buf k v h)

pub alter_other : (buf : List ℕ) (s t i v : ℕ) → i < block_size → (t ≡ s → ⊥) → block_of t (set buf (block_size * s + i) v) ≡ block_of t buf
alter_other buf s t i v h ne =
    elim (dec_lt t s) [
      | yes l ↦ alter_above buf t (block_size * s + i) (block_size * s + i - block_size * t) v (omega arith) (omega arith)
      | no l ↦ alter_below buf t (block_size * s + i) v (omega arith)
    ]

-- A zeroed buffer

part_zero : (z k m n : ℕ) → m + k ≤ n → take k (drop m (replicate n z)) ≡ replicate k z
part_zero z k m n h =
    let e : length (take k (drop m (replicate n z))) ≡ k = simp (length-take, length-drop, length-replicate) (omega arith) in
    ext_get_or z (take k (drop m (replicate n z))) (replicate k z) (e ∙ sym (length-replicate k z))
    (λ i l. simp (
      get_or-take k (drop m (replicate n z)) i z (omega arith),
      get_or-drop m (replicate n z) i z,
      get_or-replicate n (m + i) z z (omega arith),
      get_or-replicate k i z z (omega arith),
    ))

pub block_zero : (n d : ℕ) → d < n → block_of d (replicate (block_size * n) 0) ≡ empty_block
unfolding empty_block
block_zero n d l =
    part_zero 0 (block_size * d + block_size - block_size * d) (block_size * d) (block_size * n) (omega arith)
    ∙ ap (λ (k : ℕ). replicate k 0) (let e : block_size * d + block_size - block_size * d ≡ block_size = omega arith in e)
