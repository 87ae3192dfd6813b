-- The blocks of a buffer after a call: each block mapped, one block written.
use mathlib.Core.Path.{◌≡◌, sym, ap, ◌∙◌}
use mathlib.Core.Logic.{⊎_elim, inl, inr}
use mathlib.Core.List.{List, [], ◌++◌, append-nil}
use Prim.Native.Nat.{ℕ, zero, suc, ◌+◌, ◌*◌, ◌<◌, ◌≤◌}
use native.Mathlib.Omega.{arith}
use native.Mathlib.Nat.{not-suc-le-zero, le_of_suc-le-suc, eq-or-lt_of_le}
use native.Mathlib.Decide.{dec_lt}
use lib.ListN.{length, drop}
use Rattle.lists.proofs.Stretches.{stretch_at, length_stretch, length_replaced, replaced_there, replaced_else}
use Rattle.block.specs.Block.{block_of, block_count, blocks_to, each_block, put_block}
use Rattle.buffer.proofs.BufferLaws.{length_blocks, blocks_length}
use Rattle.block.proofs.PartLaws.{regroup}

-- A part of 512 that follows a front.
block_at : (d : ℕ) (s p m q : List ℕ) → s ≡ p ++ (m ++ q) → length p ≡ 512 * d → length m ≡ 512 → block_of d s ≡ m
block_at d s p m q cut hp hm = stretch_at (512 * d) 512 s p m q cut hp hm

pub length_block : (d : ℕ) (s : List ℕ) → 512 * d + 512 ≤ length s → length (block_of d s) ≡ 512
length_block d s h = length_stretch (512 * d) 512 s h

-- ---- each block mapped

module _ (f : List ℕ → List ℕ) (same : (b : List ℕ) → length (f b) ≡ length b) where
  split : (n d : ℕ) (s : List ℕ) → d < n → (r : List ℕ) × (blocks_to f n s ≡ blocks_to f d s ++ (f (block_of d s) ++ r))
  unfolding blocks_to
  split zero d s h = absurd (not-suc-le-zero h)
  split (suc n) d s h =
      ⊎_elim (λ q. ([], rw q (ap (λ (l : List ℕ). blocks_to f n s ++ l) (sym (append-nil (f (block_of n s)))))))
      (λ l. let i = split n d s l in
      (i.0 ++ f (block_of n s), ap (λ (x : List ℕ). x ++ f (block_of n s)) i.1 ∙ regroup (blocks_to f d s) (f (block_of d s)) i.0 (f (block_of n s))))
      (eq-or-lt_of_le (le_of_suc-le-suc h))

  pub block_each : (d : ℕ) (s : List ℕ) → d < block_count s → block_of d (each_block f s) ≡ f (block_of d s)
  unfolding each_block
  block_each d s h =
      block_at d _ (blocks_to f d s) (f (block_of d s)) (cut.0 ++ t)
      (ap (λ (x : List ℕ). x ++ t) cut.1 ∙ regroup (blocks_to f d s) (f (block_of d s)) cut.0 t)
      (length_blocks f same d s (omega arith)) (same (block_of d s) ∙ length_block d s (omega arith))
    where
      t : List ℕ
      t = drop (512 * block_count s) s

      cut : (r : List ℕ) × (blocks_to f (block_count s) s ≡ blocks_to f d s ++ (f (block_of d s) ++ r))
      cut = split (block_count s) d s h

  pub length_each : (s : List ℕ) → length (each_block f s) ≡ length s
  unfolding each_block
  length_each s = blocks_length f same (block_count s) s (omega arith)

-- ---- one block written

module _ (d : ℕ) (b s : List ℕ) (hb : length b ≡ 512) (hs : 512 * d + 512 ≤ length s) where
  pub length_put : length (put_block d b s) ≡ length s
  unfolding put_block
  length_put = length_replaced (512 * d) 512 b s hb hs

  pub block_put : block_of d (put_block d b s) ≡ b
  unfolding put_block
  block_put = replaced_there (512 * d) 512 b s hb hs

  pub block_other : (k : ℕ) → (k ≡ d → ⊥) → 512 * k + 512 ≤ length s → block_of k (put_block d b s) ≡ block_of k s
  unfolding put_block
  block_other k n h =
      replaced_else (512 * d) 512 b s hb hs (512 * k) 512 (elim (dec_lt k d) [ yes q ↦ inl (omega arith) | no q ↦ inr (omega arith) ]) h
