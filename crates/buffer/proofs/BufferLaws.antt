-- Laws of the loops over the blocks of a buffer.
use mathlib.Core.Path.{◌≡◌, refl, sym, ap, ap₂, ◌∙◌}
use mathlib.Core.List.{List, ◌++◌}
use Prim.Native.Nat.{ℕ, zero, suc, ◌+◌, ◌-◌, ◌*◌, ◌≤◌}
use native.Mathlib.Omega.{arith}
use native.Mathlib.Numerals.{add-one}
use borrow.Rule.Slice.PartMut.{put_mid}
use Rattle.lists.proofs.Stretches.{stretch_back}
use lib.ListN.{length, take, drop, length-append, length-drop}
use lib.Seq.{drop_at, drop-drop, length-take-le}
use Rattle.block.specs.Block.{block_of, block_count, blocks_to, each_block, put_block}
use Rattle.codec.proofs.CodeLaws.{put_next}

-- ---- one block more: f of a block has the length of the block

module _ (f : List ℕ → List ℕ) where
  pub blocks_none : (s : List ℕ) → s ≡ blocks_to f 0 s ++ drop (512 * 0) s
  unfolding blocks_to
  blocks_none s = refl

  -- The buffer w when d blocks are done, and the part r that the call left for block d.
  pub blocks_more : (d : ℕ) (s w r : List ℕ) → length (blocks_to f d s) ≡ 512 * d → w ≡ blocks_to f d s ++ drop (512 * d) s
      → r ≡ f (take (512 * d + 512 - 512 * d) (drop (512 * d) w))
      → put_mid (512 * d) (512 * d + 512 - 512 * d) w r ≡ blocks_to f (d + 1) s ++ drop (512 * (d + 1)) s
  unfolding blocks_to
  blocks_more d s w r len e er =
      ap (λ (l : List ℕ). put_mid a k l r) e
      ∙ put_next a (a + 512) (blocks_to f d s) (drop a s) len r
      ∙ ap₂ (λ (x y : List ℕ). blocks_to f d s ++ x ++ y) r_is (drop-drop k a s)
      ∙ ap (λ (n : ℕ). blocks_to f (suc d) s ++ drop n s) sum
      ∙ ap (λ (n : ℕ). blocks_to f n s ++ drop (512 * (d + 1)) s) (sym (add-one d))
    where
      a : ℕ
      a = 512 * d

      k : ℕ
      k = a + 512 - a

      r_is : r ≡ f (block_of d s)
      r_is = er ∙ ap (λ (l : List ℕ). f (take k l)) (ap (drop a) e ∙ drop_at (blocks_to f d s) (drop a s) a len)

      sum : a + k ≡ 512 * (d + 1)
      sum = omega arith

  -- What stands before block d of a buffer of s's length, when d blocks are done.
  pub blocks_front : (d : ℕ) (s w : List ℕ) → length w ≡ length s → 512 * d ≤ length s → w ≡ blocks_to f d s ++ drop (512 * d) s
      → length (blocks_to f d s) ≡ 512 * d
  blocks_front d s w same h e =
      let sum = ap length e ∙ length-append (blocks_to f d s) (drop (512 * d) s) in
      let rest = length-drop (512 * d) s in omega (arith, same, sum, rest)

  pub blocks_end : (d : ℕ) (s w : List ℕ) → d ≡ block_count s → w ≡ blocks_to f d s ++ drop (512 * d) s → w ≡ each_block f s
  unfolding each_block
  blocks_end d s w h e = e ∙ ap (λ (n : ℕ). blocks_to f n s ++ drop (512 * n) s) h

  pub length_blocks : ((b : List ℕ) → length (f b) ≡ length b) → (d : ℕ) (s : List ℕ) → 512 * d ≤ length s → length (blocks_to f d s) ≡ 512 * d
  unfolding blocks_to
  length_blocks same zero s h = refl
  length_blocks same (suc d) s h =
      length-append (blocks_to f d s) (f (block_of d s))
      ∙ ap₂ (λ (x y : ℕ). x + y) (length_blocks same d s (omega arith))
      (same (block_of d s) ∙ length-take-le (512 * d + 512 - 512 * d) (drop (512 * d) s) (simp length-drop (omega arith)) ∙ back)
      ∙ sum
    where
      back : 512 * d + 512 - 512 * d ≡ 512
      back = omega arith

      sum : 512 * d + 512 ≡ 512 * suc d
      sum = omega arith

  pub blocks_length : ((b : List ℕ) → length (f b) ≡ length b) → (d : ℕ) (s : List ℕ) → 512 * d ≤ length s
      → length (blocks_to f d s ++ drop (512 * d) s) ≡ length s
  blocks_length same d s h =
      length-append (blocks_to f d s) (drop (512 * d) s)
      ∙ ap₂ (λ (x y : ℕ). x + y) (length_blocks same d s h) (length-drop (512 * d) s)
      ∙ sum
    where
      sum : 512 * d + (length s - 512 * d) ≡ length s
      sum = omega arith

-- ---- block d written

pub put_is : (d : ℕ) (s r b : List ℕ) → r ≡ b → put_mid (512 * d) (512 * d + 512 - 512 * d) s r ≡ put_block d b s
unfolding put_block
put_is d s r b e = stretch_back (512 * d) 512 s r ∙ ap (λ (x : List ℕ). take (512 * d) s ++ x ++ drop (512 * d + 512) s) e
