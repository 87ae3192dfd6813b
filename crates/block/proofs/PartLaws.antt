-- Laws of the parts of a block: their lengths, and the checksum behind them.
use mathlib.Core.Path.{◌≡◌, sym, ap, ap₂, ◌∙◌}
use mathlib.Core.List.{List, ◌++◌, append-nil, append_assoc}
use Prim.Native.Nat.{ℕ, suc, ◌+◌, ◌-◌, ◌*◌, ◌≤◌}
use native.Mathlib.Omega.{arith}
use lib.ListN.{length, take, replicate, length-append, length-replicate, drop_of_length-le}
use lib.Seq.{take_at, sets-eq}
use Rattle.octets.specs.Octets.{bytes32, bytes_of}
use Rattle.lists.specs.Vocabulary.{between}
use Rattle.block.specs.Content.{sum_to, checksum_of, with_checksum, rechecked, Kind, mates_at, padded, head_of, content_of}
use Rattle.block.proofs.SumLaws.{sum_append, weighed, sum_walk}
use Rattle.octets.proofs.ScanLaws.{length_bytes}

-- Where the mates of a kind's blocks end; the kind's own bytes in a block.
abbrev pub mates_end : Kind → ℕ
mates_end k = mates_at k + 2 * k.most

abbrev pub own_in : Kind → List ℕ → List ℕ
own_in k s = between 2 k.blank s

pub regroup : (a b c e : List ℕ) → a ++ (b ++ c) ++ e ≡ a ++ (b ++ (c ++ e))
regroup a b c e = simp append_assoc

-- ---- lengths

pub length_padded : (n : ℕ) (l : List ℕ) → length l ≤ n → length (padded n l) ≡ n
length_padded n l h = length-append l (replicate (n - length l) 0) ∙ rw length-replicate (omega arith)

pub length_head : (start mark n : ℕ) (own : List ℕ) → 2 + length own ≤ start → length (head_of start mark n own) ≡ start
length_head start mark n own h = ap (λ (m : ℕ). suc (suc m)) (length_padded (start - 2) own (omega arith)) ∙ omega arith

module _ (k : Kind) (own bases mates : List ℕ) (ha : 2 + length own ≤ k.start) (hb : length bases ≤ k.most) (hm : length mates ≡ length bases) where
  pub length_content : length (content_of k own bases mates) ≡ k.start + 3 * k.most
  unfolding content_of
  length_content =
      length-append (head_of k.start k.mark (length bases) own ++ padded k.most bases) (padded (2 * k.most) (bytes_of mates))
      ∙ ap₂ (λ (x y : ℕ). x + y)
      (length-append (head_of k.start k.mark (length bases) own) (padded k.most bases)
      ∙ ap₂ (λ (x y : ℕ). x + y) (length_head k.start k.mark (length bases) own ha) (length_padded k.most bases hb))
      (length_padded (2 * k.most) (bytes_of mates) (omega (arith, length_bytes mates)))
      ∙ total
    where
      total : k.start + k.most + 2 * k.most ≡ k.start + 3 * k.most
      total = omega arith

-- ---- the checksum

-- Written after a front of 508 bytes.
pub check_put : (p q s r : List ℕ) → length p ≡ 508 → length s ≡ 512 → s ≡ p ++ q → r ≡ rechecked s → r ≡ with_checksum p
unfolding with_checksum rechecked checksum_of
check_put p q s r hp hs e er =
    er
    ∙ sets-eq (bytes32 (checksum_of s)) s 508 (omega arith)
    ∙ ap₂ (λ (x y : List ℕ). x ++ bytes32 (checksum_of s) ++ y) (ap (take 508) e ∙ take_at p q 508 hp) (drop_of_length-le s {i = 512} (omega arith))
    ∙ append-nil (p ++ bytes32 (checksum_of s))
    ∙ ap (λ (k : ℕ). p ++ bytes32 k) (ap checksum_of e ∙ sum_append p q 508 (omega arith))

-- Behind a front of 508 bytes, with the sum in one walk over it.
pub check_walk : (p : List ℕ) → length p ≡ 508 → with_checksum p ≡ p ++ bytes32 (weighed 1 p)
unfolding with_checksum checksum_of
check_walk p h = ap (λ (n : ℕ). p ++ bytes32 n) (ap (sum_to p) (sym h) ∙ sum_walk p)
