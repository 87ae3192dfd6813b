-- What the code that writes and reads the parts of a block leaves.
use mathlib.Core.Path.{◌≡◌, sym, ap, ap₂, ◌∙◌}
use mathlib.Core.List.{List, [], ◌∷◌, ◌++◌, append-nil, append_assoc}
use Prim.Native.Nat.{ℕ, zero, suc, ◌+◌, ◌-◌, ◌*◌, ◌<◌, ◌≤◌}
use native.Mathlib.Omega.{arith}
use native.Mathlib.Nat.{sub-zero, zero-sub, suc-sub-suc}
use native.Mathlib.Numerals.{add-one}
use borrow.Rule.Slice.PartMut.{put_mid}
use lib.ListN.{length, set, take, drop, replicate, length-append, length-drop, drop_of_length-le}
use lib.Seq.{drop-cons, set_at, append_snoc, take-suc, take_all, take_at, drop_at, length-take-le, drop-drop}
use Rattle.lists.specs.Vocabulary.{nth}
use Rattle.octets.specs.Octets.{words, bytes_of}
use Rattle.block.specs.Content.{rechecked, molecule_kind, padded, head_of, content_of, strand_block, encode_molecule}
use Rattle.octets.proofs.ScanLaws.{length_bytes}
use Rattle.block.proofs.PartLaws.{length_padded, length_head, length_content, check_put}
use Rattle.strand.specs.Strands.{strand_of}

-- ---- a copy, one entry a turn

pub copy_more : (i : ℕ) (s d : List ℕ) → i < length s → i < length d → set (take i s ++ drop i d) i (nth s i) ≡ take (i + 1) s ++ drop (i + 1) d
copy_more i s d hs hd =
    ap (λ (l : List ℕ). set (take i s ++ l) i (nth s i)) (drop-cons d i 0 hd)
    ∙ set_at (take i s) (nth d i) (drop (suc i) d) (nth s i) i (length-take-le i s (omega arith))
    ∙ sym (append_snoc (take i s) (nth s i) (drop (suc i) d))
    ∙ ap (λ (l : List ℕ). l ++ drop (suc i) d) (sym (take-suc s i 0 hs))
    ∙ ap (λ (k : ℕ). take k s ++ drop k d) (sym (add-one i))

pub copy_end : (i : ℕ) (s d : List ℕ) → length s ≤ i → length d ≤ i → take i s ++ drop i d ≡ s
copy_end i s d hs hd =
    ap (λ (l : List ℕ). take i s ++ l) (drop_of_length-le d hd) ∙ append-nil (take i s) ∙ take_all i s hs

-- ---- zeros and a head

pub drop_zeros : (k n : ℕ) → drop k (replicate {A = ℕ} n 0) ≡ replicate (n - k) 0
drop_zeros zero n = ap (λ (m : ℕ). replicate m 0) (sym (sub-zero n))
drop_zeros (suc k) zero = ap (λ (m : ℕ). replicate m 0) (sym (zero-sub (suc k)))
drop_zeros (suc k) (suc n) = drop_zeros k n ∙ ap (λ (m : ℕ). replicate m 0) (sym (suc-sub-suc n k))

-- Byte 0 and the length written, and what follows from byte 2 on.
pub head_is : (s own p : List ℕ) (mark n : ℕ) → 2 ≤ length s
    → p ≡ padded (length (take (length (set (set s 0 mark) 1 n) - 2) (drop 2 (set (set s 0 mark) 1 n)))) own
    → put_mid 2 (length (set (set s 0 mark) 1 n) - 2) (set (set s 0 mark) 1 n) p ≡ head_of (length s) mark n own
head_is [] own p mark n h e = absurd (omega arith)
head_is (x ∷ []) own p mark n h e = absurd (omega arith)
head_is (x ∷ y ∷ s) own p mark n h e =
    ap (λ (l : List ℕ). mark ∷ n ∷ (p ++ l)) (drop_of_length-le s {i = suc (suc (length s)) - 2} (omega arith))
    ∙ ap (λ (l : List ℕ). mark ∷ n ∷ l) (append-nil p ∙ e ∙ ap (λ (k : ℕ). padded k own) (length-take-le (suc (suc (length s)) - 2) s (omega arith)))

pub mates_is : (n : ℕ) (m z r : List ℕ) → z ≡ replicate n 0 → r ≡ bytes_of m ++ drop (2 * length m) z → r ≡ padded n (bytes_of m)
mates_is n m z r e q =
    q ∙ ap (λ (l : List ℕ). bytes_of m ++ drop (2 * length m) l) e
    ∙ ap (λ (l : List ℕ). bytes_of m ++ l) (drop_zeros (2 * length m) n)
    ∙ ap (λ (k : ℕ). bytes_of m ++ replicate (n - k) 0) (sym (length_bytes m))

-- ---- the part of a list that follows a front p, written anew

module _ (a e : ℕ) (p q : List ℕ) (hp : length p ≡ a) where
  pub put_next : (ys : List ℕ) → put_mid a (e - a) (p ++ q) ys ≡ p ++ ys ++ drop (e - a) q
  put_next ys =
      ap (λ (l : List ℕ). l ++ (ys ++ drop (e - a) (drop a (p ++ q)))) (take_at p q a hp)
      ∙ ap (λ (l : List ℕ). p ++ (ys ++ drop (e - a) l)) (drop_at p q a hp)
      ∙ sym (append_assoc p ys (drop (e - a) q))

  pub next_length : e - a ≤ length q → length (take (e - a) (drop a (p ++ q))) ≡ e - a
  next_length h = ap (λ (l : List ℕ). length (take (e - a) l)) (drop_at p q a hp) ∙ length-take-le (e - a) q h

pub padded_is : (s src p z : List ℕ) → length src ≤ length s → p ≡ src
    → z ≡ replicate (length (take (length (p ++ drop (length src) s) - length src) (drop (length src) (p ++ drop (length src) s)))) 0
    → put_mid (length src) (length (p ++ drop (length src) s) - length src) (p ++ drop (length src) s) z ≡ padded (length s) src
padded_is s src p z h ep ez =
    put_next n w p q (ap length ep) z
    ∙ ap (λ (l : List ℕ). p ++ z ++ l) (drop_of_length-le q {i = w - n} short)
    ∙ append-nil (p ++ z)
    ∙ ap₂ (λ (x y : List ℕ). x ++ y) ep (ez ∙ ap (λ (k : ℕ). replicate k 0) count)
  where
    n : ℕ
    n = length src

    q : List ℕ
    q = drop n s

    w : ℕ
    w = length (p ++ q)

    long : length q ≡ length s - n
    long = length-drop n s

    wide : w ≡ n + length q
    wide = length-append p q ∙ ap (λ (k : ℕ). k + length q) (ap length ep)

    short : length q ≤ w - n
    short = omega (arith, long, wide)

    count : length (take (w - n) (drop n (p ++ q))) ≡ length s - n
    count = next_length n w p q (ap length ep) (omega (arith, long, wide)) ∙ omega (arith, long, wide)

-- ---- the content of a block, part by part

module _ (mark start most : ℕ) (own bases mates : List ℕ) (ha : 2 + length own ≤ start) (hb : length bases ≤ most) where
  pub content_put : (n : ℕ) (s H B M : List ℕ) → start + 3 * most ≤ length s → n ≡ length bases
      → H ≡ head_of (length (take start s)) mark n own
      → B ≡ padded (length (take (start + most - start) (drop start (H ++ drop start s)))) bases
      → M ≡ padded (length (take (start + most + 2 * most - (start + most)) (drop (start + most) (put_mid start (start + most - start)
      (H ++ drop start s) B)))) (bytes_of mates)
      → put_mid (start + most) (start + most + 2 * most - (start + most)) (put_mid start (start + most - start) (H ++ drop start s) B) M
      ≡ head_of start mark (length bases) own ++ padded most bases ++ padded (2 * most) (bytes_of mates) ++ drop (start + 3 * most) s
  content_put n s H B M hs en eH eB eM =
      ap (λ (l : List ℕ). put_mid f (h - f) l M) w2
      ∙ put_next f h (H ++ B) T l_hb M
      ∙ ap₂ (λ (x y : List ℕ). x ++ y) (ap₂ (λ (x y : List ℕ). x ++ y) (ap₂ (λ (x y : List ℕ). x ++ y) H-is B-is) M-is) end
    where
      f : ℕ
      f = start + most

      h : ℕ
      h = start + most + 2 * most

      T : List ℕ
      T = drop (f - start) (drop start s)

      H-is : H ≡ head_of start mark (length bases) own
      H-is = eH ∙ ap₂ (λ (x y : ℕ). head_of x mark y own) (length-take-le start s (omega arith)) en

      l_h : length H ≡ start
      l_h = ap length H-is ∙ length_head start mark (length bases) own ha

      B-is : B ≡ padded most bases
      B-is = eB ∙ ap (λ (k : ℕ). padded k bases) (next_length start f H (drop start s) l_h (simp length-drop (omega arith)) ∙ omega arith)

      l_b : length B ≡ most
      l_b = ap length B-is ∙ length_padded most bases hb

      l_hb : length (H ++ B) ≡ f
      l_hb = length-append H B ∙ ap₂ (λ (x y : ℕ). x + y) l_h l_b

      w2 : put_mid start (f - start) (H ++ drop start s) B ≡ H ++ B ++ T
      w2 = put_next start f H (drop start s) l_h B

      l_t : length T ≡ length s - start - (f - start)
      l_t = length-drop (f - start) (drop start s) ∙ ap (λ (k : ℕ). k - (f - start)) (length-drop start s)

      M-is : M ≡ padded (2 * most) (bytes_of mates)
      M-is =
          eM
          ∙ ap (λ (l : List ℕ). padded (length (take (h - f) (drop f l))) (bytes_of mates)) w2
          ∙ ap (λ (k : ℕ). padded k (bytes_of mates)) (next_length f h (H ++ B) T l_hb (omega (arith, l_t)) ∙ omega arith)

      end : drop (h - f) T ≡ drop (start + 3 * most) s
      end =
          drop-drop (h - f) (f - start) (drop start s) ∙ drop-drop (f - start + (h - f)) start s ∙ ap (λ (k : ℕ). drop k s) sum
        where
          sum : start + (f - start + (h - f)) ≡ start + 3 * most
          sum = omega arith

-- Two-byte numbers read from a tail of s into the first n places of d.
pub read_is : (s d r : List ℕ) (from n : ℕ) → n ≤ length d → r ≡ words (length (take n d)) (take (length s - from) (drop from s))
    → r ≡ words n (drop from s)
read_is s d r from n h e =
    e ∙ ap (λ (k : ℕ). words k (take (length s - from) (drop from s))) (length-take-le n d h)
    ∙ ap (words n) (take_all (length s - from) (drop from s) (simp length-drop (omega arith)))

pub molecule_put_lem : (bases mates t s r : List ℕ) → length bases ≤ 160 → length mates ≡ length bases → length s ≡ 512
    → s ≡ content_of molecule_kind [] bases mates ++ t → r ≡ rechecked s → r ≡ encode_molecule (strand_of bases mates)
unfolding encode_molecule strand_block
molecule_put_lem bases mates t s r hb hm hs e er =
    check_put (content_of molecule_kind [] bases mates) t s r (length_content molecule_kind [] bases mates (omega arith) hb hm) hs e er
