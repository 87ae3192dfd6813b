-- A stretch of a list replaced by one of the same length: what stands there then, and that nothing else changes.
use Prim.Native.Nat.{ℕ, ◌+◌, ◌-◌, ◌*◌, ◌<◌, ◌≤◌}
use native.Mathlib.Omega.{arith}
use mathlib.Core.Path.{◌≡◌, sym, ap, ap₂, ◌∙◌}
use native.Mathlib.Decide.{dec_lt}
use native.Mathlib.Nat.{mul-le-mul_left}
use mathlib.Core.Logic.{◌⊎◌, ⊎_elim, inl, inr}
use mathlib.Core.List.{List, ◌++◌, append_assoc}
use borrow.Rule.Slice.PartMut.{put_mid}
use lib.ListN.{length, take, drop, length-append, length-drop, get_or-append}
use lib.Seq.{take_at, drop_at, drop-drop, length-take-le, ext_get_or, get_or-take, get_or-drop, get_or-append-add}
use Rattle.lists.specs.Vocabulary.{nth, between, piece, put_piece}

width : (a w : ℕ) → a + w - a ≡ w
width a w = omega arith

pub length_stretch : (a w : ℕ) (s : List ℕ) → a + w ≤ length s → length (between a (a + w) s) ≡ w
length_stretch a w s h = length-take-le (a + w - a) (drop a s) (simp length-drop (omega arith)) ∙ width a w

pub nth_stretch : (a w : ℕ) (s : List ℕ) (i : ℕ) → i < w → nth (between a (a + w) s) i ≡ nth s (a + i)
nth_stretch a w s i l = get_or-take (a + w - a) (drop a s) i 0 (omega arith) ∙ get_or-drop a s i 0

-- A stretch that follows a front.
pub stretch_at : (a w : ℕ) (s p m q : List ℕ) → s ≡ p ++ (m ++ q) → length p ≡ a → length m ≡ w → between a (a + w) s ≡ m
stretch_at a w s p m q cut hp hm =
    ap (between a (a + w)) cut ∙ ap (take (a + w - a)) (drop_at p (m ++ q) a hp) ∙ take_at m q (a + w - a) (hm ∙ sym (width a w))

-- A stretch that was lent and comes back as b.
pub stretch_back : (a w : ℕ) (s b : List ℕ) → put_mid a (a + w - a) s b ≡ take a s ++ b ++ drop (a + w) s
stretch_back a w s b =
    ap (λ (l : List ℕ). take a s ++ (b ++ l)) (drop-drop (a + w - a) a s ∙ ap (λ (k : ℕ). drop k s) there)
    ∙ sym (append_assoc (take a s) b (drop (a + w) s))
  where
    there : a + (a + w - a) ≡ a + w
    there = omega arith

-- The stretch of w entries from a replaced by b.
module _ (a w : ℕ) (b s : List ℕ) (hb : length b ≡ w) (hs : a + w ≤ length s) where
  front : length (take a s) ≡ a
  front = length-take-le a s (omega arith)

  pub length_replaced : length (take a s ++ b ++ drop (a + w) s) ≡ length s
  length_replaced =
      length-append (take a s ++ b) (drop (a + w) s)
      ∙ ap₂ (λ (x y : ℕ). x + y) (length-append (take a s) b ∙ ap₂ (λ (x y : ℕ). x + y) front hb) (length-drop (a + w) s)
      ∙ sum
    where
      sum : a + w + (length s - (a + w)) ≡ length s
      sum = omega arith

  pub replaced_there : between a (a + w) (take a s ++ b ++ drop (a + w) s) ≡ b
  replaced_there = stretch_at a w _ (take a s) b (drop (a + w) s) (append_assoc (take a s) b (drop (a + w) s)) front hb

  pub replaced_below : (i : ℕ) → i < a → nth (take a s ++ b ++ drop (a + w) s) i ≡ nth s i
  replaced_below i h =
      ap (λ (l : List ℕ). nth l i) (append_assoc (take a s) b (drop (a + w) s))
      ∙ get_or-append (take a s) (b ++ drop (a + w) s) 0 i (omega (arith, front))
      ∙ get_or-take a s i 0 h

  pub replaced_above : (i : ℕ) → a + w ≤ i → nth (take a s ++ b ++ drop (a + w) s) i ≡ nth s i
  replaced_above i h =
      ap (λ (n : ℕ). nth (take a s ++ b ++ drop (a + w) s) n) there
      ∙ get_or-append-add (take a s ++ b) (drop (a + w) s) (i - (a + w)) 0
      ∙ get_or-drop (a + w) s (i - (a + w)) 0
      ∙ ap (λ (n : ℕ). nth s n) back
    where
      both : length (take a s ++ b) ≡ a + w
      both = length-append (take a s) b ∙ ap₂ (λ (x y : ℕ). x + y) front hb

      there : i ≡ length (take a s ++ b) + (i - (a + w))
      there = omega (arith, both)

      back : a + w + (i - (a + w)) ≡ i
      back = omega arith

  -- a stretch before it or behind it
  pub replaced_else : (c v : ℕ) → (c + v ≤ a) ⊎ (a + w ≤ c) → c + v ≤ length s
      → between c (c + v) (take a s ++ b ++ drop (a + w) s) ≡ between c (c + v) s
  replaced_else c v apart h =
      ext_get_or 0 (between c (c + v) (take a s ++ b ++ drop (a + w) s)) (between c (c + v) s) (here ∙ sym (length_stretch c v s h))
      (λ i l. at i (omega (arith, here)))
    where
      here : length (between c (c + v) (take a s ++ b ++ drop (a + w) s)) ≡ v
      here = length_stretch c v (take a s ++ b ++ drop (a + w) s) (omega (arith, length_replaced))

      at : (i : ℕ) → i < v → nth (between c (c + v) (take a s ++ b ++ drop (a + w) s)) i ≡ nth (between c (c + v) s) i
      at i l =
          nth_stretch c v (take a s ++ b ++ drop (a + w) s) i l
          ∙ ⊎_elim (λ (q : c + v ≤ a). replaced_below (c + i) (omega arith)) (λ (q : a + w ≤ c). replaced_above (c + i) (omega arith)) apart
          ∙ sym (nth_stretch c v s i l)

-- Two pieces of one width do not overlap, and piece t of k lies within k × w.
pub pieces_apart : (w t u : ℕ) → (u ≡ t → ⊥) → (w * u + w ≤ w * t) ⊎ (w * t + w ≤ w * u)
pieces_apart w t u n =
    elim (dec_lt u t) [
      | yes l ↦ let h : w * (u + 1) ≤ w * t = mul-le-mul_left w (omega arith) in inl (omega arith)
      | no l ↦ let h : w * (t + 1) ≤ w * u = mul-le-mul_left w (omega arith) in inr (omega arith)
    ]

pub piece_within : (w t k : ℕ) → t < k → w * t + w ≤ w * k
piece_within w t k l = let h : w * (t + 1) ≤ w * k = mul-le-mul_left w (omega arith) in omega arith

-- Piece t that was lent and comes back as b.
pub piece_back : (w t : ℕ) (s b : List ℕ) → put_mid (w * t) (w * t + w - w * t) s b ≡ put_piece w t b s
unfolding put_piece
piece_back w t s b = stretch_back (w * t) w s b

-- Piece t replaced.
module _ (w t : ℕ) (b s : List ℕ) (hb : length b ≡ w) (hs : w * t + w ≤ length s) where
  pub length_pieces : length (put_piece w t b s) ≡ length s
  unfolding put_piece
  length_pieces = length_replaced (w * t) w b s hb hs

  pub piece_there : piece w t (put_piece w t b s) ≡ b
  unfolding put_piece
  piece_there = replaced_there (w * t) w b s hb hs

  pub piece_else : (u : ℕ) → (u ≡ t → ⊥) → w * u + w ≤ length s → piece w u (put_piece w t b s) ≡ piece w u s
  unfolding put_piece
  piece_else u n h = replaced_else (w * t) w b s hb hs (w * u) w (pieces_apart w t u n) h

  pub piece_behind : (i : ℕ) → w * t + w ≤ i → nth (put_piece w t b s) i ≡ nth s i
  unfolding put_piece
  piece_behind i h = replaced_above (w * t) w b s hb hs i h
