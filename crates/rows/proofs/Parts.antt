-- A part `&mut xs[a..]` that was borrowed and is back, and what a callee wrote in it, said of the whole.
use mathlib.Core.Path.{◌≡◌, sym, ap, ◌∙◌}
use mathlib.Core.List.{List, ◌++◌, append-nil}
use Prim.Native.Nat.{ℕ, ◌+◌, ◌-◌, ◌≤◌, ◌<◌}
use native.Mathlib.Nat.{le_refl}
use native.Mathlib.Omega.{arith}
use lib.ListN.{length, get_or, take, drop, length-append, length-drop, get_or-append, drop_of_length-le}
use lib.Seq.{take_all, get_or-take, get_or-drop, get_or-append-add, length-take-le}

-- the part as it is borrowed, and the whole as it is back
abbrev pub part : ℕ → List ℕ → List ℕ
part a xs = take (length xs - a) (drop a xs)

abbrev pub back : ℕ → List ℕ → List ℕ → List ℕ
back a xs ys = take a xs ++ (ys ++ drop (length xs - a) (drop a xs))

module _ (a : ℕ) (xs : List ℕ) (le : a ≤ length xs) where
  part_drop : part a xs ≡ drop a xs
  part_drop = take_all (length xs - a) (drop a xs) (rw length-drop (le_refl _))

  pub part_length : length (part a xs) ≡ length xs - a
  part_length = ap length part_drop ∙ length-drop a xs

  pub part_at : (k : ℕ) → get_or (part a xs) k 0 ≡ get_or xs (a + k) 0
  part_at k = ap (λ (l : List ℕ). get_or l k 0) part_drop ∙ get_or-drop a xs k 0

  back_eq : (ys : List ℕ) → back a xs ys ≡ take a xs ++ ys
  back_eq ys = ap (λ (l : List ℕ). take a xs ++ (ys ++ l)) (drop_of_length-le (drop a xs) {i = length xs - a} (rw length-drop (le_refl _)))
      ∙ ap (λ (l : List ℕ). take a xs ++ l) (append-nil ys)

  pub back_length : (ys : List ℕ) → length ys ≡ length (part a xs) → length (back a xs ys) ≡ length xs
  back_length ys e = rw (back_eq ys) (length-append (take a xs) ys ∙ omega (arith, length-take-le a xs le, e, part_length))

  pub back_under : (ys : List ℕ) (k : ℕ) → k < a → get_or (back a xs ys) k 0 ≡ get_or xs k 0
  back_under ys k lt = rw (back_eq ys) (get_or-append (take a xs) ys 0 k (omega (arith, length-take-le a xs le)) ∙ get_or-take a xs k 0 lt)

  pub back_over : (ys : List ℕ) (k : ℕ) → get_or (back a xs ys) (a + k) 0 ≡ get_or ys k 0
  back_over ys k = rw (back_eq ys) (ap (λ (n : ℕ). get_or (take a xs ++ ys) (n + k) 0) (sym (length-take-le a xs le)) ∙ get_or-append-add (take a xs) ys k 0)

-- A part `&xs[a..e]`.
abbrev pub range : ℕ → ℕ → List ℕ → List ℕ
range a e xs = take (e - a) (drop a xs)

module _ (a e : ℕ) (xs : List ℕ) (le : e ≤ length xs) where
  pub range_length : length (range a e xs) ≡ e - a
  range_length = length-take-le (e - a) (drop a xs) (omega (arith, length-drop a xs))

  pub range_at : (k : ℕ) → k < length (range a e xs) → get_or (range a e xs) k 0 ≡ get_or xs (a + k) 0
  range_at k lt = get_or-take (e - a) (drop a xs) k 0 (omega (arith, range_length)) ∙ get_or-drop a xs k 0

-- A part `&mut xs[a..a + n]` that was lent and is back, holding ys.
abbrev pub placed : ℕ → ℕ → List ℕ → List ℕ → List ℕ
placed a n xs ys = take a xs ++ (ys ++ drop n (drop a xs))

module _ (a n : ℕ) (xs ys : List ℕ) (le : a + n ≤ length xs) (e : length ys ≡ n) where
  placed_at : (k : ℕ) → get_or (placed a n xs ys) (a + k) 0 ≡ get_or (ys ++ drop n (drop a xs)) k 0
  placed_at k = ap (λ (i : ℕ). get_or (placed a n xs ys) (i + k) 0) (sym (length-take-le a xs (omega arith)))
      ∙ get_or-append-add (take a xs) (ys ++ drop n (drop a xs)) k 0

  pub placed_length : length (placed a n xs ys) ≡ length xs
  placed_length =
      omega (
        arith,
        length-append (take a xs) (ys ++ drop n (drop a xs)),
        length-append ys (drop n (drop a xs)),
        length-take-le a xs (omega arith),
        e,
        length-drop n (drop a xs),
        length-drop a xs,
      )

  pub placed_under : (k : ℕ) → k < a → get_or (placed a n xs ys) k 0 ≡ get_or xs k 0
  placed_under k lt = get_or-append (take a xs) _ 0 k (omega (arith, length-take-le a xs (omega arith))) ∙ get_or-take a xs k 0 lt

  pub placed_done : (k : ℕ) → k < n → get_or (placed a n xs ys) (a + k) 0 ≡ get_or ys k 0
  placed_done k kn = placed_at k ∙ get_or-append ys (drop n (drop a xs)) 0 k (omega arith)

  pub placed_past : (k : ℕ) → get_or (placed a n xs ys) (a + n + k) 0 ≡ get_or xs (a + n + k) 0
  placed_past k =
      let i : a + n + k ≡ a + (length ys + k) = omega arith in
      let h : a + (n + k) ≡ a + n + k = omega arith in
      ap (λ (x : ℕ). get_or (placed a n xs ys) x 0) i ∙ placed_at (length ys + k) ∙ get_or-append-add ys (drop n (drop a xs)) k 0
      ∙ get_or-drop n (drop a xs) k 0 ∙ get_or-drop a xs (n + k) 0 ∙ ap (λ (x : ℕ). get_or xs x 0) h
