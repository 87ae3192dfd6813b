-- The passes that close an arc over a long segment: what each writes beside the row, and that together they make the row of the arc.
use mathlib.Core.Path.{◌≡◌, sym, ap, ap₂, ◌∙◌}
use mathlib.Core.Bool.{Bool}
use mathlib.Core.List.{List}
use Prim.Native.Nat.{ℕ, ◌+◌, ◌-◌, ◌≤◌, ◌<◌, min, max}
use native.Mathlib.Numerals.{add-one}
use native.Mathlib.Omega.{arith}
use lib.Dec.{leb}
use lib.ListN.{length, set}
use Rattle.lists.specs.Vocabulary.{nth, choose}
use Rattle.embedding.specs.Row.{unit_at, over_at, arc_at, over_by}
use Rattle.rows.specs.Rows.{Written, Remade}
use Rattle.rows.proofs.Pass.{pass_set}
use Rattle.embedding.proofs.Entries.{unit_end, unit_in, by_over}

-- An entry beside the row, in the loop that has come to j.
module _ (left right : ℕ → Bool) (pm : ℕ → ℕ) (z at : ℕ) (row₀ row : List ℕ) (from j r : ℕ) where
  pub over_step : Written (λ k. over_at left right pm z (nth row₀ (k - at + 1)) (k - at)) row₀ row (at + from) (at + j) → j < z → z < at
      → (c d : Bool) → c ≡ left j → d ≡ right (pm j) → r ≡ over_by c d (pm j) z (nth row (j + 1)) j
      → r ≡ over_at left right pm z (nth row₀ (at + j - at + 1)) (at + j - at)
  over_step W a b c d s t e =
      let i : at + j - at ≡ j = omega arith in
      rw i (e ∙ ap₂ (λ (x y : Bool). over_by x y (pm j) z (nth row (j + 1)) j) s t
      ∙ rw (W.under (j + 1) (omega arith)) (by_over left right pm z (nth row₀ (j + 1)) j a))

module _ (has : ℕ → Bool) (pm : ℕ → ℕ) (z at j r : ℕ) where
  pub unit_step : j < z → r ≡ choose (leb (pm j) j) (choose (has j) (j + 1) j) j → r ≡ unit_at has pm z (at + j - at)
  unit_step a e =
      let i : at + j - at ≡ j = omega arith in
      rw i (e ∙ ap (λ (x : ℕ). choose (leb (pm j) j) (choose (has j) x j) j) (add-one j) ∙ sym (unit_in has pm z j a))

  pub unit_last : z ≤ j → r ≡ j → r ≡ unit_at has pm z (at + j - at)
  unit_last a e = let i : at + j - at ≡ j = omega arith in rw i (e ∙ sym (unit_end has pm z j a))

-- An entry that no round has written yet is within its bound, up to z or before z.
module _ (f : ℕ → ℕ) (row₀ row : List ℕ) (from end j z : ℕ) (W : Written f row₀ row from j) (lo : from ≤ j) (hi : j < end) where
  pub index_up_to : ((i : ℕ) → from ≤ i → i < end → nth row₀ i ≤ z) → nth row j ≤ z
  index_up_to h = omega (arith, W.past j (omega arith), h j lo hi)

  pub index_before : ((i : ℕ) → from ≤ i → i < end → nth row₀ i < z) → nth row j < z
  index_before h = omega (arith, W.past j (omega arith), h j lo hi)

-- A round of the loop that takes the entries on by the steps of a base.
pub step_step : (f : ℕ → ℕ) (steps row₀ row : List ℕ) (from j : ℕ) → Written f row₀ row from j → nth steps (nth row j) ≡ nth steps (nth row₀ j)
step_step f steps row₀ row from j W = ap (nth steps) (W.past j (omega arith))

pub raise_step : (f : ℕ → ℕ) (at z : ℕ) (row₀ row : List ℕ) (from j s r : ℕ) → Written f row₀ row from j → s ≡ min (nth row j) z → r ≡ max s (nth row (at + j))
    → r ≡ max (min (nth row₀ j) z) (nth row₀ (at + j))
raise_step f at z row₀ row from j s r W d e = e ∙ rw (d, W.past j (omega arith), W.past (at + j) (omega arith))

-- A round of the loop that closes an arc in one pass.
module _ (left right : ℕ → Bool) (pm : ℕ → ℕ) (z : ℕ) (steps row₀ row : List ℕ) (from j : ℕ)
    (W : Written (λ i. max (min (nth steps (nth row₀ i)) z) (over_at left right pm z (nth row₀ (i + 1)) i)) row₀ row from j) where
  pub short_step : (s o r : ℕ) (c d : Bool) → j < z → s ≡ min (nth steps (nth row j)) z → c ≡ left j → d ≡ right (pm j)
      → o ≡ over_by c d (pm j) z (nth row (j + 1)) j → r ≡ max s o
      → r ≡ max (min (nth steps (nth row₀ j)) z) (over_at left right pm z (nth row₀ (j + 1)) j)
  short_step s o r c d a e l t f g =
      g ∙ ap₂ max (e ∙ ap (λ (k : ℕ). min (nth steps k) z) (W.past j (omega arith)))
      (f ∙ ap₂ (λ (x y : Bool). over_by x y (pm j) z (nth row (j + 1)) j) l t
      ∙ rw (W.past (j + 1) (omega arith)) (by_over left right pm z (nth row₀ (j + 1)) j a))

pub cut_step : (f : ℕ → ℕ) (at z : ℕ) (row₀ row : List ℕ) (from j r : ℕ) → Written f row₀ row (at + from) (at + j) → j < at → r ≡ min (nth row j) z
    → r ≡ min (nth row₀ (at + j - at)) z
cut_step f at z row₀ row from j r W a e = let i : at + j - at ≡ j = omega arith in rw i (e ∙ ap (λ (x : ℕ). min x z) (W.under j (omega arith)))

-- A store beside the row.
pub set_at : (f : ℕ → ℕ) (old new : List ℕ) (at a e v : ℕ) → Written f old new (at + a) (at + e) → a ≤ e → at + e < length old → v ≡ f (at + e)
    → Written f old (set new (at + e) v) (at + a) (at + (e + 1))
set_at f old new at a e v W le lt q =
    let i : at + (e + 1) ≡ at + e + 1 = omega arith in
    rw i (pass_set f old new (at + a) (at + e) v W (omega arith) lt q)

-- The row of an arc for the starts from `from` to `last`, from the steps of its right end; e is where the loops ended.
module _ (left right : ℕ → Bool) (pm : ℕ → ℕ) (from last to e : ℕ) (steps : List ℕ) (s : (k : ℕ) → k ≤ to → min (nth steps k) to ≡ unit_at right pm to k)
    (t : e ≡ min (last + 1) to) where
  -- In one pass.
  pub remade_short : (row new : List ℕ) → ((j : ℕ) → from ≤ j → j ≤ last → (j ≤ nth row j) × (nth row j ≤ to))
      → Written (λ j. max (min (nth steps (nth row j)) to) (over_at left right pm to (nth row (j + 1)) j)) row new from e
      → Remade (λ j. arc_at left right pm to (nth row j) (nth row (j + 1)) j) row new from (min (last + 1) to)
  remade_short row new h W = record {
    long = W.long;
    done = λ j a b. W.done j a (omega (arith, t))
        ∙ ap (λ (x : ℕ). max x (over_at left right pm to (nth row (j + 1)) j)) (s (nth row j) (h j a (omega arith)).1);
    last = λ j a b. W.past j (omega (arith, t));
  }

  -- By the three passes, with the rows after each.
  pub remade : (w : ℕ) (row o mid new : List ℕ) → to < w → ((j : ℕ) → from ≤ j → j ≤ last → (j ≤ nth row j) × (nth row j ≤ to))
      → Written (λ k. over_at left right pm to (nth row (k - w + 1)) (k - w)) row o (w + from) (w + e)
      → Written (λ j. nth steps (nth o j)) o mid from e
      → Written (λ j. max (min (nth mid j) to) (nth mid (w + j))) mid new from e
      → Remade (λ j. arc_at left right pm to (nth row j) (nth row (j + 1)) j) row new from (min (last + 1) to)
  remade w row o mid new tw h O M N = record {
    long = N.long ∙ M.long ∙ O.long;
    done = λ j a b. N.done j a (omega (arith, t)) ∙ ap₂ max (unit j a (omega (arith, t))) (over j a (omega (arith, t)));
    last = λ j a b. N.past j (omega (arith, t)) ∙ M.past j (omega (arith, t)) ∙ O.under j (omega arith);
  } where
    unit : (j : ℕ) → from ≤ j → j < e → min (nth mid j) to ≡ unit_at right pm to (nth row j)
    unit j a b = ap (λ (x : ℕ). min x to) (M.done j a b ∙ ap (nth steps) (O.under j (omega (arith, t))))
        ∙ s (nth row j) (h j a (omega (arith, t))).1

    over : (j : ℕ) → from ≤ j → j < e → nth mid (w + j) ≡ over_at left right pm to (nth row (j + 1)) j
    over j a b =
        let i : w + j - w ≡ j = omega arith in
        M.past (w + j) (omega arith) ∙ O.done (w + j) (omega arith) (omega arith)
        ∙ ap (λ (x : ℕ). over_at left right pm to (nth row (x + 1)) x) i

-- The larger of what was found without and with the left end.
pub with_some : (r b n u o : ℕ) → r ≡ max b n → b ≡ u → o ≡ n → r ≡ max u o
with_some r b n u o e f g = rw (e, f, g)
