-- A pass over a slice in place, from a upwards: `Written` before it, after a store and after a round that stores nothing.
use mathlib.Core.Path.{◌≡◌, refl, ap, subst, ◌∙◌}
use mathlib.Core.List.{List, ◌++◌}
use Prim.Native.Nat.{ℕ, ◌+◌, ◌-◌, ◌≤◌, ◌<◌}
use native.Mathlib.Omega.{arith}
use native.Mathlib.Nat.{le_antisymm}
use lib.ListN.{length, get_or, set, length-set, take, drop, replicate, length-replicate, length-drop}
use lib.Seq.{get_or-set_same, get_or-set_other, length-take-le}
use borrow.Author.Count.{below_more}
use Rattle.std.proofs.lemmas.List.{get_or-replicate}
use Rattle.lists.specs.Vocabulary.{nth}
use Rattle.rows.specs.Rows.{Written}
use Rattle.rows.proofs.Parts.{placed_length, placed_under, placed_done, placed_past, range, range_length, range_at}

pub pass_none : (f : ℕ → ℕ) (l : List ℕ) (a : ℕ) → Written f l l a a
pass_none f l a = record { long = refl; under = λ k h. refl; done = λ k h g. absurd (omega arith); past = λ k h. refl }

pub pass_set : (f : ℕ → ℕ) (old new : List ℕ) (a e v : ℕ) → Written f old new a e → a ≤ e → e < length old → v ≡ f e → Written f old (set new e v) a (e + 1)
pass_set f old new a e v w le lt q = record {
  long = length-set new e v ∙ w.long;
  under = λ k h. get_or-set_other new e k v 0 (λ r. omega arith) ∙ w.under k h;
  done = λ k h g. below_more (λ k. a ≤ k → get_or (set new e v) k 0 ≡ f k) e (λ k h g. get_or-set_other new e k v 0 (λ r. omega arith) ∙ w.done k g h)
      (λ g. get_or-set_same new e v 0 (omega (arith, w.long)) ∙ q) k g h;
  past = λ k h. get_or-set_other new e k v 0 (λ r. omega arith) ∙ w.past k (omega arith);
}

pub pass_end : (f : ℕ → ℕ) (old new : List ℕ) (a j w : ℕ) → Written f old new a j → j ≤ w → w ≤ j → Written f old new a w
pass_end f old new a j w h le ge = subst (λ (e : ℕ). Written f old new a e) (le_antisymm le ge) h

-- Other values that agree where the pass wrote.
pub pass_as : (f g : ℕ → ℕ) (old new : List ℕ) (a e : ℕ) → Written f old new a e → ((k : ℕ) → k < e → f k ≡ g k) → Written g old new a e
pass_as f g old new a e w h = record { long = w.long; under = w.under; done = λ k x y. w.done k x y ∙ h k y; past = w.past }

-- The part from a to before a + n was lent and is back: ys is what it holds now.
pub pass_part : (f : ℕ → ℕ) (old ys : List ℕ) (a k n : ℕ) → k ≡ n → a + n ≤ length old → length ys ≡ n → ((j : ℕ) → j < n → nth ys j ≡ f (a + j))
    → Written f old (take a old ++ (ys ++ drop k (drop a old))) a (a + n)
pass_part f old ys a k n e le l g = rw e record {
  long = placed_length a n old ys le l;
  under = λ j h. placed_under a n old ys le l j h;
  done = λ j h i.
      let q : a + (j - a) ≡ j = omega arith in
      subst (λ (x : ℕ). nth (take a old ++ (ys ++ drop n (drop a old))) x ≡ f x) q (placed_done a n old ys le l (j - a) (omega arith)
      ∙ g (j - a) (omega arith));
  past = λ j h.
      let q : a + n + (j - (a + n)) ≡ j = omega arith in
      subst (λ (x : ℕ). nth (take a old ++ (ys ++ drop n (drop a old))) x ≡ nth old x) q (placed_past a n old ys le l (j - (a + n)));
}

-- A fill of such a part.
pub pass_fill : (old ys : List ℕ) (a k n v : ℕ) → k ≡ n → a + n ≤ length old → ys ≡ replicate (length (take k (drop a old))) v
    → Written (λ j. v) old (take a old ++ (ys ++ drop k (drop a old))) a (a + n)
pass_fill old ys a k n v e le f =
    let l : length (take k (drop a old)) ≡ n = length-take-le k (drop a old) (omega (arith, length-drop a old)) ∙ e in
    pass_part (λ j. v) old ys a k n e le (ap length f ∙ length-replicate _ v ∙ l)
    (λ j h. ap (λ (zs : List ℕ). nth zs j) f ∙ get_or-replicate _ j v 0 (omega (arith, l)))

-- A copy of a part of another slice into such a part.
pub pass_copy : (old xs ys : List ℕ) (a e : ℕ) → a ≤ e → e ≤ length old → e ≤ length xs → ys ≡ range a e xs
    → Written (nth xs) old (take a old ++ (ys ++ drop (e - a) (drop a old))) a e
pass_copy old xs ys a e o le lx f =
    pass_end _ _ _ _ _ _ (pass_part (nth xs) old ys a (e - a) (e - a) refl (omega arith) (ap length f ∙ range_length a e xs lx)
    (λ j h. ap (λ (zs : List ℕ). nth zs j) f ∙ range_at a e xs lx j (omega (arith, range_length a e xs lx)))) (omega arith) (omega arith)
