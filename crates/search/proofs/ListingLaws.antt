-- The numbers below d that pass, counted and written one after the other.
use mathlib.Core.Path.{◌≡◌, refl, sym, ap, ap₂, ◌∙◌}
use mathlib.Core.Bool.{Bool, true, false}
use mathlib.Core.List.{List, [], ◌∷◌, ◌++◌, append_assoc}
use Prim.Native.Nat.{ℕ, suc, ◌+◌, ◌<◌, ◌≤◌}
use native.Mathlib.Omega.{arith}
use native.Mathlib.Numerals.{add-one}
use lib.ListN.{length, get_or, set, drop, length-append}
use lib.Seq.{set_at, drop-cons}
use Rattle.lists.specs.Vocabulary.{select}
use Rattle.lists.proofs.ListLaws.{select_short, select_none, select_yes, select_no}

-- How many pass.
module _ (p : ℕ → Bool) (d c : ℕ) (e : c ≡ length (select d p)) where
  pub count_short : c ≤ d
  count_short = omega (arith, select_short p d)

  pub count_yes : p d ≡ true → c + 1 ≡ length (select (d + 1) p)
  count_yes h = ap (λ (n : ℕ). n + 1) e ∙ sym (ap length (select_yes p d h) ∙ length-append (select d p) (d ∷ []))

  pub count_no : p d ≡ false → c ≡ length (select (d + 1) p)
  count_no h = e ∙ sym (ap length (select_no p d h))

-- one more: the number goes after what is there
after : (l : List ℕ) (d : ℕ) (s : List ℕ) → length l < length s → set (l ++ drop (length l) s) (length l) d ≡ l ++ (d ∷ []) ++ drop (length l + 1) s
after l d s h =
    ap (λ (k : List ℕ). set (l ++ k) (length l) d) (drop-cons s (length l) 0 h)
    ∙ set_at l (get_or s (length l) 0) (drop (suc (length l)) s) d (length l) refl
    ∙ ap (λ (n : ℕ). l ++ (d ∷ drop n s)) (sym (add-one (length l)))
    ∙ sym (append_assoc l (d ∷ []) (drop (length l + 1) s))

-- The slice w starts with the c numbers below d that pass, and its later entries are those of s.
pub record Listed (p : ℕ → Bool) (s w : List ℕ) (d c : ℕ) : Type 0 where
  pub counted : c ≡ length (select d p)
  pub written : w ≡ select d p ++ drop c s

module _ (p : ℕ → Bool) (s : List ℕ) where
  pub listed_start : Listed p s s 0 0
  listed_start = record { counted = ap length (sym (select_none p)); written = ap (λ (l : List ℕ). l ++ s) (sym (select_none p)) }

  module _ (w : List ℕ) (d c : ℕ) (L : Listed p s w d c) where
    pub listed_yes : c < length s → p d ≡ true → Listed p s (set w c d) (d + 1) (c + 1)
    listed_yes h y =
        let e : c ≡ length (select d p) = L.counted in
        let u : w ≡ select d p ++ drop (length (select d p)) s = L.written ∙ ap (λ (n : ℕ). select d p ++ drop n s) e in
        record {
          counted = count_yes p d c e y;
          written =
              ap₂ (λ (x : List ℕ) (n : ℕ). set x n d) u e
              ∙ after (select d p) d s (omega arith)
              ∙ ap₂ (λ (a : List ℕ) (n : ℕ). a ++ drop n s) (sym (select_yes p d y)) (ap (λ (n : ℕ). n + 1) (sym e));
        }

    pub listed_no : p d ≡ false → Listed p s w (d + 1) c
    listed_no n =
        record { counted = count_no p d c L.counted n; written = L.written ∙ ap (λ (a : List ℕ). a ++ drop c s) (sym (select_no p d n)) }

    pub listed_end : (n : ℕ) → d ≡ n → (c ≡ length (select n p)) × (w ≡ select n p ++ drop c s)
    listed_end n e = (L.counted ∙ ap (λ (k : ℕ). length (select k p)) e, L.written ∙ ap (λ (k : ℕ). select k p ++ drop c s) e)
