-- Words that all specifications share: entries and parts of lists, choices, and tests over the numbers below n.
use Rattle.std.specs.Prelude.{ℕ, zero, suc, ◌+◌, ◌-◌, ◌*◌, Bool, true, false, ◌&&◌, ◌||◌, List, [], ◌∷◌, ◌++◌, eqb, get_or, length, take, drop}

-- The entry at i, and 0 past the end.
abbrev pub nth : List ℕ → ℕ → ℕ
nth xs i = get_or xs i 0

-- The part from a to before e: what `&s[a..e]` is.
abbrev pub between : ℕ → ℕ → List ℕ → List ℕ
between a e s = take (e - a) (drop a s)

-- Piece t, counted from 0, of a list that is cut into pieces of w entries; the list with that piece replaced.
abbrev pub piece : ℕ → ℕ → List ℕ → List ℕ
piece w t s = between (w * t) (w * t + w) s

unfoldable pub put_piece : ℕ → ℕ → List ℕ → List ℕ → List ℕ
put_piece w t new s = take (w * t) s ++ new ++ drop (w * t + w) s

-- The first value where the test passed, else the second.
unfoldable pub choose : {A : Type 0} → Bool → A → A → A
choose true x y = x
choose false x y = y

-- Every number below n passes; some number below n passes. (A `let` here and below only saves work in computing.)
unfoldable pub every : ℕ → (ℕ → Bool) → Bool
every zero p = true
every (suc n) p = let r = every n p in p n && r

unfoldable pub some : ℕ → (ℕ → Bool) → Bool
some zero p = false
some (suc n) p = let r = some n p in p n || r

-- Every entry of the list passes.
abbrev pub all : (ℕ → Bool) → List ℕ → Bool
all p s = every (length s) (λ i. p (nth s i))

-- The lowest of the k numbers from i that passes, or the number after them.
unfoldable pub lowest_from : ℕ → ℕ → (ℕ → Bool) → ℕ
lowest_from i zero p = i
lowest_from i (suc k) p = choose (p i) i (lowest_from (suc i) k p)

-- The lowest number below n that passes, or n.
unfoldable pub lowest : ℕ → (ℕ → Bool) → ℕ
lowest n p = lowest_from 0 n p

-- The largest number up to n that passes, or 0.
unfoldable pub largest : ℕ → (ℕ → Bool) → ℕ
largest zero p = 0
largest (suc n) p = let r = largest n p in choose (p (suc n)) (suc n) r

-- The numbers below n that pass, rising.
unfoldable pub select : ℕ → (ℕ → Bool) → List ℕ
select zero p = []
select (suc n) p = select n p ++ choose (p n) (n ∷ []) []

-- The list of f at 0, 1, .., n - 1.
unfoldable pub tab : {A : Type 0} → ℕ → (ℕ → A) → List A
tab zero f = []
tab (suc n) f = tab n f ++ (f n ∷ [])

-- Some list of k numbers below n passes.
unfoldable pub some_list : ℕ → ℕ → (List ℕ → Bool) → Bool
some_list zero n p = p []
some_list (suc k) n p = some n (λ u. some_list k n (λ v. p (u ∷ v)))

-- The sum of a list.
unfoldable pub total : List ℕ → ℕ
total [] = 0
total (x ∷ xs) = x + total xs

-- The two lists are equal.
unfoldable pub same_list : List ℕ → List ℕ → Bool
same_list [] [] = true
same_list [] (y ∷ ys) = false
same_list (x ∷ xs) [] = false
same_list (x ∷ xs) (y ∷ ys) = eqb x y && same_list xs ys

-- f with the value v at d.
unfoldable pub put_at : {A : Type 0} → (ℕ → A) → ℕ → A → ℕ → A
put_at f d v e = choose (eqb e d) v (f e)
