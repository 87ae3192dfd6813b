-- The walk over a window of the molecule, from left to right: one step, its end, and where it may stop before that. Each arc that the walk passes whole lies in
-- the window, and a base whose arc leaves the window is passed alone: so no arc of the window goes past the place that the walk has come to, and what lies
-- before it and what lies behind it are taken one after the other.
use Prim.Native.Nat.{ℕ, suc, ◌+◌, ◌-◌, ◌≤◌, ◌<◌}
use mathlib.Core.Path.{◌≡◌, refl, sym, ap, subst, ◌∙◌}
use mathlib.Core.Bool.{Bool, true}
use mathlib.Core.List.{List}
use native.Mathlib.Decide.{dec_lt, ℕ_discrete}
use native.Mathlib.Omega.{arith}
use lib.Dec.{eqb, leb}
use lib.ListN.{length}
use borrow.Author.Tests.{eqb-true, eq-eqb, leb-true, leb-false}
use Rattle.lists.specs.Vocabulary.{nth}
use Rattle.lists.proofs.ListLaws.{Tells, both_ways, is_true}
use Rattle.letters.specs.Letters.{letters_match}
use Rattle.strand.specs.Strands.{strand_of, Inside, Nested}
use Rattle.embedding.specs.Embedding.{letters_fit}
use Rattle.embedding.specs.Row.{Split, Reach, Best, Bounds, unit_at}
use Rattle.embedding.specs.Longest.{longest, embeds}
use Rattle.embedding.proofs.Arc.{arc_closed}
use Rattle.embedding.proofs.Recurrence.{empty, combine, rest}
use Rattle.embedding.proofs.Bounds.{bounds_past}
use Rattle.embedding.proofs.Rows.{unit_best}
use Rattle.embedding.proofs.Computed.{longest_best, embeds_longest}
use Rattle.rows.specs.Rows.{matches, bound_at}
use Rattle.arcs.specs.Arcs.{Bounded}
use Rattle.placing.proofs.Top.{best_all, best_end}
use Rattle.walk.specs.Walk.{Carried, ArcWithin}

-- What is passed at base l: the base alone, its arc, if any, leaving the window; or its arc.
data Step (qm : List ℕ) (l hi r : ℕ) : Type 0 where
  alone : r ≡ l → (l < nth qm l → hi ≤ nth qm l) → Step qm l hi r
  whole : l < r → r < hi → nth qm l ≡ r → Step qm l hi r

-- The walk over the window lo..hi has come to base l, and Q[lo..l) takes P to `from` and no further; no arc of the window goes past l.
pub record Passed (p pm q qm : List ℕ) (lo hi from l : ℕ) : Type 0 where
  pub low : lo ≤ l
  pub high : l ≤ hi
  pub split : Split (nth qm) lo l hi
  pub best : Best (letters_fit p q) (nth pm) (nth qm) (length p) 0 from lo l

-- What `arc_within` answers.
pub within_none : (qm : List ℕ) (l hi : ℕ) → nth qm l ≤ l → ArcWithin qm l hi l
within_none qm l hi h = record { arc = λ a b. absurd (omega arith); alone = λ a. refl }

pub within_leaves : (qm : List ℕ) (l hi : ℕ) → hi ≤ nth qm l → ArcWithin qm l hi l
within_leaves qm l hi h = record { arc = λ a b. absurd (omega arith); alone = λ a. refl }

pub within_arc : (qm : List ℕ) (l hi : ℕ) → l < nth qm l → nth qm l < hi → ArcWithin qm l hi (nth qm l)
within_arc qm l hi a b = record { arc = λ x y. refl; alone = λ f. absurd (let z = f a in omega arith) }

module _ {p pm q qm : List ℕ} {lo hi : ℕ} where
  pub passed_none : lo ≤ hi → Passed p pm q qm lo hi 0 lo
  passed_none h = record { low = omega arith; high = h; split = λ u a b c. absurd (omega arith); best = empty 0 lo (omega arith) }

  module _ {n from l r : ℕ} (N : Nested (nth qm) n) (hn : hi ≤ n) (T : Passed p pm q qm lo hi from l) (lh : l < hi) (W : ArcWithin qm l hi r) where
    here : Step qm l hi r
    here = go (dec_lt l (nth qm l)) (dec_lt (nth qm l) hi)
      where
        go : Dec (l < nth qm l) → Dec (nth qm l < hi) → Step qm l hi r
        go (no a) b = alone (W.alone (λ c. absurd (a c))) (λ c. absurd (a c))
        go (yes a) (no b) = alone (W.alone (λ c. omega arith)) (λ c. omega arith)
        go (yes a) (yes b) = let e = W.arc a b in whole (omega arith) (omega arith) (sym e)

    pub step_up : l ≤ r
    step_up = go here
      where
        go : Step qm l hi r → l ≤ r
        go (alone e f) = omega arith
        go (whole a b e) = omega arith

    pub step_in : r < hi
    step_in = go here
      where
        go : Step qm l hi r → r < hi
        go (alone e f) = omega arith
        go (whole a b e) = b

    pub step_arc : l < r → nth qm l ≡ r
    step_arc h = go here
      where
        go : Step qm l hi r → nth qm l ≡ r
        go (alone e f) = absurd (omega arith)
        go (whole a b e) = e

    -- No arc of the window goes past r.
    on : Split (nth qm) lo (r + 1) hi
    on u a b c = go here (dec_lt u l) (ℕ_discrete u l)
      where
        go : Step qm l hi r → Dec (u < l) → Dec (u ≡ l) → hi ≤ nth qm u
        go s (yes x) y = T.split u a x (omega (arith, step_up))
        go (alone e f) (no x) (yes y) = let z : nth qm u ≡ nth qm l = ap (nth qm) y in omega (arith, f (omega arith))
        go (alone e f) (no x) (no y) = absurd (omega arith)
        go (whole g h e) (no x) y = absurd (omega (arith, arc_closed N l (omega arith) (omega arith) u (omega arith) (omega arith)))

    pub passed_step : (k : ℕ) → Best (letters_fit p q) (nth pm) (nth qm) (length p) from k l (r + 1) → Passed p pm q qm lo hi k (r + 1)
    passed_step k B =
        record {
          low = omega (arith, T.low, step_up);
          high = omega (arith, step_in);
          split = on;
          best = combine T.low (omega (arith, step_up)) (λ u a b c. omega (arith, T.split u a b c, step_in)) T.best B;
        }

    -- An unbonded base, or one whose arc leaves the window.
    pub passed_unit : r ≤ l → from ≤ length p → Passed p pm q qm lo hi (unit_at (matches p (nth q l)) (nth pm) (length p) from) (l + 1)
    passed_unit h jt =
        let e : r ≡ l = omega (arith, step_up) in
        let z : r + 1 ≡ suc l = omega (arith, step_up) in
        subst (λ (x : ℕ). Passed p pm q qm lo hi (unit_at (matches p (nth q l)) (nth pm) (length p) from) (x + 1)) e
        (passed_step _ (rw z (unit_best from l jt)))

-- P is a closed prefix of itself.
whole_reach : {p pm q qm : List ℕ} {lo hi : ℕ} → Inside (nth pm) (length p) → Carried p pm q qm lo hi
    → Reach (letters_fit p q) (nth pm) (nth qm) (length p) 0 (length p) lo hi
whole_reach H C = record { from = omega arith; upto = omega arith; closed = λ x a b. H x b; embeds = C.embeds }

-- The ends of the walk, which is at base l and has come to `from`.
module _ {p pm q qm : List ℕ} {lo hi from l : ℕ} (H : Inside (nth pm) (length p)) (T : Passed p pm q qm lo hi from l) where
  pub all_carried : length p ≤ from → Carried p pm q qm lo hi
  all_carried h =
      let e : from ≡ length p = omega (arith, T.best.reach.upto) in
      record { embeds = rw e at (best_all T.high h T.best).reach.embeds }

  pub end_carried : hi ≤ l → Tells (leb (length p) from) (Carried p pm q qm lo hi)
  end_carried h =
      record {
        yes = λ t. all_carried (leb-true (length p) from t);
        no = λ f C. omega (arith, leb-false (length p) from f, (best_end T.high h T.best).most (length p) (whole_reach H C));
      }

  -- The rest of the window cannot take the rest of the motif, by bounds up to base e and a position for each base from there on.
  cannot : {b : ℕ → ℕ} (e : ℕ) → Bounds (letters_fit p q) (length p) l e b → l ≤ e → e ≤ hi → from ≤ b l → b e + (hi - e) < length p
      → Carried p pm q qm lo hi → ⊥
  cannot e D le eh h short C = omega (arith, bounds_past D le eh h (rest T.split T.best T.best.reach.upto (whole_reach H C)))

  -- It has fewer bases.
  pub too_short : hi - l < length p - from → Carried p pm q qm lo hi → ⊥
  too_short h =
      cannot {b = λ i. from} l record { rise = λ i a b. omega arith; step = λ i j a b d x t. absurd (omega arith) } (omega arith) T.high (omega arith)
      (omega (arith, T.high))

  -- The bound behind an arc says so.
  pub out_of_bounds : {tables : List ℕ} (e most : ℕ) → Bounded p q tables from (length p) l e → l ≤ e → e ≤ hi
      → most ≡ bound_at (length p) tables e → most + (hi - e) < length p → Carried p pm q qm lo hi → ⊥
  out_of_bounds e most D le eh h short = cannot e D.bounds le eh D.start (omega arith)

-- The window is the whole molecule.
pub carried_embeds : {p pm q qm : List ℕ} (b : Bool) → Inside (nth pm) (length p) → Tells b (Carried p pm q qm 0 (length q))
    → b ≡ embeds (strand_of p pm) (strand_of q qm)
carried_embeds {p} {pm} {q} {qm} b H T = both_ways _ _ there back ∙ embeds_longest (strand_of p pm) (strand_of q qm) (longest letters_match p pm q qm) refl
  where
    L : Best (letters_fit p q) (nth pm) (nth qm) (length p) 0 (longest letters_match p pm q qm) 0 (length q)
    L = longest_best letters_match p pm q qm

    there : b ≡ true → eqb (longest letters_match p pm q qm) (length p) ≡ true
    there t = eq-eqb (longest letters_match p pm q qm) (length p) (omega (arith, L.reach.upto, L.most (length p) (whole_reach H (T.yes t))))

    back : eqb (longest letters_match p pm q qm) (length p) ≡ true → b ≡ true
    back t = is_true b (λ f. T.no f record { embeds = rw (eqb-true (longest letters_match p pm q qm) (length p) t) at L.reach.embeds })
