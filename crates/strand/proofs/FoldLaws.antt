-- The number of arcs and the depth: what is counted and what is found by trying are the largest numbers of their kinds, for all mates; of nested mates the
-- depth is the most arcs that are open at once, since those open at one place lie one inside the other, and a chain is open where its last arc begins.
use mathlib.Core.Path.{◌≡◌, refl, sym, ap, ap₂, ◌∙◌}
use mathlib.Core.Bool.{Bool, true, false, ◌&&◌}
use mathlib.Core.List.{List}
use Prim.Native.Nat.{ℕ, zero, suc, ◌+◌, ◌-◌, ◌≤◌, ◌<◌}
use native.Mathlib.Omega.{arith}
use native.Mathlib.Decide.{dec_lt, ℕ_discrete}
use lib.Dec.{leb}
use lib.ListN.{length, get_or-eq_default}
use borrow.Author.Tests.{lt-ltb, ltb-true, le-leb, lt-leb, leb-true}
use Rattle.lists.specs.Vocabulary.{nth, every, all, select, tab, some_list}
use Rattle.lists.proofs.ListLaws.{and_true, every_at, every_true, length_tab, nth_tab, select_short}
use Rattle.lists.proofs.Ranges.{some_list_true, some_list_of, Largest, largest_is, Selected, selected}
use Rattle.lists.proofs.Counts.{count, count_yes, count_no, count_ext, count_less, rising_counts, rising_bound}
use Rattle.strand.specs.declared.Fold.{Fold}
use Rattle.strand.specs.Strands.{Paired, Nested}
use Rattle.strand.specs.Folds.{begins, arc_count, lies_inside, is_chain, depth_of, fold_of, Begins, Chain, IsMost, IsArcCount, IsDepth, IsFold}

-- The largest number of a kind is one number.
most_only : {kind : ℕ → (ℕ → ℕ) → Type 0} {j k : ℕ} → IsMost kind j → IsMost kind k → j ≡ k
most_only {j = j} {k = k} J K = omega (arith, K.most j J.reached.0 J.reached.1, J.most k K.reached.0 K.reached.1)

-- Two folds with the same numbers are the same.
pub fold_eq : {a a' d d' : ℕ} → a ≡ a' → d ≡ d' → ◌≡◌ {A = Fold} (record { arcs = a; depth = d }) (record { arcs = a'; depth = d' })
fold_eq x y = λ i. record { arcs = x i; depth = y i }

module _ (mates : List ℕ) where
  -- ---- the number of arcs

  begins_at : (i : ℕ) → begins mates i ≡ true → i < nth mates i
  unfolding begins
  begins_at i e = ltb-true i (nth mates i) e

  begins_yes : (i : ℕ) → i < nth mates i → begins mates i ≡ true
  unfolding begins
  begins_yes i l = lt-ltb i (nth mates i) l

  pub arcs_most : IsArcCount mates (arc_count mates)
  unfolding arc_count
  arcs_most =
      record {
        reached = (
          nth list,
          record {
            arc = λ x l. let y = S.each x l in (y.0, begins_at (nth list x) y.1);
            rising = λ x l. S.rising x (suc x) (omega arith) l;
          },
        );
        most = λ k left A. rising_bound (begins mates) k left (λ x l. begins_yes (left x) (A.arc x l).1) A.rising (length mates) (λ x l. (A.arc x l).0);
      }
    where
      list : List ℕ
      list = select (length mates) (begins mates)

      S : Selected (length mates) (begins mates) list
      S = selected (length mates) (begins mates)

  -- ---- the depth by lists of left ends

  -- Past the last base no arc begins.
  begins_within : (i : ℕ) → i < nth mates i → Begins mates i
  begins_within i l = elim (dec_lt i (length mates)) [
    | yes u ↦ (u, l)
    | no u ↦ absurd (omega (arith, get_or-eq_default mates 0 {n = i} (omega arith)))
  ]

  list_chain : (v : List ℕ) → is_chain mates v ≡ true → Chain mates (length v) (nth v)
  unfolding is_chain lies_inside
  list_chain v e = record { arc = arc; inside = inside }
    where
      both : (all (begins mates) v ≡ true) × (every (length v - 1) (λ x. lies_inside mates (nth v x) (nth v (suc x))) ≡ true)
      both = and_true _ _ e

      arc : (x : ℕ) → x < length v → Begins mates (nth v x)
      arc x l = begins_within (nth v x) (begins_at (nth v x) (every_at _ (length v) x both.0 l))

      inside : (x : ℕ) → suc x < length v → (nth v x < nth v (suc x)) × (nth mates (nth v (suc x)) < nth mates (nth v x))
      inside x l = let y = and_true _ _ (every_at _ (length v - 1) x both.1 (omega arith)) in (ltb-true _ _ y.0, ltb-true _ _ y.1)

  chain_list : (k : ℕ) (left : ℕ → ℕ) → Chain mates k left → is_chain mates (tab k left) ≡ true
  unfolding is_chain lies_inside
  chain_list k left C = ap₂ (λ (a b : Bool). a && b) starts nested
    where
      at : (x : ℕ) → x < k → nth (tab k left) x ≡ left x
      at x l = nth_tab left k x l

      starts : all (begins mates) (tab k left) ≡ true
      starts = every_true _ (length (tab k left)) (λ x l.
          let z : x < k = omega (arith, length_tab left k) in
          rw (at x z) (begins_yes (left x) (C.arc x z).1))

      nested : every (length (tab k left) - 1) (λ x. lies_inside mates (nth (tab k left) x) (nth (tab k left) (suc x))) ≡ true
      nested = every_true _ (length (tab k left) - 1) (λ x l.
          let z : suc x < k = omega (arith, length_tab left k) in
          let c = C.inside x z in
          rw (at x (omega arith), at (suc x) z, lt-ltb _ _ c.0, lt-ltb _ _ c.1))

  -- The arcs of a chain are so many arcs, so it has no more than there are bases.
  chain_arcs : (k : ℕ) (left : ℕ → ℕ) → Chain mates k left → k ≤ arc_count mates
  chain_arcs k left C = arcs_most.most k left (record { arc = C.arc; rising = λ x l. (C.inside x l).0 })

  chain_short : (k : ℕ) (left : ℕ → ℕ) → Chain mates k left → k ≤ length mates
  unfolding arc_count
  chain_short k left C = omega (arith, chain_arcs k left C, select_short (begins mates) (length mates))

  pub depth_most : IsDepth mates (depth_of mates)
  unfolding depth_of
  depth_most = go (largest_is (length mates) (λ k. some_list k (length mates) (is_chain mates)) none)
    where
      none : some_list 0 (length mates) (is_chain mates) ≡ true
      none = unfold some_list is_chain every in refl

      go : {d : ℕ} → Largest (length mates) (λ k. some_list k (length mates) (is_chain mates)) d → IsDepth mates d
      go {d} L =
          let r = some_list_true d (length mates) (is_chain mates) L.passes in
          record {
            reached = (nth r.0, rw r.1 at (list_chain r.0 r.2));
            most = λ k left C.
                L.most k (chain_short k left C)
                (some_list_of k (length mates) (is_chain mates) (tab k left) (length_tab left k)
                (λ x l. rw (nth_tab left k x l) (C.arc x l).0) (chain_list k left C));
          }

  -- ---- both

  pub fold_is : IsFold mates (fold_of mates)
  fold_is = record { arcs = arcs_most; depth = depth_most }

  pub fold_only : (f : Fold) → IsFold mates f → f ≡ fold_of mates
  fold_only f F = fold_eq (most_only F.arcs arcs_most) (most_only F.depth depth_most)

  -- Without arcs there is no chain.
  pub depth_none : arc_count mates ≡ 0 → depth_of mates ≡ 0
  depth_none e = omega (arith, e, chain_arcs (depth_of mates) depth_most.reached.0 depth_most.reached.1)

  pub depth_only : {d : ℕ} → IsDepth mates d → d ≡ depth_of mates
  depth_only D = most_only D depth_most

-- ---- arcs that are open

-- An arc that begins at a, below i, is open at i: it ends at or after i.
unfoldable pub opened : List ℕ → ℕ → ℕ → Bool
opened mates i a = leb i (nth mates a)

abbrev pub open_at : List ℕ → ℕ → ℕ
open_at mates i = count i (opened mates i)

module _ (mates : List ℕ) where
  pub opened_yes : (i a : ℕ) → i ≤ nth mates a → opened mates i a ≡ true
  unfolding opened
  opened_yes i a h = le-leb i (nth mates a) h

  pub opened_no : (i a : ℕ) → nth mates a < i → opened mates i a ≡ false
  unfolding opened
  opened_no i a h = lt-leb i (nth mates a) h

  opened_is : (i a : ℕ) → opened mates i a ≡ true → i ≤ nth mates a
  unfolding opened
  opened_is i a e = leb-true i (nth mates a) e

  -- An arc that does not end at i is open at i + 1 exactly when it is at i.
  opened_on : (i a : ℕ) → (nth mates a ≡ i → ⊥) → opened mates i a ≡ opened mates (suc i) a
  opened_on i a n = elim (dec_lt (nth mates a) i) [
    | yes l ↦ opened_no i a l ∙ sym (opened_no (suc i) a (omega arith))
    | no l ↦
        let z : suc i ≤ nth mates a = elim (ℕ_discrete (nth mates a) i) [ yes e ↦ absurd (n e) | no e ↦ omega arith ] in
        opened_yes i a (omega arith) ∙ sym (opened_yes (suc i) a z)
  ]

  module _ (P : Paired (nth mates) (length mates)) (i : ℕ) (l : i < length mates) where
    -- Where i is no right end, the arcs that began below i are open at i + 1 as at i.
    open_same : i ≤ nth mates i → count i (opened mates (suc i)) ≡ open_at mates i
    open_same h =
        sym (count_ext i (opened mates i) (opened mates (suc i)) (λ a k. opened_on i a (λ e. omega (arith, P a (omega arith), ap (nth mates) e))))

    pub open_left : i < nth mates i → open_at mates (suc i) ≡ open_at mates i + 1
    open_left h =
        count_yes (opened mates (suc i)) i (opened_yes (suc i) i h) ∙ ap (λ (k : ℕ). k + 1) (open_same (omega arith))

    pub open_none : nth mates i ≡ i → open_at mates (suc i) ≡ open_at mates i
    open_none h = count_no (opened mates (suc i)) i (opened_no (suc i) i (omega arith)) ∙ open_same (omega arith)

    pub open_right : nth mates i < i → open_at mates i ≡ open_at mates (suc i) + 1
    open_right h =
        count_less i (nth mates i) (opened mates i) (opened mates (suc i)) h
        (opened_yes i (nth mates i) (omega (arith, P i l)))
        (opened_no (suc i) (nth mates i) (omega (arith, P i l)))
        (λ a k n. opened_on i a (λ e. n (sym (P a (omega arith)) ∙ ap (nth mates) e)))
        ∙ ap (λ (k : ℕ). k + 1) (sym (count_no (opened mates (suc i)) i (opened_no (suc i) i (omega arith))))

  -- ---- the arcs open at i are a chain

  pub open_chain : Nested (nth mates) (length mates) → (i : ℕ) → i ≤ length mates → Chain mates (open_at mates i) (nth (select i (opened mates i)))
  open_chain N i h = record { arc = arc; inside = inside }
    where
      left : ℕ → ℕ
      left = nth (select i (opened mates i))

      S : Selected i (opened mates i) (select i (opened mates i))
      S = selected i (opened mates i)

      arc : (x : ℕ) → x < open_at mates i → Begins mates (left x)
      arc x l = let y = S.each x l in let z = opened_is i (left x) y.1 in (omega (arith, y.0), omega (arith, y.0))

      inside : (x : ℕ) → suc x < open_at mates i → (left x < left (suc x)) × (nth mates (left (suc x)) < nth mates (left x))
      inside x l = (rise, go (dec_lt (nth mates b) (nth mates a)) (dec_lt (nth mates a) (nth mates b)))
        where
          a : ℕ
          a = left x

          b : ℕ
          b = left (suc x)

          rise : a < b
          rise = S.rising x (suc x) (omega arith) l

          bi : b < i
          bi = (S.each (suc x) l).0

          ia : i ≤ nth mates a
          ia = opened_is i a (S.each x (omega arith)).1

          go : Dec (nth mates b < nth mates a) → Dec (nth mates a < nth mates b) → nth mates b < nth mates a
          go (yes u) v = u
          go (no u) (yes v) = absurd (N.apart a b (omega (arith, bi)) rise (omega (arith, bi, ia)) v)
          go (no u) (no v) =
              let e : nth mates a ≡ nth mates b = omega arith in
              absurd (omega (arith, rise, bi, N.paired a (omega (arith, rise, bi)), N.paired b (omega (arith, bi)), ap (nth mates) e))

  -- ---- no chain is longer than the most that are open

  module _ (k : ℕ) (left : ℕ → ℕ) (C : Chain mates k left) where
    chain_down : (x d : ℕ) → x + d < k → nth mates (left (x + d)) ≤ nth mates (left x)
    chain_down x zero h = let i : x + 0 ≡ x = omega arith in rw i (omega arith)
    chain_down x (suc d) h =
        let i : x + suc d ≡ suc (x + d) = omega arith in
        let r = chain_down x d (omega arith) in
        let s = C.inside (x + d) (omega arith) in
        rw i (omega arith)

    pub chain_bound : (d : ℕ) → ((j : ℕ) → j ≤ length mates → open_at mates j ≤ d) → k ≤ d
    chain_bound d h = go k refl
      where
        go : (y : ℕ) → y ≡ k → k ≤ d
        go zero e = omega arith
        go (suc y) e =
            let yk : y < k = omega arith in
            let last = C.arc y yk in
            let past : (x : ℕ) → x < k → opened mates (suc (left y)) (left x) ≡ true = λ x l.
            let i : x + (y - x) ≡ y = omega arith in
            opened_yes (suc (left y)) (left x) (omega (arith, rw i at (chain_down x (y - x) (omega arith)), last.1)) in
            let c = rising_counts (opened mates (suc (left y))) k left past (λ x l. (C.inside x l).0) y yk in
            omega (arith, c, h (suc (left y)) (omega (arith, last.0)))
