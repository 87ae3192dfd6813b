-- Nesting by levels. A name decides the sum of a base and its mate, and its level; so where each base has the name that was told at its place, mates are
-- mutual, and as many arcs are open before each arc as behind it. Then no arc is crossed: by rising right ends, no arc from before one ends in it, since
-- that arc closes, and none from inside ends behind it, since it would be open there besides. Conversely in nested mates the arcs open on both sides are
-- the same, and each place is told a name by its mate alone.
use mathlib.Core.Path.{◌≡◌, refl, sym, ap, ◌∙◌}
use mathlib.Core.Bool.{true}
use mathlib.Core.List.{List}
use Prim.Native.Nat.{ℕ, zero, suc, ◌+◌, ◌*◌, ◌≤◌, ◌<◌}
use native.Mathlib.Omega.{arith}
use native.Mathlib.Decide.{dec_lt, dec_le, ℕ_discrete}
use lib.ListN.{length}
use borrow.Author.Tests.{lt-ltb, le-ltb, eqb-true}
use Rattle.lists.specs.Vocabulary.{nth, tab, select, same_list}
use Rattle.lists.proofs.ListLaws.{both_ways, every_at, length_tab, nth_tab, same_eq, same_all, select_short}
use Rattle.lists.proofs.Counts.{count, count_yes, count_no, count_ext, count_same, none_more}
use Rattle.strand.specs.Folds.{begins}
use Rattle.strand.specs.Strands.{is_nested, Inside, Paired, Nested, greatest_length}
use Rattle.strand.specs.Nesting.{Closes}
use Rattle.strand.specs.Levels.{unbonded, ends, level_at, name_step, name_at, NamesTold}
use Rattle.strand.proofs.NestingLaws.{closes_apart, apart_closes}
use Rattle.strand.proofs.VerdictLaws.{nested_yes, nested_test}
use Rattle.strand.proofs.FoldLaws.{opened, open_at, opened_yes, opened_no, open_left, open_none, open_right}

-- ---- arcs begun and ended

module _ (mates : List ℕ) where
  pub begun_yes : (i : ℕ) → i < nth mates i → count (suc i) (begins mates) ≡ count i (begins mates) + 1
  begun_yes i h = count_yes (begins mates) i (unfold begins in (lt-ltb i (nth mates i) h))

  pub begun_no : (i : ℕ) → nth mates i ≤ i → count (suc i) (begins mates) ≡ count i (begins mates)
  begun_no i h = count_no (begins mates) i (unfold begins in (le-ltb i (nth mates i) h))

  pub ended_yes : (i : ℕ) → nth mates i < i → count (suc i) (ends mates) ≡ count i (ends mates) + 1
  ended_yes i h = count_yes (ends mates) i (unfold ends in (lt-ltb (nth mates i) i h))

  pub ended_no : (i : ℕ) → i ≤ nth mates i → count (suc i) (ends mates) ≡ count i (ends mates)
  ended_no i h = count_no (ends mates) i (unfold ends in (le-ltb (nth mates i) i h))

  -- The base 0 ends no arc, so of the bases up to i at most i do.
  pub ended_short : (i : ℕ) → count (suc i) (ends mates) ≤ i
  ended_short zero = omega (arith, ended_no 0 (omega arith), select_short (ends mates) 0)
  ended_short (suc i) = elim (dec_lt (nth mates (suc i)) (suc i)) [
    | yes h ↦ omega (arith, ended_short i, ended_yes (suc i) h)
    | no h ↦ omega (arith, ended_short i, ended_no (suc i) (omega arith))
  ]

  -- ---- levels and names

  pub level_low : (i : ℕ) → i < length mates → 1 ≤ level_at mates i
  unfolding level_at
  level_low i l = omega (arith, ended_short i)

  pub level_high : (i : ℕ) → i < length mates → level_at mates i ≤ 2 * length mates
  unfolding level_at
  level_high i l = omega (arith, select_short (begins mates) i)

  name_splits : (s t a b : ℕ) → a < name_step → b < name_step → name_step * s + a ≡ name_step * t + b → (s ≡ t) × (a ≡ b)
  name_splits s t a b u v e = (omega arith, omega arith)

  module _ (short : length mates ≤ greatest_length) where
    -- Two bases of one name.
    pub same_name : (i y : ℕ) → i < length mates → y < length mates → name_at mates i ≡ name_at mates y
        → (i + nth mates i ≡ y + nth mates y) × (level_at mates i ≡ level_at mates y)
    unfolding name_at
    same_name i y l k e =
        name_splits (i + nth mates i) (y + nth mates y) (level_at mates i) (level_at mates y) (omega (arith, level_high i l)) (omega (arith, level_high y k)) e

  -- ---- in mutual mates the level counts the arcs that are open

  module _ (P : Paired (nth mates) (length mates)) where
    begun_open : (i : ℕ) → i ≤ length mates → count i (begins mates) ≡ open_at mates i + count i (ends mates)
    begun_open zero h = unfold select in refl
    begun_open (suc i) h = go (begun_open i (omega arith)) (dec_lt i (nth mates i)) (dec_lt (nth mates i) i)
      where
        go : count i (begins mates) ≡ open_at mates i + count i (ends mates) → Dec (i < nth mates i) → Dec (nth mates i < i)
            → count (suc i) (begins mates) ≡ open_at mates (suc i) + count (suc i) (ends mates)
        go r (yes a) b = omega (arith, begun_yes i a, ended_no i (omega arith), open_left mates P i h a)
        go r (no a) (yes b) = omega (arith, begun_no i (omega arith), ended_yes i b, open_right mates P i h b)
        go r (no a) (no b) = omega (arith, begun_no i (omega arith), ended_no i (omega arith), open_none mates P i h (omega arith))

    level_before : (i : ℕ) → i < length mates → i ≤ nth mates i → level_at mates i ≡ length mates + open_at mates i
    unfolding level_at
    level_before i l h = omega (arith, begun_open i (omega arith), ended_no i h)

    level_behind : (i : ℕ) → i < length mates → nth mates i < i → level_at mates i ≡ length mates + open_at mates (suc i)
    unfolding level_at
    level_behind i l h = omega (arith, begun_open (suc i) l, begun_no i (omega arith))

-- ---- one arc, where those that end before it close

module _ (mates : List ℕ) (I : Inside (nth mates) (length mates)) (P : Paired (nth mates) (length mates)) (a : ℕ) (al : a < length mates)
    (l : a < nth mates a)
    (before : (x : ℕ) → x < length mates → x < nth mates x → nth mates x < nth mates a → Closes (nth mates) x) where
  -- No arc from before a ends in it.
  outside : (x : ℕ) → x < a → a ≤ nth mates x → nth mates x ≤ nth mates a → ⊥
  outside x xa lo hi = go (ℕ_discrete (nth mates x) a) (ℕ_discrete (nth mates x) (nth mates a))
    where
      xl : x < length mates
      xl = omega arith

      go : Dec (nth mates x ≡ a) → Dec (nth mates x ≡ nth mates a) → ⊥
      go (yes e) d = omega (arith, P x xl, ap (nth mates) e)
      go (no e) (yes d) = omega (arith, P x xl, ap (nth mates) d, P a al)
      go (no e) (no d) = omega (arith, (before x xl (omega arith) (omega arith) a xa (omega arith)).1)

  -- So of the arcs from before a those open at a are those open behind it.
  same_open : count a (opened mates a) ≡ count a (opened mates (suc (nth mates a)))
  same_open = count_ext a (opened mates a) (opened mates (suc (nth mates a))) (λ x xa. elim (dec_lt (nth mates x) a) [
    | yes u ↦ opened_no mates a x u ∙ sym (opened_no mates (suc (nth mates a)) x (omega arith))
    | no u ↦ elim (dec_le (nth mates x) (nth mates a)) [
      | yes v ↦ absurd (outside x xa (omega arith) v)
      | no v ↦ opened_yes mates a x (omega arith) ∙ sym (opened_yes mates (suc (nth mates a)) x (omega arith))
    ]
  ])

  -- Where it closes as well, no arc from inside is open behind it: as many are open as before.
  closed_level : Closes (nth mates) a → open_at mates a ≡ open_at mates (suc (nth mates a))
  closed_level C =
      same_open ∙ sym (count_same (opened mates (suc (nth mates a))) a (suc (nth mates a)) (omega arith)
      (λ u lo hi. opened_no mates (suc (nth mates a)) u (ends_by u lo (omega arith))))
    where
      ends_by : (u : ℕ) → a ≤ u → u ≤ nth mates a → nth mates u < suc (nth mates a)
      ends_by u lo hi = go (ℕ_discrete u a) (ℕ_discrete u (nth mates a))
        where
          go : Dec (u ≡ a) → Dec (u ≡ nth mates a) → nth mates u < suc (nth mates a)
          go (yes e) d = omega (arith, ap (nth mates) e)
          go (no e) (yes d) = omega (arith, ap (nth mates) d, P a al)
          go (no e) (no d) = omega (arith, (C u (omega arith) (omega arith)).1)

  -- And conversely: where as many are open, none from inside ends behind it.
  level_closes : open_at mates a ≡ open_at mates (suc (nth mates a)) → Closes (nth mates) a
  level_closes level u lo hi = (lower (dec_lt (nth mates u) a) (ℕ_discrete (nth mates u) a), upper (ℕ_discrete (nth mates u) (nth mates a)))
    where
      ul : u < length mates
      ul = omega (arith, I a al)

      back : nth mates (nth mates u) ≡ u
      back = P u ul

      lower : Dec (nth mates u < a) → Dec (nth mates u ≡ a) → a < nth mates u
      lower (yes v) d = absurd (outside (nth mates u) v (omega (arith, back)) (omega (arith, back)))
      lower (no v) (yes d) = absurd (omega (arith, back, ap (nth mates) d))
      lower (no v) (no d) = omega arith

      within : nth mates u ≤ nth mates a
      within = elim (dec_le (nth mates u) (nth mates a)) [
        | yes v ↦ v
        | no v ↦
            absurd (none_more (opened mates (suc (nth mates a))) a (suc (nth mates a)) u (omega arith) (omega arith) (sym same_open ∙ level)
            (opened_yes mates (suc (nth mates a)) u (omega arith)))
      ]

      upper : Dec (nth mates u ≡ nth mates a) → nth mates u < nth mates a
      upper (yes d) = absurd (omega (arith, back, ap (nth mates) d, P a al))
      upper (no d) = omega (arith, within)

-- ---- all arcs

module _ (mates : List ℕ) where
  -- Arcs by rising right end.
  levels_close : Inside (nth mates) (length mates) → Paired (nth mates) (length mates)
      → ((a : ℕ) → a < length mates → a < nth mates a → open_at mates a ≡ open_at mates (suc (nth mates a)))
      → (k : ℕ) → k < length mates → Closes (nth mates) k
  levels_close I P level k l u v w = to (suc (nth mates k)) k l (omega arith) (omega arith) u v w
    where
      to : (n a : ℕ) → a < length mates → a < nth mates a → nth mates a < n → Closes (nth mates) a
      to zero a al h m = absurd (omega arith)
      to (suc n) a al h m = level_closes mates I P a al h (λ x xl xh xm. to n x xl xh (omega arith)) (level a al h)

  -- The levels of the two ends of each arc are equal: the mates are nested.
  pub levels_nested : Inside (nth mates) (length mates) → Paired (nth mates) (length mates)
      → ((i : ℕ) → i < length mates → level_at mates i ≡ level_at mates (nth mates i)) → Nested (nth mates) (length mates)
  levels_nested I P same =
      record { inside = I; paired = P; apart = closes_apart (nth mates) (length mates) (levels_close I P level) }
    where
      level : (a : ℕ) → a < length mates → a < nth mates a → open_at mates a ≡ open_at mates (suc (nth mates a))
      level a l h =
          omega (arith, same a l, level_before mates P a l (omega arith), level_behind mates P (nth mates a) (I a l) (omega (arith, P a l)))

  -- And conversely.
  pub nested_levels : Nested (nth mates) (length mates) → (i : ℕ) → i < length mates → level_at mates i ≡ level_at mates (nth mates i)
  nested_levels N i l = go (dec_lt i (nth mates i)) (dec_lt (nth mates i) i)
    where
      closes : (k : ℕ) → k < length mates → Closes (nth mates) k
      closes = apart_closes (nth mates) (length mates) N.inside N.paired N.apart

      arc : (a : ℕ) → a < length mates → a < nth mates a → level_at mates a ≡ level_at mates (nth mates a)
      arc a al h =
          omega (
            arith,
            closed_level mates N.inside N.paired a al h (λ x xl xh xm. closes x xl) (closes a al),
            level_before mates N.paired a al (omega arith),
            level_behind mates N.paired (nth mates a) (N.inside a al) (omega (arith, N.paired a al)),
          )

      go : Dec (i < nth mates i) → Dec (nth mates i < i) → level_at mates i ≡ level_at mates (nth mates i)
      go (yes h) d = arc i l h
      go (no h) (yes d) = sym (arc (nth mates i) (N.inside i l) (omega (arith, N.paired i l)) ∙ ap (level_at mates) (N.paired i l))
      go (no h) (no d) = ap (level_at mates) (let e : i ≡ nth mates i = omega arith in e)

-- ---- names

module _ (mates own told : List ℕ) (I : Inside (nth mates) (length mates)) (short : length mates ≤ greatest_length)
    (named : own ≡ tab (length mates) (name_at mates)) (T : NamesTold mates (length mates) told) where
  own_at : (i : ℕ) → i < length mates → nth own i ≡ name_at mates i
  own_at i l = rw named (nth_tab (name_at mates) (length mates) i l)

  -- Where each base has the name that was told at its place, a base of that name has its mate there: by the sums it is the base's mate.
  module _ (same : own ≡ told) where
    by_mate : (i : ℕ) → i < length mates → (nth mates (nth mates i) ≡ i) × (level_at mates i ≡ level_at mates (nth mates i))
    by_mate i l = (ap (nth mates) is_mate ∙ y.2, named_alike.1 ∙ ap (level_at mates) (sym is_mate))
      where
        told_at : nth told i ≡ name_at mates i
        told_at = ap (λ (s : List ℕ). nth s i) (sym same) ∙ own_at i l

        name_low : 1 ≤ name_at mates i
        name_low = unfold name_at in (omega (arith, level_low mates i l))

        y : (y : ℕ) × (y < length mates) × (nth mates y ≡ i) × (nth told i ≡ name_at mates y)
        y = T.put_by i (omega (arith, told_at, name_low))

        named_alike : (i + nth mates i ≡ y.0 + nth mates y.0) × (level_at mates i ≡ level_at mates y.0)
        named_alike = same_name mates short i y.0 l y.1 (sym told_at ∙ y.3)

        is_mate : nth mates i ≡ y.0
        is_mate = omega (arith, named_alike.0, y.2)

    named_nested : Nested (nth mates) (length mates)
    named_nested = levels_nested mates I (λ i l. (by_mate i l).0) (λ i l. (by_mate i l).1)

  -- In nested mates each place is told a name by its mate alone, and by one of the same sum and level.
  nested_named : Nested (nth mates) (length mates) → (i : ℕ) → i < length mates → nth own i ≡ nth told i
  nested_named N i l = own_at i l ∙ alike ∙ sym told_at
    where
      back : nth mates (nth mates i) ≡ i
      back = N.paired i l

      alone : (z : ℕ) → z < length mates → nth mates z ≡ nth mates (nth mates i) → z ≡ nth mates i
      alone z k e = sym (N.paired z k) ∙ ap (nth mates) (e ∙ back)

      told_at : nth told i ≡ name_at mates (nth mates i)
      told_at = ap (nth told) (sym back) ∙ T.put_at_lem (nth mates i) (I i l) alone

      alike : name_at mates i ≡ name_at mates (nth mates i)
      alike = unfold name_at in (omega (arith, back, nested_levels mates N i l))

  pub names_nested : same_list own told ≡ is_nested mates
  names_nested = both_ways (same_list own told) (is_nested mates) (λ e. nested_test mates (named_nested (same_eq own told e))) (λ e. alike (nested_yes mates e))
    where
      long : length own ≡ length mates
      long = ap length named ∙ length_tab (name_at mates) (length mates)

      alike : Nested (nth mates) (length mates) → same_list own told ≡ true
      alike N = same_all own told (long ∙ sym T.long) (λ i l. nested_named N i (omega (arith, long)))

-- ---- mates without a bond

pub unbonded_nested : (mates : List ℕ) → unbonded mates ≡ true → is_nested mates ≡ true
unfolding unbonded
unbonded_nested mates e =
    nested_test mates
    (record {
      inside = λ i l. omega (arith, own_mate i l);
      paired = λ i l. ap (nth mates) (own_mate i l) ∙ own_mate i l;
      apart = λ a i l u v w. omega (arith, own_mate a (omega arith));
    })
  where
    own_mate : (i : ℕ) → i < length mates → nth mates i ≡ i
    own_mate i l = eqb-true _ _ (every_at _ (length mates) i e l)
