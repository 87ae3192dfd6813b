-- The bounds of the starts, as the code writes them base by base, and bounds that hold for every start.
use Prim.Native.Nat.{ℕ, zero, suc, ◌+◌, ◌-◌, ◌*◌, ◌≤◌, ◌<◌}
use mathlib.Core.Path.{◌≡◌, refl, sym, ap, ◌∙◌}
use mathlib.Core.Bool.{Bool, true, false}
use mathlib.Core.List.{List}
use native.Mathlib.Decide.{dec_lt, ℕ_discrete}
use native.Mathlib.Omega.{arith}
use lib.Dec.{ltb}
use lib.ListN.{length, set}
use borrow.Author.Tests.{lt-ltb, le-ltb}
use Rattle.lists.specs.Vocabulary.{nth, choose}
use Rattle.lists.proofs.ListLaws.{choose_yes, choose_no}
use Rattle.embedding.specs.Row.{IsRow}
use Rattle.embedding.specs.Embedding.{letters_fit}
use Rattle.rows.specs.Rows.{Written, Tables, bound_at, last_at}
use Rattle.rows.proofs.Pass.{pass_none, pass_set}
use Rattle.rows.proofs.TableLaws.{tables_kept}
use Rattle.arcs.specs.Arcs.{Bounded, AllStarts, RowOf}

-- The bound after base i, from that before it.
abbrev pub next_bound : (ℕ → ℕ → Bool) → ℕ → ℕ → ℕ → ℕ
next_bound fit m u i = choose (ltb u m) (choose (fit u i) (u + 1) u) u

-- Its three cases.
module _ (u m : ℕ) (b : Bool) where
  pub next_all : m ≤ u → u ≡ choose (ltb u m) (choose b (u + 1) u) u
  next_all h = sym (choose_no (ltb u m) (choose b (u + 1) u) u (le-ltb u m h))

  pub next_taken : u < m → b ≡ true → u + 1 ≡ choose (ltb u m) (choose b (u + 1) u) u
  next_taken h e = sym (choose_yes (ltb u m) (choose b (u + 1) u) u (lt-ltb u m h) ∙ choose_yes b (u + 1) u e)

  pub next_left : u < m → b ≡ false → u ≡ choose (ltb u m) (choose b (u + 1) u) u
  next_left h e = sym (choose_yes (ltb u m) (choose b (u + 1) u) u (lt-ltb u m h) ∙ choose_no b (u + 1) u e)

rises : (a b : Bool) (u : ℕ) → u ≤ choose a (choose b (u + 1) u) u
unfolding choose
rises true true u = omega arith
rises true false u = omega arith
rises false true u = omega arith
rises false false u = omega arith

one_more : (b : Bool) (u : ℕ) → choose b (u + 1) u ≤ u + 1
unfolding choose
one_more true u = omega arith
one_more false u = omega arith

module _ (fit : ℕ → ℕ → Bool) (m u i : ℕ) where
  next_rise : u ≤ next_bound fit m u i
  next_rise = rises (ltb u m) (fit u i) u

  next_small : u ≤ m → next_bound fit m u i ≤ m
  next_small h = elim (dec_lt u m) [
    | yes l ↦ rw (choose_yes (ltb u m) (choose (fit u i) (u + 1) u) u (lt-ltb u m l)) (omega (arith, one_more (fit u i) u))
    | no l ↦ rw (choose_no (ltb u m) (choose (fit u i) (u + 1) u) u (le-ltb u m (omega arith))) h
  ]

  next_step : (j : ℕ) → j < m → j ≤ u → fit j i ≡ true → j < next_bound fit m u i
  next_step j l h t = elim (ℕ_discrete j u) [
    | yes e ↦
        let w : fit u i ≡ true = ap (λ (x : ℕ). fit x i) (sym e) ∙ t in
        let v : ltb u m ≡ true = lt-ltb u m (omega arith) in
        omega (arith, choose_yes (ltb u m) (choose (fit u i) (u + 1) u) u v, choose_yes (fit u i) (u + 1) u w)
    | no e ↦ omega (arith, next_rise)
  ]

-- The bound d bases after lo, where it is `from` at lo.
unfoldable pub climbed : (ℕ → ℕ → Bool) → ℕ → ℕ → ℕ → ℕ → ℕ
climbed fit m from lo zero = from
climbed fit m from lo (suc d) = next_bound fit m (climbed fit m from lo d) (lo + d)

module _ (fit : ℕ → ℕ → Bool) (m from lo : ℕ) where
  pub climbed_small : from ≤ m → (d : ℕ) → climbed fit m from lo d ≤ m
  unfolding climbed
  climbed_small h zero = h
  climbed_small h (suc d) = next_small fit m (climbed fit m from lo d) (lo + d) (climbed_small h d)

  pub climbed_start : climbed fit m from lo 0 ≡ from
  unfolding climbed
  climbed_start = refl

  pub climbed_next : (d : ℕ) → climbed fit m from lo (suc d) ≡ next_bound fit m (climbed fit m from lo d) (lo + d)
  unfolding climbed
  climbed_next d = refl

-- The loop has come to base i: the bounds before it are written, and `bound` is the one there.
pub record Climbing (p q : List ℕ) (from lo hi : ℕ) (old new : List ℕ) (bound i : ℕ) : Type 0 where
  pub low : lo ≤ i
  pub high : i ≤ hi
  pub here : bound ≡ climbed (letters_fit p q) (length p) from lo (i - lo)
  pub written : Written (λ k. climbed (letters_fit p q) (length p) from lo (k - (5 * (length p + 1) + lo))) old new (5 * (length p + 1) + lo)
      (5 * (length p + 1) + i)

module _ {p q : List ℕ} {from lo hi : ℕ} where
  pub climbing_start : (old : List ℕ) → lo ≤ hi → Climbing p q from lo hi old old from lo
  climbing_start old h =
      record {
        low = omega arith;
        high = h;
        here = let e : lo - lo ≡ 0 = omega arith in rw e (sym (climbed_start (letters_fit p q) (length p) from lo));
        written = pass_none _ old (5 * (length p + 1) + lo);
      }

  module _ {old new : List ℕ} {bound i : ℕ} (C : Climbing p q from lo hi old new bound i) where
    pub climbing_small : from ≤ length p → bound ≤ length p
    climbing_small h = omega (arith, C.here, climbed_small (letters_fit p q) (length p) from lo h (i - lo))

    -- The bound at i is written.
    pub climbing_put : 5 * (length p + 1) + i < length old
        → Written (λ k. climbed (letters_fit p q) (length p) from lo (k - (5 * (length p + 1) + lo))) old (set new (5 * (length p + 1) + i) bound)
        (5 * (length p + 1) + lo) (5 * (length p + 1) + i + 1)
    climbing_put room =
        let e : 5 * (length p + 1) + i - (5 * (length p + 1) + lo) ≡ i - lo = omega arith in
        pass_set _ old new (5 * (length p + 1) + lo) (5 * (length p + 1) + i) bound C.written (omega (arith, C.low)) room
        (C.here ∙ ap (climbed (letters_fit p q) (length p) from lo) (sym e))

    pub climbing_step : 5 * (length p + 1) + i < length old → i < hi → (next : ℕ) → next ≡ next_bound (letters_fit p q) (length p) bound i
        → Climbing p q from lo hi old (set new (5 * (length p + 1) + i) bound) next (i + 1)
    climbing_step room l next e =
        let t : i + 1 - lo ≡ suc (i - lo) = omega (arith, C.low) in
        let v : lo + (i - lo) ≡ i = omega (arith, C.low) in
        let a : 5 * (length p + 1) + (i + 1) ≡ 5 * (length p + 1) + i + 1 = omega arith in
        record {
          low = omega (arith, C.low);
          high = omega arith;
          here = e ∙ ap (λ (u : ℕ). next_bound (letters_fit p q) (length p) u i) C.here
              ∙ ap (next_bound (letters_fit p q) (length p) (climbed (letters_fit p q) (length p) from lo (i - lo))) (sym v)
              ∙ sym (climbed_next (letters_fit p q) (length p) from lo (i - lo)) ∙ ap (climbed (letters_fit p q) (length p) from lo) (sym t);
          written = rw a (climbing_put room);
        }

    -- The motif's own rows stay where the bound at i is written.
    pub climbing_tables : {pm : List ℕ} → 5 * (length p + 1) + i < length old → Tables p pm old → Tables p pm (set new (5 * (length p + 1) + i) bound)
    climbing_tables room T = tables_kept T (climbing_put room).long (λ k h. (climbing_put room).under k (omega arith))

    -- At hi, where the last bound is written.
    pub climbing_end : hi ≤ i → 5 * (length p + 1) + hi < length old
        → (bound ≡ climbed (letters_fit p q) (length p) from lo (hi - lo))
        × Written (λ k. climbed (letters_fit p q) (length p) from lo (k - (5 * (length p + 1) + lo))) old (set new (5 * (length p + 1) + hi) bound)
        (5 * (length p + 1) + lo) (5 * (length p + 1) + hi + 1)
    climbing_end h room =
        let e : i ≡ hi = omega (arith, C.high) in
        (rw (← e) C.here, rw (← e) (climbing_put (omega arith)))

-- All bounds from lo to hi are written.
module _ (p q : List ℕ) (from lo hi : ℕ) {old new : List ℕ}
    (W : Written (λ k. climbed (letters_fit p q) (length p) from lo (k - (5 * (length p + 1) + lo))) old new
    (5 * (length p + 1) + lo) (5 * (length p + 1) + hi + 1)) where
  bound_is : (i : ℕ) → lo ≤ i → i ≤ hi → bound_at (length p) new i ≡ climbed (letters_fit p q) (length p) from lo (i - lo)
  unfolding bound_at
  bound_is i a b =
      let e : 5 * (length p + 1) + i - (5 * (length p + 1) + lo) ≡ i - lo = omega arith in
      W.done (5 * (length p + 1) + i) (omega arith) (omega arith) ∙ ap (climbed (letters_fit p q) (length p) from lo) e

  bound_next : (i : ℕ) → lo ≤ i → i < hi → bound_at (length p) new (suc i) ≡ next_bound (letters_fit p q) (length p) (bound_at (length p) new i) i
  bound_next i a b =
      let t : suc i - lo ≡ suc (i - lo) = omega arith in
      let v : lo + (i - lo) ≡ i = omega arith in
      bound_is (suc i) (omega arith) b ∙ ap (climbed (letters_fit p q) (length p) from lo) t ∙ climbed_next (letters_fit p q) (length p) from lo (i - lo)
      ∙ ap (next_bound (letters_fit p q) (length p) (climbed (letters_fit p q) (length p) from lo (i - lo))) v
      ∙ ap (λ (u : ℕ). next_bound (letters_fit p q) (length p) u i) (sym (bound_is i a (omega arith)))

  pub filled_bounds : lo ≤ hi → 5 * (length p + 1) + hi < length old → Bounded p q new from (length p) lo hi
  filled_bounds h room =
      let e : lo - lo ≡ 0 = omega arith in
      record {
        room = omega (arith, W.long);
        start = omega (
          arith,
          bound_is lo (omega arith) h,
          ap (climbed (letters_fit p q) (length p) from lo) e,
          climbed_start (letters_fit p q) (length p) from lo,
        );
        bounds = record {
          rise = λ i a b. omega (arith, bound_next i a b, next_rise (letters_fit p q) (length p) (bound_at (length p) new i) i);
          step = λ i j a b c d t. omega (arith, bound_next i a b, next_step (letters_fit p q) (length p) (bound_at (length p) new i) i j c d t);
        };
      }

  pub filled_last : (bound : ℕ) → lo ≤ hi → bound ≡ climbed (letters_fit p q) (length p) from lo (hi - lo) → bound ≡ bound_at (length p) new hi
  filled_last bound h e = e ∙ sym (bound_is hi h (omega arith))

-- The motif's length as every bound.
pub starts_written : {p pm old new : List ℕ} {n : ℕ} → Tables p pm old → 5 * (length p + 1) + n < length old
    → Written (λ k. length p) old new (5 * (length p + 1)) (5 * (length p + 1) + n + 1) → AllStarts p pm n new
unfolding bound_at
starts_written {p} T room W =
    record {
      motif = tables_kept T W.long (λ k l. W.under k l);
      room = omega (arith, W.long);
      all = λ i l. W.done (5 * (length p + 1) + i) (omega arith) (omega arith);
    }

-- Such bounds serve every segment and every stretch.
pub starts_bounded : {p pm q tables : List ℕ} {from to : ℕ} → AllStarts p pm (length q) tables → from ≤ to → to ≤ length p
    → (lo hi : ℕ) → lo ≤ hi → hi ≤ length q → Bounded p q tables from to lo hi
starts_bounded T a b lo hi c d =
    record {
      room = omega (arith, T.room);
      start = omega (arith, T.all lo (omega arith));
      bounds = record {
        rise = λ i x y. omega (arith, T.all i (omega arith), T.all (suc i) (omega arith));
        step = λ i j x y l u t. omega (arith, T.all (suc i) (omega arith));
      };
    }

-- A row under such bounds has every start of its segment.
pub starts_row : {p pm q qm tables : List ℕ} {from to lo hi : ℕ} {work : List ℕ} → AllStarts p pm (length q) tables → to ≤ length p → lo ≤ length q
    → RowOf p pm q qm tables from to lo hi work → IsRow (letters_fit p q) (nth pm) (nth qm) from to to lo hi (nth work)
starts_row {p} {pm} {q} {qm} {tables} {from} {to} {lo} T h l R =
    let e : last_at (length p) tables to lo ≡ to = omega (arith, T.all lo l) in
    rw e at R.is
