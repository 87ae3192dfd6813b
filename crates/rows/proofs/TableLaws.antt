-- The tables of a motif: where the row of a base starts, that the passes which fill the tables make them, and what a base's row says in a segment that
-- ends before the motif does.
use mathlib.Core.Path.{◌≡◌, refl, sym, ap, ap₂, subst, fun_ext, ◌∙◌}
use mathlib.Core.Bool.{Bool, true, false}
use mathlib.Core.List.{List}
use Prim.Native.Nat.{ℕ, ◌+◌, ◌-◌, ◌*◌, ◌/◌, ◌%◌, ◌≤◌, ◌<◌, min}
use native.Mathlib.Decide.{dec_lt}
use native.Mathlib.Nat.{mul-le-mul_left}
use native.Mathlib.Omega.{arith}
use Rattle.std.specs.Int.{from_bool}
use lib.Dec.{eqb}
use lib.ListN.{length}
use borrow.Author.Tests.{eq-eqb, ne_eqb}
use Rattle.lists.specs.Vocabulary.{nth, choose}
use Rattle.lists.proofs.ListLaws.{choose_yes, choose_no}
use Rattle.letters.specs.Letters.{is_letter}
use Rattle.letters.specs.Classes.{letter_class}
use Rattle.letters.proofs.LetterLaws.{by_letter, match_class, match_t, class_byte}
use Rattle.refusals.specs.Rules.{molecule_side}
use Rattle.embedding.specs.Row.{unit_at, over_at, over_by}
use Rattle.rows.specs.Rows.{Written, Tables, Steps, classes_at, steps_at, matches}
use Rattle.rows.proofs.Pass.{pass_end}
use Rattle.rows.proofs.Parts.{part, part_at, part_length}
use Rattle.embedding.proofs.Entries.{unit_end, unit_small, unit_from, unit_next, unit_segment, by_over}

-- Where a base's row starts: past the classes, with room for the row behind it.
module _ (m : ℕ) where
  pub row_below : (x : ℕ) → x < 4 → (m + 1) * (1 + x) ≤ 4 * (m + 1)
  row_below x h = let l : 1 + x ≤ 4 = omega arith in omega (arith, mul-le-mul_left (m + 1) l)

  pub steps_within : (b : ℕ) → steps_at m b ≤ 4 * (m + 1)
  unfolding steps_at
  steps_within b = row_below (b / 2 % 4) (omega arith)

  steps_a : steps_at m 65 ≡ m + 1
  unfolding steps_at
  steps_a = omega arith

  steps_c : steps_at m 67 ≡ 2 * (m + 1)
  unfolding steps_at
  steps_c = omega arith

  steps_u : steps_at m 85 ≡ 3 * (m + 1)
  unfolding steps_at
  steps_u = omega arith

  -- T reads as U: it has U's row.
  steps_t : steps_at m 84 ≡ steps_at m 85
  unfolding steps_at
  steps_t = refl

  steps_g : steps_at m 71 ≡ 4 * (m + 1)
  unfolding steps_at
  steps_g = omega arith

-- The letters of the tables match by their classes: those of a position and of its mate, against a base x of the class c.
module _ {p pm tables : List ℕ} (T : Tables p pm tables) (j x c : ℕ) (l : j < length p) (e : c ≡ letter_class x) where
  pub own_match : eqb (nth tables j % 256) c ≡ matches p x j
  own_match = rw (T.own j l, e) (sym (match_class (nth p j) x))

  pub mate_match : eqb (nth tables j / 256) c ≡ matches p x (nth pm j)
  mate_match = rw (T.mate j l, e) (sym (match_class (nth p (nth pm j)) x))

-- What an arc takes with its left end, from the classes of the letters: cx and cy are those of its bases.
pub over_known : {p pm tables : List ℕ} (x y cx cy z next j o : ℕ) → j < z → z ≤ length p → Tables p pm tables → cx ≡ letter_class x → cy ≡ letter_class y
    → o ≡ over_by (eqb (nth tables j % 256) cx) (eqb (nth tables j / 256) cy) (nth pm j) z next j → o ≡ over_at (matches p x) (matches p y) (nth pm) z next j
over_known {p} {pm} x y cx cy z next j o a b T ex ey e =
    e ∙ ap₂ (λ (c d : Bool). over_by c d (nth pm j) z next j) (own_match T j x cx (omega arith) ex) (mate_match T j y cy (omega arith) ey)
    ∙ by_over (matches p x) (matches p y) (nth pm) z next j a

-- The row of the base b, as the part of the tables from its start on, in a segment that ends at `to`.
module _ (p pm tables : List ℕ) (b at to : ℕ) (T : Tables p pm tables) (L : is_letter molecule_side b ≡ true) (e : at ≡ steps_at (length p) b)
    (le : to ≤ length p) where
  room : at + length p < length tables
  room = omega (arith, T.long, steps_within (length p) b)

  entry : (k : ℕ) → k ≤ length p → nth (part at tables) k ≡ unit_at (matches p b) (nth pm) (length p) k
  entry k h = part_at at tables (omega (arith, room)) k ∙ ap (λ (i : ℕ). nth tables (i + k)) e ∙ T.step b L k h

  pub steps_of : Steps (part at tables) to
  steps_of = record {
    long = omega (arith, room, part_length at tables (omega (arith, room)));
    low = λ k h. omega (arith, entry k (omega arith), unit_from (matches p b) (nth pm) (length p) k);
    high = λ k h. omega (arith, entry k (omega arith), unit_next (matches p b) (nth pm) (length p) k);
  }

  pub step_unit : (j : ℕ) → j < to → nth (part at tables) j ≡ unit_at (matches p b) (nth pm) to j
  step_unit j h = entry j (omega arith) ∙ unit_segment (matches p b) (nth pm) (length p) j to h le

  pub step_capped : (j : ℕ) → j ≤ to → min (nth (part at tables) j) to ≡ unit_at (matches p b) (nth pm) to j
  step_capped j h = elim (dec_lt j to) [
    | yes l ↦ omega (arith, step_unit j l, unit_small (matches p b) (nth pm) to j)
    | no l ↦ omega (arith, entry j (omega arith), unit_from (matches p b) (nth pm) (length p) j, unit_end (matches p b) (nth pm) to j (omega arith))
  ]

-- The entry of a base's row as a sum: one more where both tests pass.
pub both_tests : (a b : Bool) (j : ℕ) → j + from_bool a * from_bool b ≡ choose a (choose b (j + 1) j) j
unfolding choose
both_tests true true j = omega arith
both_tests true false j = omega arith
both_tests false true j = omega arith
both_tests false false j = omega arith

-- A row with a base in front: its entry, read where the base's row leads.
step_read : (g : ℕ → ℕ) (s j : ℕ) → j ≤ s → s ≤ j + 1 → choose (eqb s j) (g j) (g (j + 1)) ≡ g s
step_read g s j lo hi = elim (dec_lt j s) [
  | yes l ↦ let i : j + 1 ≡ s = omega arith in choose_no _ _ _ (ne_eqb s j (λ q. omega arith)) ∙ ap g i
  | no l ↦ let i : s ≡ j = omega arith in choose_yes _ _ _ (eq-eqb s j i) ∙ ap g (sym i)
]

pub extend_step : (steps row₀ row : List ℕ) (from to j r : ℕ) → Steps steps to → Written (λ k. nth row₀ (nth steps k)) row₀ row from j → j < to
    → r ≡ choose (eqb (nth steps j) j) (nth row j) (nth row (j + 1)) → r ≡ nth row₀ (nth steps j)
extend_step steps row₀ row from to j r S W lt e =
    e ∙ rw (W.past j (omega arith), W.past (j + 1) (omega arith)) (step_read (nth row₀) (nth steps j) j (S.low j (omega arith)) (S.high j (omega arith)))

-- The pass that writes a base's row has come to its last entry.
pub steps_end : (f : ℕ → ℕ) (old new : List ℕ) (at j m : ℕ) → Written f old new (at + 0) (at + j) → j ≤ m → m ≤ j → Written f old new at (at + m)
steps_end f old new at j m W a b =
    let i : at + 0 ≡ at = omega arith in
    pass_end f old new at (at + j) (at + m) (subst (λ (x : ℕ). Written f old new x (at + j)) i W) (omega arith) (omega arith)

-- The row of the base b was written from `at` on.
abbrev pub StepsPut : List ℕ → List ℕ → ℕ → ℕ → List ℕ → List ℕ → Type 0
StepsPut p pm b at old new = Written (λ k. unit_at (matches p b) (nth pm) (length p) (k - at)) old new at (at + length p + 1)

pub put_at_lem : (p pm : List ℕ) (b at : ℕ) (old new : List ℕ) → at ≡ steps_at (length p) b → StepsPut p pm b at old new
    → StepsPut p pm b (steps_at (length p) b) old new
put_at_lem p pm b at old new e W = subst (λ (x : ℕ). StepsPut p pm b x old new) e W

put_entry : (p pm : List ℕ) (b at : ℕ) (old new : List ℕ) → StepsPut p pm b at old new → (k : ℕ) → k ≤ length p
    → nth new (at + k) ≡ unit_at (matches p b) (nth pm) (length p) k
put_entry p pm b at old new W k h =
    let i : at + k - at ≡ k = omega arith in W.done (at + k) (omega arith) (omega arith) ∙ ap (unit_at (matches p b) (nth pm) (length p)) i

-- The row of T is that of U.
unit_t : (p : List ℕ) (pm : ℕ → ℕ) (m k : ℕ) → unit_at (matches p 85) pm m k ≡ unit_at (matches p 84) pm m k
unit_t p pm m k = ap (λ (has : ℕ → Bool). unit_at has pm m k) (fun_ext (λ x. sym (match_t (nth p x))))

-- The two classes of a position, read from their number.
module _ (p pm : List ℕ) (j : ℕ) (bytes : (i : ℕ) → nth p i < 256) where
  classes_own : classes_at p pm j % 256 ≡ letter_class (nth p j)
  unfolding classes_at
  classes_own = omega (arith, class_byte (nth p j) (bytes j))

  classes_mate : classes_at p pm j / 256 ≡ letter_class (nth p (nth pm j))
  unfolding classes_at
  classes_mate = omega (arith, class_byte (nth p j) (bytes j))

-- The pass that adds the mates' classes has come to position j: the class of the mate's letter stands at the mate, whether it was passed or not.
module _ (p pm old tables : List ℕ) (bytes : (i : ℕ) → nth p i < 256) (own : (k : ℕ) → k < length p → nth old k ≡ letter_class (nth p k)) (j : ℕ)
    (W : Written (classes_at p pm) old tables 0 j) where
  mate_class : (k : ℕ) → k < length p → nth tables k % 256 ≡ letter_class (nth p k)
  mate_class k l = elim (dec_lt k j) [
    | yes h ↦ ap (λ (x : ℕ). x % 256) (W.done k (omega arith) h) ∙ classes_own p pm k bytes
    | no h ↦ omega (arith, W.past k (omega arith), own k l, class_byte (nth p k) (bytes k))
  ]

  module _ (lj : j < length p) (lk : nth pm j < length p) where
    pub mates_step : nth tables j + nth tables (nth pm j) % 256 * 256 ≡ classes_at p pm j
    unfolding classes_at
    mates_step = omega (arith, W.past j (omega arith), own j lj, mate_class (nth pm j) lk)

    pub mates_fit : nth tables j + nth tables (nth pm j) % 256 * 256 < 65536
    mates_fit =
        omega (
          arith,
          W.past j (omega arith),
          own j lj,
          mate_class (nth pm j) lk,
          class_byte (nth p j) (bytes j),
          class_byte (nth p (nth pm j)) (bytes (nth pm j)),
        )

-- The passes make the tables: no pass writes what another wrote.
module _ (p pm t₀ t₁ tA tC tG tU : List ℕ) (bytes : (i : ℕ) → nth p i < 256) where
  pub tables_made : 5 * (length p + 1) ≤ length t₀ → Written (classes_at p pm) t₀ t₁ 0 (length p)
      → StepsPut p pm 65 (steps_at (length p) 65) t₁ tA → StepsPut p pm 67 (steps_at (length p) 67) tA tC
      → StepsPut p pm 71 (steps_at (length p) 71) tC tG → StepsPut p pm 85 (steps_at (length p) 85) tG tU → Tables p pm tU
  tables_made room W A C G U = record {
    long = omega (arith, W.long, A.long, C.long, G.long, U.long);
    own = λ j h. ap (λ (x : ℕ). x % 256) (classes j h) ∙ classes_own p pm j bytes;
    mate = λ j h. ap (λ (x : ℕ). x / 256) (classes j h) ∙ classes_mate p pm j bytes;
    step = λ b L k h. by_letter (λ (x : ℕ). nth tU (steps_at m x + k) ≡ unit_at (matches p x) (nth pm) m k) molecule_side b L
        (U.under (steps_at m 65 + k) (omega (arith, steps_a m, steps_u m)) ∙ G.under (steps_at m 65 + k) (omega (arith, steps_a m, steps_g m))
        ∙ C.under (steps_at m 65 + k) (omega (arith, steps_a m, steps_c m)) ∙ put_entry p pm 65 (steps_at m 65) t₁ tA A k h)
        (U.under (steps_at m 67 + k) (omega (arith, steps_c m, steps_u m)) ∙ G.under (steps_at m 67 + k) (omega (arith, steps_c m, steps_g m))
        ∙ put_entry p pm 67 (steps_at m 67) tA tC C k h)
        (U.past (steps_at m 71 + k) (omega (arith, steps_g m, steps_u m)) ∙ put_entry p pm 71 (steps_at m 71) tC tG G k h)
        (ap (λ (x : ℕ). nth tU (x + k)) (steps_t m) ∙ put_entry p pm 85 (steps_at m 85) tG tU U k h ∙ unit_t p (nth pm) m k)
        (put_entry p pm 85 (steps_at m 85) tG tU U k h);
  } where
    m : ℕ
    m = length p

    classes : (j : ℕ) → j < length p → nth tU j ≡ classes_at p pm j
    classes j h = U.under j (omega (arith, steps_u m)) ∙ G.under j (omega (arith, steps_g m)) ∙ C.under j (omega (arith, steps_c m))
        ∙ A.under j (omega (arith, steps_a m)) ∙ W.done j (omega arith) h

-- Where the motif's own rows are as they were, the tables are.
pub tables_kept : {p pm old new : List ℕ} → Tables p pm old → length new ≡ length old → ((k : ℕ) → k < 5 * (length p + 1) → nth new k ≡ nth old k)
    → Tables p pm new
tables_kept {p} T e h =
    record {
      long = omega (arith, T.long);
      own = λ j l. ap (λ (x : ℕ). x % 256) (h j (omega arith)) ∙ T.own j l;
      mate = λ j l. ap (λ (x : ℕ). x / 256) (h j (omega arith)) ∙ T.mate j l;
      step = λ b L k l. h (steps_at (length p) b + k) (omega (arith, steps_within (length p) b)) ∙ T.step b L k l;
    }
