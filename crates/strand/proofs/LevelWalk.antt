-- The walks of the test by levels: the one that counts what differs, and the one that puts the names. How far each has come, one step, and its end.
use mathlib.Core.Path.{◌≡◌, refl, sym, ap, ◌∙◌}
use mathlib.Core.Bool.{Bool, true, false, not}
use mir.Val.{bool_byte}
use mathlib.Core.List.{List, ◌++◌, append-nil}
use Prim.Native.Nat.{ℕ, suc, ◌+◌, ◌-◌, ◌*◌, ◌≤◌, ◌<◌}
use native.Mathlib.Omega.{arith}
use native.Mathlib.Numerals.{add-one}
use native.Mathlib.Decide.{dec_lt, ℕ_discrete}
use lib.ListN.{length, set, drop, replicate, length-set, length-replicate, drop_of_length-le}
use lib.Seq.{get_or-set_same, get_or-set_other}
use lib.Dec.{eqb}
use borrow.Author.Tests.{eq-eqb, ne_eqb, eqb-true}
use Rattle.lists.specs.Vocabulary.{nth, choose, every, select, tab, same_list}
use Rattle.lists.proofs.ListLaws.{both_ways, every_none, every_more, every_stop, every_at, every_true, choose_yes, choose_no}
use Rattle.lists.proofs.ListLaws.{same_eq, same_all, tab_none, tab_more, zeros_zero, zeros_at}
use Rattle.lists.proofs.Counts.{count}
use Rattle.strand.specs.Folds.{begins}
use Rattle.strand.specs.Strands.{greatest_length}
use Rattle.strand.specs.Levels.{unbonded, ends, level_at, name_step, name_at, NamesTold}
use Rattle.strand.proofs.FoldWalk.{Below}
use Rattle.strand.proofs.LevelLaws.{begun_yes, begun_no, ended_yes, ended_no, ended_short, level_high}

-- ---- what differs

-- What `u32::from(a != b)` answers, b saying whether the numbers are the same.
pub differ_bit : (b : Bool) → bool_byte (not b) ≡ choose b 0 1
unfolding choose
differ_bit true = refl
differ_bit false = refl

-- k tells whether the first i numbers pass: it has counted those that do not.
pub record Differing (p : ℕ → Bool) (i k : ℕ) : Type 0 where
  pub short : k ≤ i
  pub passed : k ≡ 0 → every i p ≡ true
  pub failed : 0 < k → (x : ℕ) × (x < i) × (p x ≡ false)

module _ (p : ℕ → Bool) where
  pub differ_start : Differing p 0 0
  differ_start = record { short = omega arith; passed = λ e. every_none p; failed = λ h. absurd (omega arith) }

  -- d is 0 if i passes, else 1.
  pub differ_next : {i k : ℕ} (d : ℕ) → d ≡ choose (p i) 0 1 → Differing p i k → Differing p (i + 1) (k + d)
  differ_next {i} {k} d is D = go (p i) refl
    where
      go : (b : Bool) → p i ≡ b → Differing p (i + 1) (k + d)
      go true e =
          let z : d ≡ 0 = is ∙ choose_yes (p i) 0 1 e in
          record {
            short = omega (arith, D.short);
            passed = λ n. every_more p i (D.passed (omega arith)) e;
            failed = λ h. let x = D.failed (omega arith) in (x.0, omega (arith, x.1), x.2);
          }
      go false e =
          let z : d ≡ 1 = is ∙ choose_no (p i) 0 1 e in
          record { short = omega (arith, D.short); passed = λ n. absurd (omega arith); failed = λ h. (i, omega arith, e) }

  pub differ_end : {i k n : ℕ} → Differing p i k → i ≤ n → n ≤ i → eqb k 0 ≡ every n p
  differ_end {i} {k} {n} D u v = elim (ℕ_discrete k 0) [
    | yes e ↦ eq-eqb k 0 e ∙ sym (let z : i ≡ n = omega arith in rw z at (D.passed e))
    | no e ↦ let x = D.failed (omega arith) in ne_eqb k 0 e ∙ sym (every_stop p n x.0 (omega (arith, x.1)) x.2)
  ]

-- All bases are unbonded exactly where none is bonded.
pub unbonded_end : (mates : List ℕ) {i k : ℕ} → Differing (λ x. eqb (nth mates x) x) i k → i ≤ length mates → length mates ≤ i → eqb k 0 ≡ unbonded mates
unfolding unbonded
unbonded_end mates D u v = differ_end _ D u v

-- Lists of one length are the same exactly where no place differs.
pub same_every : (xs ys : List ℕ) → length xs ≡ length ys → every (length xs) (λ i. eqb (nth xs i) (nth ys i)) ≡ same_list xs ys
same_every xs ys l =
    both_ways _ (same_list xs ys)
    (λ e. same_all xs ys l (λ i h. eqb-true _ _ (every_at _ (length xs) i e h)))
    (λ e. every_true _ (length xs) (λ i h. eq-eqb _ _ (ap (λ (s : List ℕ). nth s i) (same_eq xs ys e))))

-- ---- the names

-- The walk has put the names of the first i bases. `next` has i steps and the level before i.
pub record Named (mates before : List ℕ) (i next : ℕ) (own told : List ℕ) : Type 0 where
  pub upto : i ≤ length mates
  pub level : next + count i (ends mates) ≡ name_step * i + (length mates + count i (begins mates))
  pub own_long : length own ≡ length mates
  pub own_is : own ≡ tab i (name_at mates) ++ drop i before
  pub told_is : NamesTold mates i told

pub told_long : {told : List ℕ} {n : ℕ} → told ≡ replicate n 0 → length told ≡ n
told_long {n = n} e = ap length e ∙ length-replicate n 0

module _ (mates before : List ℕ) (long : length before ≡ length mates) where
  pub names_start : {told : List ℕ} → told ≡ replicate (length mates) 0 → Named mates before 0 (length mates) before told
  names_start {told} e =
      record {
        upto = omega arith;
        level = unfold select in (omega arith);
        own_long = long;
        own_is = tab_none (name_at mates) before;
        told_is = record {
          long = told_long e;
          put_by = λ x h. absurd (omega (arith, zero_at_lem x));
          put_at_lem = λ y h. absurd (omega arith);
        };
      }
    where
      zero_at_lem : (x : ℕ) → nth told x ≡ 0
      zero_at_lem x = rw e (zeros_at (replicate (length mates) 0) (zeros_zero (length mates)) x)

  pub names_end : {i next : ℕ} {own told : List ℕ} → Named mates before i next own told → length mates ≤ i
      → (own ≡ tab (length mates) (name_at mates)) × NamesTold mates (length mates) told
  names_end {i} {own = own} {told = told} W h =
      let z : i ≡ length mates = omega (arith, W.upto) in (
        rw (z, drop_of_length-le before {i = length mates} (omega arith), append-nil) at W.own_is,
        rw z at W.told_is,
      )

-- One name more at the place of a mate.
told_next : (mates told : List ℕ) (i : ℕ) → nth mates i < length mates → NamesTold mates i told
    → NamesTold mates (i + 1) (set told (nth mates i) (name_at mates i))
told_next mates told i inside T = record { long = length-set told j name ∙ T.long; put_by = put_by; put_at_lem = put_at_lem }
  where
    j : ℕ
    j = nth mates i

    name : ℕ
    name = name_at mates i

    here : nth (set told j name) j ≡ name
    here = get_or-set_same told j name 0 (omega (arith, inside, T.long))

    else : (x : ℕ) → (x ≡ j → ⊥) → nth (set told j name) x ≡ nth told x
    else x n = get_or-set_other told j x name 0 n

    put_by : (x : ℕ) → 0 < nth (set told j name) x → (y : ℕ) × (y < i + 1) × (nth mates y ≡ x) × (nth (set told j name) x ≡ name_at mates y)
    put_by x h = elim (ℕ_discrete x j) [
      | yes e ↦ (i, omega arith, sym e, ap (nth (set told j name)) e ∙ here)
      | no e ↦ let y = T.put_by x (omega (arith, else x e)) in (y.0, omega (arith, y.1), y.2, else x e ∙ y.3)
    ]

    put_at_lem : (y : ℕ) → y < i + 1 → ((z : ℕ) → z < i + 1 → nth mates z ≡ nth mates y → z ≡ y) → nth (set told j name) (nth mates y) ≡ name_at mates y
    put_at_lem y h only = elim (ℕ_discrete y i) [
      | yes e ↦ rw e here
      | no e ↦
          else (nth mates y) (λ same. e (sym (only i (omega arith) (sym same))))
          ∙ T.put_at_lem y (omega arith) (λ z k. only z (omega arith))
    ]

-- j is the mate of i; e and b say whether an arc ends or begins at i.
module _ {mates before : List ℕ} (short : length mates ≤ greatest_length) {i next : ℕ} {own told : List ℕ} (W : Named mates before i next own told)
    (l : i < length mates) (j e : ℕ) (is_mate : j ≡ nth mates i) (ended : Below j i e) where
  ended_next : count (suc i) (ends mates) ≡ count i (ends mates) + e
  ended_next = elim (dec_lt (nth mates i) i) [
    | yes h ↦ omega (arith, ended_yes mates i h, ended.0 (omega arith))
    | no h ↦ omega (arith, ended_no mates i (omega arith), ended.1 (omega arith))
  ]

  pub names_safe : e ≤ next
  names_safe = omega (arith, W.level, ended_next, ended_short mates i)

  -- What is left of `next` is i steps and the level of i.
  next_is : next - e ≡ name_step * i + level_at mates i
  unfolding level_at
  next_is = omega (arith, W.level, ended_next, ended_short mates i)

  pub names_fit : next - e ≤ name_step * i + 2 * greatest_length
  names_fit = omega (arith, next_is, level_high mates i l)

  name_is : name_step * j + (next - e) ≡ name_at mates i
  unfolding name_at
  name_is = omega (arith, next_is, is_mate)

  pub names_next : length before ≡ length mates → nth mates i < length mates → (b : ℕ) → Below i j b
      → Named mates before (i + 1) (next - e + (name_step + b)) (set own i (name_step * j + (next - e))) (set told j (name_step * j + (next - e)))
  names_next long inside b begun =
      rw (name_is, is_mate) (record {
        upto = omega arith;
        level = level;
        own_long = length-set own i (name_at mates i) ∙ W.own_long;
        own_is = ap (λ (s : List ℕ). set s i (name_at mates i)) W.own_is ∙ tab_more (name_at mates) i before (omega arith);
        told_is = told_next mates told i inside W.told_is;
      })
    where
      begun_next : count (suc i) (begins mates) ≡ count i (begins mates) + b
      begun_next = elim (dec_lt i (nth mates i)) [
        | yes h ↦ omega (arith, begun_yes mates i h, begun.0 (omega arith))
        | no h ↦ omega (arith, begun_no mates i (omega arith), begun.1 (omega arith))
      ]

      level : next - e + (name_step + b) + count (i + 1) (ends mates) ≡ name_step * (i + 1) + (length mates + count (i + 1) (begins mates))
      level = rw add-one (omega (arith, W.level, ended_next, begun_next, names_safe))
