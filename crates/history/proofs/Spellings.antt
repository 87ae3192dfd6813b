-- Two spellings of a motif have the same hits: one embeds where the other does, and rising lists of the same numbers are the same list.
use Prim.Native.Nat.{ℕ, zero, suc, ◌≤◌, ◌<◌}
use mathlib.Core.Path.{◌≡◌, refl, sym}
use mathlib.Core.List.{List}
use native.Mathlib.Decide.{dec_lt}
use native.Mathlib.Omega.{arith}
use lib.ListN.{length}
use lib.Seq.{ext_get_or}
use Rattle.lists.specs.Vocabulary.{nth}
use Rattle.embedding.specs.Embedding.{EmbedsIn}
use Rattle.embedding.specs.Longest.{embeds}
use Rattle.embedding.proofs.Claims as embedding
use Rattle.history.specs.Model.{Event, Line}
use Rattle.history.specs.History.{RightLog, Among}
use Rattle.history.specs.Statements.{SpellingsHitAlike}

abbrev Rising : List ℕ → Type 0
Rising xs = (i j : ℕ) → i < j → j < length xs → nth xs i < nth xs j

abbrev Within : List ℕ → List ℕ → Type 0
Within xs ys = (d : ℕ) → Among d xs → Among d ys

module _ (xs ys : List ℕ) (rx : Rising xs) (ry : Rising ys) (there : Within xs ys) (back : Within ys xs) where
  abbrev SameAt : ℕ → Type 0
  SameAt i = i < length xs → (i < length ys) × (nth ys i ≡ nth xs i)

  -- The entries at one place are the same, as those below it are: a number of xs stands in ys neither before that place nor behind it.
  place : (i : ℕ) → ((j : ℕ) → j < i → SameAt j) → SameAt i
  place i below h = elim (dec_lt k i) [
    | yes b ↦ absurd (omega (arith, K.2, (below k b (omega arith)).1, rx k i b h))
    | no b ↦ elim (dec_lt i k) [
      | yes a ↦ absurd (behind a)
      | no a ↦ let e : k ≡ i = omega arith in (omega (arith, K.1), rw e at K.2)
    ]
  ]
    where
      K : Among (nth xs i) ys
      K = there (nth xs i) (i, h, refl)

      k : ℕ
      k = K.0

      behind : i < k → ⊥
      behind a =
          let L = back (nth ys i) (i, omega (arith, K.1), refl) in
          elim (dec_lt L.0 i) [
            | yes b ↦ omega (arith, L.2, (below L.0 b L.1).1, ry L.0 i b (omega (arith, K.1)))
            | no b ↦ elim (dec_lt i L.0) [
              | yes c ↦ omega (arith, L.2, K.2, ry i k a K.1, rx i L.0 c L.1)
              | no c ↦ let e : L.0 ≡ i = omega arith in omega (arith, rw e at L.2, K.2, ry i k a K.1)
            ]
          ]

  same_to : (n i : ℕ) → i < n → SameAt i
  same_to zero i l h = absurd (omega arith)
  same_to (suc n) i l h = place i (λ j a g. same_to n j (omega arith) g) h

  short : length xs ≤ length ys
  short = elim (dec_lt (length ys) (length xs)) [
    | yes l ↦ absurd (omega (arith, (same_to (suc (length ys)) (length ys) (omega arith) l).0))
    | no l ↦ omega arith
  ]

rising_same : (xs ys : List ℕ) → Rising xs → Rising ys → Within xs ys → Within ys xs → xs ≡ ys
rising_same xs ys rx ry there back =
    ext_get_or 0 xs ys (omega (arith, short xs ys rx ry there back, short ys xs ry rx back there))
    (λ i l. sym (same_to xs ys rx ry there back (suc i) i (omega arith) l).1)

pub spellings : {B S B' S' : ℕ} {es es' : List Event} {log log' : List Line}
    → RightLog EmbedsIn embeds B S es log → RightLog EmbedsIn embeds B' S' es' log' → SpellingsHitAlike log log'
spellings R R' before before' a a' s s' m held =
    let A = R.right before a s in
    let A' = R'.right before' a' s' in
    rising_same a.hits a'.hits A.rising A'.rising
    (λ d i.
    let x = (A.exact d).0 i in
    let y = held.there d x.0 x.1 in
    (A'.exact d).1 (y.0, y.1, ((embedding.claims).embed_alike a.motif x.0 a'.motif y.0 m y.2).embeds_in.0 x.2))
    (λ d i.
    let x = (A'.exact d).0 i in
    let y = held.back d x.0 x.1 in
    (A.exact d).1 (y.0, y.1, ((embedding.claims).embed_alike a.motif y.0 a'.motif x.0 m y.2).embeds_in.1 x.2))
