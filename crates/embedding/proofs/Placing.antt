-- The test of places, step by step: order and range, letters, arcs; together they say that the places are an embedding.
use Prim.Native.Nat.{ℕ, ◌+◌, ◌-◌, ◌≤◌, ◌<◌}
use mathlib.Core.Path.{◌≡◌, refl, sym, ap, ◌∙◌}
use mathlib.Core.Bool.{Bool, true, false, not, true≢false}
use mathlib.Core.List.{List}
use native.Mathlib.Decide.{dec_lt, ℕ_discrete}
use native.Mathlib.Omega.{arith}
use lib.Dec.{eqb}
use lib.ListN.{length}
use borrow.Author.Tests.{eqb-true, eq-eqb}
use Rattle.lists.specs.Vocabulary.{nth}
use Rattle.lists.proofs.ListLaws.{Tells}
use Rattle.embedding.specs.Embedding.{Emb, letters_fit}
use Rattle.embedding.specs.Places.{Ordered, Lettered, Has, ArcKept, ArcsKept}
use Rattle.std.proofs.Common.{Result, Ok, Err, MatchResult, is_ok}
use Rattle.embedding.proofs.Answers.{tells_yes, tells_no, tells_not}

-- The first i places rise and are below n.
pub record OrderedTo (v : List ℕ) (n i : ℕ) : Type 0 where
  pub upto : i ≤ length v
  pub below : (x : ℕ) → x < i → nth v x < n
  pub rises : (x y : ℕ) → x < y → y < i → nth v x < nth v y

module _ (v : List ℕ) (n : ℕ) where
  pub order_none : OrderedTo v n 0
  order_none = record { upto = omega arith; below = λ x h. absurd (omega arith); rises = λ x y p q. absurd (omega arith) }

  pub order_next : (i : ℕ) → OrderedTo v n i → i < length v → nth v i < n → (0 < i → nth v (i - 1) < nth v i) → OrderedTo v n (i + 1)
  order_next i O h b s = record { upto = omega arith; below = below; rises = rises } where
    below : (x : ℕ) → x < i + 1 → nth v x < n
    below x p = elim (ℕ_discrete x i) [ yes e ↦ omega (arith, ap (nth v) e) | no e ↦ O.below x (omega arith) ]

    rises : (x y : ℕ) → x < y → y < i + 1 → nth v x < nth v y
    rises x y p q = go (ℕ_discrete y i) (ℕ_discrete x (i - 1)) where
      go : Dec (y ≡ i) → Dec (x ≡ i - 1) → nth v x < nth v y
      go (no e) d = O.rises x y p (omega arith)
      go (yes e) (yes d) = omega (arith, ap (nth v) e, ap (nth v) d, s (omega arith))
      go (yes e) (no d) = omega (arith, ap (nth v) e, s (omega arith), O.rises x (i - 1) (omega arith) (omega arith))

  pub order_end : (i : ℕ) → OrderedTo v n i → length v ≤ i → Ordered v n
  order_end i O h = record { below = λ x p. O.below x (omega arith); rises = λ x y p q. O.rises x y p (omega arith) }

  -- Two places are the same only where the positions are.
  order_same : Ordered v n → (x y : ℕ) → x < length v → y < length v → nth v x ≡ nth v y → x ≡ y
  order_same O x y p q e = go (dec_lt x y) (dec_lt y x) where
    go : Dec (x < y) → Dec (y < x) → x ≡ y
    go (yes a) d = omega (arith, O.rises x y a q)
    go (no a) (yes b) = omega (arith, O.rises y x b p)
    go (no a) (no b) = omega arith

  pub order_le : Ordered v n → (x y : ℕ) → x ≤ y → y < length v → nth v x ≤ nth v y
  order_le O x y p q = elim (ℕ_discrete x y) [ yes e ↦ omega (arith, ap (nth v) e) | no e ↦ omega (arith, O.rises x y (omega arith) q) ]

module _ (pm qm v : List ℕ) (n i : ℕ) (O : Ordered v n) (hi : i < length v) where
  -- An arc of P begins at i.
  pub kept_arc : i < nth pm i → nth pm i < length v → Tells (eqb (nth qm (nth v i)) (nth v (nth pm i))) (ArcKept pm qm v i)
  kept_arc l h = record { yes = yes'; no = no' } where
    yes' : eqb (nth qm (nth v i)) (nth v (nth pm i)) ≡ true → ArcKept pm qm v i
    yes' t =
        let e = eqb-true _ _ t in
        record { with = λ y p q. ((λ u. e ∙ ap (nth v) u), (λ u. order_same v n O (nth pm i) y h q (sym e ∙ u))) }

    no' : eqb (nth qm (nth v i)) (nth v (nth pm i)) ≡ false → ArcKept pm qm v i → ⊥
    no' t K = true≢false (sym (eq-eqb _ _ ((K.with (nth pm i) l h).0 refl)) ∙ t)

  -- No arc of P begins at i, and none of Q at its place.
  pub kept_none : nth pm i ≤ i → nth qm (nth v i) ≤ nth v i → ArcKept pm qm v i
  kept_none l h = record { with = λ y p q. ((λ u. absurd (omega arith)), (λ u. absurd (omega (arith, O.rises i y p q)))) }

  -- No arc of P begins at i, and one of Q at its place: its other end is no place.
  pub kept_other : (b : Bool) → nth pm i ≤ i → nth v i < nth qm (nth v i) → Tells b (Has v (nth qm (nth v i))) → Tells (not b) (ArcKept pm qm v i)
  kept_other b l h T = tells_not b lost kept T where
    lost : Has v (nth qm (nth v i)) → ArcKept pm qm v i → ⊥
    lost H K = go (dec_lt i H.position) where
      go : Dec (i < H.position) → ⊥
      go (yes p) = omega (arith, (K.with H.position p H.inside).1 (sym H.here))
      go (no p) = omega (arith, order_le v n O H.position i (omega arith) hi, H.here)

    kept : (Has v (nth qm (nth v i)) → ⊥) → ArcKept pm qm v i
    kept N = record { with = λ y p q. ((λ u. absurd (omega arith)), (λ u. absurd (N record { position = y; inside = q; here = sym u }))) }

module _ (p pm q qm v : List ℕ) (e : length v ≡ length p) where
  pub all_embed : Ordered v (length q) → Lettered p q v → ArcsKept pm qm v → Emb (letters_fit p q) (nth pm) (nth qm) 0 (length p) 0 (length q) (nth v)
  all_embed O L K =
      record {
        low = λ x a b. omega arith;
        high = λ x a b. O.below x (omega arith);
        order = λ x y a b d. O.rises x y b (omega arith);
        bases = λ x a b. L.match_at x (omega arith);
        arcs = λ x y a b d. (K.all x (omega arith)).with y b (omega arith);
      }

  module _ (E : Emb (letters_fit p q) (nth pm) (nth qm) 0 (length p) 0 (length q) (nth v)) where
    pub embed_order : Ordered v (length q)
    embed_order = record { below = λ x a. E.high x (omega arith) (omega arith); rises = λ x y a b. E.order x y (omega arith) a (omega arith) }

    pub embed_letters : Lettered p q v
    embed_letters = record { match_at = λ x a. E.bases x (omega arith) (omega arith) }

    pub embed_arcs : ArcsKept pm qm v
    embed_arcs = record { all = λ x a. record { with = λ y b d. E.arcs x y (omega arith) b (omega arith) } }

-- What a binary search for the place u answers.
pub searched_has : (v : List ℕ) (u : ℕ) (r : Result ℕ ℕ)
    → MatchResult r (λ i. (i < length v) × (nth v i ≡ u))
    (λ i. (i ≤ length v) × ((k : ℕ) → k < i → nth v k < u) × ((k : ℕ) → i ≤ k → k < length v → u < nth v k))
    → Tells (is_ok r) (Has v u)
searched_has v u (Ok i) h = tells_yes (record { position = i; inside = h.0; here = h.1 })
searched_has v u (Err i) h = tells_no (λ H. elim (dec_lt H.position i) [
  | yes a ↦ omega (arith, h.1 H.position a, H.here)
  | no a ↦ omega (arith, h.2 H.position (omega arith) H.inside, H.here)
])
