-- Windows: the window of a nested molecule is nested, and an embedding in a window cut out is one in Q with its places in the window, for an embedding reads
-- only the arcs between its own places. So a wider window carries what a narrower one does, and one that carries P may begin at the place of P's first base.
use Prim.Native.Nat.{ℕ, ◌+◌, ◌-◌, ◌≤◌, ◌<◌}
use mathlib.Core.Path.{◌≡◌, refl, ap, ◌∙◌}
use mathlib.Core.Bool.{Bool, true, ◌&&◌}
use mathlib.Core.Logic.{◌↔◌}
use mathlib.Core.List.{List}
use native.Mathlib.Decide.{ℕ_discrete}
use native.Mathlib.Omega.{arith}
use lib.Dec.{ltb, leb}
use lib.ListN.{drop}
use lib.Seq.{get_or-take, get_or-drop}
use borrow.Author.Tests.{lt-ltb, ltb-true, le-leb, leb-true}
use Rattle.lists.specs.Vocabulary.{nth}
use Rattle.lists.proofs.ListLaws.{and_true, nth_tab}
use Rattle.strand.specs.Strands.{Nested}
use Rattle.embedding.specs.Embedding.{fits, Emb, Embeds}
use Rattle.embedding.specs.Windows.{window_bases, window_mate, window_mates}
use Rattle.embedding.proofs.Answers.{and_of, by_test, clash}
use Rattle.embedding.proofs.Splitting.{within, restrict, agree}

-- A wider window carries what a narrower one does.
pub widened : {fit : ℕ → ℕ → Bool} {pm qm : ℕ → ℕ} {a b s e : ℕ} (s' e' : ℕ) → s' ≤ s → e ≤ e' → Embeds fit pm qm a b s e → Embeds fit pm qm a b s' e'
widened {a = a} {b = b} s' e' hs he (f, E) = (f, restrict a b s' e' (omega arith) (omega arith) hs he E)

-- The place of the first base: its letter fits, it begins an arc if the base does, and the window may begin there.
pub record Starts (fit : ℕ → ℕ → Bool) (pm qm : ℕ → ℕ) (m s e : ℕ) : Type 0 where
  pub place : ℕ
  pub low : s ≤ place
  pub high : place < e
  pub letter : fit 0 place ≡ true
  pub arc : 0 < pm 0 → pm 0 < m → place < qm place
  pub embeds : Embeds fit pm qm 0 m place e

pub starts : {fit : ℕ → ℕ → Bool} {pm qm : ℕ → ℕ} {m s e : ℕ} → 0 < m → Embeds fit pm qm 0 m s e → Starts fit pm qm m s e
starts {fit} {pm} {qm} {m} {s} {e} h (f, E) =
    record {
      place = f 0;
      low = E.low 0 (omega arith) h;
      high = E.high 0 (omega arith) h;
      letter = E.bases 0 (omega arith) h;
      arc = λ a b. omega (arith, (E.arcs 0 (pm 0) (omega arith) a b).0 refl, E.order 0 (pm 0) (omega arith) a b);
      embeds = (f, within 0 m (f 0) e (omega arith) (omega arith) low E.high E);
    }
  where
    low : (x : ℕ) → 0 ≤ x → x < m → f 0 ≤ f x
    low x p q = elim (ℕ_discrete 0 x) [ yes i ↦ omega (arith, ap f i) | no i ↦ omega (arith, E.order 0 x (omega arith) (omega arith) q) ]

-- ---- the mates of a window cut out

-- The mate of the window's base i: its mate in Q where that is in the window, else the base itself.
data Mate (qm : List ℕ) (s w i : ℕ) : Type 0 where
  kept : s ≤ nth qm (s + i) → nth qm (s + i) < s + w → nth (window_mates s w qm) i ≡ nth qm (s + i) - s → Mate qm s w i
  lost : (s ≤ nth qm (s + i) → nth qm (s + i) < s + w → ⊥) → nth (window_mates s w qm) i ≡ i → Mate qm s w i

module _ (qm : List ℕ) (s w : ℕ) where
  mate_at : (i : ℕ) → i < w → Mate qm s w i
  unfolding window_mate
  mate_at i l =
      by_test (λ (v : ℕ). nth (window_mates s w qm) i ≡ v → Mate qm s w i) (leb s x && ltb x (s + w)) {x = x - s} {y = i}
      (λ t. let u = and_true (leb s x) (ltb x (s + w)) t in kept (leb-true s x u.0) (ltb-true x (s + w) u.1))
      (λ t. lost (λ a b. clash t (and_of (le-leb s x a) (lt-ltb x (s + w) b))))
      (nth_tab (window_mate s w qm) w i l)
    where
      x : ℕ
      x = nth qm (s + i)

  -- Two bases of the window are an arc of it exactly when they are one of Q.
  pub same_arc : (i j : ℕ) → i < j → j < w → (nth (window_mates s w qm) i ≡ j) ↔ (nth qm (s + i) ≡ s + j)
  same_arc i j l h = go (mate_at i (omega arith))
    where
      go : Mate qm s w i → (nth (window_mates s w qm) i ≡ j) ↔ (nth qm (s + i) ≡ s + j)
      go (kept a b e) = ((λ t. omega arith), (λ t. omega arith))
      go (lost n e) = ((λ t. omega arith), (λ t. absurd (n (omega arith) (omega arith))))

  -- The window of a nested molecule is nested.
  pub window_nested : {n : ℕ} → Nested (nth qm) n → s + w ≤ n → Nested (nth (window_mates s w qm)) w
  window_nested {n} N h = record { inside = inside; paired = paired; apart = apart }
    where
      mate : ℕ → ℕ
      mate = nth (window_mates s w qm)

      inside : (i : ℕ) → i < w → mate i < w
      inside i l = elim (mate_at i l) [ kept a b e ↦ omega arith | lost f e ↦ omega arith ]

      back : (i : ℕ) → i < w → s ≤ nth qm (s + i) → nth qm (s + i) < s + w → mate (nth qm (s + i) - s) ≡ i
      back i l a b =
          let up : s + (nth qm (s + i) - s) ≡ nth qm (s + i) = omega arith in
          let pair : nth qm (s + (nth qm (s + i) - s)) ≡ s + i = rw up (N.paired (s + i) (omega arith)) in
          elim (mate_at (nth qm (s + i) - s) (omega arith)) [
            | kept c d e ↦ omega arith
            | lost f e ↦ absurd (f (omega arith) (omega arith))
          ]

      paired : (i : ℕ) → i < w → mate (mate i) ≡ i
      paired i l = elim (mate_at i l) [ kept a b e ↦ rw e (back i l a b) | lost f e ↦ rw e e ]

      apart : (a i : ℕ) → i < w → a < i → i < mate a → mate a < mate i → ⊥
      apart a i l p q r = go (mate_at a (omega arith)) (mate_at i l)
        where
          go : Mate qm s w a → Mate qm s w i → ⊥
          go (lost f e) y = omega arith
          go (kept x y e) (lost f g) = omega arith
          go (kept x y e) (kept u v g) = N.apart (s + a) (s + i) (omega arith) (omega arith) (omega arith) (omega arith)

-- ---- embeddings in a window cut out

module _ (rule : ℕ → ℕ → Bool) (pb qb qm : List ℕ) (s w : ℕ) where
  base_at : (i : ℕ) → i < w → nth (window_bases s w qb) i ≡ nth qb (s + i)
  base_at i l = get_or-take (s + w - s) (drop s qb) i 0 (omega arith) ∙ get_or-drop s qb i 0

  module _ {pm : ℕ → ℕ} {m : ℕ} where
    -- An embedding in the window cut out is, s further on, one in Q with its places in the window, ..
    pub window_back : (f : ℕ → ℕ) → Emb (fits rule pb (window_bases s w qb)) pm (nth (window_mates s w qm)) 0 m 0 w f
        → Emb (fits rule pb qb) pm (nth qm) 0 m s (s + w) (λ x. s + f x)
    window_back f E = record { low = λ x p q. omega arith; high = high; order = order; bases = bases; arcs = arcs }
      where
        high : (x : ℕ) → 0 ≤ x → x < m → s + f x < s + w
        high x p q = omega (arith, E.high x p q)

        order : (x y : ℕ) → 0 ≤ x → x < y → y < m → s + f x < s + f y
        order x y p q r = omega (arith, E.order x y p q r)

        bases : (x : ℕ) → 0 ≤ x → x < m → fits rule pb qb x (s + f x) ≡ true
        bases x p q = rw (base_at (f x) (E.high x p q)) at (E.bases x p q)

        arcs : (x y : ℕ) → 0 ≤ x → x < y → y < m → (pm x ≡ y) ↔ (nth qm (s + f x) ≡ s + f y)
        arcs x y p q r =
            let a = E.arcs x y p q r in
            let b = same_arc qm s w (f x) (f y) (E.order x y p q r) (E.high y (omega arith) r) in
            ((λ t. b.0 (a.0 t)), (λ t. a.1 (b.1 t)))

    -- .. and the other way round.
    pub window_cut : (f : ℕ → ℕ) → Emb (fits rule pb qb) pm (nth qm) 0 m s (s + w) (λ x. s + f x)
        → Emb (fits rule pb (window_bases s w qb)) pm (nth (window_mates s w qm)) 0 m 0 w f
    window_cut f E = record { low = λ x p q. omega arith; high = high; order = order; bases = bases; arcs = arcs }
      where
        high : (x : ℕ) → 0 ≤ x → x < m → f x < w
        high x p q = omega (arith, E.high x p q)

        order : (x y : ℕ) → 0 ≤ x → x < y → y < m → f x < f y
        order x y p q r = omega (arith, E.order x y p q r)

        bases : (x : ℕ) → 0 ≤ x → x < m → fits rule pb (window_bases s w qb) x (f x) ≡ true
        bases x p q = rw (base_at (f x) (high x p q)) (E.bases x p q)

        arcs : (x y : ℕ) → 0 ≤ x → x < y → y < m → (pm x ≡ y) ↔ (nth (window_mates s w qm) (f x) ≡ f y)
        arcs x y p q r =
            let a = E.arcs x y p q r in
            let b = same_arc qm s w (f x) (f y) (order x y p q r) (high y (omega arith) r) in
            ((λ t. b.1 (a.0 t)), (λ t. a.1 (b.0 t)))

    -- Every embedding in Q with its places in the window is of this form.
    pub window_embeds : Embeds (fits rule pb qb) pm (nth qm) 0 m s (s + w)
        → Embeds (fits rule pb (window_bases s w qb)) pm (nth (window_mates s w qm)) 0 m 0 w
    window_embeds (f, E) = ((λ x. f x - s), window_cut (λ x. f x - s) (agree (λ x. s + (f x - s)) (λ x p q. omega (arith, E.low x p q)) E))
