-- Embeddings compose, by letter rules that compose. Nothing here uses it: it is the law by which a motif that embeds in another motif
-- embeds in every molecule that the other one embeds in.
use Prim.Native.Nat.{ℕ}
use mathlib.Core.Path.{◌≡◌}
use mathlib.Core.Bool.{Bool, true}
use mathlib.Core.List.{List}
use native.Mathlib.Omega.{arith}
use Rattle.lists.specs.Vocabulary.{nth}
use Rattle.embedding.specs.Embedding.{fits, Emb, Embeds}

-- P[a..b) in Q[s..e) by f, Q[s..e) in R[u..v) by g: P[a..b) in R[u..v) by g after f.
pub composed : {fit₁ fit₂ fit₃ : ℕ → ℕ → Bool} {pm qm rm : ℕ → ℕ} {a b s e u v : ℕ} {f g : ℕ → ℕ}
    → ((x y z : ℕ) → fit₁ x y ≡ true → fit₂ y z ≡ true → fit₃ x z ≡ true)
    → Emb fit₁ pm qm a b s e f → Emb fit₂ qm rm s e u v g → Emb fit₃ pm rm a b u v (λ x. g (f x))
composed {f = f} {g = g} rule F G =
    record {
      low = λ x p q. G.low (f x) (F.low x p q) (F.high x p q);
      high = λ x p q. G.high (f x) (F.low x p q) (F.high x p q);
      order = λ x y p q r. G.order (f x) (f y) (F.low x p (omega arith)) (F.order x y p q r) (F.high y (omega arith) r);
      bases = λ x p q. rule x (f x) (g (f x)) (F.bases x p q) (G.bases (f x) (F.low x p q) (F.high x p q));
      arcs = λ x y p q r.
          let i = F.arcs x y p q r in
          let j = G.arcs (f x) (f y) (F.low x p (omega arith)) (F.order x y p q r) (F.high y (omega arith) r) in
          ((λ t. j.0 (i.0 t)), (λ t. i.1 (j.1 t)));
    }

-- The same of strands and rules on letters.
pub embeds_composed : (rule₁ rule₂ rule₃ : ℕ → ℕ → Bool) (pb qb rb : List ℕ) {pm qm rm : ℕ → ℕ} {a b s e u v : ℕ}
    → ((x y z : ℕ) → rule₁ x y ≡ true → rule₂ y z ≡ true → rule₃ x z ≡ true)
    → Embeds (fits rule₁ pb qb) pm qm a b s e → Embeds (fits rule₂ qb rb) qm rm s e u v → Embeds (fits rule₃ pb rb) pm rm a b u v
embeds_composed rule₁ rule₂ rule₃ pb qb rb rule (f, F) (g, G) =
    ((λ x. g (f x)), composed (λ x y z. rule (nth pb x) (nth qb y) (nth rb z)) F G)
