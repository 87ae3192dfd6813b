-- The tests say what the propositions say: places and embeddings, `prefix_ok` and reached ends, `longest` and the largest of them.
use Prim.Native.Nat.{ℕ, ◌<◌}
use mathlib.Core.Path.{◌≡◌, refl, sym, ap, ◌∙◌}
use mathlib.Core.Bool.{Bool, true, false, ◌&&◌, beq}
use mathlib.Core.Logic.{◌↔◌}
use mathlib.Core.List.{List}
use native.Mathlib.Omega.{arith}
use lib.Dec.{ltb, eqb}
use lib.ListN.{length}
use borrow.Author.Tests.{lt-ltb, ltb-true, eqb-true, eq-eqb}
use Rattle.lists.specs.Vocabulary.{nth, every, some_list, tab}
use Rattle.embedding.specs.Embedding.{fits, Emb, Embeds}
use Rattle.letters.specs.Letters.{letters_match}
use Rattle.strand.specs.Strands.{Strand, Inside}
use Rattle.embedding.specs.Longest.{places_ok, closed_to, prefix_ok, longest, verified, embeds}
use Rattle.embedding.specs.Row.{Closed, Best}
use Rattle.lists.proofs.ListLaws.{and_true, every_at, every_true, length_tab, nth_tab}
use Rattle.lists.proofs.Ranges.{some_list_true, some_list_of, Largest, largest_is}
use Rattle.embedding.proofs.Answers.{and_of}
use Rattle.embedding.proofs.Splitting.{agree}

beq_iff : (a b : Bool) → (a ≡ true) ↔ (b ≡ true) → beq a b ≡ true
beq_iff true true h = refl
beq_iff true false h = h.0 refl
beq_iff false true h = h.1 refl
beq_iff false false h = refl

beq_same : (a b : Bool) → beq a b ≡ true → a ≡ b
beq_same true true h = refl
beq_same true false h = cc
beq_same false true h = cc
beq_same false false h = refl

pub closed_iff : (pm : ℕ → ℕ) (k : ℕ) → (closed_to pm k ≡ true) ↔ Closed pm 0 k
unfolding closed_to
closed_iff pm k = (
  (λ h x p q. ltb-true (pm x) k (every_at (λ x. ltb (pm x) k) k x h q)),
  (λ C. every_true (λ x. ltb (pm x) k) k λ x q. lt-ltb (pm x) k (C x (omega arith) q)),
)

module _ (fit : ℕ → ℕ → Bool) (pm qm : ℕ → ℕ) (n : ℕ) where
  places_embed : (k : ℕ) (v : List ℕ) → places_ok fit pm qm n k v ≡ true → Emb fit pm qm 0 k 0 n (nth v)
  unfolding places_ok
  places_embed k v h =
      record {
        low = λ x p q. omega arith;
        high = λ x p q. ltb-true (nth v x) n (inner x q).0;
        order = λ x y p q r. ltb-true (nth v x) (nth v y) (pair x y q r).0;
        bases = λ x p q. (inner x q).1;
        arcs = λ x y p q r.
            let i : eqb (pm x) y ≡ eqb (qm (nth v x)) (nth v y) = beq_same _ _ (pair x y q r).1 in
            ((λ e. eqb-true (qm (nth v x)) (nth v y) (sym i ∙ eq-eqb (pm x) y e)), (λ e. eqb-true (pm x) y (i ∙ eq-eqb (qm (nth v x)) (nth v y) e)));
      }
    where
      inner : (y : ℕ) → y < k → (ltb (nth v y) n ≡ true) × (fit y (nth v y) ≡ true)
          × (every y (λ x. ltb (nth v x) (nth v y) && beq (eqb (pm x) y) (eqb (qm (nth v x)) (nth v y))) ≡ true)
      inner y q =
          let a = and_true _ _ (every_at _ k y h q) in
          let b = and_true _ _ a.0 in
          (b.0, b.1, a.1)

      pair : (x y : ℕ) → x < y → y < k → (ltb (nth v x) (nth v y) ≡ true) × (beq (eqb (pm x) y) (eqb (qm (nth v x)) (nth v y)) ≡ true)
      pair x y q r = and_true _ _ (every_at _ y x (inner y r).2 q)

  embed_places : (k : ℕ) (v : List ℕ) → Emb fit pm qm 0 k 0 n (nth v) → places_ok fit pm qm n k v ≡ true
  unfolding places_ok
  embed_places k v E =
      every_true _ k λ y q.
      and_of (and_of (lt-ltb (nth v y) n (E.high y (omega arith) q)) (E.bases y (omega arith) q))
      (every_true _ y λ x r.
      and_of (lt-ltb (nth v x) (nth v y) (E.order x y (omega arith) r q))
      (beq_iff _ _ (let a = E.arcs x y (omega arith) r q in
      ((λ e. eq-eqb (qm (nth v x)) (nth v y) (a.0 (eqb-true (pm x) y e))), (λ e. eq-eqb (pm x) y (a.1 (eqb-true (qm (nth v x)) (nth v y) e)))))))

  -- Existence by the test, and existence of an embedding.
  some_places_iff : (k : ℕ) → (some_list k n (places_ok fit pm qm n k) ≡ true) ↔ Embeds fit pm qm 0 k 0 n
  some_places_iff k = (there, back)
    where
      there : some_list k n (places_ok fit pm qm n k) ≡ true → Embeds fit pm qm 0 k 0 n
      there h = let r = some_list_true k n (places_ok fit pm qm n k) h in (nth r.0, places_embed k r.0 r.2)

      back : Embeds fit pm qm 0 k 0 n → some_list k n (places_ok fit pm qm n k) ≡ true
      back (f, E) =
          let v = tab k f in
          let F = agree (nth v) (λ x p q. sym (nth_tab f k x q)) E in
          some_list_of k n (places_ok fit pm qm n k) v (length_tab f k) (λ x q. F.high x (omega arith) q) (embed_places k v F)

  prefix_iff : (k : ℕ) → (prefix_ok fit pm qm n k ≡ true) ↔ (Closed pm 0 k × Embeds fit pm qm 0 k 0 n)
  unfolding prefix_ok
  prefix_iff k = (
    (λ h. let a = and_true _ _ h in ((closed_iff pm k).0 a.0, (some_places_iff k).0 a.1)),
    (λ h. and_of ((closed_iff pm k).1 h.0) ((some_places_iff k).1 h.1)),
  )

module _ (rule : ℕ → ℕ → Bool) (pb pm qb qm : List ℕ) where
  pub longest_best : Best (fits rule pb qb) (nth pm) (nth qm) (length pb) 0 (longest rule pb pm qb qm) 0 (length qb)
  unfolding longest
  longest_best = go (largest_is (length pb) ok none)
    where
      ok : ℕ → Bool
      ok = prefix_ok (fits rule pb qb) (nth pm) (nth qm) (length qb)

      none : ok 0 ≡ true
      none = unfold prefix_ok closed_to every some_list places_ok in refl

      go : {k : ℕ} → Largest (length pb) ok k → Best (fits rule pb qb) (nth pm) (nth qm) (length pb) 0 k 0 (length qb)
      go {k} L =
          let r = (prefix_iff (fits rule pb qb) (nth pm) (nth qm) (length qb) k).0 L.passes in
          record {
            reach = record { from = omega arith; upto = L.upto; closed = r.0; embeds = r.1 };
            most = λ k' R. L.most k' R.upto ((prefix_iff (fits rule pb qb) (nth pm) (nth qm) (length qb) k').1 (R.closed, R.embeds));
          }

  -- L = m exactly when P embeds.
  pub whole_iff : Inside (nth pm) (length pb)
      → (longest rule pb pm qb qm ≡ length pb) ↔ Embeds (fits rule pb qb) (nth pm) (nth qm) 0 (length pb) 0 (length qb)
  whole_iff H =
      let B = longest_best in (
        (λ e. rw e at B.reach.embeds),
        (λ E. omega (
          arith,
          B.reach.upto,
          B.most (length pb) record { from = omega arith; upto = omega arith; closed = λ x p q. H x q; embeds = E },
        )),
      )

  pub verified_iff : (v : List ℕ) → (verified rule pb pm qb qm v ≡ true)
      ↔ ((length v ≡ length pb) × Emb (fits rule pb qb) (nth pm) (nth qm) 0 (length pb) 0 (length qb) (nth v))
  unfolding verified
  verified_iff v = (there, back)
    where
      there : verified rule pb pm qb qm v ≡ true → (length v ≡ length pb) × Emb (fits rule pb qb) (nth pm) (nth qm) 0 (length pb) 0 (length qb) (nth v)
      there h =
          let a = and_true _ _ h in
          (eqb-true (length v) (length pb) a.0, places_embed (fits rule pb qb) (nth pm) (nth qm) (length qb) (length pb) v a.1)

      back : (length v ≡ length pb) × Emb (fits rule pb qb) (nth pm) (nth qm) 0 (length pb) 0 (length qb) (nth v) → verified rule pb pm qb qm v ≡ true
      back (l, E) = and_of (eq-eqb (length v) (length pb) l) (embed_places (fits rule pb qb) (nth pm) (nth qm) (length qb) (length pb) v E)

-- The motif embeds exactly where the longest prefix that does is the whole motif.
pub embeds_longest : (p q : Strand) (k : ℕ) → k ≡ longest letters_match p.bases p.mates q.bases q.mates → eqb k (length p.bases) ≡ embeds p q
unfolding embeds
embeds_longest p q k e = ap (λ (n : ℕ). eqb n (length p.bases)) e
