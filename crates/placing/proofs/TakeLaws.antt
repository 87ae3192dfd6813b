-- An arc of the molecule takes the motif as far as can be, and places of what goes inside the arc, with its ends, are places of the whole.
use Prim.Native.Nat.{ℕ, suc, ◌+◌, ◌≤◌, ◌<◌, max}
use mathlib.Core.Path.{◌≡◌, refl, sym, ap, ◌∙◌}
use mathlib.Core.Bool.{Bool, true, false}
use mathlib.Core.List.{List}
use mathlib.Core.Logic.{◌⊎◌, ⊎_elim}
use native.Mathlib.Numerals.{add-one}
use native.Mathlib.Decide.{dec_lt}
use native.Mathlib.Omega.{arith}
use lib.ListN.{length, set, length-set}
use lib.Seq.{get_or-set_same, get_or-set_other}
use Rattle.lists.specs.Vocabulary.{nth}
use Rattle.embedding.specs.Embedding.{Emb, letters_fit}
use Rattle.embedding.specs.Row.{Closed, Split, Best, IsRow, unit_at, over_at, arc_at}
use Rattle.embedding.proofs.Splitting.{restrict, agree, join}
use Rattle.embedding.proofs.Arc.{inner_closed, upon_arc}
use Rattle.embedding.proofs.Segment.{cut_to}
use Rattle.embedding.proofs.Rows.{before_right, row_from}
use Rattle.placing.specs.declared.take.ArcTake.{ArcTake}
use Rattle.rows.specs.Rows.{matches}
use Rattle.arcs.specs.Arcs.{Setting}
use Rattle.placing.specs.Placing.{Takes, upon, left_end, inside, Taken, PlacePut, Laid}
use Rattle.embedding.proofs.Entries.{UnitTakes, unit_case, over_other, over_free, over_far, over_unlike, over_short, over_arc}

-- What the arc takes, by o, what it takes with its left end, and u, what it takes without.
module _ (left right : ℕ → Bool) (pm : ℕ → ℕ) (z j here next u o : ℕ) (a : j < z) (e : u ≡ unit_at right pm z here) (f : o
    ≡ over_at left right pm z next j) where
  pub takes_inside : o ≤ u → Takes left right pm j z here next (record { from = j; to = here; next = u })
  takes_inside h = rw e (inside (omega arith))

  pub takes_left : u < o → pm j ≤ j → Takes left right pm j z here next (record { from = j + 1; to = next; next = next })
  takes_left h b = go (left j) refl where
    go : (t : Bool) → left j ≡ t → Takes left right pm j z here next (record { from = j + 1; to = next; next = next })
    go false t = absurd (omega (arith, over_other left right pm z next j a t))
    go true t = left_end t b (omega (arith, over_free left right pm z next j a t b))

  pub takes_upon : u < o → (k : ℕ) → k ≡ pm j → j < k → Takes left right pm j z here next (record { from = j + 1; to = k; next = k + 1 })
  takes_upon h k i b = rw i (go (left j) refl (dec_lt (pm j) z) (right (pm j)) refl (dec_lt next (pm j))) where
    go : (t : Bool) → left j ≡ t → Dec (pm j < z) → (d : Bool) → right (pm j) ≡ d → Dec (next < pm j)
        → Takes left right pm j z here next (record { from = j + 1; to = pm j; next = pm j + 1 })
    go false t x d y w = absurd (omega (arith, over_other left right pm z next j a t))
    go true t (no x) d y w = absurd (omega (arith, over_far left right pm z next j a t (omega arith) (omega arith)))
    go true t (yes x) false y w = absurd (omega (arith, over_unlike left right pm z next j a t (omega arith) x y))
    go true t (yes x) true y (yes w) = absurd (omega (arith, over_short left right pm z next j a t (omega arith) x y w))
    go true t (yes x) true y (no w) =
        upon t (omega arith) x y (omega arith) (omega (arith, over_arc left right pm z next j a t (omega arith) x y (omega arith)))

-- The position after the span inside is one of the segment.
pub takes_end : {left right : ℕ → Bool} {pm : ℕ → ℕ} {z j here next : ℕ} (t : ArcTake) → Takes left right pm j z here next t → t.to < t.next → t.to < z
takes_end t (upon a b d x y w) h = d
takes_end t (left_end a b d) h = absurd (omega arith)
takes_end {left} {right} {pm} {z} {j} {here} t (inside o) h = ⊎_elim (λ x. absurd (omega arith)) (λ x. x.low) (unit_case right pm z here)

module _ {fit : ℕ → ℕ → Bool} {f g : ℕ → ℕ} where
  pub shift : {a b s e : ℕ} {h : ℕ → ℕ} (a' b' s' e' : ℕ) → a ≡ a' → b ≡ b' → s ≡ s' → e ≡ e' → Emb fit f g a b s e h → Emb fit f g a' b' s' e' h
  shift a' b' s' e' ha hb hs he E = restrict a' b' s' e' (omega arith) (omega arith) (omega arith) (omega arith) E

  -- One base upon one base.
  one_base : (j s : ℕ) (h : ℕ → ℕ) → h j ≡ s → fit j s ≡ true → Emb fit f g j (j + 1) s (s + 1) h
  one_base j s h e t =
      record {
        low = λ x a b. let i : j ≡ x = omega arith in omega (arith, ap h i);
        high = λ x a b. let i : j ≡ x = omega arith in omega (arith, ap h i);
        order = λ x y a b d. omega arith;
        bases = λ x a b. let i : j ≡ x = omega arith in rw (← i, e) t;
        arcs = λ x y a b d. absurd (omega arith);
      }

  pub no_base : (j s e : ℕ) (h : ℕ → ℕ) → Emb fit f g j j s e h
  no_base j s e h =
      record {
        low = λ x a b. absurd (omega arith);
        high = λ x a b. absurd (omega arith);
        order = λ x y a b d. absurd (omega arith);
        bases = λ x a b. absurd (omega arith);
        arcs = λ x y a b d. absurd (omega arith);
      }

-- What an arc takes, from its inner row for a narrower segment that the arc does not fill, or for all of the segment.
module _ {p pm q qm : List ℕ} {j to : ℕ} (z l r : ℕ) (S : Setting p pm q qm j to) (jz : j < z) (zt : z ≤ to)
    (lr : l < r) (rn : r < length q) (arc : nth qm l ≡ r) {row : ℕ → ℕ} (A : IsRow (letters_fit p q) (nth pm) (nth qm) j z z (l + 1) r row)
    (best : Best (letters_fit p q) (nth pm) (nth qm) to j (arc_at (matches p (nth q l)) (matches p (nth q r)) (nth pm) z (row j) (row (j + 1)) j) l (r + 1))
  where
    here : (j ≤ row j) × (row j ≤ z)
    here = row_from A j (omega arith) (omega (arith, jz))

    after : (j + 1 ≤ row (j + 1)) × (row (j + 1) ≤ z)
    after = row_from A (j + 1) (omega arith) (omega (arith, jz))

    split_right : Split (nth qm) (l + 1) r (r + 1)
    split_right u a b d =
        let A' : IsRow (letters_fit p q) (nth pm) (nth qm) j z z (suc l) r row = rw (← (add-one l)) A in
        omega (arith, before_right {z = z} S.motif (omega (arith, zt, S.segment.ends)) S.molecule lr rn arc A' u (omega arith) b d)

    taken_inside : over_at (matches p (nth q l)) (matches p (nth q r)) (nth pm) z (row (j + 1)) j ≤ unit_at (matches p (nth q r)) (nth pm) z (row j)
        → Taken p pm q qm j to l r (record { from = j; to = row j; next = unit_at (matches p (nth q r)) (nth pm) z (row j) })
    taken_inside o = go (unit_at (matches p (nth q r)) (nth pm) z (row j)) refl (unit_case (matches p (nth q r)) (nth pm) z (row j)) where
      go : (u : ℕ) → unit_at (matches p (nth q r)) (nth pm) z (row j) ≡ u
          → (unit_at (matches p (nth q r)) (nth pm) z (row j) ≡ row j) ⊎ UnitTakes (matches p (nth q r)) (nth pm) z (row j)
          → Taken p pm q qm j to l r (record { from = j; to = row j; next = u })
      go u i d =
          record {
            low = omega arith;
            one_left = omega arith;
            order = here.0;
            goes = ⊎_elim (λ x. omega (arith, i)) (λ x. omega (arith, i, x.value)) d;
            one_right = ⊎_elim (λ x. omega (arith, i)) (λ x. omega (arith, i, x.value)) d;
            ends = ⊎_elim (λ x. omega (arith, i, here, zt)) (λ x. omega (arith, i, x.value, x.low, zt)) d;
            best = let m : max (unit_at (matches p (nth q r)) (nth pm) z (row j))
                (over_at (matches p (nth q l)) (matches p (nth q r)) (nth pm) z (row (j + 1)) j)
                ≡ u = omega arith in rw m at best;
            inner = cut_to (A.best j (omega arith) (omega (arith, jz))).reach;
            lay = λ h E el er. ⊎_elim (λ x. restrict j u l (r + 1) (omega arith) (omega (arith, i)) (omega arith) (omega arith) E)
                (λ x.
                let v : u ≡ row j + 1 = omega (arith, i, x.value) in
                let O = one_base {fit = letters_fit p q} {f = nth pm} {g = nth qm} (row j) r h (er (omega (arith, v))) x.fits in
                restrict j u l (r + 1) (omega arith) (omega (arith, v)) (omega arith) (omega arith)
                (join (row j) r (omega arith) (omega arith) (A.best j (omega arith) (omega (arith, jz))).reach.closed split_right E O)) d;
          }

    taken_left : matches p (nth q l) j ≡ true → nth pm j ≤ j → unit_at (matches p (nth q r)) (nth pm) z (row j) < row (j + 1)
        → Taken p pm q qm j to l r (record { from = j + 1; to = row (j + 1); next = row (j + 1) })
    taken_left tl free lt =
        record {
          low = omega arith;
          one_left = omega arith;
          order = after.0;
          goes = omega arith;
          one_right = omega arith;
          ends = omega (arith, after, zt);
          best =
              let o = over_free (matches p (nth q l)) (matches p (nth q r)) (nth pm) z (row (j + 1)) j jz tl free in
              let m : max (unit_at (matches p (nth q r)) (nth pm) z (row j)) (over_at (matches p (nth q l)) (matches p (nth q r)) (nth pm) z (row (j + 1)) j)
              ≡ row (j + 1) = omega arith in
              rw m at best;
          inner = cut_to (A.best (j + 1) (omega arith) (omega (arith, jz))).reach;
          lay = λ h E el er.
              restrict j (row (j + 1)) l (r + 1) (omega arith) (omega arith) (omega arith) (omega arith)
              (join (j + 1) (l + 1) (omega arith) (omega arith) (λ x a b. let i : x ≡ j = omega arith in omega (arith, ap (nth pm) i))
              (λ u a b d. let i : u ≡ l = omega arith in omega (arith, ap (nth qm) i)) (one_base j l h (el (omega arith)) tl) E);
        }

    taken_upon : matches p (nth q l) j ≡ true → j < nth pm j → nth pm j < z → matches p (nth q r) (nth pm j) ≡ true → nth pm j ≤ row (j + 1)
        → unit_at (matches p (nth q r)) (nth pm) z (row j) ≤ nth pm j
        → Taken p pm q qm j to l r (record { from = j + 1; to = nth pm j; next = nth pm j + 1 })
    taken_upon tl up low tr fit le =
        record {
          low = omega arith;
          one_left = omega arith;
          order = omega arith;
          goes = omega arith;
          one_right = omega arith;
          ends = omega (arith, zt);
          best =
              let o = over_arc (matches p (nth q l)) (matches p (nth q r)) (nth pm) z (row (j + 1)) j jz tl up low tr fit in
              let m : max (unit_at (matches p (nth q r)) (nth pm) z (row j)) (over_at (matches p (nth q l)) (matches p (nth q r)) (nth pm) z (row (j + 1)) j)
              ≡ nth pm j + 1 = omega arith in
              rw m at best;
          inner = record {
            from = omega arith;
            upto = omega arith;
            closed = λ x a b. inner_closed S.motif j (omega (arith, S.segment.ends)) up x (omega arith) b;
            embeds = (
              (A.best (j + 1) (omega arith) (omega (arith, jz))).reach.embeds.0,
              restrict (j + 1) (nth pm j) (l + 1) r (omega arith) fit (omega arith) (omega arith)
                  (A.best (j + 1) (omega arith) (omega (arith, jz))).reach.embeds.1,
            );
          };
          lay = λ h E el er.
              shift j (nth pm j + 1) l (r + 1) refl (omega arith) refl (omega arith)
              (upon_arc S.motif S.molecule j l r (omega (arith, S.segment.ends)) up lr rn arc (sym (el (omega arith))) (sym (er (omega arith))) tl tr
              (shift (suc j) (nth pm j) (suc l) r (omega arith) refl (omega arith) refl E));
        }

    pub taken : (t : ArcTake) → Takes (matches p (nth q l)) (matches p (nth q r)) (nth pm) j z (row j) (row (j + 1)) t → Taken p pm q qm j to l r t
    taken t (upon a b d x y w) = taken_upon a b d x y w
    taken t (left_end a b d) = taken_left a b d
    taken t (inside o) = taken_inside o

-- What is written.
pub put_set : (j k s : ℕ) (v : List ℕ) → j < k → j < length v → PlacePut j k s v (set v j s)
put_set j k s v jk h =
    record {
      long = length-set v j s;
      here = λ l. get_or-set_same v j s 0 h;
      others = λ x n. get_or-set_other v j x s 0 (λ e. n e jk);
    }

module _ {p pm q qm : List ℕ} where
  pub laid_none : (j s e : ℕ) (v : List ℕ) → Laid p pm q qm j j s e v v
  laid_none j s e v = record { long = refl; before = λ x a. refl; after = λ x a. refl; embeds = no_base j s e (nth v) }

  pub laid_join : {j k s e : ℕ} {u v w : List ℕ} (t i : ℕ) → j ≤ t → t ≤ k → s ≤ i → i ≤ e → Closed (nth pm) j t → Split (nth qm) s i e
      → Laid p pm q qm j t s i u v → Laid p pm q qm t k i e v w → Laid p pm q qm j k s e u w
  laid_join t i jt tk hs he C S X Y =
      record {
        long = Y.long ∙ X.long;
        before = λ x h. Y.before x (omega arith) ∙ X.before x h;
        after = λ x h. Y.after x h ∙ X.after x (omega arith);
        embeds = join t i hs he C S (agree _ (λ x a b. sym (Y.before x b)) X.embeds) Y.embeds;
      }

  pub laid_wide : {j k s e : ℕ} {v w : List ℕ} (e' : ℕ) → e ≤ e' → Laid p pm q qm j k s e v w → Laid p pm q qm j k s e' v w
  laid_wide {j} {k} {s} e' he X =
      record {
        long = X.long;
        before = X.before;
        after = X.after;
        embeds = restrict j k s e' (omega arith) (omega arith) (omega arith) he X.embeds;
      }

  -- An unbonded base.
  pub laid_unit : (to j k s r : ℕ) {v w : List ℕ} → s ≡ r → k ≡ unit_at (matches p (nth q s)) (nth pm) to j → PlacePut j k s v w
      → Laid p pm q qm j k s (r + 1) v w
  laid_unit to j k s r {v} {w} sr e P = ⊎_elim same takes (unit_case (matches p (nth q s)) (nth pm) to j) where
    before : (x : ℕ) → x < j → nth w x ≡ nth v x
    before x h = P.others x (λ a b. omega arith)

    after : (x : ℕ) → k ≤ x → nth w x ≡ nth v x
    after x h = P.others x (λ a b. omega arith)

    same : unit_at (matches p (nth q s)) (nth pm) to j ≡ j → Laid p pm q qm j k s (r + 1) v w
    same i = record {
      long = P.long;
      before = before;
      after = after;
      embeds = shift j k s (r + 1) refl (omega arith) refl refl (no_base j s (r + 1) (nth w));
    }

    takes : UnitTakes (matches p (nth q s)) (nth pm) to j → Laid p pm q qm j k s (r + 1) v w
    takes T =
        let i : k ≡ j + 1 = omega (arith, T.value) in
        record {
          long = P.long;
          before = before;
          after = after;
          embeds = shift j k s (r + 1) refl (sym i) refl (omega arith) (one_base j s (nth w) (P.here (omega arith)) T.fits);
        }
