-- The Splitting Lemma: embeddings are restricted, extended, cut at an arc-preserving split of the molecule, and glued.
use Prim.Native.Nat.{ℕ, zero, suc, ◌+◌, ◌-◌, ◌≤◌, ◌<◌}
use mathlib.Core.Path.{◌≡◌, refl}
use mathlib.Core.Bool.{Bool, true, cond}
use mathlib.Core.Logic.{◌↔◌}
use native.Mathlib.Decide.{dec_lt, ℕ_discrete}
use native.Mathlib.Omega.{arith}
use lib.Dec.{ltb}
use borrow.Author.Tests.{lt-ltb, le-ltb}
use Rattle.embedding.specs.Embedding.{Emb, Embeds}
use Rattle.embedding.specs.Row.{Closed, Split}

-- f before c, g from c on.
pub glue : ℕ → (ℕ → ℕ) → (ℕ → ℕ) → ℕ → ℕ
glue c f g x = cond (ltb x c) (f x) (g x)

pub glue_left : (c : ℕ) (f g : ℕ → ℕ) (x : ℕ) → x < c → f x ≡ glue c f g x
unfolding glue
glue_left c f g x h = rw (lt-ltb x c h)

pub glue_right : (c : ℕ) (f g : ℕ → ℕ) (x : ℕ) → c ≤ x → g x ≡ glue c f g x
unfolding glue
glue_right c f g x h = rw (le-ltb x c h)

module _ {fit : ℕ → ℕ → Bool} {pm qm : ℕ → ℕ} where
  -- An embedding of a part of P[a..b), in a stretch that holds its images.
  pub within : {a b s e : ℕ} {f : ℕ → ℕ} (a' b' s' e' : ℕ) → a ≤ a' → b' ≤ b
      → ((x : ℕ) → a' ≤ x → x < b' → s' ≤ f x) → ((x : ℕ) → a' ≤ x → x < b' → f x < e')
      → Emb fit pm qm a b s e f → Emb fit pm qm a' b' s' e' f
  within a' b' s' e' ha hb lo hi E =
      record {
        low = lo;
        high = hi;
        order = λ x y p q r. E.order x y (omega arith) q (omega arith);
        bases = λ x p q. E.bases x (omega arith) (omega arith);
        arcs = λ x y p q r. E.arcs x y (omega arith) q (omega arith);
      }

  -- A part of P[a..b), in a stretch around Q[s..e).
  pub restrict : {a b s e : ℕ} {f : ℕ → ℕ} (a' b' s' e' : ℕ) → a ≤ a' → b' ≤ b → s' ≤ s → e ≤ e'
      → Emb fit pm qm a b s e f → Emb fit pm qm a' b' s' e' f
  restrict a' b' s' e' ha hb hs he E =
      within a' b' s' e' ha hb
      (λ x p q. omega (arith, E.low x (omega arith) (omega arith)))
      (λ x p q. omega (arith, E.high x (omega arith) (omega arith))) E

  -- Only the values on [a..b) count.
  pub agree : {a b s e : ℕ} {f : ℕ → ℕ} (g : ℕ → ℕ) → ((x : ℕ) → a ≤ x → x < b → f x ≡ g x)
      → Emb fit pm qm a b s e f → Emb fit pm qm a b s e g
  agree g h E =
      record {
        low = λ x p q. omega (arith, h x p q, E.low x p q);
        high = λ x p q. omega (arith, h x p q, E.high x p q);
        order = λ x y p q r. omega (arith, h x p (omega arith), h y (omega arith) r, E.order x y p q r);
        bases = λ x p q. rw (← (h x p q)) (E.bases x p q);
        arcs = λ x y p q r. rw (← (h x p (omega arith)), ← (h y (omega arith) r)) (E.arcs x y p q r);
      }

  -- (ii) for one function: embeddings on both sides of two arc-preserving splits are one embedding.
  pub join : {a b s e : ℕ} (c i : ℕ) {f : ℕ → ℕ} → s ≤ i → i ≤ e → Closed pm a c → Split qm s i e
      → Emb fit pm qm a c s i f → Emb fit pm qm c b i e f → Emb fit pm qm a b s e f
  join {a} {b} {s} {e} c i {f} hs he C S E₁ E₂ =
      record { low = low; high = high; order = order; bases = bases; arcs = arcs }
    where
      low : (x : ℕ) → a ≤ x → x < b → s ≤ f x
      low x p q = elim (dec_lt x c) [ yes h ↦ E₁.low x p h | no h ↦ omega (arith, E₂.low x (omega arith) q) ]

      high : (x : ℕ) → a ≤ x → x < b → f x < e
      high x p q = elim (dec_lt x c) [ yes h ↦ omega (arith, E₁.high x p h) | no h ↦ E₂.high x (omega arith) q ]

      order : (x y : ℕ) → a ≤ x → x < y → y < b → f x < f y
      order x y p q r = go (dec_lt x c) (dec_lt y c)
        where
          go : Dec (x < c) → Dec (y < c) → f x < f y
          go h (yes k) = E₁.order x y p q k
          go (yes h) (no k) = omega (arith, E₁.high x p h, E₂.low y (omega arith) r)
          go (no h) (no k) = E₂.order x y (omega arith) q r

      bases : (x : ℕ) → a ≤ x → x < b → fit x (f x) ≡ true
      bases x p q = elim (dec_lt x c) [ yes h ↦ E₁.bases x p h | no h ↦ E₂.bases x (omega arith) q ]

      arcs : (x y : ℕ) → a ≤ x → x < y → y < b → (pm x ≡ y) ↔ (qm (f x) ≡ f y)
      arcs x y p q r = go (dec_lt x c) (dec_lt y c)
        where
          go : Dec (x < c) → Dec (y < c) → (pm x ≡ y) ↔ (qm (f x) ≡ f y)
          go h (yes k) = E₁.arcs x y p q k
          go (yes h) (no k) =
              let u = E₁.high x p h in
              let v = E₂.low y (omega arith) r in
              let w = E₂.high y (omega arith) r in (
                (λ t. omega (arith, C x p h)),
                (λ t. omega (arith, S (f x) (E₁.low x p h) u (omega arith))),
              )
          go (no h) (no k) = E₂.arcs x y (omega arith) q r

  -- (ii) Glue two embeddings.
  pub glued : {a b s e : ℕ} (c i : ℕ) → s ≤ i → i ≤ e → Closed pm a c → Split qm s i e
      → Embeds fit pm qm a c s i → Embeds fit pm qm c b i e → Embeds fit pm qm a b s e
  glued c i hs he C S E₁ E₂ =
      let h = glue c E₁.0 E₂.0 in (
        h,
        join c i hs he C S
            (agree h (λ x p q. glue_left c E₁.0 E₂.0 x q) E₁.1)
            (agree h (λ x p q. glue_right c E₁.0 E₂.0 x p) E₂.1),
      )

-- Where the images of a rising f on [a..b) pass i.
pub record Cut (f : ℕ → ℕ) (a b i : ℕ) : Type 0 where
  pub place : ℕ
  pub from : a ≤ place
  pub upto : place ≤ b
  pub before : (x : ℕ) → a ≤ x → x < place → f x < i
  pub after : (x : ℕ) → place ≤ x → x < b → i ≤ f x

-- d bases are left.
cutting : (f : ℕ → ℕ) (i d a b : ℕ) → a + d ≡ b → ((x y : ℕ) → a ≤ x → x < y → y < b → f x < f y) → Cut f a b i
cutting f i zero a b h rise =
    record {
      place = a;
      from = omega arith;
      upto = omega arith;
      before = λ x p q. omega arith;
      after = λ x p q. omega arith;
    }
cutting f i (suc d) a b h rise = go (dec_lt (f a) i) (cutting f i d (suc a) b (omega arith) (λ x y p q r. rise x y (omega arith) q r))
  where
    go : Dec (f a < i) → Cut f (suc a) b i → Cut f a b i
    go (yes t) c =
        record {
          place = c.place;
          from = omega arith;
          upto = omega arith;
          before = before;
          after = c.after;
        }
      where
        before : (x : ℕ) → a ≤ x → x < c.place → f x < i
        before x p q = elim (ℕ_discrete a x) [ yes k ↦ rw (← k) t | no k ↦ c.before x (omega arith) q ]
    go (no t) c =
        record {
          place = a;
          from = omega arith;
          upto = omega arith;
          before = λ x p q. omega arith;
          after = after;
        }
      where
        after : (x : ℕ) → a ≤ x → x < b → i ≤ f x
        after x p q = elim (ℕ_discrete a x) [ yes k ↦ rw (← k) (omega arith) | no k ↦ omega (arith, rise a x (omega arith) (omega arith) q) ]

cut : (f : ℕ → ℕ) (i a b : ℕ) → a ≤ b → ((x y : ℕ) → a ≤ x → x < y → y < b → f x < f y) → Cut f a b i
cut f i a b h rise = cutting f i (b - a) a b (omega arith) rise

-- (i) An embedding of a closed stretch, cut where its images pass an arc-preserving split.
pub record Halves (fit : ℕ → ℕ → Bool) (pm qm : ℕ → ℕ) (a b s i e : ℕ) : Type 0 where
  pub place : ℕ
  pub from : a ≤ place
  pub upto : place ≤ b
  pub closed_left : Closed pm a place
  pub closed_right : Closed pm place b
  pub left : Embeds fit pm qm a place s i
  pub right : Embeds fit pm qm place b i e

module _ {fit : ℕ → ℕ → Bool} {pm qm : ℕ → ℕ} where
  pub halves : {a b s e : ℕ} (i : ℕ) → a ≤ b → Closed pm a b → Split qm s i e → Embeds fit pm qm a b s e → Halves fit pm qm a b s i e
  halves {a} {b} {s} {e} i h C S (f, E) = go (cut f i a b h E.order)
    where
      closed : (c : Cut f a b i) → Closed pm a c.place
      closed c x p q = go (dec_lt (pm x) c.place)
        where
          go : Dec (pm x < c.place) → pm x < c.place
          go (yes k) = k
          go (no k) =
              let r : x < b = omega arith in
              let l : x < pm x = omega arith in
              let w : pm x < b = C x p r in
              let t : qm (f x) ≡ f (pm x) = (E.arcs x (pm x) p l w).0 refl in
              let v : i ≤ f (pm x) = c.after (pm x) (omega arith) w in
              omega (arith, S (f x) (E.low x p r) (c.before x p q) (omega arith), E.high (pm x) (omega arith) w)

      go : Cut f a b i → Halves fit pm qm a b s i e
      go c =
          record {
            place = c.place;
            from = c.from;
            upto = c.upto;
            closed_left = closed c;
            closed_right = λ x p q. C x (omega arith) q;
            left = (f, within a c.place s i (omega arith) c.upto (λ x p q. E.low x p (omega arith)) c.before E);
            right = (f, within c.place b i e c.from (omega arith) c.after (λ x p q. E.high x (omega arith) q) E);
          }

  -- The Splitting Lemma, for readers: a closed stretch embeds exactly when it is cut into two that embed on the two sides of the split.
  -- The laws of rows use its two halves, `halves` and `glued`.
  splitting : {a b s e : ℕ} (i : ℕ) → s ≤ i → i ≤ e → a ≤ b → Closed pm a b → Split qm s i e
      → Embeds fit pm qm a b s e ↔ Halves fit pm qm a b s i e
  splitting i hs he h C S = (
    (λ E. halves i h C S E),
    (λ H. glued H.place i hs he H.closed_left S H.left H.right),
  )
