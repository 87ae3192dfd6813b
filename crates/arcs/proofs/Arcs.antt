-- The tree of arcs of a nested molecule: stretches that no arc leaves, a longest arc, what lies beside it, and room for rows.
use Prim.Native.Nat.{ℕ, zero, suc, ◌+◌, ◌-◌, ◌*◌, ◌^◌, ◌≤◌, ◌<◌}
use mathlib.Core.Path.{◌≡◌, refl, ap}
use mathlib.Core.List.{List}
use native.Mathlib.Numerals.{add-one}
use native.Mathlib.Decide.{dec_lt, dec_le, ℕ_discrete}
use native.Mathlib.Omega.{arith}
use Rattle.lists.specs.Vocabulary.{nth}
use Rattle.strand.specs.Strands.{Nested}
use Rattle.embedding.specs.Row.{Split}
use Rattle.embedding.proofs.Arc.{same_mate, inner_closed, arc_closed}
use Rattle.arcs.specs.Arcs.{Sealed, Heavy, Room, LightRoom}

-- What the search for a longest arc knows when it has come to i.
pub record Seen (qm : List ℕ) (lo hi best size i : ℕ) : Type 0 where
  pub low : lo ≤ i
  pub high : i ≤ hi
  pub closed : (c : ℕ) → lo ≤ c → c < i → nth qm c < i
  pub best_low : lo ≤ best
  pub best_high : best ≤ hi
  pub arc : best < hi → (best < nth qm best) × (size ≡ nth qm best - best)
  pub none : hi ≤ best → size ≡ 0
  pub most : (c : ℕ) → lo ≤ c → c < i → c < nth qm c → nth qm c - c ≤ size
  pub first : (c : ℕ) → lo ≤ c → c < best → best < hi → c < nth qm c → nth qm c - c < size

-- A split before which no arc leaves crosses no arc.
pub split_sealed : {qm : List ℕ} {lo i : ℕ} → Sealed qm lo i → (hi : ℕ) → Split (nth qm) lo i hi
split_sealed Z hi u a b d = absurd (omega (arith, Z.high u a b))

module _ {qm : List ℕ} {n : ℕ} (N : Nested (nth qm) n) where
  -- No arc leaves what lies between the ends of an arc.
  arc_sealed : (l : ℕ) → l < n → l < nth qm l → Sealed qm (suc l) (nth qm l)
  arc_sealed l ln lr = record { low = low; high = inner_closed N l ln lr } where
    low : (u : ℕ) → suc l ≤ u → u < nth qm l → suc l ≤ nth qm u
    low u p q = go (dec_le (suc l) (nth qm u)) (ℕ_discrete l (nth qm u)) where
      un : u < n
      un = omega (arith, N.inside l ln)

      go : Dec (suc l ≤ nth qm u) → Dec (l ≡ nth qm u) → suc l ≤ nth qm u
      go (yes h) d = h
      go (no h) (yes i) = omega (arith, N.paired u un, ap (nth qm) i)
      go (no h) (no i) = absurd (N.apart (nth qm u) l ln (omega arith) (rw (N.paired u un) (omega arith)) (rw (N.paired u un) q))

  pub inner_sealed : (l r : ℕ) → l < r → r < n → nth qm l ≡ r → Sealed qm (l + 1) r
  inner_sealed l r lr rn arc =
      let S = arc_sealed l (omega arith) (omega arith) in
      rw (add-one l, ← arc) record { low = S.low; high = S.high }

  -- The base before the end of such a stretch, and the stretch before it or before its arc.
  module _ {lo : ℕ} (k : ℕ) (Z : Sealed qm lo (suc k)) (kn : k < n) (lk : lo ≤ k) where
    back_low : lo ≤ nth qm k
    back_low = Z.low k lk (omega arith)

    back_high : nth qm k ≤ k
    back_high = omega (arith, Z.high k lk (omega arith))

    seal_back : Sealed qm lo (nth qm k)
    seal_back = record { low = λ u a b. Z.low u a (omega (arith, back_high)); high = high } where
      high : (u : ℕ) → lo ≤ u → u < nth qm k → nth qm u < nth qm k
      high u a b = go (dec_lt (nth qm u) (nth qm k)) (ℕ_discrete (nth qm u) (nth qm k)) (ℕ_discrete (nth qm u) k) where
        uk : u < k
        uk = omega (arith, back_high)

        go : Dec (nth qm u < nth qm k) → Dec (nth qm u ≡ nth qm k) → Dec (nth qm u ≡ k) → nth qm u < nth qm k
        go (yes x) y z = x
        go (no x) (yes y) z = omega (arith, same_mate N u k (omega (arith, uk)) kn y, uk)
        go (no x) (no y) (yes z) = omega (arith, N.paired u (omega (arith, uk)), ap (nth qm) z)
        go (no x) (no y) (no z) =
            absurd (N.apart u (nth qm k) (omega (arith, back_high)) b (omega arith)
            (rw (N.paired k kn) (omega (arith, Z.high u a (omega (arith, uk))))))

  -- The base after such a stretch, and the stretch with it or with its arc.
  pub seal_on : {lo hi : ℕ} (i : ℕ) → Sealed qm lo hi → hi ≤ n → lo ≤ i → i < hi → Sealed qm lo i → Sealed qm lo (suc (nth qm i)) × (i ≤ nth qm i)
  seal_on {lo} {hi} i O hn li ih Z = (record { low = λ u a b. O.low u a (omega (arith, O.high i li ih)); high = high }, up) where
    up : i ≤ nth qm i
    up = elim (dec_le i (nth qm i)) [ yes x ↦ x | no x ↦ absurd (omega (arith, Z.high (nth qm i) (O.low i li ih) (omega arith), N.paired i (omega arith))) ]

    high : (u : ℕ) → lo ≤ u → u < suc (nth qm i) → nth qm u < suc (nth qm i)
    high u a b = go (dec_lt u i) (ℕ_discrete u i) where
      go : Dec (u < i) → Dec (u ≡ i) → nth qm u < suc (nth qm i)
      go (yes x) y = omega (arith, Z.high u a x, up)
      go (no x) (yes y) = omega (arith, ap (nth qm) y)
      go (no x) (no y) = arc_closed N i (omega arith) (omega (arith, up)) u (omega arith) b

  pub seen_none : (lo hi : ℕ) → lo ≤ hi → Seen qm lo hi hi 0 lo
  seen_none lo hi h =
      record {
        low = omega arith;
        high = h;
        closed = λ c a b. absurd (omega arith);
        best_low = h;
        best_high = omega arith;
        arc = λ a. absurd (omega arith);
        none = λ a. refl;
        most = λ c a b d. absurd (omega arith);
        first = λ c a b d f. absurd (omega arith);
      }

  pub seen_base : (lo hi best size i : ℕ) → Seen qm lo hi best size i → i < hi → nth qm i ≤ i → Seen qm lo hi best size (i + 1)
  seen_base lo hi best size i S h b =
      record {
        low = omega (arith, S.low);
        high = omega arith;
        closed = closed;
        best_low = S.best_low;
        best_high = S.best_high;
        arc = S.arc;
        none = S.none;
        most = most;
        first = S.first;
      } where
        closed : (c : ℕ) → lo ≤ c → c < i + 1 → nth qm c < i + 1
        closed c p q = elim (ℕ_discrete c i) [ yes e ↦ omega (arith, ap (nth qm) e) | no e ↦ omega (arith, S.closed c p (omega arith)) ]

        most : (c : ℕ) → lo ≤ c → c < i + 1 → c < nth qm c → nth qm c - c ≤ size
        most c p q r = elim (ℕ_discrete c i) [ yes e ↦ omega (arith, ap (nth qm) e) | no e ↦ S.most c p (omega arith) r ]

  -- Past an arc from i, where the best is now at least as long.
  pub seen_arc : (lo hi best size i best' size' : ℕ) → Seen qm lo hi best size i → i < n → i < nth qm i → nth qm i < hi
      → lo ≤ best' → best' ≤ hi → (best' < hi → (best' < nth qm best') × (size' ≡ nth qm best' - best')) → (hi ≤ best' → size' ≡ 0)
      → size ≤ size' → nth qm i - i ≤ size'
      → ((c : ℕ) → lo ≤ c → c < best' → best' < hi → c < nth qm c → nth qm c - c < size') → Seen qm lo hi best' size' (nth qm i + 1)
  seen_arc lo hi best size i best' size' S hn b h l u arc none s t f =
      record {
        low = omega (arith, S.low);
        high = omega arith;
        closed = closed;
        best_low = l;
        best_high = u;
        arc = arc;
        none = none;
        most = most;
        first = f;
      } where
        closed : (c : ℕ) → lo ≤ c → c < nth qm i + 1 → nth qm c < nth qm i + 1
        closed c p q = elim (dec_lt c i) [
          | yes e ↦ omega (arith, S.closed c p e)
          | no e ↦ omega (arith, arc_closed N i hn b c (omega arith) (omega arith))
        ]

        most : (c : ℕ) → lo ≤ c → c < nth qm i + 1 → c < nth qm c → nth qm c - c ≤ size'
        most c p q r = elim (dec_lt c i) [
          | yes e ↦ omega (arith, S.most c p e r)
          | no e ↦ omega (arith, arc_closed N i hn b c (omega arith) (omega arith))
        ]

  pub seen_end : (lo hi best size i : ℕ) → Seen qm lo hi best size i → hi ≤ i → Heavy qm lo hi best
  seen_end lo hi best size i S h = record {
    low = S.best_low;
    high = S.best_high;
    arc = λ a. (S.arc a).0;
    most = most;
    first = λ c p q r d. omega (arith, S.first c p q r d, S.arc r);
  } where
    most : (c : ℕ) → lo ≤ c → c < hi → c < nth qm c → (best < hi) × (nth qm c - c ≤ nth qm best - best)
    most c p q r = go (dec_lt best hi) where
      go : Dec (best < hi) → (best < hi) × (nth qm c - c ≤ nth qm best - best)
      go (yes x) = (x, omega (arith, S.most c p (omega arith) r, S.arc x))
      go (no x) = absurd (omega (arith, S.none (omega arith), S.most c p (omega arith) r))

  -- Where the search finds no arc, no base is bonded.
  pub no_arcs : {lo hi h : ℕ} → hi ≤ n → Sealed qm lo hi → Heavy qm lo hi h → hi ≤ h → (u : ℕ) → lo ≤ u → u < hi → nth qm u ≡ u
  no_arcs {lo} {hi} {h} hn Z H e u a b = go (dec_lt u (nth qm u)) (dec_lt (nth qm u) u) where
    go : Dec (u < nth qm u) → Dec (nth qm u < u) → nth qm u ≡ u
    go (yes x) y = absurd (omega (arith, (H.most u a b x).0))
    go (no x) (yes y) = absurd (omega (arith, (H.most (nth qm u) (Z.low u a b) (omega arith) (omega (arith, N.paired u (omega arith)))).0))
    go (no x) (no y) = omega arith

  -- Beside a longest arc (h, e).
  module _ {lo hi h : ℕ} (Z : Sealed qm lo hi) (hn : hi ≤ n) (H : Heavy qm lo hi h) (lt : h < hi) where
    pub heavy_end : nth qm h < hi
    heavy_end = Z.high h H.low lt

    pub heavy_left : Sealed qm lo h
    heavy_left = record { low = λ u a b. Z.low u a (omega arith); high = high } where
      high : (u : ℕ) → lo ≤ u → u < h → nth qm u < h
      high u a b = go (dec_lt (nth qm u) h) (ℕ_discrete (nth qm u) h) (ℕ_discrete (nth qm u) (nth qm h)) (dec_lt (nth qm u) (nth qm h)) where
        go : Dec (nth qm u < h) → Dec (nth qm u ≡ h) → Dec (nth qm u ≡ nth qm h) → Dec (nth qm u < nth qm h) → nth qm u < h
        go (yes x) y z w = x
        go (no x) (yes y) z w = omega (arith, N.paired u (omega arith), ap (nth qm) y, H.arc lt)
        go (no x) (no y) (yes z) w = omega (arith, same_mate N u h (omega arith) (omega arith) z)
        go (no x) (no y) (no z) (yes w) = absurd (N.apart u h (omega arith) b (omega arith) w)
        go (no x) (no y) (no z) (no w) = omega (arith, H.most u a (omega arith) (omega arith), H.arc lt)

    heavy_right : Sealed qm (nth qm h + 1) hi
    heavy_right = record { low = low; high = λ u a b. Z.high u (omega (arith, H.low, H.arc lt)) b } where
      low : (u : ℕ) → nth qm h + 1 ≤ u → u < hi → nth qm h + 1 ≤ nth qm u
      low u a b = go (dec_le (nth qm h + 1) (nth qm u)) (dec_lt (nth qm u) h) where
        back : nth qm (nth qm u) ≡ u
        back = N.paired u (omega arith)

        go : Dec (nth qm h + 1 ≤ nth qm u) → Dec (nth qm u < h) → nth qm h + 1 ≤ nth qm u
        go (yes x) y = x
        go (no x) (yes y) = omega (arith, back, heavy_left.high (nth qm u) (Z.low u (omega (arith, H.low, H.arc lt)) b) y, H.arc lt)
        go (no x) (no y) = omega (arith, back, arc_closed N h (omega arith) (H.arc lt) (nth qm u) (omega arith) (omega arith))

    pub split_left : Split (nth qm) lo h hi
    split_left = split_sealed heavy_left hi

    split_right : Split (nth qm) h (nth qm h + 1) hi
    split_right u a b d = absurd (omega (arith, arc_closed N h (omega arith) (H.arc lt) u a (omega arith)))

    -- An arc beside the longest one is less than half as long as what is around them.
    light_right : (c : ℕ) → nth qm h + 1 ≤ c → c < hi → c < nth qm c → 2 * (nth qm c - c + 3) ≤ hi - lo + 4
    light_right c a b d = omega (arith, Z.high c (omega (arith, H.low, H.arc lt)) b, H.most c (omega (arith, H.low, H.arc lt)) b d, H.low, H.arc lt)

    pub light_left : (c : ℕ) → lo ≤ c → c < h → c < nth qm c → 2 * (nth qm c - c + 3) ≤ hi - lo + 4
    light_left c a b d = omega (arith, heavy_left.high c a b, H.most c a (omega arith) d, heavy_end, H.arc lt)

-- The first longest arc is one.
pub heavy_same : {qm : List ℕ} {lo hi a b : ℕ} → Heavy qm lo hi a → Heavy qm lo hi b → a ≡ b
heavy_same {qm} {lo} {hi} {a} {b} A B = go (dec_lt a b) (dec_lt b a) where
  go : Dec (a < b) → Dec (b < a) → a ≡ b
  go (yes x) y =
      let m = B.most a A.low (omega (arith, B.high)) (A.arc (omega (arith, B.high))) in
      absurd (omega (arith, B.first a A.low x m.0 (A.arc (omega (arith, B.high))), A.most b B.low m.0 (B.arc m.0)))
  go (no x) (yes y) =
      let m = A.most b B.low (omega (arith, A.high)) (B.arc (omega (arith, A.high))) in
      absurd (omega (arith, A.first b B.low y m.0 (B.arc (omega (arith, A.high))), B.most a A.low m.0 (A.arc m.0)))
  go (no x) (no y) = omega arith

-- 23 rows are room for any arc of a molecule.
pub room_any : {w size room : ℕ} → size < 4096 → 23 * w ≤ room → Room w size room
room_any h g = record { depth = 10; short = omega arith; rows = omega arith }

-- Room for a shorter arc.
pub room_less : {w room : ℕ} (size size' : ℕ) → size' ≤ size → Room w size room → Room w size' room
room_less size size' h R = record { depth = R.depth; short = omega (arith, R.short); rows = R.rows }

pub room_one : {w size room : ℕ} → Room w size room → 2 * w ≤ room
room_one R = omega (arith, R.rows)

-- Room for a light arc, past a row.
pub room_child : {w lo hi room : ℕ} {qm : List ℕ} → LightRoom w qm lo hi room → (c : ℕ) → lo ≤ c → c < hi → c < nth qm c → Room w (nth qm c - c) (room - w)
room_child {w} {lo} {hi} {room} {qm} L c a b d = go L.depth L.rows (L.light c a b d) where
  go : (k : ℕ) → (2 * k + 1) * w ≤ room → 2 * (nth qm c - c + 3) < 8 * 2 ^ k → Room w (nth qm c - c) (room - w)
  go zero x y = absurd (omega arith)
  go (suc k) x y = record { depth = k; short = omega arith; rows = omega arith }

pub light_one : {w lo hi room : ℕ} {qm : List ℕ} → LightRoom w qm lo hi room → w ≤ room
light_one L = omega (arith, L.rows)

pub room_light : {w l r room : ℕ} (qm : List ℕ) (lo hi : ℕ) → Room w (r - l) room
    → ((c : ℕ) → lo ≤ c → c < hi → c < nth qm c → 2 * (nth qm c - c + 3) ≤ r - (l + 1) + 4)
    → l < r → LightRoom w qm lo hi room
room_light qm lo hi R h lr =
    record { depth = R.depth; rows = omega (arith, R.rows); light = λ c a b d. omega (arith, h c a b d, R.short) }

pub room_past : {w l r room : ℕ} (qm : List ℕ) (lo hi : ℕ) → Room w (r - l) room
    → ((c : ℕ) → lo ≤ c → c < hi → c < nth qm c → 2 * (nth qm c - c + 3) ≤ r - (l + 1) + 4)
    → l < r → LightRoom w qm lo hi (room - w)
room_past qm lo hi R h lr =
    record { depth = R.depth; rows = omega (arith, R.rows); light = λ c a b d. omega (arith, h c a b d, R.short) }

-- More room.
pub room_more : {w size room room' : ℕ} → Room w size room → room ≤ room' → Room w size room'
room_more R e = record { depth = R.depth; short = R.short; rows = omega (arith, R.rows) }

pub light_at : {w lo hi room room' : ℕ} {qm : List ℕ} → LightRoom w qm lo hi room → room' ≡ room → LightRoom w qm lo hi room'
light_at R e = record { depth = R.depth; rows = omega (arith, R.rows); light = R.light }

-- Room for the front of a stretch.
pub light_front : {w lo hi room : ℕ} {qm : List ℕ} (i : ℕ) → i ≤ hi → LightRoom w qm lo hi room → LightRoom w qm lo i room
light_front i h L = record { depth = L.depth; rows = L.rows; light = λ c a b d. L.light c a (omega arith) d }

-- An arc (l, r), and the longest arc (h, e) inside it.
pub record Around (qm : List ℕ) (n l r h e : ℕ) : Type 0 where
  pub low : l + 1 ≤ h
  pub up : h < e
  pub end : e < r
  pub inside : e < n
  pub mate : nth qm h ≡ e
  pub left : Sealed qm (l + 1) h
  pub right : Sealed qm (e + 1) r
  pub split_l : Split (nth qm) (l + 1) h r
  pub split_r : Split (nth qm) h (e + 1) r
  pub light_l : (c : ℕ) → l + 1 ≤ c → c < h → c < nth qm c → 2 * (nth qm c - c + 3) ≤ r - (l + 1) + 4
  pub light_r : (c : ℕ) → e + 1 ≤ c → c < r → c < nth qm c → 2 * (nth qm c - c + 3) ≤ r - (l + 1) + 4

pub around : {qm : List ℕ} {n l r h e : ℕ} → Nested (nth qm) n → l < r → r < n → nth qm l ≡ r → Heavy qm (l + 1) r h → h < r → e ≡ nth qm h
    → Around qm n l r h e
around {qm} {n} {l} {r} {h} {e} N lr rn arc H lt m =
    let Z : Sealed qm (l + 1) r = inner_sealed N l r lr rn arc in
    let rn' : r ≤ n = omega arith in
    rw m record {
      low = H.low;
      up = H.arc lt;
      end = heavy_end N Z rn' H lt;
      inside = omega (arith, heavy_end N Z rn' H lt);
      mate = refl;
      left = heavy_left N Z rn' H lt;
      right = heavy_right N Z rn' H lt;
      split_l = split_left N Z rn' H lt;
      split_r = split_right N Z rn' H lt;
      light_l = light_left N Z rn' H lt;
      light_r = light_right N Z rn' H lt;
    }

-- The end of what is left of a stretch: an unbonded base (c = k), or the right end of an arc from c.
pub record Back (qm : List ℕ) (lo i k c : ℕ) : Type 0 where
  pub low : lo ≤ c
  pub high : c ≤ k
  pub mate : nth qm k ≡ c
  pub back : nth qm c ≡ k
  pub seal : Sealed qm lo c
  pub split : (hi : ℕ) → Split (nth qm) c i hi

pub back_of : {qm : List ℕ} {n lo i k c : ℕ} → Nested (nth qm) n → Sealed qm lo i → i ≤ n → lo < i → suc k ≡ i → c ≡ nth qm k → Back qm lo i k c
back_of {qm} {n} {lo} {i} {k} {c} N Z hn lt e m =
    let Z' : Sealed qm lo (suc k) = rw e Z in
    let kn : k < n = omega arith in
    let lk : lo ≤ k = omega arith in
    let low = back_low N k Z' kn lk in
    rw m record {
      low = low;
      high = back_high N k Z' kn lk;
      mate = refl;
      back = N.paired k kn;
      seal = seal_back N k Z' kn lk;
      split = λ hi u a b d. absurd (omega (arith, Z.high u (omega arith) b));
    }
