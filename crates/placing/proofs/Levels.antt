-- The path of longest arcs to the kept arc, and room for the rows that are kept on it.
use Prim.Native.Nat.{ℕ, zero, suc, ◌+◌, ◌-◌, ◌*◌, ◌^◌, ◌≤◌, ◌<◌}
use mathlib.Core.Path.{◌≡◌, refl}
use mathlib.Core.List.{List}
use native.Mathlib.Decide.{dec_lt}
use native.Mathlib.Omega.{arith}
use lib.ListN.{length, get_or-eq_default}
use Rattle.lists.specs.Vocabulary.{nth}
use Rattle.strand.specs.Strands.{Nested}
use Rattle.arcs.specs.Arcs.{Sealed, Heavy}
use Rattle.arcs.proofs.Arcs.{inner_sealed, heavy_end, heavy_left, light_left, heavy_same}
use Rattle.placing.specs.Placing.{Below, here, down, OnPath, Lower, Between, Levels, ArcLevels}

-- One arc further down.
pub below_next : {qm : List ℕ} {kept s r : ℕ} → nth qm s ≡ r → Below qm kept s → (s ≡ kept → ⊥) → OnPath qm (s + 1) r kept
below_next e (here s i) ne = absurd (ne i)
below_next e (down s c H lt B) ne = rw (← e) record { arc = c; heavy = H; inside = lt; below = B }

below_lower : {qm : List ℕ} {kept s c : ℕ} → Heavy qm (s + 1) (nth qm s) c → s < c → c < kept → Below qm kept s → Below qm kept c
below_lower H sc cs (here s i) = absurd (omega arith)
below_lower H sc cs (down s k K lt B) = rw (heavy_same H K) B

below_on : {qm : List ℕ} {mid next s : ℕ} → Heavy qm (mid + 1) (nth qm mid) next → next < nth qm mid → Below qm mid s → Below qm next s
below_on {qm} {mid} {next} H lt (here s i) = down s next (rw i H) (rw i lt) (here next refl)
below_on H lt (down s c K kt B) = down s c K kt (below_on H lt B)

pub path_at : {qm : List ℕ} {lo hi kept s : ℕ} → OnPath qm lo hi kept → Heavy qm lo hi s → Below qm kept s
path_at P H = rw (heavy_same H P.heavy) P.below

module _ {qm : List ℕ} {n : ℕ} (N : Nested (nth qm) n) where
  below_in : {kept s : ℕ} → Below qm kept s → s < nth qm s → nth qm s < n → (s ≤ kept) × ((kept < nth qm kept) × (nth qm kept ≤ nth qm s))
  below_in (here s i) up rn = rw (← i) (omega arith, (up, omega arith))
  below_in (down s c H lt B) up rn =
      let e = heavy_end N (inner_sealed N s (nth qm s) up rn refl) (omega arith) H lt in
      let i = below_in B (H.arc lt) (omega arith) in
      (omega (arith, i.0, H.low), (i.1.0, omega (arith, i.1.1, e)))

  -- The bases of the kept arc but one, 0 where there is none.
  module _ {kept s : ℕ} (same : length qm ≡ n) (P : kept < n → Below qm kept s) (up : s < nth qm s) (rn : nth qm s < n) where
    pub kept_outside : nth qm s ≤ kept → nth qm kept - kept ≡ 0
    kept_outside h = elim (dec_lt kept n) [
      | yes x ↦ absurd (omega (arith, below_in (P x) up rn))
      | no x ↦ omega (arith, get_or-eq_default qm 0 {n = kept} (omega arith))
    ]

    pub kept_size : nth qm kept - kept ≤ nth qm s - s
    kept_size = elim (dec_lt kept n) [
      | yes x ↦ omega (arith, below_in (P x) up rn)
      | no x ↦ omega (arith, get_or-eq_default qm 0 {n = kept} (omega arith))
    ]

  -- The search for a middle arc.
  pub between_next : {s hi kept mid next : ℕ} → nth qm s < n → Between qm s hi kept mid → Lower qm mid kept next → mid < next
      → hi - s + (nth qm kept - kept) ≤ 2 * (nth qm next - next) → Between qm s hi kept next
  between_next {s} {hi} {kept} {mid} {next} rn A L lt h =
      record {
        low = omega (arith, A.low);
        arc = (L.heavy lt).arc (L.inside lt);
        high =
            omega (
              arith,
              A.high,
              heavy_end N (inner_sealed N mid (nth qm mid) A.arc (omega (arith, A.high)) refl) (omega (arith, A.high)) (L.heavy lt) (L.inside lt),
            );
        before = λ x. L.before lt;
        path = below_on (L.heavy lt) (L.inside lt) A.path;
        under = λ B. below_lower (L.heavy lt) lt (L.before lt) (A.under B);
        half = λ x. h;
      }

pub between_start : (qm : List ℕ) (s hi kept : ℕ) → s < nth qm s → Between qm s hi kept s
between_start qm s hi kept h =
    record {
      low = omega arith;
      arc = h;
      high = omega arith;
      before = λ a. absurd (omega arith);
      path = here s refl;
      under = λ B. B;
      half = λ a. absurd (omega arith);
    }

pub lower_heavy : {qm : List ℕ} {s kept c : ℕ} (r : ℕ) → r ≡ nth qm s → Heavy qm (s + 1) r c → c < r → c < kept → Lower qm s kept c
lower_heavy r e H lt cs = record { low = omega (arith, H.low); heavy = λ a. rw (← e) H; inside = λ a. omega arith; before = λ a. cs }

-- Room on a stretch, with the same rows or one less.
module _ {w : ℕ} where
  pub levels_least : {size outside room : ℕ} → Levels w size outside room → 24 * w ≤ room
  levels_least L = omega (arith, L.rows)

  pub levels_at : {size outside room : ℕ} (size' outside' room' : ℕ) → size' ≤ size → outside' ≤ outside → room' ≡ room → Levels w size outside room
      → Levels w size' outside' room'
  levels_at size' outside' room' a b e L =
      record { light = L.light; halves = L.halves; short = omega (arith, L.short); few = omega (arith, L.few); rows = omega (arith, L.rows) }

  -- Towards a middle arc, y being its bases but one and x those of the kept arc.
  pub levels_half : {size room : ℕ} (x y room' : ℕ) → size + x ≤ 2 * y → y < size → room' ≡ room - w → Levels w size (size - x) room
      → Levels w size (size - y) room'
  levels_half {size} {room} x y room' h g e L = go L.halves L.few L.rows where
    go : (k : ℕ) → size - x < 2 ^ k → (L.light + k + 24) * w ≤ room → Levels w size (size - y) room'
    go zero f r = absurd (omega arith)
    go (suc k) f r = record { light = L.light; halves = k; short = L.short; few = omega arith; rows = omega arith }

module _ {w : ℕ} {qm : List ℕ} where
  -- Inside one of the arcs.
  pub levels_arc : {lo hi room : ℕ} (s r room' : ℕ) → room' ≡ room → lo ≤ s → s < hi → s < nth qm s → r ≡ nth qm s → ArcLevels w qm lo hi room
      → Levels w (r - (s + 1)) (r - (s + 1)) room'
  levels_arc s r room' e a b d i L =
      record {
        light = L.light;
        halves = L.halves;
        short = omega (arith, L.short s a b d);
        few = omega (arith, L.few s a b d);
        rows = omega (arith, L.rows);
      }

  -- All of the arcs, where no arc is kept.
  pub levels_all : {s hi room : ℕ} (x : ℕ) → Sealed qm s hi → x ≡ 0 → Levels w (hi - s) (hi - s - x) room → ArcLevels w qm s hi room
  levels_all x Z e L =
      record {
        light = L.light;
        halves = L.halves;
        short = λ c a b d. omega (arith, Z.high c a b, L.short);
        few = λ c a b d. omega (arith, Z.high c a b, L.few);
        rows = L.rows;
      }

  -- Behind the arc (s, r), which holds the kept arc.
  pub levels_behind : {s hi room : ℕ} (x r room' : ℕ) → Sealed qm (r + 1) hi → x ≤ r - s → s < r → room' ≡ room → Levels w (hi - s) (hi - s - x) room
      → ArcLevels w qm (r + 1) hi room'
  levels_behind x r room' Z h sr e L =
      record {
        light = L.light;
        halves = L.halves;
        short = λ c a b d. omega (arith, Z.high c a b, L.short);
        few = λ c a b d. omega (arith, Z.high c a b, L.few);
        rows = omega (arith, L.rows);
      }

  -- Before the longest arc, which holds the kept arc: with a row less.
  pub levels_before : {n lo hi h room : ℕ} (x room' : ℕ) → Nested (nth qm) n → Sealed qm lo hi → hi ≤ n → Heavy qm lo hi h → (h < hi → x ≤ nth qm h - h)
      → room' ≡ room - w → Levels w (hi - lo) (hi - lo - x) room → ArcLevels w qm lo h room'
  levels_before {n} {lo} {hi} {h} {room} x room' N Z hn H g e L = go L.light L.short L.rows where
    lies : (c : ℕ) → lo ≤ c → c < h → c < nth qm c → h < hi
    lies c a b d = (H.most c a (omega (arith, H.high)) d).0

    go : (k : ℕ) → hi - lo + 4 < 4 * 2 ^ k → (k + L.halves + 24) * w ≤ room → ArcLevels w qm lo h room'
    go zero f r = absurd (omega arith)
    go (suc k) f r =
        record {
          light = k;
          halves = L.halves;
          short = λ c a b d. omega (arith, light_left N Z hn H (lies c a b d) c a b d);
          few = λ c a b d.
              omega (arith, L.few, g (lies c a b d), (heavy_left N Z hn H (lies c a b d)).high c a b, heavy_end N Z hn H (lies c a b d), H.arc (lies c a b d));
          rows = omega arith;
        }

-- The work slice of show has room for every molecule.
pub levels_whole : (m n room : ℕ) {qm : List ℕ} → Nested (nth qm) n → n ≤ 4096 → 64 * (m + 1) ≤ room → ArcLevels (m + 1) qm 0 n room
levels_whole m n room N h e =
    record {
      light = 11;
      halves = 13;
      short = λ c a b d. omega (arith, N.inside c b);
      few = λ c a b d. omega (arith, N.inside c b);
      rows = omega arith;
    }
