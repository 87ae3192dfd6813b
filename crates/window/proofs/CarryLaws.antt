-- Windows that carry the motif, as the functions of the search meet them: wider windows, where a window may begin, the halving of an end and of a start,
-- the end of the search, and the motif with no bases.
use Prim.Native.Nat.{ℕ, ◌+◌, ◌-◌, ◌≤◌, ◌<◌, max}
use mathlib.Core.Path.{◌≡◌, refl}
use mathlib.Core.Bool.{true, false}
use mathlib.Core.List.{List}
use native.Mathlib.Decide.{dec_lt}
use native.Mathlib.Omega.{arith}
use lib.Dec.{eqb, ltb}
use Rattle.std.specs.Prelude.{Option, Some, None}
use lib.ListN.{length}
use borrow.Author.Tests.{ltb-true, ltb-false}
use Rattle.lists.specs.Vocabulary.{nth}
use Rattle.lists.proofs.ListLaws.{Tells}
use Rattle.letters.specs.Letters.{letters_match}
use Rattle.letters.specs.Classes.{letter_class}
use Rattle.letters.proofs.LetterLaws.{match_class}
use Rattle.strand.specs.Strands.{Inside}
use Rattle.embedding.specs.Embedding.{letters_fit}
use Rattle.embedding.specs.Windows.{Carries, IsTightest}
use Rattle.embedding.proofs.Answers.{clash}
use Rattle.embedding.proofs.Segment.{fits_in}
use Rattle.embedding.proofs.WindowLaws.{Starts, widened, starts}
use Rattle.embedding.proofs.Tightest.{carries_within}
use Rattle.embedding.proofs.Claims as embedding
use Rattle.walk.specs.Walk.{TablesFor, Carried}
use Rattle.window.specs.declared.search.Progress.{Progress}
use Rattle.window.specs.declared.search.Window.{Window}
use Rattle.window.specs.Search.{Ready, MayBegin, NoneBegins, EndsAt, StartsAt, NoBetter, Sought, start_of, limit_of, Seek, Advanced, Found}
use Rattle.window.proofs.SearchLaws.{sought_none, sought_begin, sought_later, sought_clear, sought_found, over_clear, over_short}

pub carried_wider : {p pm q qm : List ℕ} (s e s' e' : ℕ) → s' ≤ s → e ≤ e' → Carried p pm q qm s e → Carried p pm q qm s' e'
carried_wider s e s' e' a b C = record { embeds = widened s' e' a b C.embeds }

-- ---- where the first base may stand

-- Whether two letters match, from their classes x and y.
pub match_by : {x y : ℕ} (a b : ℕ) → x ≡ letter_class a → y ≡ letter_class b → letters_match a b ≡ eqb x y
match_by a b e f = rw (e, f) (match_class a b)

module _ {p pm q qm : List ℕ} {i : ℕ} where
  pub begins_not : letters_match (nth p 0) (nth q i) ≡ false → MayBegin p pm q qm i → ⊥
  begins_not e B = clash e B.letter

  pub begins_free : letters_match (nth p 0) (nth q i) ≡ true → nth pm 0 ≡ 0 → MayBegin p pm q qm i
  begins_free e h = record { letter = e; arc = λ a. absurd (omega arith) }

  pub begins_arc : letters_match (nth p 0) (nth q i) ≡ true → (nth pm 0 ≡ 0 → ⊥) → Tells (ltb i (nth qm i)) (MayBegin p pm q qm i)
  begins_arc e h =
      record {
        yes = λ t. record { letter = e; arc = λ a. ltb-true i (nth qm i) t };
        no = λ f B. omega (arith, ltb-false i (nth qm i) f, B.arc (omega (arith, h)));
      }

module _ {p pm q qm : List ℕ} {i : ℕ} where
  pub none_yet : i ≤ length q → NoneBegins p pm q qm i i
  none_yet h = record { low = omega arith; high = h; none = λ x a b. absurd (omega arith) }

  pub none_more : {j : ℕ} → NoneBegins p pm q qm i j → j < length q → (MayBegin p pm q qm j → ⊥) → NoneBegins p pm q qm i (j + 1)
  none_more {j} N h f =
      record {
        low = omega (arith, N.low);
        high = omega arith;
        none = λ x a b B. elim (dec_lt x j) [ yes t ↦ N.none x a t B | no t ↦ let e : x ≡ j = omega arith in f (rw e at B) ];
      }

-- ---- halving

module _ {p pm q qm : List ℕ} where
  pub ends_order : {s low e : ℕ} → EndsAt p pm q qm s low e → low ≤ e
  ends_order {s} {low} {e} E = elim (dec_lt e low) [ yes h ↦ absurd (E.none e h E.here) | no h ↦ omega arith ]

  pub ends_least : {s low e : ℕ} → EndsAt p pm q qm s low e → e ≤ low → EndsAt p pm q qm s e e
  ends_least E h = record { here = E.here; none = λ x l. E.none x (omega arith) }

  pub ends_sooner : {s low e : ℕ} (x : ℕ) → EndsAt p pm q qm s low e → Carried p pm q qm s x → EndsAt p pm q qm s low x
  ends_sooner x E C = record { here = C; none = E.none }

  pub ends_later : {s low e : ℕ} (x : ℕ) → EndsAt p pm q qm s low e → (Carried p pm q qm s x → ⊥) → EndsAt p pm q qm s (x + 1) e
  ends_later {s} x E n = record { here = E.here; none = λ y h C. n (carried_wider s y s x (omega arith) (omega arith) C) }

  pub starts_order : {s last e : ℕ} → StartsAt p pm q qm s last e → s ≤ last
  starts_order {s} {last} S = elim (dec_lt last s) [ yes h ↦ absurd (S.none s h S.here) | no h ↦ omega arith ]

  pub starts_last : {s last e : ℕ} → StartsAt p pm q qm s last e → last ≤ s → StartsAt p pm q qm s s e
  starts_last S h = record { here = S.here; none = λ x l. S.none x (omega arith) }

  pub starts_later : {s last e : ℕ} (x : ℕ) → StartsAt p pm q qm s last e → Carried p pm q qm x e → StartsAt p pm q qm x last e
  starts_later x S C = record { here = C; none = S.none }

  pub starts_sooner : {s last e : ℕ} (x : ℕ) → 0 < x → StartsAt p pm q qm s last e → (Carried p pm q qm x e → ⊥) → StartsAt p pm q qm s (x - 1) e
  starts_sooner {s} {last} {e} x h S n =
      record { here = S.here; none = λ y g C. n (carried_wider y e x e (omega arith) (omega arith) C) }

-- What the walks ask holds again after one of them.
pub ready_again : {p pm tables tables' q work work' : List ℕ} → Ready p pm tables q work → TablesFor p pm (length q) tables'
    → length work' ≡ length work → Ready p pm tables' q work'
ready_again R T e = record { made = T; room = omega (arith, R.room) }

-- ---- the steps of the search

module _ {p pm q qm : List ℕ} (m : 0 < length p) where
  pub carried_long : (s e : ℕ) → Carried p pm q qm s e → s + length p ≤ e
  carried_long s e C = let S = starts m C.embeds in omega (arith, fits_in C.embeds.1, S.low, S.high)

  pub starts_from : {first end : ℕ} → Carried p pm q qm first end → StartsAt p pm q qm first (end - length p) end
  starts_from {first} {end} C = record { here = C; none = λ x h D. omega (arith, carried_long x end D) }

  carried_begins : Inside (nth pm) (length p) → {i j : ℕ} → NoneBegins p pm q qm i j → (e : ℕ) → Carried p pm q qm i e → Carried p pm q qm j e
  carried_begins H {i} {j} N e C = elim (dec_lt S.place j) [
    | yes h ↦ absurd (N.none S.place S.low h record { letter = S.letter; arc = λ a. S.arc a (H 0 m) })
    | no h ↦ record { embeds = widened j e (omega arith) (omega arith) S.embeds }
  ]
    where
      S : Starts (letters_fit p q) (nth pm) (nth qm) (length p) i e
      S = starts m C.embeds

module _ {p pm q qm : List ℕ} where
  pub seek_none : Seek p pm q qm record { best = None; next = 0; low = 0; reach = 0 }
  seek_none =
      record {
        sought = sought_none (Carried p pm q qm) (length q) carried_wider;
        best_in = λ w e. cc;
        size_in = omega arith;
        next_in = omega arith;
        low_in = omega arith;
        reach_in = omega arith;
      }

  module _ {at : Progress} (S : Seek p pm q qm at) where
    -- A walk over the window from `next` to `hi` failed.
    pub seek_failed : (hi reach : ℕ) → hi ≤ length q → reach ≤ length q → (Carried p pm q qm at.next hi → ⊥)
        → Seek p pm q qm record { best = at.best; next = at.next; low = hi + 1; reach = reach }
    seek_failed hi reach h g n =
        record {
          sought = sought_clear _ _ carried_wider S.sought (hi + 1) (λ e l C. n (carried_wider at.next e at.next hi (omega arith) (omega arith) C));
          best_in = S.best_in;
          size_in = S.size_in;
          next_in = S.next_in;
          low_in = omega arith;
          reach_in = g;
        }

    -- The window from `next` to `hi` carries P, and none from there that ends before `low` does.
    pub seek_ends : {hi : ℕ} → Carried p pm q qm at.next hi → EndsAt p pm q qm at.next at.low hi
    seek_ends C = record { here = C; none = S.sought.clear }

    -- `end` is the least end of a window from `next`, and `first` the lowest start for which a window to `end` is shorter than the best.
    module _ (end first reach : ℕ) (E : EndsAt p pm q qm at.next end end) (F : first ≡ max at.next (end + 1 - limit_of (length q) at.best))
        (g : reach ≤ length q) where
      -- The window from `first` does not carry P: none that ends there is shorter than the best.
      pub seek_passed : end ≤ length q → 0 < limit_of (length q) at.best → (Carried p pm q qm first end → ⊥)
          → Seek p pm q qm record { best = at.best; next = first; low = end + 1; reach = reach }
      seek_passed en lp n =
          record {
            sought = sought_clear _ _ carried_wider later (end + 1) (λ e l C. n (carried_wider first e first end (omega arith) (omega arith) C));
            best_in = S.best_in;
            size_in = S.size_in;
            next_in = omega (arith, S.next_in);
            low_in = omega arith;
            reach_in = g;
          }
        where
          later : Sought (Carried p pm q qm) (length q) (start_of at.best) (limit_of (length q) at.best) first end
          later = sought_later _ _ carried_wider (sought_clear _ _ carried_wider S.sought end E.none) first F

      -- `start` is the last start of a window to `end` from `first` on: that window is the best now.
      pub seek_found : (start : ℕ) → end ≤ length q → StartsAt p pm q qm start start end → first ≤ start → start < end
          → Seek p pm q qm record { best = Some (record { start = start; length = end - start }); next = start + 1; low = end + 1; reach = reach }
      seek_found start en T h l =
          record {
            sought = sought_found _ _ carried_wider S.sought start end (omega arith) (omega arith) en (omega arith) T.here E.none T.none;
            best_in = λ w e. let i : record { start = start; length = end - start } ≡ w = cc in rw (← i) (omega arith);
            size_in = omega arith;
            next_in = omega arith;
            low_in = omega arith;
            reach_in = g;
          }

module _ {p pm q qm : List ℕ} (m : 0 < length p) (H : Inside (nth pm) (length p)) {at : Progress} (S : Seek p pm q qm at) where
  -- The search goes on to the next start that is left.
  module _ (from next low : ℕ) (lq : at.low ≤ length q) (F : from ≡ max at.next (at.low + 1 - limit_of (length q) at.best))
      (N : NoneBegins p pm q qm from next) (L : low ≡ max at.low (next + length p)) where
    abbrev new : Progress
    new = record { best = at.best; next = next; low = low; reach = at.reach }

    pub gone_on : Seek p pm q qm new × Advanced (length q) (length p) at new
    gone_on = (
      record {
        sought = sought_clear _ _ carried_wider begin low clear;
        best_in = S.best_in;
        size_in = S.size_in;
        next_in = N.high;
        low_in = omega (arith, N.high);
        reach_in = S.reach_in;
      },
      record { best = refl; later = omega (arith, N.low); up = omega arith; room = omega arith },
    )
      where
        begin : Sought (Carried p pm q qm) (length q) (start_of at.best) (limit_of (length q) at.best) next at.low
        begin = sought_begin _ _ carried_wider (sought_later _ _ carried_wider S.sought from F) next N.low (carried_begins m H N)

        clear : (e : ℕ) → e < low → Carried p pm q qm next e → ⊥
        clear e h C = elim (dec_lt e at.low) [ yes t ↦ begin.clear e t C | no t ↦ omega (arith, carried_long m next e C) ]

-- The end of the search: no window is better than the best, so the best is the tightest, or there is none.
module _ {p pm q qm : List ℕ} where
  found_best : (best : Option Window) {next low : ℕ} → Sought (Carried p pm q qm) (length q) (start_of best) (limit_of (length q) best) next low
      → ((w : Window) → best ≡ Some w → w.length ≤ length q)
      → ((s e : ℕ) → e ≤ length q → Carried p pm q qm s e → NoBetter (start_of best) (limit_of (length q) best) s e) → Found p pm q qm best
  found_best None S i better =
      record { tightest = λ w e. cc; none = λ h E. omega (arith, (better 0 (length q) (omega arith) record { embeds = E }).0) }
  found_best (Some b) S i better =
      record { tightest = λ w e. let h : b ≡ w = cc in rw (← h) tightest; none = λ e E. cc }
    where
      carried : {s w : ℕ} → Carries letters_match p pm q qm s w → Carried p pm q qm s (s + w)
      carried {s} {w} C = record { embeds = (carries_within letters_match p pm q qm s w C.inside).0 C }

      tightest : IsTightest letters_match p pm q qm b.start b.length
      tightest =
          let B = S.best (i b refl) in
          record {
            here = (carries_within letters_match p pm q qm b.start b.length B.0).1 B.1.embeds;
            shortest = λ s w C. omega (arith, (better s (s + w) C.inside (carried C)).0);
            first = λ s C. (better s (s + b.length) C.inside (carried C)).1 refl;
          }

  module _ {at : Progress} (S : Seek p pm q qm at) where
    pub found_clear : length q < at.low → Found p pm q qm at.best
    found_clear h = found_best at.best S.sought S.best_in (over_clear _ _ carried_wider S.sought h)

    pub found_short : 0 < length p → limit_of (length q) at.best ≤ length p → Found p pm q qm at.best
    found_short m h = found_best at.best S.sought S.best_in (over_short _ _ carried_wider S.sought (length p) (carried_long m) h)

-- A motif with no bases: the window of no bases at the molecule's start is the tightest.
pub found_empty : {p pm q qm : List ℕ} → Inside (nth pm) (length p) → length p ≡ 0 → Found p pm q qm (Some (record { start = 0; length = 0 }))
found_empty {p} {pm} {q} {qm} H e =
    record {
      tightest = λ w i. let h : record { start = 0; length = 0 } ≡ w = cc in rw (← h) (((embedding.claims).windows_say letters_match p pm q qm H).empty e);
      none = λ h E. cc;
    }
