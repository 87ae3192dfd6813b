-- Only the contracts and laws of this crate, of trace, walk and matcher need this file: what one arc of the molecule takes of the motif, and which places are
-- written.
use Rattle.std.specs.Prelude.{ℕ, ◌+◌, ◌-◌, ◌*◌, ◌^◌, ◌≤◌, ◌<◌, ◌≡◌, Bool, true, List, length}
use Rattle.lists.specs.Vocabulary.{nth}
use Rattle.embedding.specs.Embedding.{Emb, letters_fit}
use Rattle.embedding.specs.Row.{Closed, Reach, Best, IsRow, unit_at, over_at}
use Rattle.arcs.specs.Arcs.{Setting, Sealed, Heavy, KeptRow, AllStarts}
use Rattle.placing.specs.declared.take.ArcTake.{ArcTake}

-- The walk over the top of Q[lo..hi) is at base i, and no arc leaves what lies before: that takes P[from..to) to j and no further.
pub record Walked (p pm q qm : List ℕ) (to from lo hi j i : ℕ) : Type 0 where
  pub low : lo ≤ i
  pub high : i ≤ hi
  pub seal : Sealed qm lo i
  pub best : Best (letters_fit p q) (nth pm) (nth qm) to from j lo i

-- What an arc can take of the segment P[from..to): an arc of P upon it; a position with its left end; or nothing with its left end, and one with its right end
-- where that is taken.
pub data Takes (left right : ℕ → Bool) (pm : ℕ → ℕ) (from to here next : ℕ) : ArcTake → Type 0 where
  upon : left from ≡ true → from < pm from → pm from < to → right (pm from) ≡ true → pm from ≤ next → unit_at right pm to here ≤ pm from
      → Takes left right pm from to here next (record { from = from + 1; to = pm from; next = pm from + 1 })
  left_end : left from ≡ true → pm from ≤ from → unit_at right pm to here < next
      → Takes left right pm from to here next (record { from = from + 1; to = next; next = next })
  inside : over_at left right pm to next from ≤ unit_at right pm to here
      → Takes left right pm from to here next (record { from = from; to = here; next = unit_at right pm to here })

-- What the arc (l, r) of Q takes of P[from..to), as far as can be: a span of it goes inside the arc, and places of that with the ends of the arc are places
-- of the whole.
pub record Taken (p pm q qm : List ℕ) (from to l r : ℕ) (t : ArcTake) : Type 0 where
  pub low : from ≤ t.from
  pub one_left : t.from ≤ from + 1
  pub order : t.from ≤ t.to
  pub goes : t.to ≤ t.next
  pub one_right : t.next ≤ t.to + 1
  pub ends : t.next ≤ to
  pub best : Best (letters_fit p q) (nth pm) (nth qm) to from t.next l (r + 1)
  pub inner : Reach (letters_fit p q) (nth pm) (nth qm) t.to t.from t.to (l + 1) r
  pub lay : (h : ℕ → ℕ) → Emb (letters_fit p q) (nth pm) (nth qm) t.from t.to (l + 1) r h → (from < t.from → h from ≡ l)
      → (t.to < t.next → h t.to ≡ r) → Emb (letters_fit p q) (nth pm) (nth qm) from t.next l (r + 1) h

-- i was written at j, if k is past j, and nothing else.
pub record PlacePut (j k i : ℕ) (old new : List ℕ) : Type 0 where
  pub long : length new ≡ length old
  pub here : j < k → nth new j ≡ i
  pub others : (x : ℕ) → (x ≡ j → j < k → ⊥) → nth new x ≡ nth old x

-- The places of the ends of the arc (l, r) were written, where they are taken from `from` on.
pub record Ended (from l r : ℕ) (t : ArcTake) (old new : List ℕ) : Type 0 where
  pub mid : List ℕ
  pub left : PlacePut from t.from l old mid
  pub right : PlacePut t.to t.next r mid new

-- Only the entries from `from` to before `to` were written, with places of P[from..to) in Q[lo..hi).
pub record Laid (p pm q qm : List ℕ) (from to lo hi : ℕ) (old new : List ℕ) : Type 0 where
  pub long : length new ≡ length old
  pub before : (x : ℕ) → x < from → nth new x ≡ nth old x
  pub after : (x : ℕ) → to ≤ x → nth new x ≡ nth old x
  pub embeds : Emb (letters_fit p q) (nth pm) (nth qm) from to lo hi (nth new)

-- The first row of the work slice is the row inside the kept arc, whose left end is `kept`, for a segment around P[from..to). No arc is kept where `kept` is
-- the length of Q.
pub record KeptAround (p pm q qm : List ℕ) (from to kept : ℕ) (work : List ℕ) : Type 0 where
  pub wide_from : ℕ
  pub wide_to : ℕ
  pub low : wide_from ≤ from
  pub high : to ≤ wide_to
  pub ends : wide_to ≤ length p
  pub first_row : KeptRow p pm q qm wide_from wide_to kept work

-- Past the first row of the work slice, which is as before, is the row inside the arc (l, r) for the segment P[from..to).
pub record SecondRow (p pm q qm : List ℕ) (from to l r : ℕ) (old new : List ℕ) : Type 0 where
  pub under : (k : ℕ) → k < length p + 1 → nth new k ≡ nth old k
  pub row : IsRow (letters_fit p q) (nth pm) (nth qm) from to to (l + 1) r (λ k. nth new (length p + 1 + k))

-- The arc from `kept` is that from l, or a longest arc in a longest arc .. inside it.
pub data Below (qm : List ℕ) (kept : ℕ) : ℕ → Type 0 where
  here : (l : ℕ) → l ≡ kept → Below qm kept l
  down : (l c : ℕ) → Heavy qm (l + 1) (nth qm l) c → c < nth qm l → Below qm kept c → Below qm kept l

-- The kept arc lies on the path of longest arcs of Q[lo..hi).
pub record OnPath (qm : List ℕ) (lo hi kept : ℕ) : Type 0 where
  pub arc : ℕ
  pub heavy : Heavy qm lo hi arc
  pub inside : arc < hi
  pub below : Below qm kept arc

-- c is the longest arc inside the arc from l, and not the kept arc; or c is l.
pub record Lower (qm : List ℕ) (l kept c : ℕ) : Type 0 where
  pub low : l ≤ c
  pub heavy : l < c → Heavy qm (l + 1) (nth qm l) c
  pub inside : l < c → c < nth qm l
  pub before : l < c → c < kept

-- The arc from mid is that from l, or lies on the path from it to the kept arc and halves the bases of Q[l..hi) outside of the kept arc.
pub record Between (qm : List ℕ) (l hi kept mid : ℕ) : Type 0 where
  pub low : l ≤ mid
  pub arc : mid < nth qm mid
  pub high : nth qm mid ≤ nth qm l
  pub before : l < mid → mid < kept
  pub path : Below qm mid l
  pub under : Below qm kept l → Below qm kept mid
  pub half : l < mid → hi - l + (nth qm kept - kept) ≤ 2 * (nth qm mid - mid)

-- Room for the places in a stretch of so many bases, so many of them outside of the kept arc, in rows of w entries: one for each light edge, one
-- for each halving, one for the kept arc and 23 for the row inside an arc.
pub record Levels (w size outside room : ℕ) : Type 0 where
  pub light : ℕ
  pub halves : ℕ
  pub short : size + 4 < 4 * 2 ^ light
  pub few : outside < 2 ^ halves
  pub rows : (light + halves + 24) * w ≤ room

-- The same, for every arc of Q[lo..hi).
pub record ArcLevels (w : ℕ) (qm : List ℕ) (lo hi room : ℕ) : Type 0 where
  pub light : ℕ
  pub halves : ℕ
  pub short : (c : ℕ) → lo ≤ c → c < hi → c < nth qm c → nth qm c - c + 3 < 4 * 2 ^ light
  pub few : (c : ℕ) → lo ≤ c → c < hi → c < nth qm c → nth qm c - c < 2 ^ halves
  pub rows : (light + halves + 24) * w ≤ room

-- Only the entries from `from` to before `to` were written, with places of P[from..to) in Q[lo..hi), all but a span P[a..b) of it that embeds in Q[s..e):
-- with any places of that span in Q[s..e) they are places of the whole.
pub record LaidBut (p pm q qm : List ℕ) (from to lo hi a b s e : ℕ) (old new : List ℕ) : Type 0 where
  pub long : length new ≡ length old
  pub before : (x : ℕ) → x < from → nth new x ≡ nth old x
  pub after : (x : ℕ) → to ≤ x → nth new x ≡ nth old x
  pub low : from ≤ a
  pub high : b ≤ to
  pub inner : Reach (letters_fit p q) (nth pm) (nth qm) b a b s e
  pub embeds : (h : ℕ → ℕ) → ((x : ℕ) → from ≤ x → x < a → h x ≡ nth new x) → ((x : ℕ) → b ≤ x → x < to → h x ≡ nth new x)
      → Emb (letters_fit p q) (nth pm) (nth qm) a b s e h → Emb (letters_fit p q) (nth pm) (nth qm) from to lo hi h

-- What the walk asks at the arc (l, r) that is the kept arc or holds it, for the closed segment P[from..to).
pub record AtArc (p pm q qm : List ℕ) (from to l r kept places : ℕ) (work tables : List ℕ) : Type 0 where
  pub setting : Setting p pm q qm from to
  pub closed : (from < to) × Closed (nth pm) from to
  pub ends : (l < r) × ((r < length q) × (nth qm l ≡ r))
  pub kept_arc : (kept ≤ length q) × (kept < length q → Below qm kept l)
  pub kept_row : KeptAround p pm q qm from to kept work
  pub room : to ≤ places
  pub levels : Levels (length p + 1) (r - (l + 1)) (r - (l + 1) - (nth qm kept - kept)) (length work)
  pub tables_of : AllStarts p pm (length q) tables

-- What the walk asks that places P[from..to) in Q[l..hi), where an arc begins at l and the kept arc, if there is one, is that arc or in it.
pub record FromArc (p pm q qm : List ℕ) (from to l hi kept places : ℕ) (work tables : List ℕ) : Type 0 where
  pub setting : Setting p pm q qm from to
  pub order : (from < to) × ((l < hi) × (hi ≤ length q))
  pub reach : Reach (letters_fit p q) (nth pm) (nth qm) to from to l hi
  pub arc : Sealed qm l hi × (l < nth qm l)
  pub kept_arc : (kept ≤ length q) × (kept < length q → Below qm kept l)
  pub kept_row : KeptAround p pm q qm from to kept work
  pub room : to ≤ places
  pub levels : Levels (length p + 1) (hi - l) (hi - l - (nth qm kept - kept)) (length work)
  pub tables_of : AllStarts p pm (length q) tables
