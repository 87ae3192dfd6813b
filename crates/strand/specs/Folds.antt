-- The fold of a strand (02, i): the number of its arcs, and its depth. `mates` has for each base the position of its mate. The definitions read
-- any list; only in nested mates is what they count an arc.
use Rattle.std.specs.Prelude.{ℕ, suc, ◌-◌, ◌≤◌, ◌<◌, Bool, ◌&&◌, List, ltb, length}
use Rattle.lists.specs.Vocabulary.{nth, every, all, largest, select, some_list}
use Rattle.strand.specs.declared.Fold.{Fold}

-- An arc begins at i: the mate of i is greater.
unfoldable pub begins : List ℕ → ℕ → Bool
begins mates i = ltb i (nth mates i)

-- 02, (i): "the number of arcs". Each is counted where it begins.
unfoldable pub arc_count : List ℕ → ℕ
arc_count mates = length (select (length mates) (begins mates))

-- The arc that begins at b lies inside the arc that begins at a.
unfoldable pub lies_inside : List ℕ → ℕ → ℕ → Bool
lies_inside mates a b = ltb a b && ltb (nth mates b) (nth mates a)

-- "Arcs of which each lies inside the one before"; v has their left ends. None or one is a chain too (`0 - 1` is 0).
unfoldable pub is_chain : List ℕ → List ℕ → Bool
is_chain mates v = all (begins mates) v && every (length v - 1) (λ x. lies_inside mates (nth v x) (nth v (suc x)))

-- 02, (i): "Depth is the largest number of arcs of which each lies inside the one before, and 0 without arcs." For each k up to the number of bases every list
-- of k positions is tried as left ends.
unfoldable pub depth_of : List ℕ → ℕ
depth_of mates = largest (length mates) (λ k. some_list k (length mates) (is_chain mates))

-- Both numbers, as the calls answer them.
abbrev pub fold_of : List ℕ → Fold
fold_of mates = record { arcs = arc_count mates; depth = depth_of mates }

-- The same as propositions. An arc begins at i.
abbrev pub Begins : List ℕ → ℕ → Type 0
Begins mates i = (i < length mates) × (i < nth mates i)

-- k different arcs, all or some: `left x` is the left end of arc x, x below k, and the left ends rise.
pub record Arcs (mates : List ℕ) (k : ℕ) (left : ℕ → ℕ) : Type 0 where
  pub arc : (x : ℕ) → x < k → Begins mates (left x)
  pub rising : (x : ℕ) → suc x < k → left x < left (suc x)

-- k arcs of which each lies inside the one before: it begins later and ends earlier.
pub record Chain (mates : List ℕ) (k : ℕ) (left : ℕ → ℕ) : Type 0 where
  pub arc : (x : ℕ) → x < k → Begins mates (left x)
  pub inside : (x : ℕ) → suc x < k → (left x < left (suc x)) × (nth mates (left (suc x)) < nth mates (left x))

-- k is the largest number of arcs of a kind (`Arcs`, `Chain`): k such arcs there are, and never more.
pub record IsMost (kind : ℕ → (ℕ → ℕ) → Type 0) (k : ℕ) : Type 0 where
  pub reached : (left : ℕ → ℕ) × kind k left
  pub most : (j : ℕ) (left : ℕ → ℕ) → kind j left → j ≤ k

-- 02, (i): n is the number of arcs; d is the depth.
abbrev pub IsArcCount : List ℕ → ℕ → Type 0
IsArcCount mates n = IsMost (Arcs mates) n

abbrev pub IsDepth : List ℕ → ℕ → Type 0
IsDepth mates d = IsMost (Chain mates) d

-- f is the fold of these mates: both its numbers are right.
pub record IsFold (mates : List ℕ) (f : Fold) : Type 0 where
  pub arcs : IsArcCount mates f.arcs
  pub depth : IsDepth mates f.depth
