-- Only the test of nesting by levels needs this file: mates without a bond, and the names by which mutual and nested mates are told.
use Rattle.std.specs.Prelude.{ℕ, suc, ◌+◌, ◌-◌, ◌*◌, ◌<◌, ◌≡◌, Bool, List, ltb, eqb, length}
use Rattle.lists.specs.Vocabulary.{nth, every, select}
use Rattle.strand.specs.Folds.{begins}

-- Every base is its own mate.
unfoldable pub unbonded : List ℕ → Bool
unbonded mates = every (length mates) (λ i. eqb (nth mates i) i)

-- An arc ends at i: the mate of i is less.
unfoldable pub ends : List ℕ → ℕ → Bool
ends mates i = ltb (nth mates i) i

-- The level of i: the arcs begun below i less those ended up to i, counted from the number of bases on, so that for every base it is at least
-- 1. In mutual mates these are the arcs open before i, and behind it where i ends one.
unfoldable pub level_at : List ℕ → ℕ → ℕ
level_at mates i = length mates + length (select i (begins mates)) - length (select (suc i) (ends mates))

-- More than any level of a strand of up to 4,096 bases.
abbrev pub name_step : ℕ
name_step = 65536

-- The name of i: the sum of i and its mate, and the level of i.
unfoldable pub name_at : List ℕ → ℕ → ℕ
name_at mates i = name_step * (i + nth mates i) + level_at mates i

-- The first k bases have put their names to the places of their mates, where 0 was: a name that stands somewhere is that of a base whose mate is there,
-- and a base that shares its mate with no other of these has its name there.
pub record NamesTold (mates : List ℕ) (k : ℕ) (told : List ℕ) : Type 0 where
  pub long : length told ≡ length mates
  pub put_by : (x : ℕ) → 0 < nth told x → (y : ℕ) × (y < k) × (nth mates y ≡ x) × (nth told x ≡ name_at mates y)
  pub put_at_lem : (y : ℕ) → y < k → ((z : ℕ) → z < k → nth mates z ≡ nth mates y → z ≡ y) → nth told (nth mates y) ≡ name_at mates y
