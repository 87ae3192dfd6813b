-- Lists of bytes stay lists of bytes: one more list, zeros, the bytes of numbers, an entry stored, and parts.
use mathlib.Core.List.{List, [], ◌∷◌, ◌++◌}
use Prim.Native.Nat.{ℕ, zero, suc, ◌+◌, ◌-◌, ◌<◌}
use native.Mathlib.Omega.{arith}
use lib.ListN.{replicate, set, take, drop}
use lib.Seq.{get_or-drop}
use lib.Dec.{lit<}
use Rattle.lists.specs.Vocabulary.{between}
use Rattle.octets.specs.Octets.{Bytes, bytes_of}

pub small_append : (a b : List ℕ) → Bytes a → Bytes b → Bytes (a ++ b)
small_append [] b ha hb i = hb i
small_append (x ∷ a) b ha hb zero = ha 0
small_append (x ∷ a) b ha hb (suc i) = small_append a b (λ j. ha (suc j)) hb i

pub small_zeros : (n : ℕ) → Bytes (replicate n 0)
small_zeros zero i = lit< tt
small_zeros (suc n) zero = lit< tt
small_zeros (suc n) (suc i) = small_zeros n i

pub small_bytes : (m : List ℕ) → Bytes (bytes_of m)
unfolding bytes_of
small_bytes [] i = lit< tt
small_bytes (x ∷ m) zero = omega arith
small_bytes (x ∷ m) (suc zero) = omega arith
small_bytes (x ∷ m) (suc (suc i)) = small_bytes m i

pub small_set : (s : List ℕ) (i v : ℕ) → Bytes s → v < 256 → Bytes (set s i v)
small_set [] i v h hv j = h j
small_set (x ∷ s) zero v h hv zero = hv
small_set (x ∷ s) zero v h hv (suc j) = h (suc j)
small_set (x ∷ s) (suc i) v h hv zero = h 0
small_set (x ∷ s) (suc i) v h hv (suc j) = small_set s i v (λ k. h (suc k)) hv j

-- A part of a list of bytes.
pub small_drop : (a : ℕ) (s : List ℕ) → Bytes s → Bytes (drop a s)
small_drop a s h i = rw (get_or-drop a s i 0) (h (a + i))

pub small_take : (n : ℕ) (s : List ℕ) → Bytes s → Bytes (take n s)
small_take zero s h i = lit< tt
small_take (suc n) [] h i = lit< tt
small_take (suc n) (x ∷ s) h zero = h 0
small_take (suc n) (x ∷ s) h (suc i) = small_take n s (λ j. h (suc j)) i

pub small_between : (a e : ℕ) (s : List ℕ) → Bytes s → Bytes (between a e s)
small_between a e s h = small_take (e - a) (drop a s) (small_drop a s h)
