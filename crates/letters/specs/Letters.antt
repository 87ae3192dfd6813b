-- Letters: which bytes are letters, and the letter rule.
use Rattle.std.specs.Prelude.{ℕ, ◌<◌, ◌≡◌, Bool, true, not, ◌&&◌, ◌||◌, List, eqb, length}
use Rattle.lists.specs.Vocabulary.{nth}
use Rattle.refusals.specs.declared.Side.{Side}

-- T or U.
abbrev pub is_t_or_u : ℕ → Bool
is_t_or_u b = eqb b 84 || eqb b 85

-- 01: a letter is A, C, G or U (65, 67, 71, 85). 02, (vi): "T (byte 84) becomes a letter." Both sides have the same letters: the side is not read.
unfoldable pub is_letter : Side → ℕ → Bool
is_letter side b = eqb b 65 || eqb b 67 || eqb b 71 || is_t_or_u b

-- The letter rule, the motif's base first. 02, (vi): "Two bases now match when they are the same byte or both are among T and U."
unfoldable pub letters_match : ℕ → ℕ → Bool
letters_match p q = eqb p q || (is_t_or_u p && is_t_or_u q)

-- The base at i is no letter.
unfoldable pub not_letter : Side → List ℕ → ℕ → Bool
not_letter side bases i = not (is_letter side (nth bases i))

-- Two spellings of the same bases: as many, and each matches the one at its place.
pub record ReadAlike (a b : List ℕ) : Type 0 where
  pub many : length b ≡ length a
  pub match_at : (x : ℕ) → x < length a → letters_match (nth a x) (nth b x) ≡ true
