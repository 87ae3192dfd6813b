-- What is claimed of letters, for all bytes; `claims`, in proofs/Claims, proves it.
use Rattle.std.specs.Prelude.{ℕ, ◌≡◌, true, ◌⊎◌, ◌↔◌}
use Rattle.refusals.specs.declared.Side.{Side}
use Rattle.letters.specs.Letters.{is_letter, letters_match}

-- Among T and U.
abbrev pub AmongTU : ℕ → Type 0
AmongTU b = (b ≡ 84) ⊎ (b ≡ 85)

-- 01, Molecule and motif, and 02, (vi): the letters are A, C, G, U and T, on either side.
abbrev pub LetterSays : Side → ℕ → Type 0
LetterSays side b = (is_letter side b ≡ true) ↔ ((b ≡ 65) ⊎ (b ≡ 67) ⊎ (b ≡ 71) ⊎ AmongTU b)

-- 02, (vi): two bases match exactly "when they are the same byte or both are among T and U".
abbrev pub MatchSays : ℕ → ℕ → Type 0
MatchSays p q = (letters_match p q ≡ true) ↔ ((p ≡ q) ⊎ (AmongTU p × AmongTU q))

-- The rule tells no two bases apart that match: each base matches itself; the order of two bases is free; of two that match, each matches what the other does,
-- and is a letter where the other is.
pub record MatchesAlike : Type 0 where
  pub itself : (b : ℕ) → letters_match b b ≡ true
  pub either : (p q : ℕ) → letters_match p q ≡ letters_match q p
  pub alike : (a b c : ℕ) → letters_match a b ≡ true → letters_match a c ≡ letters_match b c
  pub letter : (side : Side) (a b : ℕ) → letters_match a b ≡ true → is_letter side a ≡ is_letter side b

-- All the claims.
pub record Claims : Type 0 where
  pub letter_says : (side : Side) (b : ℕ) → LetterSays side b
  pub match_says : (p q : ℕ) → MatchSays p q
  pub matches_alike : MatchesAlike
