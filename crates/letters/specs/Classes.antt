-- Only contracts and laws of code that compares letters need this file: the rule by classes, and by the other spelling of one side.
use Rattle.std.specs.Prelude.{ℕ, eqb}
use Rattle.lists.specs.Vocabulary.{choose}

-- The class of a byte: T and U have one, every other byte its own. Two bytes match exactly when their classes are the same (`match_class` of LetterLaws).
unfoldable pub letter_class : ℕ → ℕ
letter_class b = choose (eqb b 84) 85 b

-- The other spelling of a byte: U of T, T of U, and every other byte itself. Two bytes match exactly when the first is the second or its other spelling
-- (`match_other`).
unfoldable pub other_letter : ℕ → ℕ
other_letter b = choose (eqb b 84) 85 (choose (eqb b 85) 84 b)
