-- The text that the screen program prints, as bytes: numbers, lines, and each kind of output.
use Rattle.std.specs.Prelude.{ℕ, zero, suc, ◌+◌, ◌/◌, ◌%◌, ◌≡◌, List, [], ◌∷◌, ◌++◌, ltb, length, take, drop}
use Rattle.lists.specs.Vocabulary.{choose}

-- The byte of a digit below 10; a blank; the end of a line.
abbrev pub digit : ℕ → ℕ
digit d = 48 + d

abbrev pub blank : ℕ
blank = 32

abbrev pub newline : ℕ
newline = 10

-- The decimal digits of n, most significant first, found in at most k steps.
unfoldable pub digits_in : ℕ → ℕ → List ℕ
digits_in zero n = []
digits_in (suc k) n = let front = digits_in k (n / 10) in choose (ltb n 10) (digit n ∷ []) (front ++ (digit (n % 10) ∷ []))

-- A number as 01 prints it: its decimal digits, and no leading 0 but that of 0 itself.
unfoldable pub digits : ℕ → List ℕ
digits n = digits_in (suc n) n

-- Words with single blanks between them.
unfoldable pub spaced : List (List ℕ) → List ℕ
spaced [] = []
spaced (w ∷ []) = w
spaced (w ∷ v ∷ ws) = w ++ (blank ∷ spaced (v ∷ ws))

-- Every line ends in a newline.
unfoldable pub line : List ℕ → List ℕ
line text = text ++ (newline ∷ [])

-- Each number on its own line.
unfoldable pub lines : List ℕ → List ℕ
lines [] = []
lines (n ∷ ns) = line (digits n) ++ lines ns

-- The words: hits, searched, refused, bad length, bad motif.
abbrev pub hits_word : List ℕ
hits_word = 104 ∷ 105 ∷ 116 ∷ 115 ∷ []

abbrev pub searched_word : List ℕ
searched_word = 115 ∷ 101 ∷ 97 ∷ 114 ∷ 99 ∷ 104 ∷ 101 ∷ 100 ∷ []

abbrev pub refused_word : List ℕ
refused_word = 114 ∷ 101 ∷ 102 ∷ 117 ∷ 115 ∷ 101 ∷ 100 ∷ []

abbrev pub bad_word : List ℕ
bad_word = 98 ∷ 97 ∷ 100 ∷ []

abbrev pub length_word : List ℕ
length_word = 108 ∷ 101 ∷ 110 ∷ 103 ∷ 116 ∷ 104 ∷ []

abbrev pub motif_word : List ℕ
motif_word = 109 ∷ 111 ∷ 116 ∷ 105 ∷ 102 ∷ []

-- `hits`, the count, `searched`, that number, on one line with single blanks; then each hit on its own line.
unfoldable pub hits_text : ℕ → ℕ → List ℕ → List ℕ
hits_text count searched numbers = line (spaced (hits_word ∷ digits count ∷ searched_word ∷ digits searched ∷ [])) ++ lines numbers

-- A refusal: `refused` and number, side, place on one line with single blanks.
unfoldable pub refused_text : ℕ → ℕ → ℕ → List ℕ
refused_text number side place = line (spaced (refused_word ∷ digits number ∷ digits side ∷ digits place ∷ []))

-- An input of another length than 2 to 65 whole blocks.
unfoldable pub bad_length_text : List ℕ
bad_length_text = line (spaced (bad_word ∷ length_word ∷ []))

-- An unsound or empty first block.
unfoldable pub bad_motif_text : List ℕ
bad_motif_text = line (spaced (bad_word ∷ motif_word ∷ []))

-- No output is longer: the line `hits 64 searched 64` has 20 bytes, the numbers 0 to 63 on their lines have 182.
abbrev pub most_output : ℕ
most_output = 202

-- What a writer does: the text stands at `at`, the next place is past it, and all else is as before.
pub record TextPut (text old new : List ℕ) (at next : ℕ) : Type 0 where
  pub past : next ≡ at + length text
  pub written : new ≡ take at old ++ (text ++ drop (at + length text) old)
