-- 01's table of settled examples, and that the definitions agree with every row of it, by computation.
use Rattle.std.specs.Prelude.{ℕ, ◌≡◌, refl, Bool, true, ◌&&◌, ◌||◌, List, [], ◌∷◌, eqb, length}
use Rattle.letters.specs.Letters.{letters_match}
use Rattle.lists.specs.Vocabulary.{choose, some, every, some_list, largest}
use Rattle.embedding.specs.Longest.{places_ok, closed_to, prefix_ok, longest, verified}

-- A row: the bases and mates of P and of Q, L, and the places, empty where the table names none.
pub record Example : Type 0 where
  pub pb : List ℕ
  pub pm : List ℕ
  pub qb : List ℕ
  pub qm : List ℕ
  pub best : ℕ
  pub places : List ℕ

-- L is the row's, and the places that it names are an embedding of the whole P.
unfoldable pub example_ok : Example → Bool
example_ok r =
    eqb (longest letters_match r.pb r.pm r.qb r.qm) r.best
    && (eqb (length r.places) 0 || verified letters_match r.pb r.pm r.qb r.qm r.places)

-- Every row.
unfoldable pub examples_ok : List Example → Bool
examples_ok [] = true
examples_ok (r ∷ rs) = example_ok r && examples_ok rs

-- The letters, a row, and the rows of 01's table of settled examples.
abbrev A : ℕ
A = 65

abbrev C : ℕ
C = 67

abbrev G : ℕ
G = 71

abbrev example : List ℕ → List ℕ → List ℕ → List ℕ → ℕ → List ℕ → Example
example pb pm qb qm best places = record { pb = pb; pm = pm; qb = qb; qm = qm; best = best; places = places }

unfoldable pub examples : List Example
examples =
    example (A ∷ []) (0 ∷ []) (A ∷ []) (0 ∷ []) 1 []
    ∷ example (G ∷ C ∷ []) (1 ∷ 0 ∷ []) (G ∷ A ∷ C ∷ []) (2 ∷ 1 ∷ 0 ∷ []) 2 (0 ∷ 2 ∷ [])
    ∷ example (G ∷ C ∷ []) (0 ∷ 1 ∷ []) (G ∷ A ∷ C ∷ []) (2 ∷ 1 ∷ 0 ∷ []) 1 []
    ∷ example (G ∷ C ∷ []) (1 ∷ 0 ∷ []) (G ∷ C ∷ []) (0 ∷ 1 ∷ []) 0 []
    ∷ example (G ∷ C ∷ []) (0 ∷ 1 ∷ []) (G ∷ C ∷ C ∷ []) (2 ∷ 1 ∷ 0 ∷ []) 2 (0 ∷ 1 ∷ [])
    ∷ example (G ∷ C ∷ []) (0 ∷ 1 ∷ []) (G ∷ G ∷ C ∷ []) (2 ∷ 1 ∷ 0 ∷ []) 2 (1 ∷ 2 ∷ [])
    ∷ example (A ∷ G ∷ C ∷ []) (0 ∷ 2 ∷ 1 ∷ []) (A ∷ G ∷ []) (0 ∷ 1 ∷ []) 1 []
    ∷ example (A ∷ G ∷ C ∷ []) (0 ∷ 2 ∷ 1 ∷ []) (A ∷ G ∷ A ∷ C ∷ []) (0 ∷ 3 ∷ 2 ∷ 1 ∷ []) 3 (0 ∷ 1 ∷ 3 ∷ [])
    ∷ example (G ∷ G ∷ C ∷ C ∷ []) (3 ∷ 2 ∷ 1 ∷ 0 ∷ []) (G ∷ G ∷ C ∷ C ∷ []) (0 ∷ 2 ∷ 1 ∷ 3 ∷ []) 0 []
    ∷ []

pub settled : examples_ok examples ≡ true
unfolding examples_ok examples example_ok letters_match longest largest choose prefix_ok closed_to places_ok verified some every some_list
settled = refl
