-- What is claimed of the text that the screen program prints, for all inputs; `claims`, in proofs/Claims, proves it.
use Rattle.std.specs.Prelude.{ℕ, ◌+◌, ◌-◌, ◌*◌, ◌≤◌, ◌≡◌, List, [], ◌∷◌, Bool, true, false, ◌&&◌, length, Ok, Err}
use Rattle.lists.specs.Vocabulary.{select}
use Rattle.refusals.specs.declared.Refusal.{Refusal}
use Rattle.refusals.specs.Rules.{number_of, number_of_side}
use Rattle.block.specs.Motif.{holds_motif, motif_handed_in}
use Rattle.block.specs.Block.{block_count}
use Rattle.embedding.specs.Longest.{embeds}
use Rattle.calls.specs.Buffers.{held, molecule_at}
use Rattle.screening.specs.Text.{digits, hits_text, refused_text, bad_length_text, bad_motif_text, most_output}
use Rattle.screening.specs.Screen.{most_screened, is_input, first_block, catalog_in, screen_work, is_asked, screen_verdict, screen_output}

-- The number that digits stand for, read from the left; `read` is that of the digits before them.
unfoldable pub value_from : ℕ → List ℕ → ℕ
value_from read [] = read
value_from read (d ∷ ds) = value_from (10 * read + (d - 48)) ds

-- The digits of a number stand for it.
abbrev pub DigitsSay : Type 0
DigitsSay = (n : ℕ) → value_from 0 (digits n) ≡ n

-- The molecules that the catalog of an input holds, as numbers, rising.
abbrev pub held_in : List ℕ → List ℕ
held_in input = select (block_count (catalog_in input)) (held (catalog_in input))

-- Those of them in which its motif embeds.
abbrev pub is_found : List ℕ → ℕ → Bool
is_found input d = held (catalog_in input) d && embeds (motif_handed_in (first_block input)) (molecule_at (catalog_in input) d)

abbrev pub found_in : List ℕ → List ℕ
found_in input = select (block_count (catalog_in input)) (is_found input)

-- No output is longer than most_output.
abbrev pub OutputSays : List ℕ → Type 0
OutputSays input = length (screen_output embeds input) ≤ most_output

-- What an input prints: it is in one of these four cases and in no other.
pub record Prints (input : List ℕ) : Type 0 where
  -- an input of other length prints `bad length`
  pub bad_length : is_input input ≡ false → screen_output embeds input ≡ bad_length_text
  -- else an unsound or empty first block `bad motif`
  pub bad_motif : is_input input ≡ true → holds_motif (first_block input) ≡ false → screen_output embeds input ≡ bad_motif_text
  -- a refused query prints `refused` and the numbers of rule and side, and the place
  pub refused : is_asked input ≡ true → (r : Refusal) → screen_verdict input screen_work most_screened ≡ Err r
      → screen_output embeds input ≡ refused_text (number_of r.rule) (number_of_side r.side) r.place
  -- an accepted one the count of the found, the count of the held, all of which are searched, for the cache is zeroed, and each of the found
  pub answered : is_asked input ≡ true → screen_verdict input screen_work most_screened ≡ Ok tt
      → screen_output embeds input ≡ hits_text (length (found_in input)) (length (held_in input)) (found_in input)

-- All the claims.
pub record Claims : Type 0 where
  pub digits_say : DigitsSay
  pub output_says : (input : List ℕ) → OutputSays input
  pub prints : (input : List ℕ) → Prints input
