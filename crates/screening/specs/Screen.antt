-- What the screen program prints for the bytes of its input.
use Rattle.std.specs.Prelude.{ℕ, ◌+◌, ◌%◌, ◌≤◌, List, ◌++◌, Bool, not, ◌&&◌, eqb, leb, length, take, drop, replicate, Option, Some, None, Ok, Err}
use Rattle.lists.specs.Vocabulary.{choose}
use Rattle.strand.specs.Strands.{Strand}
use Rattle.block.specs.Content.{block_size, empty_block}
use Rattle.block.specs.Motif.{motif_handed_in, holds_motif}
use Rattle.block.specs.Block.{block_count}
use Rattle.refusals.specs.Rules.{work_size, Verdict, number_of, number_of_side}
use Rattle.calls.specs.Answers.{Queried}
use Rattle.calls.specs.Buffers.{most_molecule_bases, most_motif_bases}
use Rattle.calls.specs.Calls.{QueryEffect, query_verdict, query_outcome}
use Rattle.screening.specs.Text.{hits_text, refused_text, bad_length_text, bad_motif_text, most_output}

-- The input is a block handed in as a motif, then 1 to 64 catalog blocks.
abbrev pub most_screened : ℕ
most_screened = 64

unfoldable pub is_input : List ℕ → Bool
is_input input =
    eqb (length input % block_size) 0 && leb 2 (block_count input) && leb (block_count input) (1 + most_screened)

-- The motif's block, and the catalog behind it: number 0 is the block after the motif's.
abbrev pub first_block : List ℕ → List ℕ
first_block input = take block_size input

abbrev pub catalog_in : List ℕ → List ℕ
catalog_in input = drop block_size input

-- The work that a motif of 120 bases, the most in a query, asks for.
abbrev pub screen_work : ℕ
screen_work = work_size most_motif_bases most_molecule_bases

-- The text of an answer; `hits` is the slice of the hits afterwards.
unfoldable pub answer_text : Queried → List ℕ → List ℕ
answer_text (Ok found) hits = hits_text found.count found.searched (take found.count hits)
answer_text (Err r) hits = refused_text (number_of r.rule) (number_of_side r.side) r.place

-- Room for an answer's text: that of an answered query fits; for a refusal there are most_output bytes, enough for any.
unfoldable pub AnswerFits : Queried → List ℕ → ℕ → Type 0
AnswerFits (Ok found) hits room =
    (found.count ≤ length hits) × (length (hits_text found.count found.searched (take found.count hits)) ≤ room)
AnswerFits (Err r) hits room = most_output ≤ room

-- The text of the answer of a query with these effects.
abbrev pub effect_text : QueryEffect → List ℕ
effect_text e = answer_text e.answer e.hits

-- The lengths that `screen` asks for: any output fits, the cache is one block, the work serves any motif, and the hits any catalog.
unfoldable pub has_room : ℕ → ℕ → ℕ → ℕ → Bool
has_room out cache work hits = leb most_output out && eqb cache block_size && leb screen_work work && leb most_screened hits

-- The effect of `screen`: its answer, and the output buffer, the cache and the slice of the hits afterwards.
pub record ScreenEffect : Type 0 where
  pub answer : Option ℕ
  pub out : List ℕ
  pub cache : List ℕ
  pub hits : List ℕ

abbrev pub screened : Option ℕ → List ℕ → List ℕ → List ℕ → ScreenEffect
screened answer out cache hits = record { answer = answer; out = out; cache = cache; hits = hits }

-- The input comes to a query.
unfoldable pub is_asked : List ℕ → Bool
is_asked input = is_input input && holds_motif (first_block input)

-- The verdict of its query: a zeroed cache of one block, `work` and `room` the lengths of the work and the hit slice.
abbrev pub screen_verdict : List ℕ → ℕ → ℕ → Verdict
screen_verdict input work room = query_verdict (catalog_in input) empty_block (motif_handed_in (first_block input)) work room

module _ (embeds : Strand → Strand → Bool) where
  -- It queries with a zeroed cache of one block, a work slice of `work` entries and a slice for the hits.
  unfoldable pub screen_query : List ℕ → ℕ → List ℕ → QueryEffect
  screen_query input work hits = query_outcome embeds (catalog_in input) empty_block (motif_handed_in (first_block input)) work hits

  -- An input of other length prints `bad length`, else an unsound or empty first block `bad motif`, else the answer of the query.
  unfoldable pub screen_output : List ℕ → List ℕ
  screen_output input =
      choose (not (is_input input)) bad_length_text
      (choose (not (holds_motif (first_block input))) bad_motif_text
      (effect_text (screen_query input screen_work (replicate most_screened 0))))

  -- The cache and the hits afterwards: as the query leaves them, or as they were.
  unfoldable pub cache_left : List ℕ → List ℕ → ℕ → List ℕ → List ℕ
  cache_left input cache work hits = choose (is_asked input) (screen_query input work hits).cache cache

  unfoldable pub hits_left : List ℕ → ℕ → List ℕ → List ℕ
  hits_left input work hits = choose (is_asked input) (screen_query input work hits).hits hits

  -- What `screen` answers and leaves: the output, then what stood past it in the output buffer; nothing is written where a buffer is too
  -- short or the cache is not one block.
  unfoldable pub screen_outcome : List ℕ → List ℕ → List ℕ → ℕ → List ℕ → ScreenEffect
  screen_outcome input out cache work hits =
      choose (has_room (length out) (length cache) work (length hits))
      (screened (Some (length (screen_output input))) (screen_output input ++ drop (length (screen_output input)) out)
      (cache_left input cache work hits) (hits_left input work hits))
      (screened None out cache hits)
