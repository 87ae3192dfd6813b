-- The rows of the screen program: any motif, then a block with A, then an empty block. The catalog is what add leaves in zeroed blocks, and the query is that
-- of a story.
use Rattle.std.specs.Prelude.{Ok, Err}
use Prim.Native.Nat.{ℕ}
use native.Mathlib.Omega.{arith}
use mathlib.Core.Path.{◌≡◌, refl, sym, ap, ap₂, ◌∙◌}
use mathlib.Core.Bool.{true, not}
use mathlib.Core.List.{List, [], ◌∷◌, ◌++◌}
use mathlib.Core.Option.{none as vacant}
use lib.Dec.{leb}
use borrow.Author.Tests.{le-leb}
use lib.ListN.{length, take, drop, replicate, length-append, length-replicate}
use lib.Seq.{take_at, drop_at, take_all}
use Rattle.lists.specs.Vocabulary.{choose, every, some, lowest_from, lowest, largest, select, some_list, total, same_list, put_at}
use Rattle.letters.specs.Letters.{letters_match, is_letter, not_letter}
use Rattle.strand.specs.Strands.{Strand, empty_motif, Proper, same_strand, key, mate_outside, not_mutual, crosses, crossed_at}
use Rattle.strand.specs.Strands.{strand_verdict, least_motif}
use Rattle.refusals.specs.Rules.{motif_side, no_side, not_whole_blocks, number_too_large, already_held, first, refuse_if, refuse_at_lowest, by_verdict}
use Rattle.embedding.specs.Longest.{longest, prefix_ok, closed_to, places_ok, embeds}
use Rattle.block.specs.Content.{block_size, block_bases, empty_block, encode_molecule}
use Rattle.block.specs.Motif.{holds_motif, motif_handed_in, encode_motif}
use Rattle.block.specs.Block.{cleaned, block_count, put_block}
use Rattle.calls.specs.Answers.{Added, Queried}
use Rattle.calls.specs.Buffers.{in_range, molecule_verdict, motif_verdict, work_verdict, is_held, slot_of, clean_cache}
use Rattle.calls.specs.Calls.{Effect, QueryEffect, add_verdict, query_outcome, Result, done, found, refused_by, query_result}
use Rattle.calls.proofs.BlockUse.{empty_length, empty_entry, molecule_length, sound_clean}
use Rattle.block.proofs.Claims as block
use Rattle.block.proofs.ContentLaws.{motif_bytes, motif_length, motif_sound, motif_full, motif_back, sound_held}
use Rattle.strand.proofs.Claims as strand
use Rattle.strand.proofs.VerdictLaws.{accepted_proper}
use Rattle.calls.proofs.ReadingLaws.{clean_length, clean_block, block_zero}
use Rattle.calls.proofs.CallLaws.{add_does}
use Rattle.calls.proofs.Stores.{stores_zeroed, add_judged}
use Rattle.history.specs.Model.{Event, add, query, call, ends_period, start, held_in, known_in, model_verdict, embeds_at, hit_list}
use Rattle.history.specs.Model.{searches, search_list, asked as after_query, model_answer, model_next, model_result, model_after, model_log}
use Rattle.history.specs.History.{zeroed, at_most_once, admitted_from, admitted}
use Rattle.history.proofs.Bytes.{bytes_result, bytes_next, bytes_log}
use Rattle.history.proofs.Runs.{bytes_run}
use Rattle.history.specs.Examples.{Story, results_of, ByModel}
use Rattle.history.proofs.Stories.{by_runs}
use Rattle.screening.specs.Text.{digits_in, digits, spaced, line, lines, hits_text, bad_motif_text}
use Rattle.screening.specs.Screen.{most_screened, is_input, first_block, catalog_in, screen_work, answer_text, effect_text, screen_query, screen_output}
use Rattle.screening.proofs.ScreenLaws.{input_by_most, output_answer, output_bad_motif}
use Rattle.examples.specs.Table.{a, screen_input, screen_prints, empty_motif_input, empty_block_input, bad_motif_prints}
use Rattle.examples.proofs.BufferRows.{a_accepted}

-- ---- the bytes of the input

code : List ℕ
code = encode_molecule a

code_length : length code ≡ 512
unfolding code
code_length = molecule_length a a_accepted

catalog : List ℕ
catalog = code ++ empty_block

-- Behind a first block of any bytes.
module _ (head : List ℕ) (size : length head ≡ 512) where
  input_length : length (head ++ catalog) ≡ 1536
  unfolding catalog
  input_length = omega (arith, length-append head (code ++ empty_block), length-append code empty_block, size, code_length, empty_length)

  input_ok : is_input (head ++ catalog) ≡ true
  input_ok = sym (input_by_most (head ++ catalog) (omega (arith, input_length)) (omega (arith, input_length))) ∙ few
    where
      few : leb (block_count (head ++ catalog)) 65 ≡ true
      few = le-leb (block_count (head ++ catalog)) 65 (omega (arith, input_length))

  first_block_lem : first_block (head ++ catalog) ≡ head
  first_block_lem = take_at head catalog 512 size

  catalog_bytes : catalog_in (head ++ catalog) ≡ catalog
  catalog_bytes = drop_at head catalog 512 size

-- ---- what add leaves

clean_zeros : clean_cache (replicate block_size 0) ≡ empty_block
clean_zeros =
    sym (take_all block_size (clean_cache (replicate block_size 0)) (omega (
      arith,
      clean_length (replicate block_size 0) 1 (length-replicate {A = ℕ} block_size 0),
    )))
    ∙ clean_block (replicate block_size 0) 1 (length-replicate {A = ℕ} block_size 0) 0 (omega arith)
    ∙ ap cleaned (block_zero 1 0 (omega arith))
    ∙ sound_clean empty_block empty_entry

rest : drop 512 (replicate {A = ℕ} 1024 0) ≡ replicate 512 0
rest = refl

passed : first
    (refuse_if not_whole_blocks no_side (not (in_range 2 1)) ∷ refuse_if number_too_large no_side (leb 2 0) ∷ refuse_if already_held no_side (is_held vacant)
    ∷ molecule_verdict a ∷ [])
    ≡ Ok tt
unfolding is_held in_range molecule_verdict strand_verdict first refuse_if refuse_at_lowest choose some lowest_from lowest is_letter not_letter mate_outside
    not_mutual crosses crossed_at
passed = refl

added : add_verdict (zeroed 2 1).catalog (zeroed 2 1).cache 0 a ≡ Ok tt
unfolding zeroed
added = add_judged (stores_zeroed 2) 1 (replicate 512 0) (length-replicate {A = ℕ} 512 0) 0 a ∙ passed

left_catalog : (bytes_next embeds (zeroed 2 1) (add 0 a)).catalog ≡ catalog
unfolding bytes_next zeroed put_block catalog code empty_block
left_catalog =
    ap (λ (x : Effect Added). x.catalog) (add_does (zeroed 2 1).catalog (zeroed 2 1).cache 0 a added)
    ∙ ap (λ (l : List ℕ). encode_molecule a ++ l) rest

left_cache : (bytes_next embeds (zeroed 2 1) (add 0 a)).cache ≡ empty_block
unfolding bytes_next zeroed
left_cache = ap (λ (x : Effect Added). x.cache) (add_does (zeroed 2 1).catalog (zeroed 2 1).cache 0 a added) ∙ clean_zeros

-- ---- the query of a motif that is found in A: that of the story is that of the input

hits : List ℕ
hits = replicate most_screened 0

adding : Event
adding = call (add 0 a)

asking : Strand → Event
asking p = call (query p screen_work hits)

screen_story : Strand → Story
screen_story p = record { blocks = 2; slots = 1; events = adding ∷ asking p ∷ []; results = done ∷ found 1 (0 ∷ []) 1 ∷ [] }

second : List Result → Result
second [] = done
second (r ∷ []) = done
second (r ∷ s ∷ rs) = s

text_of : (answer : Queried) (h : List ℕ) (count searched : ℕ) (list : List ℕ) → query_result answer h ≡ found count list searched
    → answer_text answer h ≡ hits_text count searched list
unfolding query_result answer_text refused_by
text_of (Ok f) h count searched list e =
    let x : f.count ≡ count = cc in
    let y : take f.count h ≡ list = cc in
    let z : f.searched ≡ searched = cc in
    rw (← x, y, z)
text_of (Err r) h count searched list e = let z : ◌≡◌ {A = ℕ} 0 1 = cc in absurd (omega arith)

printed : hits_text 1 1 (0 ∷ []) ≡ screen_prints
unfolding hits_text line spaced lines digits digits_in choose
printed = refl

module _ (p : Strand) (proper : Proper motif_side least_motif block_bases p.bases p.mates) (found-in-A : ByModel (screen_story p)) where
  input : List ℕ
  input = encode_motif p ++ catalog

  motif_block : first_block input ≡ encode_motif p
  unfolding input
  motif_block = first_block_lem (encode_motif p) (motif_length p proper)

  motif_ok : holds_motif (first_block input) ≡ true
  motif_ok = ap holds_motif motif_block ∙ sound_held (encode_motif p) (motif_sound p proper) (motif_full p proper)

  motif_is : motif_handed_in (first_block input) ≡ p
  motif_is = ap motif_handed_in motif_block ∙ motif_back p proper

  asked : QueryEffect
  asked = query_outcome embeds catalog empty_block p screen_work hits

  asked_found : query_result asked.answer asked.hits ≡ found 1 (0 ∷ []) 1
  unfolding asked
  asked_found =
      ap₂ (λ (u v : List ℕ). query_result (query_outcome embeds u v p screen_work hits).answer (query_outcome embeds u v p screen_work hits).hits)
      (sym left_catalog) (sym left_cache)
      ∙ (unfold second results_of bytes_log bytes_result adding asking screen_story in
      (ap second (by_runs (screen_story p) found-in-A _ (bytes_run embeds (zeroed 2 1) (adding ∷ asking p ∷ [])))))

  same_query : screen_query embeds input screen_work (replicate most_screened 0) ≡ asked
  unfolding input screen_query asked hits
  same_query =
      ap₂ (λ (u : List ℕ) (m : Strand). query_outcome embeds u empty_block m screen_work (replicate most_screened 0))
      (catalog_bytes (encode_motif p) (motif_length p proper)) motif_is

  prints : screen_output embeds (encode_motif p ++ catalog) ≡ screen_prints
  unfolding input
  prints =
      output_answer embeds input (input_ok (encode_motif p) (motif_length p proper)) motif_ok
      ∙ ap effect_text same_query
      ∙ text_of asked.answer asked.hits 1 1 (0 ∷ []) asked_found
      ∙ printed

-- ---- the three rows

stories_ok : ByModel (screen_story a) × ByModel (screen_story empty_motif)
unfolding screen_story adding asking hits admitted admitted_from at_most_once model_log results_of embeds longest largest prefix_ok closed_to places_ok
    letters_match choose every some lowest_from lowest select some_list total same_list same_strand key first refuse_if refuse_at_lowest strand_verdict
    is_letter not_letter mate_outside not_mutual crosses crossed_at molecule_verdict motif_verdict work_verdict slot_of refused_by by_verdict ends_period
    model_result model_after after_query start put_at is_held held_in known_in in_range model_verdict embeds_at hit_list searches search_list model_answer
    model_next
stories_ok = ((refl, refl), (refl, refl))

pub a_motif : Proper motif_side least_motif block_bases a.bases a.mates
a_motif = accepted_proper motif_side least_motif block_bases a.bases a.mates passes
  where
    passes : strand_verdict motif_side least_motif block_bases a.bases a.mates ≡ Ok tt
    passes = unfold strand_verdict first refuse_if refuse_at_lowest choose some lowest_from lowest is_letter not_letter mate_outside not_mutual crosses
        crossed_at in refl

pub screen_prints_lem : screen_output embeds screen_input ≡ screen_prints
unfolding catalog code
screen_prints_lem = ap (λ (b : List ℕ). screen_output embeds (b ++ catalog)) (sym (motif_bytes a)) ∙ prints a a_motif stories_ok.0

pub empty_motif_prints : screen_output embeds empty_motif_input ≡ screen_prints
unfolding catalog code
empty_motif_prints =
    prints empty_motif (accepted_proper motif_side least_motif block_bases [] [] ((strand.claims).empty_motif_says.passes block_bases)) stories_ok.1

pub empty_block_prints : screen_output embeds empty_block_input ≡ bad_motif_prints
unfolding catalog code bad_motif_text line spaced
empty_block_prints =
    output_bad_motif embeds (empty_block ++ catalog) (input_ok empty_block empty_length)
    (ap holds_motif (first_block_lem empty_block empty_length) ∙ (block.claims).empty_motif_lem.not_handed_in)
