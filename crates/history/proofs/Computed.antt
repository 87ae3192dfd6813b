-- What the reference model makes of the example histories, by computing.
use mathlib.Core.Path.{◌≡◌, refl}
use mathlib.Core.Bool.{false}
use mathlib.Core.List.{[], ◌∷◌}
use Rattle.lists.specs.Vocabulary.{choose, every, some, lowest_from, lowest, largest, select, tab, some_list, total, same_list, put_at}
use Rattle.letters.specs.Letters.{letters_match, is_letter, not_letter}
use Rattle.strand.specs.Strands.{same_strand, key, mate_outside, not_mutual, crosses, crossed_at, strand_verdict}
use Rattle.refusals.specs.Rules.{first, refuse_if, refuse_at_lowest, by_verdict}
use Rattle.embedding.specs.Longest.{longest, prefix_ok, closed_to, places_ok, embeds}
use Rattle.octets.specs.Octets.{bytes_of, without, map_bytes, bit_sum}
use Rattle.block.specs.Content.{with_checksum, empty_block, content_of, entry_with, encode_entry}
use Rattle.calls.specs.Buffers.{in_range, molecule_verdict, motif_verdict, work_verdict, slot_of, is_held}
use Rattle.calls.specs.Calls.{done, found, refused_by}
use Rattle.history.specs.Model.{ends_period, start, held_in, known_in, dropped, model_verdict, embeds_at, hit_list, searches, search_list, asked}
use Rattle.history.specs.Model.{model_answer, model_next, model_result, model_after, slot_block, model_alter, model_log}
use Rattle.history.specs.History.{at_most_once, admitted_from, admitted}
use Rattle.history.specs.Examples.{results_of, ByModel, AllByModel, bonded, unbonded, settled_story, reused_story, shared_slot_story, altered_story}
use Rattle.history.specs.Examples.{empty_motif_story, spellings_story, one_slot_spellings, stories, altered_once, altered_twice, refused_between}
use Rattle.history.proofs.BatchStory.{batches}

-- The keys are equal.
pub keys : (key bonded ≡ 139) × (key unbonded ≡ 139)
unfolding key total
keys = (refl, refl)

-- The stories hold on the model.
pub settled : AllByModel stories
unfolding stories AllByModel settled_story reused_story shared_slot_story altered_story empty_motif_story spellings_story one_slot_spellings admitted
    admitted_from at_most_once model_log results_of embeds longest largest prefix_ok closed_to places_ok letters_match choose every some lowest_from lowest
    select some_list tab total same_list same_strand key first refuse_if refuse_at_lowest strand_verdict is_letter not_letter mate_outside not_mutual crosses
    crossed_at molecule_verdict motif_verdict work_verdict slot_of refused_by by_verdict ends_period start put_at is_held held_in known_in dropped in_range
    model_verdict embeds_at hit_list searches search_list asked model_answer model_next model_result model_after slot_block model_alter empty_block
    encode_entry entry_with with_checksum content_of bytes_of map_bytes bit_sum without
settled = ((refl, refl), ((refl, refl), ((refl, refl), ((refl, refl), ((refl, refl), ((refl, refl), ((refl, refl), (batches, tt))))))))

-- With one alteration, with two, and with a refused call between.
pub computed : ByModel altered_once × (admitted embeds 1 1 altered_twice ≡ false) × (admitted embeds 1 1 refused_between ≡ false)
    × (results_of (model_log embeds 1 1 start altered_twice) ≡ done ∷ found 1 (0 ∷ []) 1 ∷ found 1 (0 ∷ []) 1 ∷ [])
unfolding altered_once altered_twice refused_between admitted admitted_from at_most_once model_log results_of embeds longest largest prefix_ok closed_to
    places_ok letters_match choose every some lowest_from lowest select some_list tab total same_list same_strand key first refuse_if refuse_at_lowest
    strand_verdict is_letter not_letter mate_outside not_mutual crosses crossed_at molecule_verdict motif_verdict work_verdict slot_of refused_by by_verdict
    ends_period start put_at is_held held_in known_in dropped in_range model_verdict embeds_at hit_list searches search_list asked model_answer model_next
    model_result model_after slot_block model_alter empty_block encode_entry entry_with with_checksum content_of bytes_of map_bytes bit_sum without
computed = ((refl, refl), refl, refl, refl)
