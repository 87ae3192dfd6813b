-- The theorem of the examples of 01 and of 02, (i) to (iii), (v) and (vi): every row of the table holds.
use mathlib.Core.Path.{refl}
use mathlib.Core.List.{List, [], ◌∷◌, ◌++◌}
use Rattle.lists.specs.Vocabulary.{choose, every, some, lowest_from, lowest, largest, select, tab, some_list, total, put_at}
use Rattle.letters.specs.Letters.{letters_match, is_letter, not_letter}
use Rattle.strand.specs.Strands.{mate_outside, not_mutual, crosses, crossed_at, strand_verdict, check_verdict, check_answer}
use Rattle.strand.specs.Strands.{pair_verdict, key}
use Rattle.strand.specs.Folds.{begins, arc_count, lies_inside, is_chain, depth_of}
use Rattle.refusals.specs.Rules.{first, refuse_if, refuse_at_lowest, by_verdict}
use Rattle.embedding.specs.Longest.{longest, prefix_ok, closed_to, places_ok, verified}
use Rattle.embedding.specs.Longest as verify
use Rattle.embedding.specs.Windows.{window_mate, carries, some_carries, first_start, tightest_length}
use Rattle.embedding.specs.Examples.{example_ok, examples}
use Rattle.matcher.specs.Answers as matcher
use Rattle.window.specs.Answers.{window_of, window_answer}
use Rattle.block.proofs.Examples.{checksum_of_a}
use Rattle.calls.specs.Buffers.{in_range, molecule_verdict, motif_verdict, work_verdict, is_held}
use Rattle.calls.specs.Calls.{refused_by}
use Rattle.history.specs.Model.{add, remove, batch, ends_period, start, held_in, model_verdict, model_answer, model_next, model_result, model_after, model_log}
use Rattle.history.specs.History.{at_most_once, admitted_from, admitted}
use Rattle.history.specs.Examples.{Story, results_of, ByModel, AllByModel, stories, bonded, ask, settled_story, reused_story}
use Rattle.history.specs.Examples.{shared_slot_story, empty_motif_story, spellings_story, one_slot_spellings, batch_story, long_motif as long}
use Rattle.history.proofs.Computed as computed
use Rattle.history.proofs.Stories.{by_runs}
use Rattle.examples.specs.Table.{Row, story, screen_text, VerifiedAt, Holds, AllHold, a, screen_input, screen_prints, long_motif, few_hits, number_two}
use Rattle.examples.specs.Table.{added_twice, removed_empty, empty_added, numbers, refusals, settled_rows, also, folds, windows, empty_motifs, together_story}
use Rattle.examples.specs.Table.{batches, spellings, table, TableHolds}
use Rattle.examples.proofs.BlockRows.{a_bytes, t_bytes, gc_bytes, entry_bytes, empty_motif_bytes, empty_motif_entry_bytes}
use Rattle.examples.proofs.BufferRows.{uneven_refused, unsound_refused}
use Rattle.examples.proofs.ScreenRow.{screen_prints_lem, empty_motif_prints, empty_block_prints}
use Rattle.examples.proofs.BatchRows.{no_block, seventeen_blocks, byte_more, empty_second, unsound_third, long_second, few_hits_lem, little_work, together}

-- A row and the rows after it.
infixr 20 ◌&◌
◌&◌ : {A B : Type 0} → A → B → A × B
x & y = (x, y)

-- A story that holds on the model holds of every run.
by_model : (t : Story) → ByModel t → Holds (story t)
unfolding Holds
by_model t m = (m, by_runs t m)

stories_ok : ByModel long_motif × ByModel few_hits × ByModel number_two × ByModel added_twice × ByModel removed_empty × ByModel empty_added
unfolding long_motif long few_hits number_two added_twice removed_empty empty_added admitted admitted_from at_most_once model_log results_of choose every some
    lowest_from lowest tab first refuse_if refuse_at_lowest strand_verdict is_letter not_letter mate_outside not_mutual crosses crossed_at molecule_verdict
    motif_verdict work_verdict refused_by by_verdict ends_period model_result model_after start put_at is_held held_in in_range model_verdict model_answer
    model_next
stories_ok = ((refl, refl), (refl, refl), (refl, refl), (refl, refl), (refl, refl), (refl, refl))

numbers_hold : AllHold numbers
unfolding numbers AllHold Holds
numbers_hold =
    refl & refl & refl & refl & refl & refl & refl & refl & refl & refl & refl & refl & refl & refl & refl & refl & refl & refl & tt

refusals_hold : AllHold refusals
unfolding refusals AllHold Holds check_verdict check_answer motif_verdict matcher.length_verdict matcher.length_answer matcher.show_verdict
    matcher.show_answer verify.verify_verdict by_verdict pair_verdict strand_verdict first refuse_if refuse_at_lowest choose every some some_list lowest_from
    lowest is_letter not_letter mate_outside not_mutual crosses crossed_at letters_match longest largest prefix_ok closed_to places_ok select begins arc_count
    lies_inside is_chain depth_of
refusals_hold =
    (refl, refl)
    & (refl, refl)
    & by_model long_motif stories_ok.0
    & (refl, refl)
    & (refl, refl)
    & (refl, refl)
    & (refl, refl)
    & refl
    & refl
    & refl
    & refl
    & by_model few_hits stories_ok.1
    & uneven_refused (add 0 a)
    & uneven_refused (remove 0)
    & uneven_refused (ask bonded)
    & unsound_refused (add 0 a)
    & unsound_refused (remove 0)
    & unsound_refused (ask bonded)
    & by_model number_two stories_ok.2
    & by_model added_twice stories_ok.3
    & by_model removed_empty stories_ok.4
    & refl
    & refl
    & tt

settled_hold : AllHold (settled_rows examples)
unfolding settled_rows examples example_ok verified AllHold Holds VerifiedAt matcher.length_verdict matcher.length_answer matcher.show_verdict
    matcher.show_answer verify.verify_verdict by_verdict pair_verdict strand_verdict first refuse_if refuse_at_lowest choose every some some_list lowest_from
    lowest is_letter not_letter mate_outside not_mutual crosses crossed_at letters_match longest largest prefix_ok closed_to places_ok
settled_hold =
    (refl, refl, refl, tt)
    & (refl, refl, refl, refl)
    & (refl, refl, refl, tt)
    & (refl, refl, refl, tt)
    & (refl, refl, refl, refl)
    & (refl, refl, refl, refl)
    & (refl, refl, refl, tt)
    & (refl, refl, refl, refl)
    & (refl, refl, refl, tt)
    & tt

-- The table's stories among those of crate history.
own_stories : ByModel settled_story × ByModel reused_story × ByModel shared_slot_story × ByModel empty_motif_story × ByModel batch_story
    × ByModel spellings_story
    × ByModel one_slot_spellings
unfolding AllByModel stories
own_stories =
    let altered_and_on = (computed.settled).1.1.1 in
    let spelled_and_on = altered_and_on.1.1 in (
      (computed.settled).0,
      (computed.settled).1.0,
      (computed.settled).1.1.0,
      altered_and_on.1.0,
      spelled_and_on.1.1.0,
      spelled_and_on.0,
      spelled_and_on.1.0,
    )

also_hold : AllHold also
unfolding also AllHold Holds
also_hold =
    checksum_of_a
    & a_bytes
    & gc_bytes
    & entry_bytes
    & (computed.keys).0
    & (computed.keys).1
    & by_model settled_story own_stories.0
    & by_model reused_story own_stories.1
    & by_model shared_slot_story own_stories.2
    & tt

folds_hold : AllHold folds
unfolding folds AllHold Holds check_verdict check_answer matcher.length_verdict matcher.length_answer matcher.show_verdict matcher.show_answer
    verify.verify_verdict verified by_verdict pair_verdict strand_verdict first refuse_if refuse_at_lowest choose every some some_list lowest_from lowest
    is_letter not_letter mate_outside not_mutual crosses crossed_at letters_match longest largest prefix_ok closed_to places_ok select begins arc_count
    lies_inside is_chain depth_of
folds_hold = refl & refl & refl & refl & refl & refl & refl & refl & tt

windows_hold : AllHold windows
unfolding windows AllHold Holds window_answer window_of tightest_length first_start some_carries carries window_mate matcher.length_verdict by_verdict
    pair_verdict strand_verdict first refuse_if refuse_at_lowest choose every some some_list lowest_from lowest tab is_letter not_letter mate_outside
    not_mutual crosses crossed_at letters_match longest largest prefix_ok closed_to places_ok select begins arc_count lies_inside is_chain depth_of
windows_hold = refl & refl & refl & refl & refl & refl & refl & refl & refl & refl & tt

empty_motifs_hold : AllHold empty_motifs
unfolding empty_motifs AllHold Holds window_answer window_of tightest_length first_start some_carries carries window_mate matcher.length_verdict
    matcher.length_answer matcher.show_verdict matcher.show_answer verify.verify_verdict verified by_verdict pair_verdict strand_verdict first refuse_if
    refuse_at_lowest choose every some some_list lowest_from lowest tab is_letter not_letter mate_outside not_mutual crosses crossed_at letters_match longest
    largest prefix_ok closed_to places_ok select begins arc_count lies_inside is_chain depth_of key total
empty_motifs_hold =
    refl
    & refl
    & refl
    & refl
    & refl
    & refl
    & refl
    & refl
    & refl
    & by_model empty_added stories_ok.5
    & refl
    & refl
    & empty_motif_entry_bytes
    & empty_motif_bytes
    & empty_motif_prints
    & empty_block_prints
    & by_model empty_motif_story own_stories.3
    & tt

batches_hold : AllHold batches
unfolding batches AllHold Holds
batches_hold =
    by_model _ no_block
    & by_model _ seventeen_blocks
    & by_model _ byte_more
    & by_model _ empty_second
    & by_model _ unsound_third
    & uneven_refused (batch [] 0 [])
    & unsound_refused (batch [] 0 [])
    & by_model _ long_second
    & by_model _ few_hits_lem
    & by_model _ little_work
    & by_model together_story together
    & by_model batch_story own_stories.4
    & tt

spellings_hold : AllHold spellings
unfolding spellings AllHold Holds example_ok verified VerifiedAt window_answer window_of tightest_length first_start some_carries carries window_mate
    check_verdict check_answer motif_verdict matcher.length_verdict matcher.length_answer matcher.show_verdict matcher.show_answer verify.verify_verdict
    by_verdict pair_verdict strand_verdict first refuse_if refuse_at_lowest choose every some some_list lowest_from lowest tab is_letter not_letter
    mate_outside not_mutual crosses crossed_at letters_match longest largest prefix_ok closed_to places_ok select begins arc_count lies_inside is_chain
    depth_of key total
spellings_hold =
    (refl, refl, refl, refl)
    & (refl, refl, refl, refl)
    & (refl, refl, refl, refl)
    & (refl, refl, refl, refl)
    & (refl, refl, refl, tt)
    & (refl, refl, refl, tt)
    & refl
    & refl
    & (refl, refl)
    & (refl, refl)
    & refl
    & refl
    & by_model spellings_story own_stories.5
    & by_model one_slot_spellings own_stories.6
    & t_bytes
    & tt

both : (rs ss : List Row) → AllHold rs → AllHold ss → AllHold (rs ++ ss)
unfolding AllHold
both [] ss h k = k
both (r ∷ rs) ss h k = (h.0, both rs ss h.1 k)

screen_hold : AllHold (screen_text screen_input screen_prints ∷ settled_rows examples)
unfolding AllHold Holds
screen_hold = (screen_prints_lem, settled_hold)

pub holds : TableHolds
unfolding table
holds =
    let front = both (numbers ++ refusals) _ (both numbers refusals numbers_hold refusals_hold) screen_hold in
    let requests = both _ windows (both _ folds (both _ also front also_hold) folds_hold) windows_hold in
    both _ spellings (both _ batches (both _ empty_motifs requests empty_motifs_hold) batches_hold) spellings_hold
