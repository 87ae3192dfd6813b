-- The story with batches, one event after the other. Its motif buffers are read by the laws of HandedIn, so that no checksum is computed; all else is.
use Rattle.std.specs.Prelude.{Ok}
use Prim.Native.Nat.{ℕ, ◌+◌, ◌*◌, max}
use native.Mathlib.Omega.{arith}
use mathlib.Core.Path.{◌≡◌, refl, sym, ap₂, ◌∙◌}
use mathlib.Core.Bool.{true, false, ◌&&◌, ◌||◌}
use mathlib.Core.List.{List, [], ◌∷◌}
use lib.Dec.{ltb}
use lib.ListN.{length}
use Rattle.lists.specs.Vocabulary.{choose, every, some, lowest_from, lowest, largest, select, tab, some_list, total, same_list, put_at}
use Rattle.lists.proofs.ListLaws.{choose_yes, choose_no}
use Rattle.letters.specs.Letters.{letters_match, is_letter, not_letter}
use Rattle.strand.specs.Strands.{Strand, empty_motif, same_strand, key, mate_outside, not_mutual, crosses, crossed_at}
use Rattle.strand.specs.Strands.{strand_verdict}
use Rattle.refusals.specs.declared.Rule.{Rule}
use Rattle.refusals.specs.declared.Side.{Side}
use Rattle.refusals.specs.Rules.{motif_side, no_side, too_long, wrong_slice, bad_motifs, refusal, first, refuse_if, refuse_at_lowest, by_verdict, work_rule}
use Rattle.refusals.specs.Rules.{Verdict}
use Rattle.refusals.proofs.RuleLaws.{first_skip, first_stop, first_without}
use Rattle.embedding.specs.Longest.{longest, prefix_ok, closed_to, places_ok, embeds}
use Rattle.octets.specs.Octets.{bytes_of, without, map_bytes, bit_sum}
use Rattle.block.specs.Content.{block_size, with_checksum, empty_block, content_of, entry_with, encode_entry}
use Rattle.block.specs.Motif.{encode_motif}
use Rattle.calls.specs.Buffers.{most_molecule_bases, in_range, molecule_verdict, motif_verdict, work_verdict, slot_of, is_held, is_whole}
use Rattle.calls.specs.Calls.{Found, Result, refused, found_all, refused_by}
use Rattle.calls.specs.Motifs.{motifs_verdict, longest_to}
use Rattle.calls.proofs.MotifLaws.{motifs_not_whole}
use Rattle.history.specs.Model.{Call, add, remove, batch, Event, call, alter, ends_period, State, start, held_in, known_in, dropped, range_rule}
use Rattle.history.specs.Model.{model_verdict, embeds_at, hit_list, searches, search_list, asked, asked_to, found_by, read_by, model_answer, model_next}
use Rattle.history.specs.Model.{model_result, model_after, slot_block, model_alter, model_log}
use Rattle.history.specs.History.{at_most_once, admitted_from, admitted}
use Rattle.history.specs.Examples.{results_of, ByModel, bonded, unbonded, gac, ggc, handed_in, one_handed_in, found_of, long_motif, batch_story}
use Rattle.history.specs.Examples.{refused_batch_between, altered_for_batch}
use Rattle.history.proofs.HandedIn.{empty_behind, long_behind, alone_count, alone_0, alone_pass, handed_two, handed_0, handed_1, handed_pass}
use Rattle.history.proofs.Verdicts.{result_accepted, after_accepted, result_refused, after_refused}

module _ (B S : ℕ) where
  -- An accepted batch of two motifs: what their queries find, one after the other, and what they leave

  abbrev found_now : State → Strand → Found
  found_now σ p = found_of (length (hit_list embeds B S σ p)) (hit_list embeds B S σ p) (length (search_list embeds B S σ p))

  abbrev two_found : State → Strand → Strand → Result
  two_found σ p q =
      let τ : State = asked embeds B S σ p in
      found_all (found_now σ p ∷ found_now τ q ∷ []) (length (select B (λ d. searches embeds B S τ q d || (searches embeds B S σ p d || false))))

  -- the rules beside those of the motif buffer
  abbrev two_rules : Strand → Strand → ℕ → List ℕ → Verdict
  two_rules p q work hits =
      first
      (range_rule embeds B S
      ∷ refuse_if wrong_slice no_side (ltb (length hits) (2 * B))
      ∷ work_rule (max (max 0 (length p.bases)) (length q.bases)) most_molecule_bases work
      ∷ [])

  module _ (σ : State) (p q : Strand) (okp : motif_verdict p ≡ Ok tt) (okq : motif_verdict q ≡ Ok tt) (work : ℕ) (hits : List ℕ) where
    two_verdict : model_verdict embeds B S σ (batch (handed_in p q) work hits) ≡ two_rules p q work hits
    unfolding model_verdict longest_to
    two_verdict = rw (handed_pass p q okp okq, handed_two p q okp okq, handed_0 p q okp okq, handed_1 p q okp okq) (first_without _ _)

    two_answer : model_answer embeds B S σ (batch (handed_in p q) work hits) ≡ two_found σ p q
    unfolding model_answer tab found_by read_by asked_to some
    two_answer = rw (handed_two p q okp okq, handed_0 p q okp okq, handed_1 p q okp okq)

    two_next : model_next embeds B S σ (batch (handed_in p q) work hits) ≡ asked embeds B S (asked embeds B S σ p) q
    unfolding model_next asked_to
    two_next = rw (handed_two p q okp okq, handed_0 p q okp okq, handed_1 p q okp okq)

  -- The same of a batch of one motif

  abbrev one_rules : Strand → ℕ → List ℕ → Verdict
  one_rules p work hits =
      first
      (range_rule embeds B S
      ∷ refuse_if wrong_slice no_side (ltb (length hits) (1 * B))
      ∷ work_rule (max 0 (length p.bases)) most_molecule_bases work
      ∷ [])

  abbrev one_found : State → Strand → Result
  one_found σ p = found_all (found_now σ p ∷ []) (length (select B (λ d. searches embeds B S σ p d || false)))

  module _ (σ : State) (p : Strand) (ok : motif_verdict p ≡ Ok tt) (work : ℕ) (hits : List ℕ) where
    one_verdict : model_verdict embeds B S σ (batch (encode_motif p) work hits) ≡ one_rules p work hits
    unfolding model_verdict longest_to
    one_verdict = rw (alone_pass p ok, alone_count p ok, alone_0 p ok) (first_without _ _)

    one_answer : model_answer embeds B S σ (batch (encode_motif p) work hits) ≡ one_found σ p
    unfolding model_answer tab found_by read_by asked_to some
    one_answer = rw (alone_count p ok, alone_0 p ok)

    one_next : model_next embeds B S σ (batch (encode_motif p) work hits) ≡ asked embeds B S σ p
    unfolding model_next asked_to
    one_next = rw (alone_count p ok, alone_0 p ok)

  -- From this state on, with the alterations counted so, the list is admitted and its calls come to these results.
  record Comes (σ : State) (times : ℕ → ℕ) (es : List Event) (results : List Result) : Type 0 where
    admits : admitted_from embeds B S σ times es ≡ true
    comes : results_of (model_log embeds B S σ es) ≡ results

-- One event in front

module _ {B S : ℕ} {σ : State} {times : ℕ → ℕ} {es : List Event} {results : List Result} where
  alter_step : (s i v : ℕ) → (ltb s S && ltb i block_size && ltb v 256) ≡ true
      → Comes B S (model_alter embeds B S σ s i v) (put_at times s (times s + 1)) es results → Comes B S σ times (alter s i v ∷ es) results
  unfolding admitted_from model_log
  alter_step s i v e x = record { admits = rw e x.admits; comes = x.comes }

  -- a call that is accepted, and one that is refused
  accepted_step : (c : Call) {r : Result} {τ : State} → model_verdict embeds B S σ c ≡ Ok tt → model_answer embeds B S σ c ≡ r
      → model_next embeds B S σ c ≡ τ → ends_period r ≡ true → at_most_once embeds B S times ≡ true
      → Comes B S τ (λ s. 0) es results → Comes B S σ times (call c ∷ es) (r ∷ results)
  unfolding admitted_from model_log results_of
  accepted_step c e same next ends few x =
      let result = result_accepted embeds B S σ c e ∙ same in
      let after = after_accepted embeds B S σ c e ∙ next in
      record {
        admits = rw (result, after, few) (choose_yes _ _ _ ends ∙ x.admits);
        comes = ap₂ (λ (r : Result) (l : List Result). r ∷ l) result (rw after x.comes);
      }

  refused_step : (c : Call) (rule : Rule) (side : Side) (place : ℕ) → model_verdict embeds B S σ c ≡ refusal rule side place
      → Comes B S σ times es results → Comes B S σ times (call c ∷ es) (refused rule side place ∷ results)
  unfolding admitted_from model_log results_of ends_period refused_by
  refused_step c rule side place e x =
      let result = result_refused embeds B S σ c _ e in
      let after = after_refused embeds B S σ c _ e in
      record {
        admits = rw (result, after) (choose_no false _ _ refl ∙ x.admits);
        comes = ap₂ (λ (r : Result) (l : List Result). r ∷ l) result (rw after x.comes);
      }

  -- a batch of two motifs that is accepted, and one that is refused
  two_step : (p q : Strand) {work : ℕ} {hits : List ℕ} {r : Result} → motif_verdict p ≡ Ok tt → motif_verdict q ≡ Ok tt
      → two_rules B S p q work hits ≡ Ok tt → two_found B S σ p q ≡ r → ends_period r ≡ true → at_most_once embeds B S times ≡ true
      → Comes B S (asked embeds B S (asked embeds B S σ p) q) (λ s. 0) es results
      → Comes B S σ times (call (batch (handed_in p q) work hits) ∷ es) (r ∷ results)
  two_step p q {work} {hits} okp okq pass same =
      accepted_step (batch (handed_in p q) work hits) (two_verdict B S σ p q okp okq work hits ∙ pass) (two_answer B S σ p q okp okq work hits ∙ same)
      (two_next B S σ p q okp okq work hits)

  two_refused : (p q : Strand) {work : ℕ} {hits : List ℕ} {rule : Rule} {side : Side} {place : ℕ} → motif_verdict p ≡ Ok tt → motif_verdict q ≡ Ok tt
      → two_rules B S p q work hits ≡ refusal rule side place
      → Comes B S σ times es results → Comes B S σ times (call (batch (handed_in p q) work hits) ∷ es) (refused rule side place ∷ results)
  two_refused p q {work} {hits} okp okq e = refused_step _ _ _ _ (two_verdict B S σ p q okp okq work hits ∙ e)

  -- a batch of one motif that is accepted
  one_step : (p : Strand) {work : ℕ} {hits : List ℕ} {r : Result} → motif_verdict p ≡ Ok tt
      → one_rules B S p work hits ≡ Ok tt → one_found B S σ p ≡ r → ends_period r ≡ true → at_most_once embeds B S times ≡ true
      → Comes B S (asked embeds B S σ p) (λ s. 0) es results → Comes B S σ times (call (batch (encode_motif p) work hits) ∷ es) (r ∷ results)
  one_step p {work} {hits} ok pass same =
      accepted_step (batch (encode_motif p) work hits) (one_verdict B S σ p ok work hits ∙ pass) (one_answer B S σ p ok work hits ∙ same)
      (one_next B S σ p ok work hits)

  -- a batch that is refused for its motif buffer
  motifs_refused : (motifs : List ℕ) {work : ℕ} {hits : List ℕ} {rule : Rule} {side : Side} {place : ℕ} → range_rule embeds B S ≡ Ok tt
      → motifs_verdict motifs ≡ refusal rule side place
      → Comes B S σ times es results → Comes B S σ times (call (batch motifs work hits) ∷ es) (refused rule side place ∷ results)
  unfolding model_verdict
  motifs_refused motifs range e = refused_step _ _ _ _ (first_skip _ _ range ∙ first_stop _ _ _ e)

-- A buffer of no block, and one with a motif that is too long.
no_blocks : motifs_verdict [] ≡ refusal bad_motifs motif_side 0
no_blocks = sym (motifs_not_whole [] (unfold is_whole in refl))

too_long_lem : motif_verdict bonded ≡ Ok tt → motifs_verdict (handed_in bonded long_motif) ≡ refusal too_long motif_side 1
unfolding strand_verdict first refuse_if refuse_at_lowest choose some lowest_from lowest tab is_letter not_letter mate_outside not_mutual crosses crossed_at
    long_motif
too_long_lem ok = long_behind bonded ok long_motif refl (omega arith)

-- Every `refl` is computed: of an accepted call that its rules let it pass, what it answers, that it ends a period, and that no block was altered twice.
story : Comes 2 1 start (λ s. 0) batch_story.events batch_story.results
unfolding batch_story admitted admitted_from at_most_once model_log results_of embeds longest largest prefix_ok closed_to places_ok letters_match choose every
    some lowest_from lowest select some_list tab total same_list same_strand key first refuse_if refuse_at_lowest strand_verdict is_letter not_letter
    mate_outside not_mutual crosses crossed_at molecule_verdict motif_verdict slot_of ends_period start put_at is_held held_in known_in dropped in_range
    model_verdict embeds_at hit_list searches search_list asked model_answer model_next slot_block model_alter empty_block encode_entry entry_with
    with_checksum content_of bytes_of map_bytes bit_sum without
story =
    accepted_step (add 0 gac) refl refl refl refl refl
    (accepted_step (add 1 ggc) refl refl refl refl refl
    (two_step bonded unbonded refl refl refl refl refl refl
    (two_step unbonded unbonded refl refl refl refl refl refl
    (alter_step 0 444 0 refl
    (motifs_refused (one_handed_in bonded) refl (empty_behind bonded refl)
    (motifs_refused [] refl no_blocks
    (motifs_refused (handed_in bonded long_motif) refl (too_long_lem refl)
    (two_step unbonded unbonded refl refl refl refl refl refl
    (alter_step 0 380 3 refl
    (two_step unbonded unbonded refl refl refl refl refl refl
    (accepted_step (remove 0) refl refl refl refl refl
    (accepted_step (add 0 ggc) refl refl refl refl refl
    (two_step unbonded bonded refl refl refl refl refl refl
    (two_step empty_motif empty_motif refl refl refl refl refl refl
    (one_step bonded refl refl refl refl refl
    (two_refused bonded unbonded refl refl refl
    (record { admits = refl; comes = refl })))))))))))))))))

pub batches : ByModel batch_story
unfolding batch_story admitted
batches = (story.admits, story.comes)

-- An alteration, a refused batch, an alteration of the same block, then an accepted query.
pub refused_between_lem : admitted embeds 1 1 refused_batch_between ≡ false
unfolding refused_batch_between admitted admitted_from at_most_once embeds longest largest prefix_ok closed_to places_ok letters_match choose every some
    lowest_from lowest select some_list tab total same_list same_strand key first refuse_if refuse_at_lowest strand_verdict is_letter not_letter mate_outside
    not_mutual crosses crossed_at molecule_verdict motif_verdict work_verdict slot_of refused_by by_verdict ends_period start put_at is_held held_in known_in
    in_range model_verdict embeds_at hit_list searches search_list asked model_answer model_next model_result model_after slot_block model_alter empty_block
    encode_entry entry_with with_checksum content_of bytes_of map_bytes bit_sum
refused_between_lem = rw (empty_behind bonded refl)

-- Two alterations, then a batch: its rules accept it, so it ends the period, and the list is not admitted.
pub altered_twice_lem : admitted embeds 1 1 altered_for_batch ≡ false
unfolding altered_for_batch admitted admitted_from at_most_once embeds longest largest prefix_ok closed_to places_ok letters_match choose every some
    lowest_from lowest select some_list tab total same_list same_strand key first refuse_if refuse_at_lowest strand_verdict is_letter not_letter mate_outside
    not_mutual crosses crossed_at molecule_verdict motif_verdict work_verdict longest_to slot_of refused_by by_verdict ends_period start put_at is_held
    held_in known_in in_range model_verdict embeds_at hit_list searches search_list asked asked_to model_answer model_next model_result model_after slot_block
    model_alter empty_block encode_entry entry_with with_checksum content_of bytes_of map_bytes bit_sum
altered_twice_lem =
    rw (handed_pass bonded unbonded refl refl, handed_two bonded unbonded refl refl, handed_0 bonded unbonded refl refl, handed_1 bonded unbonded refl refl)
