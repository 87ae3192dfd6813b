-- The claims of specs/Statements hold.
use Rattle.std.specs.Prelude.{Ok, Err}
use Prim.Native.Nat.{ℕ, ◌*◌, ◌<◌}
use native.Mathlib.Omega.{arith}
use native.Mathlib.Nat.{mod-lt}
use mathlib.Core.Path.{◌≡◌, ap, ◌∙◌}
use mathlib.Core.Bool.{Bool, true, false, ◌&&◌}
use mathlib.Core.List.{List}
use lib.ListN.{length, replicate, length-replicate}
use lib.Seq.{take_all}
use Rattle.lists.specs.Vocabulary.{select}
use Rattle.lists.proofs.ListLaws.{and_true}
use Rattle.lists.proofs.Ranges.{select_ext}
use Rattle.strand.specs.Strands.{Strand, key}
use Rattle.refusals.specs.declared.Refusal.{Refusal}
use Rattle.refusals.specs.Rules.{number_of, number_of_side}
use Rattle.block.specs.Motif.{holds_motif, motif_handed_in}
use Rattle.block.specs.Block.{block_of, block_count, cleaned}
use Rattle.block.specs.Content.{block_size, empty_block, keeps_motif}
use Rattle.embedding.specs.Longest.{embeds}
use Rattle.calls.specs.Buffers.{held, molecule_at, slot_of, clean_cache}
use Rattle.calls.specs.Calls.{is_hit, to_search, query_verdict, query_outcome}
use Rattle.calls.specs.Calls.{slot_in, entry_for}
use Rattle.calls.proofs.BlockUse as leaf
use Rattle.calls.proofs.ReadingLaws as read
use Rattle.calls.proofs.Claims as calls
use Rattle.screening.specs.Text.{hits_text, refused_text}
use Rattle.screening.specs.Screen.{most_screened, is_input, first_block, catalog_in, screen_work, answer_text, effect_text, is_asked}
use Rattle.screening.specs.Screen.{screen_query, screen_output}
use Rattle.screening.specs.Statements.{Prints, Claims}
use Rattle.screening.proofs.TextLaws.{digits_value}
use Rattle.screening.proofs.ScreenLaws.{output_bad_length, output_bad_motif, output_answer}
use Rattle.screening.proofs.OutputLaws.{output_short}

-- A zeroed cache of one block keeps no motif.
first_block_lem : (b : List ℕ) → length b ≡ block_size → block_of 0 b ≡ b
first_block_lem b l = take_all block_size b (omega (arith, l))

module _ (p : Strand) where
  one_block : length empty_block ≡ block_size * 1
  one_block = omega (arith, leaf.empty_length)

  slot_first : slot_in empty_block p ≡ 0
  unfolding slot_of
  slot_first =
      let one : 0 < block_count empty_block = omega (arith, read.count_is empty_block 1 one_block) in
      omega (arith, mod-lt (key p) one, read.count_is empty_block 1 one_block)

  entry_empty : entry_for empty_block p ≡ empty_block
  entry_empty =
      ap (λ (s : ℕ). block_of s (clean_cache empty_block)) slot_first
      ∙ read.clean_block empty_block 1 one_block 0 (omega arith)
      ∙ ap cleaned (first_block_lem empty_block leaf.empty_length)
      ∙ leaf.sound_clean empty_block leaf.empty_entry

  keeps_none : keeps_motif (entry_for empty_block p) p ≡ false
  unfolding keeps_motif
  keeps_none = rw (entry_empty, leaf.empty_empty)

-- The text of an answer from a cache that does not keep the motif.
module _ (catalog cache : List ℕ) (p : Strand) (work : ℕ) (hits : List ℕ) where
  abbrev found : ℕ → Bool
  found d = held catalog d && embeds p (molecule_at catalog d)

  found_text : query_verdict catalog cache p work (length hits) ≡ Ok tt → keeps_motif (entry_for cache p) p ≡ false
      → effect_text (query_outcome embeds catalog cache p work hits)
      ≡ hits_text (length (select (block_count catalog) found)) (length (select (block_count catalog) (held catalog))) (select (block_count catalog) found)
  unfolding answer_text
  found_text e k =
      let new = (calls.claims embeds).query_accepted_lem catalog cache p work hits e in
      let other = (calls.claims embeds).other_motif catalog (entry_for cache p) p k in
      let a : select (block_count catalog) (is_hit embeds catalog (entry_for cache p) p) ≡ select (block_count catalog) found =
      select_ext (block_count catalog) _ _ (λ d l. (other d).0) in
      let b : select (block_count catalog) (to_search catalog (entry_for cache p) p) ≡ select (block_count catalog) (held catalog) =
      select_ext (block_count catalog) _ _ (λ d l. (other d).1) in
      rw (new.answer, new.listed, a, b)

  refused_text_lem : (r : Refusal) → query_verdict catalog cache p work (length hits) ≡ Err r
      → effect_text (query_outcome embeds catalog cache p work hits) ≡ refused_text (number_of r.rule) (number_of_side r.side) r.place
  unfolding answer_text
  refused_text_lem r e = rw (calls.query_refused embeds catalog cache p work hits r e)

module _ (input : List ℕ) where
  asked_text : is_asked input ≡ true
      → screen_output embeds input
      ≡ effect_text (query_outcome embeds (catalog_in input) empty_block (motif_handed_in (first_block input)) screen_work (replicate most_screened 0))
  unfolding is_asked screen_query
  asked_text e = let a = and_true (is_input input) (holds_motif (first_block input)) e in output_answer embeds input a.0 a.1

  -- the slice for the hits has most_screened entries
  room : length (replicate {A = ℕ} most_screened 0) ≡ most_screened
  room = length-replicate {A = ℕ} most_screened 0

  prints : Prints input
  prints =
      record {
        bad_length = output_bad_length embeds input;
        bad_motif = output_bad_motif embeds input;
        refused = λ e r v.
            asked_text e
            ∙ refused_text_lem (catalog_in input) empty_block (motif_handed_in (first_block input)) screen_work (replicate most_screened 0) r (rw room v);
        answered = λ e v.
            asked_text e
            ∙ found_text (catalog_in input) empty_block (motif_handed_in (first_block input)) screen_work (replicate most_screened 0) (rw room v)
            (keeps_none (motif_handed_in (first_block input)));
      }

pub claims : Claims
claims = record { digits_say = digits_value; output_says = output_short embeds; prints = prints }
