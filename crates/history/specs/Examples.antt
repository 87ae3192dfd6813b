-- Example histories: 01's story, a number used again, one with two slots, one with alterations and refused calls between, one of the motif with no bases,
-- two with spellings, one with batches, and some that are not admitted.
use Rattle.std.specs.Prelude.{ℕ, ◌≡◌, List, [], ◌∷◌, ◌++◌, true, false, replicate}
use Rattle.lists.specs.Vocabulary.{tab}
use Rattle.strand.specs.Strands.{Strand, strand_of, empty_motif}
use Rattle.refusals.specs.Rules.{motif_side, no_side, too_long, bad_letter, wrong_slice, number_too_large, already_held, not_held, bad_motifs}
use Rattle.embedding.specs.Longest.{embeds}
use Rattle.block.specs.Content.{empty_block}
use Rattle.block.specs.Motif.{encode_motif}
use Rattle.calls.specs.Calls.{Found, Result, refused, done, found, found_all}
use Rattle.history.specs.Model.{Call, add, remove, query, batch, Event, call, alter, Line, start, model_log}
use Rattle.history.specs.History.{zeroed, Ran, admitted}

-- B, S, a list of events, and what its calls come to.
pub record Story : Type 0 where
  pub blocks : ℕ
  pub slots : ℕ
  pub events : List Event
  pub results : List Result

-- The results of a log.
unfoldable pub results_of : List Line → List Result
results_of [] = []
results_of (line ∷ log) = line.result ∷ results_of log

-- The list is admitted, and the reference model comes to these results.
abbrev pub ByModel : Story → Type 0
ByModel t =
    (admitted embeds t.blocks t.slots t.events ≡ true)
    × (results_of (model_log embeds t.blocks t.slots start t.events) ≡ t.results)

-- Every run of the calls from zeroed buffers comes to these results.
abbrev pub ByRuns : Story → Type 0
ByRuns t = (log : List Line) → Ran embeds (zeroed t.blocks t.slots) t.events log → results_of log ≡ t.results

-- G 71, A 65, C 67, T 84, U 85
abbrev pub gac : Strand
gac = strand_of (71 ∷ 65 ∷ 67 ∷ []) (2 ∷ 1 ∷ 0 ∷ [])

abbrev pub ggc : Strand
ggc = strand_of (71 ∷ 71 ∷ 67 ∷ []) (2 ∷ 1 ∷ 0 ∷ [])

-- GC with an arc, and without: both have key 139.
abbrev pub bonded : Strand
bonded = strand_of (71 ∷ 67 ∷ []) (1 ∷ 0 ∷ [])

abbrev pub unbonded : Strand
unbonded = strand_of (71 ∷ 67 ∷ []) (0 ∷ 1 ∷ [])

-- A query with room enough for a motif of two bases and two hits: 1472 entries of work.
abbrev pub ask : Strand → Call
ask p = query p 1472 (9 ∷ 9 ∷ [])

-- 01: with B = 2, S = 1.
unfoldable pub settled_story : Story
settled_story =
    record {
      blocks = 2;
      slots = 1;
      events =
          call (add 0 gac)
          ∷ call (add 1 ggc)
          ∷ call (ask bonded)
          ∷ call (ask bonded)
          ∷ call (ask unbonded)
          ∷ call (ask bonded)
          ∷ call (remove 0)
          ∷ call (ask bonded)
          ∷ [];
      results =
          done
          ∷ done
          ∷ found 2 (0 ∷ 1 ∷ []) 2
          ∷ found 2 (0 ∷ 1 ∷ []) 0
          ∷ found 1 (1 ∷ []) 2
          ∷ found 2 (0 ∷ 1 ∷ []) 2
          ∷ done
          ∷ found 1 (1 ∷ []) 0
          ∷ [];
    }

-- A number is removed and used again: no bit is left behind.
unfoldable pub reused_story : Story
reused_story =
    record {
      blocks = 1;
      slots = 2;
      events = call (add 0 gac) ∷ call (ask unbonded) ∷ call (remove 0) ∷ call (add 0 ggc) ∷ call (ask unbonded) ∷ [];
      results = done ∷ found 0 [] 1 ∷ done ∷ done ∷ found 1 (0 ∷ []) 1 ∷ [];
    }

-- With B = 2, S = 2: GC with an arc and GC without share slot 1 (key 139), GAC with an arc has slot 0 to itself (key 206; three bases ask
-- for 1536 entries of work). GC without takes the slot of GC with, and leaves that of GAC. A removed number is forgotten in both slots.
unfoldable pub shared_slot_story : Story
shared_slot_story =
    record {
      blocks = 2;
      slots = 2;
      events =
          call (add 0 gac)
          ∷ call (add 1 ggc)
          ∷ call (ask bonded)
          ∷ call (query gac 1536 (9 ∷ 9 ∷ []))
          ∷ call (ask unbonded)
          ∷ call (query gac 1536 (9 ∷ 9 ∷ []))
          ∷ call (ask bonded)
          ∷ call (remove 0)
          ∷ call (add 0 ggc)
          ∷ call (query gac 1536 (9 ∷ 9 ∷ []))
          ∷ call (ask bonded)
          ∷ [];
      results =
          done
          ∷ done
          ∷ found 2 (0 ∷ 1 ∷ []) 2
          ∷ found 1 (0 ∷ []) 2
          ∷ found 1 (1 ∷ []) 2
          ∷ found 1 (0 ∷ []) 0
          ∷ found 2 (0 ∷ 1 ∷ []) 2
          ∷ done
          ∷ done
          ∷ found 0 [] 1
          ∷ found 2 (0 ∷ 1 ∷ []) 1
          ∷ [];
    }

-- Alterations of an empty block, of one byte that keeps its value (byte 380 has searched bit 0), of the hit bit in byte 444; refused calls
-- between, which end no period; after the last accepted call a block is altered twice.
unfoldable pub altered_story : Story
altered_story =
    record {
      blocks = 2;
      slots = 1;
      events =
          alter 0 0 2
          ∷ call (remove 1)
          ∷ call (add 0 gac)
          ∷ call (ask bonded)
          ∷ alter 0 380 1
          ∷ call (ask bonded)
          ∷ alter 0 444 0
          ∷ call (ask (strand_of (88 ∷ []) (0 ∷ [])))
          ∷ call (ask bonded)
          ∷ alter 0 1 7
          ∷ call (add 0 ggc)
          ∷ alter 0 1 2
          ∷ call (remove 2)
          ∷ [];
      results =
          refused not_held no_side 0
          ∷ done
          ∷ found 1 (0 ∷ []) 1
          ∷ found 1 (0 ∷ []) 0
          ∷ refused bad_letter motif_side 0
          ∷ found 1 (0 ∷ []) 1
          ∷ refused already_held no_side 0
          ∷ refused number_too_large no_side 0
          ∷ [];
    }

-- A query of the motif with no bases, with just the work that it asks for: 64 + 8 × 160.
abbrev pub ask_empty_motif : Call
ask_empty_motif = query empty_motif 1344 (9 ∷ 9 ∷ [])

-- 02, (iii), with B = 2, S = 2: every held molecule is a hit of the motif with no bases, whose slot is 0 (key 0). The first query searches all, though the
-- slot's empty block has length 0 and was altered to byte 0 = 2, as an entry has it; the next searches none. GC with an arc leaves slot 0 alone. Byte 0 of the
-- entry altered, all are searched again; byte 1, which is 0, set to 0, none. A removed number is no hit any more. GAC, whose key is even too, takes the slot.
unfoldable pub empty_motif_story : Story
empty_motif_story =
    record {
      blocks = 2;
      slots = 2;
      events =
          call (add 0 gac)
          ∷ call (add 1 ggc)
          ∷ alter 0 0 2
          ∷ call ask_empty_motif
          ∷ call ask_empty_motif
          ∷ call (ask bonded)
          ∷ call ask_empty_motif
          ∷ alter 0 0 0
          ∷ call ask_empty_motif
          ∷ alter 0 1 0
          ∷ call ask_empty_motif
          ∷ call (remove 0)
          ∷ call ask_empty_motif
          ∷ call (query gac 1536 (9 ∷ 9 ∷ []))
          ∷ call ask_empty_motif
          ∷ [];
      results =
          done
          ∷ done
          ∷ found 2 (0 ∷ 1 ∷ []) 2
          ∷ found 2 (0 ∷ 1 ∷ []) 0
          ∷ found 2 (0 ∷ 1 ∷ []) 2
          ∷ found 2 (0 ∷ 1 ∷ []) 0
          ∷ found 2 (0 ∷ 1 ∷ []) 2
          ∷ found 2 (0 ∷ 1 ∷ []) 0
          ∷ done
          ∷ found 1 (1 ∷ []) 0
          ∷ found 0 [] 1
          ∷ found 1 (1 ∷ []) 1
          ∷ [];
    }

-- Motifs handed in, a block each: two of them; one, with an empty block behind it.
unfoldable pub handed_in : Strand → Strand → List ℕ
handed_in p q = encode_motif p ++ encode_motif q

unfoldable pub one_handed_in : Strand → List ℕ
one_handed_in p = encode_motif p ++ empty_block

-- A batch with any buffer of motifs, and with one of two motifs: work enough for motifs of at most two bases, four entries for the hits, two for each of two
-- motifs where B is 2.
abbrev pub ask_with : List ℕ → Call
ask_with motifs = batch motifs 1472 (9 ∷ 9 ∷ 9 ∷ 9 ∷ [])

abbrev pub ask_both : Strand → Strand → Call
ask_both p q = ask_with (handed_in p q)

-- What a query of a batch came to.
abbrev pub found_of : ℕ → List ℕ → ℕ → Found
found_of count hits searched = record { count = count; hits = hits; searched = searched }

-- 121 unpaired bases A: more than a query takes, though a block has places for them.
unfoldable pub long_motif : Strand
long_motif = strand_of (replicate 121 65) (tab 121 (λ i. i))

-- 02, (v), with B = 2, S = 1: all motifs share the slot. GC with an arc, then without: the later takes the slot, both search all, and two are read, not four.
-- The motif that has the slot, asked twice, searches nothing. A hit bit (byte 444) is cleared; batches that are refused, for an empty block, for no block and
-- for a motif that is too long, end no period; then the first of the two searches all, the second nothing. The byte of the searched bits set as it is, nothing
-- is searched. A number used again is what the first motif, which has the slot, searches; the other takes the slot and searches all. The motif with no bases
-- lists all that is held. A batch of one motif is a query. The last batch is refused, as it has three entries for the hits and needs four.
unfoldable pub batch_story : Story
batch_story =
    record {
      blocks = 2;
      slots = 1;
      events =
          call (add 0 gac)
          ∷ call (add 1 ggc)
          ∷ call (ask_both bonded unbonded)
          ∷ call (ask_both unbonded unbonded)
          ∷ alter 0 444 0
          ∷ call (ask_with (one_handed_in bonded))
          ∷ call (ask_with [])
          ∷ call (ask_with (handed_in bonded long_motif))
          ∷ call (ask_both unbonded unbonded)
          ∷ alter 0 380 3
          ∷ call (ask_both unbonded unbonded)
          ∷ call (remove 0)
          ∷ call (add 0 ggc)
          ∷ call (ask_both unbonded bonded)
          ∷ call (ask_both empty_motif empty_motif)
          ∷ call (ask_with (encode_motif bonded))
          ∷ call (batch (handed_in bonded unbonded) 1472 (9 ∷ 9 ∷ 9 ∷ []))
          ∷ [];
      results =
          done
          ∷ done
          ∷ found_all (found_of 2 (0 ∷ 1 ∷ []) 2 ∷ found_of 1 (1 ∷ []) 2 ∷ []) 2
          ∷ found_all (found_of 1 (1 ∷ []) 0 ∷ found_of 1 (1 ∷ []) 0 ∷ []) 0
          ∷ refused bad_motifs motif_side 1
          ∷ refused bad_motifs motif_side 0
          ∷ refused too_long motif_side 1
          ∷ found_all (found_of 1 (1 ∷ []) 2 ∷ found_of 1 (1 ∷ []) 0 ∷ []) 2
          ∷ found_all (found_of 1 (1 ∷ []) 0 ∷ found_of 1 (1 ∷ []) 0 ∷ []) 0
          ∷ done
          ∷ done
          ∷ found_all (found_of 2 (0 ∷ 1 ∷ []) 1 ∷ found_of 2 (0 ∷ 1 ∷ []) 2 ∷ []) 2
          ∷ found_all (found_of 2 (0 ∷ 1 ∷ []) 2 ∷ found_of 2 (0 ∷ 1 ∷ []) 0 ∷ []) 2
          ∷ found_all (found_of 2 (0 ∷ 1 ∷ []) 2 ∷ []) 2
          ∷ refused wrong_slice no_side 0
          ∷ [];
    }

-- 02, (vi), with B = 2, S = 2: GAU and GAT with an arc are held as delivered, and GU and GT with an arc have the hits of one another. Their keys, 157 and 156,
-- lead to slots 1 and 0, and each motif searches once.
abbrev gau : Strand
gau = strand_of (71 ∷ 65 ∷ 85 ∷ []) (2 ∷ 1 ∷ 0 ∷ [])

abbrev gat : Strand
gat = strand_of (71 ∷ 65 ∷ 84 ∷ []) (2 ∷ 1 ∷ 0 ∷ [])

abbrev gu : Strand
gu = strand_of (71 ∷ 85 ∷ []) (1 ∷ 0 ∷ [])

abbrev gt : Strand
gt = strand_of (71 ∷ 84 ∷ []) (1 ∷ 0 ∷ [])

unfoldable pub spellings_story : Story
spellings_story =
    record {
      blocks = 2;
      slots = 2;
      events =
          call (add 0 gau)
          ∷ call (add 1 gat)
          ∷ call (ask gu)
          ∷ call (ask gt)
          ∷ call (ask gu)
          ∷ call (ask gt)
          ∷ call (remove 0)
          ∷ call (ask gt)
          ∷ [];
      results =
          done
          ∷ done
          ∷ found 2 (0 ∷ 1 ∷ []) 2
          ∷ found 2 (0 ∷ 1 ∷ []) 2
          ∷ found 2 (0 ∷ 1 ∷ []) 0
          ∷ found 2 (0 ∷ 1 ∷ []) 0
          ∷ done
          ∷ found 1 (1 ∷ []) 0
          ∷ [];
    }

-- "the shelf still compares motifs byte by byte": with S = 1 the two spellings take the one slot from each other, and an entry of the other spelling is not
-- trusted; nor is it where the keys are equal too, as those of TU and UT.
abbrev pair_of : ℕ → ℕ → Strand
pair_of x y = strand_of (x ∷ y ∷ []) (1 ∷ 0 ∷ [])

unfoldable pub one_slot_spellings : Story
one_slot_spellings =
    record {
      blocks = 2;
      slots = 1;
      events =
          call (add 0 gau)
          ∷ call (add 1 gat)
          ∷ call (ask gu)
          ∷ call (ask gt)
          ∷ call (ask gt)
          ∷ call (ask gu)
          ∷ call (remove 0)
          ∷ call (ask gu)
          ∷ call (ask (pair_of 84 85))
          ∷ call (ask (pair_of 85 84))
          ∷ [];
      results =
          done
          ∷ done
          ∷ found 2 (0 ∷ 1 ∷ []) 2
          ∷ found 2 (0 ∷ 1 ∷ []) 2
          ∷ found 2 (0 ∷ 1 ∷ []) 0
          ∷ found 2 (0 ∷ 1 ∷ []) 2
          ∷ done
          ∷ found 1 (1 ∷ []) 0
          ∷ found 0 [] 1
          ∷ found 0 [] 1
          ∷ [];
    }

-- All of them.
unfoldable pub stories : List Story
stories = settled_story ∷ reused_story ∷ shared_slot_story ∷ altered_story ∷ empty_motif_story ∷ spellings_story ∷ one_slot_spellings ∷ batch_story ∷ []

-- Every story of a list: by the model, and by every run.
unfoldable pub AllByModel : List Story → Type 0
AllByModel [] = Unit
AllByModel (t ∷ ts) = ByModel t × AllByModel ts

unfoldable pub AllByRuns : List Story → Type 0
AllByRuns [] = Unit
AllByRuns (t ∷ ts) = ByRuns t × AllByRuns ts

-- With B = 1, S = 1: hit bit 0, in byte 444, is set, as it is.
unfoldable pub altered_once : Story
altered_once =
    record {
      blocks = 1;
      slots = 1;
      events = call (add 0 gac) ∷ call (ask bonded) ∷ alter 0 444 1 ∷ call (ask bonded) ∷ [];
      results = done ∷ found 1 (0 ∷ []) 1 ∷ found 1 (0 ∷ []) 0 ∷ [];
    }

-- It is cleared and set again before the next accepted call.
unfoldable pub altered_twice : List Event
altered_twice = call (add 0 gac) ∷ call (ask bonded) ∷ alter 0 444 0 ∷ alter 0 444 1 ∷ call (ask bonded) ∷ []

-- A refused call between the two alterations.
unfoldable pub refused_between : List Event
refused_between = call (add 0 gac) ∷ call (ask bonded) ∷ alter 0 444 0 ∷ call (remove 1) ∷ alter 0 444 1 ∷ call (ask bonded) ∷ []

-- A refused batch between them: its second block is empty.
unfoldable pub refused_batch_between : List Event
refused_batch_between =
    call (add 0 gac) ∷ call (ask bonded) ∷ alter 0 444 0 ∷ call (ask_with (one_handed_in bonded)) ∷ alter 0 444 1 ∷ call (ask bonded) ∷ []

-- A batch of two motifs after the two alterations.
unfoldable pub altered_for_batch : List Event
altered_for_batch = call (add 0 gac) ∷ call (ask bonded) ∷ alter 0 444 0 ∷ alter 0 444 1 ∷ call (ask_both bonded unbonded) ∷ []

-- 01: "at most one alteration in each block .. between one accepted call and the next".
pub record AlterationsLimited : Type 0 where
  pub one : ByModel altered_once
  pub two : admitted embeds 1 1 altered_twice ≡ false
  -- a refused call ends no period, nor does a refused batch
  pub refusal_between : admitted embeds 1 1 refused_between ≡ false
  pub refused_batch_lem : admitted embeds 1 1 refused_batch_between ≡ false
  -- an accepted batch ends a period, as any accepted call: two alterations of a block before it are too many
  pub before_batch : admitted embeds 1 1 altered_for_batch ≡ false
  -- the limit is needed: the block is sound again, and a run searches nothing, while the model's slot became nothing
  pub run_knows : (log : List Line) → Ran embeds (zeroed 1 1) altered_twice log → results_of log ≡ altered_once.results
  pub model_searches : results_of (model_log embeds 1 1 start altered_twice) ≡ done ∷ found 1 (0 ∷ []) 1 ∷ found 1 (0 ∷ []) 1 ∷ []
