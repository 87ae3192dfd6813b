-- All of 01's examples, in its order: the numbers of the table of refusals and its small examples, row 8's with 136 entries, the printed example of the
-- screen program, the nine rows of the table of settled examples, the check 1888, three blocks byte by byte, the keys 139, the story with
-- B = 2 and S = 1, the last of the plausible and false ways, a number used again (the others are in rows 6, 3, 7 and in the story), and a
-- story with S = 2. Behind them rows for 02, (i) to (iii), (v) and (vi). Each is a row of `table`; that they all hold is `TableHolds`, and `holds`, in
-- proofs/Holds, proves it by the definitions that the contracts of the calls cite.
use Rattle.std.specs.Prelude.{ℕ, ◌≡◌, Bool, true, ◌||◌, List, [], ◌∷◌, ◌++◌, eqb, length, replicate, set, Ok, Err}
use Rattle.refusals.specs.declared.Refusal.{Refusal}
use Rattle.refusals.specs.declared.Rule.{Rule}
use Rattle.refusals.specs.declared.Side.{Side}
use Rattle.strand.specs.declared.Fold.{Fold}
use Rattle.strand.specs.Folds.{fold_of}
use Rattle.strand.specs.Strands.{Strand, strand_of, empty_motif, key, check_answer}
use Rattle.refusals.specs.Rules.{unequal_lengths, no_bases, too_long, bad_letter, bad_mate, mates_not_mutual, arcs_cross, work_too_short, wrong_slice}
use Rattle.refusals.specs.Rules.{not_whole_blocks, unsound_block, number_too_large, already_held, not_held, bad_motifs}
use Rattle.refusals.specs.Rules.{motif_side, molecule_side, no_side, number_of, number_of_side, refusal, work_size}
use Rattle.embedding.specs.Longest.{VerifyAnswer, says_yes, says_no, verify_answer, embeds}
use Rattle.embedding.specs.Examples.{Example, example_ok, examples}
use Rattle.matcher.specs.Answers.{Matched, matched_prefix, length_answer, show_answer}
use Rattle.window.specs.Answers.{Windowed, window_at, window_nowhere, window_answer}
use Rattle.octets.specs.Octets.{word32}
use Rattle.block.specs.Content.{block_size, checksum_at, rechecked, empty_block, encode_molecule, encode_entry}
use Rattle.block.specs.Motif.{encode_motif}
use Rattle.block.specs.Block.{put_block}
use Rattle.calls.specs.Buffers.{motif_verdict}
use Rattle.calls.specs.Calls.{Result, refused, done, found, found_all}
use Rattle.history.specs.Model.{Call, add, remove, query, batch, Event, call, Line, gave}
use Rattle.history.specs.History.{Buffers, zeroed, Ran}
use Rattle.history.specs.Examples.{Story, ByModel, ByRuns, gac, ggc, bonded, unbonded, ask, settled_story, reused_story, shared_slot_story, empty_motif_story}
use Rattle.history.specs.Examples.{spellings_story, one_slot_spellings}
use Rattle.history.specs.Examples.{long_motif as long, handed_in, one_handed_in, found_of, batch_story}
use Rattle.screening.specs.Screen.{screen_output}

-- The kinds of example, each with what it should come to.
pub data Row : Type 0 where
  -- the number of a rule in the table of refusals, and of a side
  rule_row : Rule → (number : ℕ) → Row
  side_row : Side → (number : ℕ) → Row
  -- a strand that is refused, with the rule and the place
  refused_strand : Strand → Rule → (place : ℕ) → Row
  -- the same of a strand that is refused as a molecule alone
  refused_molecule : Strand → Rule → (place : ℕ) → Row
  -- the calls length, show and verify on P and Q; `work` and `places` are lengths of slices
  length_call : (p q : Strand) (work : ℕ) → Matched → Row
  show_call : (p q : Strand) (places work : ℕ) → Matched → Row
  verify_call : (p q : Strand) (places : List ℕ) → VerifyAnswer → Row
  -- the call window on P and Q, with a work slice of so many entries
  window_call : (p q : Strand) (work : ℕ) → Windowed → Row
  -- add, remove, query or batch on given bytes
  buffer_call : Buffers → Call → Result → Row
  -- calls from zeroed buffers
  story : Story → Row
  -- what the screen program prints for the bytes of its input
  screen_text : (input text : List ℕ) → Row
  -- a row of the table of settled examples
  settled_row : Example → Row
  -- the checksum (01: check) in the block of a molecule
  checksum_row : Strand → ℕ → Row
  -- a block, and all its bytes
  block_bytes : (block bytes : List ℕ) → Row
  -- the key of a motif
  key_row : Strand → ℕ → Row
  -- a molecule that check accepts, with the number of its arcs and its depth
  fold_row : Strand → (arcs depth : ℕ) → Row

-- So many arcs, and a depth.
abbrev pub fold : ℕ → ℕ → Fold
fold arcs depth = record { arcs = arcs; depth = depth }

-- Verify says yes to the places that a row of the table of settled examples names, if it names any.
unfoldable pub VerifiedAt : Example → List ℕ → Type 0
VerifiedAt e [] = Unit
VerifiedAt e (v ∷ places) = verify_answer e.pb e.pm e.qb e.qm (v ∷ places) ≡ says_yes (fold_of e.qm)

-- The row says what the definitions say.
unfoldable pub Holds : Row → Type 0
Holds (rule_row rule number) = number_of rule ≡ number
Holds (side_row side number) = number_of_side side ≡ number
-- as the molecule of check, and as the motif of a query
Holds (refused_strand q rule place) =
    (check_answer q.bases q.mates ≡ Err (record { rule = rule; side = molecule_side; place = place }))
    × (motif_verdict q ≡ refusal rule motif_side place)
-- as the molecule of check; as the motif of a query it passes
Holds (refused_molecule q rule place) =
    (check_answer q.bases q.mates ≡ Err (record { rule = rule; side = molecule_side; place = place })) × (motif_verdict q ≡ Ok tt)
Holds (length_call p q work answer) = length_answer p.bases p.mates q.bases q.mates work ≡ answer
Holds (show_call p q places work answer) = show_answer p.bases p.mates q.bases q.mates places work ≡ answer
Holds (verify_call p q places answer) = verify_answer p.bases p.mates q.bases q.mates places ≡ answer
Holds (window_call p q work answer) = window_answer p.bases p.mates q.bases q.mates work ≡ answer
-- of every run of the call on these buffers
Holds (buffer_call buffers c result) = (log : List Line) → Ran embeds buffers (call c ∷ []) log → log ≡ gave c result ∷ []
-- by the model, and by every run
Holds (story t) = ByModel t × ByRuns t
Holds (screen_text input text) = screen_output embeds input ≡ text
-- by longest and verified, and by the calls length and show, with the least slices, and verify
Holds (settled_row e) =
    (example_ok e ≡ true)
    × (length_answer e.pb e.pm e.qb e.qm (work_size (length e.pb) (length e.qb)) ≡ matched_prefix e.best (fold_of e.qm))
    × (show_answer e.pb e.pm e.qb e.qm (length e.pb) (work_size (length e.pb) (length e.qb)) ≡ matched_prefix e.best (fold_of e.qm))
    × VerifiedAt e e.places
Holds (checksum_row q n) = word32 (encode_molecule q) checksum_at ≡ n
Holds (block_bytes block bytes) = block ≡ bytes
Holds (key_row p n) = key p ≡ n
Holds (fold_row q arcs depth) = check_answer q.bases q.mates ≡ Ok (fold arcs depth)

-- Every row of a list.
unfoldable pub AllHold : List Row → Type 0
AllHold [] = Unit
AllHold (r ∷ rs) = Holds r × AllHold rs

-- Refusal 8 or 9 of a direct call: side 2, place 0.
abbrev pub direct_refusal : Rule → Refusal
direct_refusal rule = record { rule = rule; side = no_side; place = 0 }

abbrev pub not_matched : Rule → Matched
not_matched rule = Err (direct_refusal rule)

-- A 65, C 67, G 71, T 84, U 85, X 88, small t 116
abbrev pub a : Strand
a = strand_of (65 ∷ []) (0 ∷ [])

-- Calls from zeroed buffers with B = 2, S = 1, and what they come to.
abbrev tale : List Event → List Result → Story
tale events results = record { blocks = 2; slots = 1; events = events; results = results }

unfoldable pub long_motif : Story
long_motif = tale (call (query long 9088 (0 ∷ 0 ∷ [])) ∷ []) (refused too_long motif_side 0 ∷ [])

unfoldable pub few_hits : Story
few_hits = tale (call (query bonded 1472 (0 ∷ [])) ∷ []) (refused wrong_slice no_side 0 ∷ [])

unfoldable pub number_two : Story
number_two = tale (call (add 2 a) ∷ call (remove 2) ∷ []) (refused number_too_large no_side 0 ∷ refused number_too_large no_side 0 ∷ [])

unfoldable pub added_twice : Story
added_twice = tale (call (add 0 a) ∷ call (add 0 a) ∷ []) (done ∷ refused already_held no_side 0 ∷ [])

unfoldable pub empty_added : Story
empty_added = tale (call (add 0 (strand_of [] [])) ∷ []) (refused no_bases molecule_side 0 ∷ [])

unfoldable pub removed_empty : Story
removed_empty = tale (call (remove 0) ∷ []) (refused not_held no_side 0 ∷ [])

-- One catalog block, and a cache of 513 bytes.
abbrev pub uneven : Buffers
uneven = record { catalog = replicate block_size 0; cache = replicate 513 0 }

-- A block with byte 0 = 9, under the numbers 1 and 2 of three. Its checksum is the right one: nothing but its kind is wrong.
abbrev pub nine : List ℕ
nine = rechecked (set (encode_molecule a) 0 9)

abbrev pub unsound : Buffers
unsound = record { catalog = put_block 1 nine (put_block 2 nine (zeroed 3 1).catalog); cache = (zeroed 3 1).cache }

-- 01, The screen program: motif A (mate 0), then a block with A, then an empty block.
abbrev pub screen_input : List ℕ
screen_input = encode_molecule a ++ (encode_molecule a ++ empty_block)

-- "hits 1 searched 1", "0", each with its newline.
abbrev pub screen_prints : List ℕ
screen_prints = 104 ∷ 105 ∷ 116 ∷ 115 ∷ 32 ∷ 49 ∷ 32 ∷ 115 ∷ 101 ∷ 97 ∷ 114 ∷ 99 ∷ 104 ∷ 101 ∷ 100 ∷ 32 ∷ 49 ∷ 10 ∷ 48 ∷ 10 ∷ []

-- Four blocks byte by byte, written from 01's sentences, which the comments quote, and by no definition of the library.
abbrev zeros : ℕ → List ℕ
zeros n = replicate n 0

-- The block of A, 0. Its checksum is 1888 = 96 + 256 × 7.
unfoldable pub bytes_of_a : List ℕ
bytes_of_a =
    -- "byte 0 is 1; byte 1 the length; 2 to 27 zero"
    (1 ∷ 1 ∷ zeros 26)
    -- "bases from 28"
    ++ (65 ∷ zeros 159)
    -- "mates from 188, two bytes each"
    ++ (0 ∷ 0 ∷ zeros 318)
    -- "bytes 508 to 511, little-endian"
    ++ (96 ∷ 7 ∷ 0 ∷ 0 ∷ [])

-- The block of T, 0: the same but for the base and the checksum, 1 + 2 + 29 × 84 = 2439 = 135 + 256 × 9.
unfoldable pub bytes_of_t : List ℕ
bytes_of_t = (1 ∷ 1 ∷ zeros 26) ++ (84 ∷ zeros 159) ++ (0 ∷ 0 ∷ zeros 318) ++ (135 ∷ 9 ∷ 0 ∷ 0 ∷ [])

-- The block of GC, 1 0. Its checksum is 4263 = 167 + 256 × 16.
unfoldable pub bytes_of_gc : List ℕ
bytes_of_gc =
    (1 ∷ 2 ∷ zeros 26)
    ++ (71 ∷ 67 ∷ zeros 158)
    -- "Two-byte numbers are little-endian."
    ++ (1 ∷ 0 ∷ 0 ∷ 0 ∷ zeros 316)
    ++ (167 ∷ 16 ∷ 0 ∷ 0 ∷ [])

-- The cache entry of GC, 1 0, with 0, 9 and 511 searched, and 9 and 511 hits. Its checksum is 127005 = 29 + 256 × 240 + 65536 × 1.
abbrev pub was_searched : ℕ → Bool
was_searched d = eqb d 0 || eqb d 9 || eqb d 511

abbrev pub was_hit : ℕ → Bool
was_hit d = eqb d 9 || eqb d 511

unfoldable pub bytes_of_entry : List ℕ
bytes_of_entry =
    -- "byte 0 is 2; byte 1 the motif's length; 2 to 19 zero"
    (2 ∷ 2 ∷ zeros 18)
    -- "bases from 20"
    ++ (71 ∷ 67 ∷ zeros 118)
    -- "mates from 140"
    ++ (1 ∷ 0 ∷ 0 ∷ 0 ∷ zeros 236)
    -- "searched map 380 to 443"; "Molecule d is bit d mod 8, lowest first, of map byte d div 8."
    ++ (1 ∷ 2 ∷ zeros 61)
    ++ (128 ∷ [])
    -- "hit map 444 to 507"
    ++ (0 ∷ 2 ∷ zeros 61)
    ++ (128 ∷ [])
    ++ (29 ∷ 240 ∷ 1 ∷ 0 ∷ [])

-- 01, Refused inputs: the table's column "No.", with 02's (v): "It refuses with 15"; and "side 0 for a motif and 1 for a molecule; the others have side 2".
unfoldable pub numbers : List Row
numbers =
    rule_row unequal_lengths 1
    ∷ rule_row no_bases 2
    ∷ rule_row too_long 3
    ∷ rule_row bad_letter 4
    ∷ rule_row bad_mate 5
    ∷ rule_row mates_not_mutual 6
    ∷ rule_row arcs_cross 7
    ∷ rule_row work_too_short 8
    ∷ rule_row wrong_slice 9
    ∷ rule_row not_whole_blocks 10
    ∷ rule_row unsound_block 11
    ∷ rule_row number_too_large 12
    ∷ rule_row already_held 13
    ∷ rule_row not_held 14
    ∷ rule_row bad_motifs 15
    ∷ side_row motif_side 0
    ∷ side_row molecule_side 1
    ∷ side_row no_side 2
    ∷ []

-- 01, Refused inputs: the small examples.
unfoldable pub refusals : List Row
refusals =
    -- 1: AC, mates 0
    refused_strand (strand_of (65 ∷ 67 ∷ []) (0 ∷ [])) unequal_lengths 0
    -- 2: both empty; 02, (iii): "Refusal 2 remains for molecules only"
    ∷ refused_molecule (strand_of [] []) no_bases 0
    -- 3: query motif of 121
    ∷ story long_motif
    -- 4: AXC
    ∷ refused_strand (strand_of (65 ∷ 88 ∷ 67 ∷ []) (0 ∷ 1 ∷ 2 ∷ [])) bad_letter 1
    -- 5: A, mate 1
    ∷ refused_strand (strand_of (65 ∷ []) (1 ∷ [])) bad_mate 0
    -- 6: AC, mates 1 1
    ∷ refused_strand (strand_of (65 ∷ 67 ∷ []) (1 ∷ 1 ∷ [])) mates_not_mutual 0
    -- 7: ACGU, mates 2 3 0 1; here 1
    ∷ refused_strand (strand_of (65 ∷ 67 ∷ 71 ∷ 85 ∷ []) (2 ∷ 3 ∷ 0 ∷ 1 ∷ [])) arcs_cross 1
    -- 8: m = 1, n = 1, 135 entries
    ∷ length_call a a 135 (not_matched work_too_short)
    ∷ show_call a a 1 135 (not_matched work_too_short)
    -- 9: m = 2, 1 entry
    ∷ show_call bonded gac 1 216 (not_matched wrong_slice)
    ∷ verify_call bonded gac (0 ∷ []) (Err (direct_refusal wrong_slice))
    ∷ story few_hits
    -- 10: shelf of 513 bytes
    ∷ buffer_call uneven (add 0 a) (refused not_whole_blocks no_side 0)
    ∷ buffer_call uneven (remove 0) (refused not_whole_blocks no_side 0)
    ∷ buffer_call uneven (ask bonded) (refused not_whole_blocks no_side 0)
    -- 11: one with byte 0 = 9, lowest
    ∷ buffer_call unsound (add 0 a) (refused unsound_block no_side 1)
    ∷ buffer_call unsound (remove 0) (refused unsound_block no_side 1)
    ∷ buffer_call unsound (ask bonded) (refused unsound_block no_side 1)
    -- 12: d = 2, B = 2
    ∷ story number_two
    -- 13: add 0 twice
    ∷ story added_twice
    -- 14: remove 0, zeroed
    ∷ story removed_empty
    -- with 136 entries in row 8's example the call goes on
    ∷ length_call a a 136 (matched_prefix 1 (fold 0 0))
    ∷ show_call a a 1 136 (matched_prefix 1 (fold 0 0))
    ∷ []

-- 01, Table of settled examples: its rows, taken over from crate embedding.
unfoldable pub settled_rows : List Example → List Row
settled_rows [] = []
settled_rows (e ∷ es) = settled_row e ∷ settled_rows es

-- 01, below that table.
unfoldable pub also : List Row
also =
    -- the block of A, 0 has check 1888
    checksum_row a 1888
    ∷ block_bytes (encode_molecule a) bytes_of_a
    -- a molecule block and a cache entry
    ∷ block_bytes (encode_molecule bonded) bytes_of_gc
    ∷ block_bytes (encode_entry bonded was_searched was_hit) bytes_of_entry
    -- GC with mates 1 0 and GC with mates 0 1 both have key 139
    ∷ key_row bonded 139
    ∷ key_row unbonded 139
    -- with B = 2, S = 1
    ∷ story settled_story
    -- no bit is left behind when a number is removed and used again
    ∷ story reused_story
    -- with S = 2 two motifs share a slot, and a third has the other
    ∷ story shared_slot_story
    ∷ []

-- GCGC with two arcs side by side.
abbrev pub beside : Strand
beside = strand_of (71 ∷ 67 ∷ 71 ∷ 67 ∷ []) (1 ∷ 0 ∷ 3 ∷ 2 ∷ [])

-- 02, (i), which has no examples of its own: "the number of arcs and the depth", "the largest number of arcs of which each lies inside the one before, and 0
-- without arcs".
unfoldable pub folds : List Row
folds =
    -- GAC, 2 1 0: one arc
    fold_row gac 1 1
    -- GGCC, 3 2 1 0: an arc inside another
    ∷ fold_row (strand_of (71 ∷ 71 ∷ 67 ∷ 67 ∷ []) (3 ∷ 2 ∷ 1 ∷ 0 ∷ [])) 2 2
    -- GCGC, 1 0 3 2: two arcs side by side
    ∷ fold_row beside 2 1
    -- GAC, 0 1 2: no arc
    ∷ fold_row (strand_of (71 ∷ 65 ∷ 67 ∷ []) (0 ∷ 1 ∷ 2 ∷ [])) 0 0
    -- "the direct calls hand on those of Q", with yes and with no: P has one arc
    ∷ length_call bonded beside 224 (matched_prefix 2 (fold 2 1))
    ∷ show_call bonded beside 2 224 (matched_prefix 2 (fold 2 1))
    ∷ verify_call bonded beside (2 ∷ 3 ∷ []) (says_yes (fold 2 1))
    ∷ verify_call bonded beside (1 ∷ 2 ∷ []) (says_no (fold 2 1))
    ∷ []

-- 02, (ii), which has no examples of its own: "the start and length of a window of Q that carries an embedding of P", and none.
unfoldable pub windows : List Row
windows =
    -- GC, 1 0, in GAC, 2 1 0: the whole arc
    window_call bonded gac 216 (window_at 0 3 (fold 1 1))
    -- GC, 0 1, in GGC, 2 1 0: "A window has the arcs with both ends in it", and in this one C is unbonded
    ∷ window_call unbonded ggc 216 (window_at 1 2 (fold 1 1))
    -- GC, 0 1, in GCC, 2 1 0: the window ends inside the arc of Q, and G is unbonded in it
    ∷ window_call unbonded (strand_of (71 ∷ 67 ∷ 67 ∷ []) (2 ∷ 1 ∷ 0 ∷ [])) 216 (window_at 0 2 (fold 1 1))
    -- GC, 1 0, in GGC, 2 1 0: the shorter window from 1 has the letters and not the arc
    ∷ window_call bonded ggc 216 (window_at 0 3 (fold 1 1))
    -- A, 0, in AA, 0 1: "none of that length starts earlier"
    ∷ window_call a (strand_of (65 ∷ 65 ∷ []) (0 ∷ 1 ∷ [])) 144 (window_at 0 1 (fold 0 0))
    -- GC, 1 0, in GACGC, 2 1 0 4 3: "No shorter window of Q carries an embedding of P"
    ∷ window_call bonded (strand_of (71 ∷ 65 ∷ 67 ∷ 71 ∷ 67 ∷ []) (2 ∷ 1 ∷ 0 ∷ 4 ∷ 3 ∷ [])) 232 (window_at 3 2 (fold 2 1))
    -- GC, 1 0, in GC, 0 1: P does not embed
    ∷ window_call bonded unbonded 208 (window_nowhere (fold 0 0))
    -- "Inputs, limits, refusals and their order are those of length": 8 with 135 entries, and with 136 the call goes on
    ∷ window_call a a 135 (Err (direct_refusal work_too_short))
    ∷ window_call a a 136 (window_at 0 1 (fold 0 0))
    -- a refusal of the motif, before one of the molecule
    ∷ window_call (strand_of (88 ∷ []) (0 ∷ [])) (strand_of (65 ∷ []) (1 ∷ [])) 136 (Err (record { rule = bad_letter; side = motif_side; place = 0 }))
    ∷ []

-- The block that hands in the motif with no bases. Its checksum is 1.
unfoldable pub bytes_of_empty_motif : List ℕ
bytes_of_empty_motif = (1 ∷ 0 ∷ zeros 506) ++ (1 ∷ 0 ∷ 0 ∷ 0 ∷ [])

-- The cache entry of the motif with no bases, with 0, 9 and 511 searched, all of them hits. Its checksum is 124340 = 180 + 256 × 229 + 65536 × 1.
unfoldable pub bytes_of_empty_motif_entry : List ℕ
bytes_of_empty_motif_entry =
    (2 ∷ 0 ∷ zeros 18)
    ++ zeros 120
    ++ zeros 240
    ++ (1 ∷ 2 ∷ zeros 61)
    ++ (128 ∷ [])
    ++ (1 ∷ 2 ∷ zeros 61)
    ++ (128 ∷ [])
    ++ (180 ∷ 229 ∷ 1 ∷ 0 ∷ [])

-- Inputs of the screen program: the motif with no bases, and an empty block in its place; then a block with A and an empty block.
abbrev pub empty_motif_input : List ℕ
empty_motif_input = encode_motif empty_motif ++ (encode_molecule a ++ empty_block)

abbrev pub empty_block_input : List ℕ
empty_block_input = empty_block ++ (encode_molecule a ++ empty_block)

-- "bad motif", with its newline.
abbrev pub bad_motif_prints : List ℕ
bad_motif_prints = 98 ∷ 97 ∷ 100 ∷ 32 ∷ 109 ∷ 111 ∷ 116 ∷ 105 ∷ 102 ∷ 10 ∷ []

-- 02, (iii), which has no examples of its own.
unfoldable pub empty_motifs : List Row
empty_motifs =
    -- an empty motif "embeds in every molecule, with L = 0 and no places": in GAC, 2 1 0, with 64 + 8 × 3 entries of work; any slice of places will do
    length_call empty_motif gac 88 (matched_prefix 0 (fold 1 1))
    ∷ show_call empty_motif gac 0 88 (matched_prefix 0 (fold 1 1))
    ∷ show_call empty_motif gac 2 88 (matched_prefix 0 (fold 1 1))
    ∷ verify_call empty_motif gac [] (says_yes (fold 1 1))
    -- "Its tightest window has start 0 and length 0."
    ∷ window_call empty_motif gac 88 (window_at 0 0 (fold 1 1))
    -- 8 with an entry less, 9 with a place, 1 where bases and mates differ in length
    ∷ length_call empty_motif gac 87 (not_matched work_too_short)
    ∷ verify_call empty_motif gac (0 ∷ []) (Err (direct_refusal wrong_slice))
    ∷ length_call (strand_of [] (0 ∷ [])) gac 88 (Err (record { rule = unequal_lengths; side = motif_side; place = 0 }))
    -- the molecule is refused as ever
    ∷ window_call empty_motif (strand_of (65 ∷ []) (1 ∷ [])) 136 (Err (record { rule = bad_mate; side = molecule_side; place = 0 }))
    -- "Refusal 2 remains for molecules only": for Q, and for the molecule of add
    ∷ story empty_added
    ∷ length_call empty_motif (strand_of [] []) 88 (Err (record { rule = no_bases; side = molecule_side; place = 0 }))
    -- "It is kept with length 0 and key 0, and a motif block may have length 0."
    ∷ key_row empty_motif 0
    ∷ block_bytes (encode_entry empty_motif was_searched was_searched) bytes_of_empty_motif_entry
    ∷ block_bytes (encode_motif empty_motif) bytes_of_empty_motif
    -- the screen program prints for it what it prints for A, and takes no empty block for it
    ∷ screen_text empty_motif_input screen_prints
    ∷ screen_text empty_block_input bad_motif_prints
    -- "Query histories may contain it"
    ∷ story empty_motif_story
    ∷ []

-- A batch that is refused; `room` is the length of the hit slice.
unfoldable pub refused_batch : (motifs : List ℕ) (work room : ℕ) (rule : Rule) (side : Side) (place : ℕ) → Story
refused_batch motifs work room rule side place = tale (call (batch motifs work (replicate room 0)) ∷ []) (refused rule side place ∷ [])

-- Sixteen motifs A.
unfoldable pub twice : List ℕ → List ℕ
twice motifs = motifs ++ motifs

abbrev pub sixteen : List ℕ
sixteen = twice (twice (twice (handed_in a a)))

-- The block of A with one byte altered, and an empty block behind it.
abbrev pub not_motifs : List ℕ
not_motifs = set (encode_motif a) 0 9 ++ empty_block

-- The story of 01 with its first four queries as one batch: GC with an arc twice, without, and with.
abbrev pub four_motifs : List ℕ
four_motifs = handed_in bonded bonded ++ handed_in unbonded bonded

unfoldable pub together_story : Story
together_story =
    tale
    (call (add 0 gac) ∷ call (add 1 ggc) ∷ call (batch four_motifs 1472 (replicate 8 9)) ∷ call (remove 0) ∷ call (ask bonded) ∷ [])
    (done
    ∷ done
    ∷ found_all (found_of 2 (0 ∷ 1 ∷ []) 2 ∷ found_of 2 (0 ∷ 1 ∷ []) 0 ∷ found_of 1 (1 ∷ []) 2 ∷ found_of 2 (0 ∷ 1 ∷ []) 2 ∷ []) 2
    ∷ done
    ∷ found 1 (1 ∷ []) 0
    ∷ [])

-- 02, (v), which has no examples of its own.
unfoldable pub batches : List Row
batches =
    -- "It refuses with 15 a motif buffer that isn't 1 to 16 whole blocks .., place 0 for its size": none, 17, and a byte more than one
    story (refused_batch [] 0 0 bad_motifs motif_side 0)
    ∷ story (refused_batch (sixteen ++ encode_motif a) 0 0 bad_motifs motif_side 0)
    ∷ story (refused_batch (encode_motif a ++ (0 ∷ [])) 0 0 bad_motifs motif_side 0)
    -- "or has an unsound or empty block, .. the lowest such block"
    ∷ story (refused_batch (one_handed_in bonded) 0 0 bad_motifs motif_side 1)
    ∷ story (refused_batch (handed_in a a ++ not_motifs) 0 0 bad_motifs motif_side 2)
    -- "after 11", and 11 after 10
    ∷ buffer_call uneven (batch [] 0 []) (refused not_whole_blocks no_side 0)
    ∷ buffer_call unsound (batch [] 0 []) (refused unsound_block no_side 1)
    -- "then 3, place the lowest such motif's index"
    ∷ story (refused_batch (handed_in bonded long) 0 0 too_long motif_side 1)
    -- "then 9 and 8": the hit slice "needs B entries for each motif", "the work slice is that of the longest motif"
    ∷ story (refused_batch sixteen 0 31 wrong_slice no_side 0)
    ∷ story (refused_batch (handed_in bonded a) 1471 4 work_too_short no_side 0)
    -- "Counts, hits, searched numbers and the shelf afterwards equal those of single queries in that order", and the number read is no sum
    ∷ story together_story
    -- "The history statement's lists may contain batches"
    ∷ story batch_story
    ∷ []

-- A motif and a molecule, L, and places of the whole motif where it embeds.
abbrev spelling : Strand → Strand → ℕ → List ℕ → Row
spelling p q best places =
    settled_row (record { pb = p.bases; pm = p.mates; qb = q.bases; qm = q.mates; best = best; places = places })

-- 02, (vi): T reads as U.
unfoldable pub spellings : List Row
spellings =
    -- "Two bases now match when they are the same byte or both are among T and U.": GT 1 0 in GAU 2 1 0, T in U, U in T, T in T
    spelling (strand_of (71 ∷ 84 ∷ []) (1 ∷ 0 ∷ [])) (strand_of (71 ∷ 65 ∷ 85 ∷ []) (2 ∷ 1 ∷ 0 ∷ [])) 2 (0 ∷ 2 ∷ [])
    ∷ spelling (strand_of (84 ∷ []) (0 ∷ [])) (strand_of (85 ∷ []) (0 ∷ [])) 1 (0 ∷ [])
    ∷ spelling (strand_of (85 ∷ []) (0 ∷ [])) (strand_of (84 ∷ []) (0 ∷ [])) 1 (0 ∷ [])
    ∷ spelling (strand_of (84 ∷ []) (0 ∷ [])) (strand_of (84 ∷ []) (0 ∷ [])) 1 (0 ∷ [])
    -- T is no other letter: T in A, C in T
    ∷ spelling (strand_of (84 ∷ []) (0 ∷ [])) a 0 []
    ∷ spelling (strand_of (67 ∷ []) (0 ∷ [])) (strand_of (84 ∷ []) (0 ∷ [])) 0 []
    -- the tightest window of AGAUA, 0 3 2 1 4, for GT 1 0
    ∷ window_call (strand_of (71 ∷ 84 ∷ []) (1 ∷ 0 ∷ [])) (strand_of (65 ∷ 71 ∷ 65 ∷ 85 ∷ 65 ∷ []) (0 ∷ 3 ∷ 2 ∷ 1 ∷ 4 ∷ [])) 400
    (window_at 1 3 (fold 1 1))
    -- "T (byte 84) becomes a letter.": X and small letters are none
    ∷ fold_row (strand_of (65 ∷ 84 ∷ []) (1 ∷ 0 ∷ [])) 1 1
    ∷ refused_strand (strand_of (65 ∷ 88 ∷ 67 ∷ []) (0 ∷ 1 ∷ 2 ∷ [])) bad_letter 1
    ∷ refused_strand (strand_of (65 ∷ 84 ∷ 116 ∷ []) (0 ∷ 1 ∷ 2 ∷ [])) bad_letter 2
    -- "the shelf still compares motifs byte by byte": two keys, two entries, the same hits
    ∷ key_row (strand_of (71 ∷ 84 ∷ []) (1 ∷ 0 ∷ [])) 156
    ∷ key_row (strand_of (71 ∷ 85 ∷ []) (1 ∷ 0 ∷ [])) 157
    ∷ story spellings_story
    ∷ story one_slot_spellings
    -- "Blocks keep the letter as delivered"
    ∷ block_bytes (encode_molecule (strand_of (84 ∷ []) (0 ∷ []))) bytes_of_t
    ∷ []

-- All rows.
unfoldable pub table : List Row
table =
    numbers ++ refusals ++ (screen_text screen_input screen_prints ∷ settled_rows examples) ++ also ++ folds ++ windows ++ empty_motifs ++ batches ++ spellings

-- The claim: every row of the table holds.
abbrev pub TableHolds : Type 0
TableHolds = AllHold table
