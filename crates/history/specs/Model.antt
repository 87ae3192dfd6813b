-- What happens in a history, and the reference model (01: the list and the plain machine of demand 3). The quotations are 01's, but for those of batches,
-- which are 02's, (v).
use Rattle.std.specs.Prelude.{ℕ, zero, suc, List, [], ◌∷◌, Bool, true, false, not, ◌&&◌, eqb, length}
use Rattle.std.proofs.Math.Option.{none as vacant, some as holds}
use Rattle.strand.specs.Strands.{Strand, same_strand}
use Rattle.calls.specs.Calls.{Found, Result, refused, done, found, found_all, refused_by, add_rules, query_rules, remove_rules}
use Rattle.calls.specs.Motifs.{motif_of}
use Rattle.calls.specs.Batch.{batch_rules}
use Rattle.lists.specs.Vocabulary.{nth, choose, some, select, tab, put_at}
use Rattle.refusals.specs.Rules.{no_side, not_whole_blocks, refuse_if, by_verdict, Verdict}
use Rattle.octets.specs.Octets.{without}
use Rattle.block.specs.Content.{empty_block, encode_entry}
use Rattle.block.specs.Block.{block_count}
use Rattle.calls.specs.Buffers.{in_range, Holding, is_held, slot_of}

-- A call with its arguments.
pub data Call : Type 0 where
  -- number and molecule
  add : ℕ → Strand → Call
  -- number
  remove : ℕ → Call
  -- motif, length of the work slice (a query's answer reads nothing else of it), the slice for the hits
  query : Strand → ℕ → List ℕ → Call
  -- the buffer of motifs, length of the work slice, the slice for the hits
  batch : List ℕ → ℕ → List ℕ → Call

-- An entry of the list.
pub data Event : Type 0 where
  call : Call → Event
  -- byte i of cache block s becomes v
  alter : (s i v : ℕ) → Event

-- An accepted call ends a period of alterations; a refused one does not.
unfoldable pub ends_period : Result → Bool
ends_period (refused rule side place) = false
ends_period done = true
ends_period (found count hits searched) = true
ends_period (found_all each read) = true

-- A line of a history's log: a call, and what it came to.
pub record Line : Type 0 where
  pub of : Call
  pub result : Result

abbrev pub gave : Call → Result → Line
gave c result = record { of = c; result = result }

-- "State: the molecules by number, and for each slot nothing or a motif with a set of numbers."
-- (`Holding`, in calls, is what stands under a number.)
pub data Slot : Type 0 where
  nothing : Slot
  keeps : Strand → (ℕ → Bool) → Slot

pub record State : Type 0 where
  pub molecules : ℕ → Holding
  pub slots : ℕ → Slot

-- "For demand 3 it starts with no molecule and nothing in any slot."
unfoldable pub start : State
start = record { molecules = λ d. vacant; slots = λ s. nothing }

-- Number d is held.
unfoldable pub held_in : State → ℕ → Bool
held_in σ d = is_held (σ.molecules d)

-- Number d is in the slot's set and the slot has this motif.
unfoldable pub known_in : Slot → Strand → ℕ → Bool
known_in nothing p d = false
known_in (keeps m set) p d = same_strand m p && set d

-- The slot with d taken out of its set.
unfoldable pub dropped : ℕ → Slot → Slot
dropped d nothing = nothing
dropped d (keeps m set) = keeps m (without d set)

-- "It is given B and S"; `embeds` tells whether an embedding of a motif into a molecule exists.
module _ (embeds : Strand → Strand → Bool) (B S : ℕ) where
  -- "It refuses by the table below, reading the call's inputs, B, S and the molecules held." Rule 11 speaks of blocks, and it has none.
  abbrev pub range_rule : Verdict
  range_rule = refuse_if not_whole_blocks no_side (not (in_range B S))

  unfoldable pub model_verdict : State → Call → Verdict
  model_verdict σ (add d q) = add_rules range_rule B (held_in σ) d q
  model_verdict σ (remove d) = remove_rules range_rule B (held_in σ) d
  model_verdict σ (query p work hits) = query_rules range_rule B p work (length hits)
  model_verdict σ (batch motifs work hits) = batch_rules range_rule B motifs work (length hits)

  -- The motif embeds in what stands under a number.
  unfoldable pub embeds_at : Strand → Holding → Bool
  embeds_at p vacant = false
  embeds_at p (holds q) = embeds p q

  -- "A query answers the held numbers into which an embedding exists, rising"
  unfoldable pub hit_list : State → Strand → List ℕ
  hit_list σ p = select B (λ d. embeds_at p (σ.molecules d))

  -- "searched is the count of held numbers not in the slot's set if the slot has this motif, else of all held": whether d is one, and the list of them.
  unfoldable pub searches : State → Strand → ℕ → Bool
  searches σ p d = held_in σ d && not (known_in (σ.slots (slot_of S p)) p d)

  unfoldable pub search_list : State → Strand → List ℕ
  search_list σ p = select B (searches σ p)

  -- After a query "the slot is this motif with all held numbers".
  unfoldable pub asked : State → Strand → State
  asked σ p = record { molecules = σ.molecules; slots = put_at σ.slots (slot_of S p) (keeps p (held_in σ)) }

  -- A batch is "a single call that the machine runs as these queries": the state after the first t of them, and what query t finds.
  unfoldable pub asked_to : State → List ℕ → ℕ → State
  asked_to σ motifs zero = σ
  asked_to σ motifs (suc t) = asked (asked_to σ motifs t) (motif_of motifs t)

  unfoldable pub found_by : State → List ℕ → ℕ → Found
  found_by σ motifs t =
      let hits : List ℕ = hit_list (asked_to σ motifs t) (motif_of motifs t) in
      record { count = length hits; hits = hits; searched = length (search_list (asked_to σ motifs t) (motif_of motifs t)) }

  -- "The number of molecules read: those held numbers that at least one of these queries would search."
  unfoldable pub read_by : State → List ℕ → List ℕ
  read_by σ motifs = select B (λ d. some (block_count motifs) (λ t. searches (asked_to σ motifs t) (motif_of motifs t) d))

  -- What an accepted call answers.
  unfoldable pub model_answer : State → Call → Result
  model_answer σ (add d q) = done
  model_answer σ (remove d) = done
  model_answer σ (query p work hits) = found (length (hit_list σ p)) (hit_list σ p) (length (search_list σ p))
  model_answer σ (batch motifs work hits) = found_all (tab (block_count motifs) (found_by σ motifs)) (length (read_by σ motifs))

  -- What it leaves. "Add and remove change the molecules; remove also takes d out of every set."
  unfoldable pub model_next : State → Call → State
  model_next σ (add d q) = record { molecules = put_at σ.molecules d (holds q); slots = σ.slots }
  model_next σ (remove d) = record { molecules = put_at σ.molecules d vacant; slots = λ s. dropped d (σ.slots s) }
  model_next σ (query p work hits) = asked σ p
  model_next σ (batch motifs work hits) = asked_to σ motifs (block_count motifs)

  -- What a call comes to, and the state afterwards. "A refused call changes nothing."
  unfoldable pub model_result : State → Call → Result
  model_result σ c = by_verdict (model_verdict σ c) refused_by (model_answer σ c)

  unfoldable pub model_after : State → Call → State
  model_after σ c = by_verdict (model_verdict σ c) (λ r. σ) (model_next σ c)

  -- "The block which the rules above give to the slot's motif and set, with a hit bit for each number of the set into which an embedding
  -- exists, or zero where the slot has nothing."
  unfoldable pub slot_block : (ℕ → Holding) → Slot → List ℕ
  slot_block molecules nothing = empty_block
  slot_block molecules (keeps m set) = encode_entry m set (λ d. set d && embeds_at m (molecules d))

  -- "An alteration sets one byte of one shelf block; if the byte's value changes, that slot becomes nothing."
  unfoldable pub model_alter : State → ℕ → ℕ → ℕ → State
  model_alter σ s i v =
      choose (eqb (nth (slot_block σ.molecules (σ.slots s)) i) v)
      σ
      (record { molecules = σ.molecules; slots = put_at σ.slots s nothing })

  -- "Fed, in their order," with a list of events, from any state: the log of its calls.
  unfoldable pub model_log : State → List Event → List Line
  model_log σ [] = []
  model_log σ (call c ∷ es) = gave c (model_result σ c) ∷ model_log (model_after σ c) es
  model_log σ (alter s i v ∷ es) = model_log (model_alter σ s i v) es
