-- Runs of the calls, known by their contracts alone; which lists of events are admitted; and what is claimed of every run (01: demand 3).
use Rattle.std.specs.Prelude.{ℕ, suc, ◌+◌, ◌*◌, ◌<◌, ◌≡◌, ◌↔◌, List, [], ◌∷◌, ◌++◌, Bool, true, ◌&&◌, eqb, leb, ltb, length, set, replicate, Ok}
use Rattle.std.proofs.Math.Option.{none as vacant, some as holds}
use Rattle.lists.specs.Vocabulary.{nth, choose, every, put_at}
use Rattle.strand.specs.Strands.{Strand}
use Rattle.refusals.specs.Rules.{refusal, Verdict}
use Rattle.block.specs.Content.{block_size}
use Rattle.block.specs.Block.{block_count}
use Rattle.calls.specs.Answers.{Added, Removed, Queried}
use Rattle.calls.specs.declared.Batched.{Batched}
use Rattle.calls.specs.Buffers.{molecule_verdict, motif_verdict, Holding}
use Rattle.calls.specs.Calls.{effect, add_outcome, remove_outcome, queried, query_outcome, Found, Result, refused, done, found, found_all, add_result}
use Rattle.calls.specs.Calls.{remove_result, query_result}
use Rattle.calls.specs.Motifs.{motif_of}
use Rattle.calls.specs.Batch.{batched, batch_outcome, batch_result}
use Rattle.history.specs.Model.{Call, add, remove, query, batch, Event, call, alter, ends_period, Line, gave}
use Rattle.history.specs.Model.{State, start, model_result, model_after, model_alter, model_log}

-- The two buffers of a history.
pub record Buffers : Type 0 where
  pub catalog : List ℕ
  pub cache : List ℕ

abbrev pub buffers_of : List ℕ → List ℕ → Buffers
buffers_of catalog cache = record { catalog = catalog; cache = cache }

-- Zeroed: B and S blocks.
unfoldable pub zeroed : ℕ → ℕ → Buffers
zeroed B S = buffers_of (replicate (block_size * B) 0) (replicate (block_size * S) 0)

-- An alteration of byte i of cache block s.
unfoldable pub altered : Buffers → ℕ → ℕ → ℕ → Buffers
altered β s i v = buffers_of β.catalog (set β.cache (block_size * s + i) v)

-- ---- runs

-- A run from these buffers through a list of events, and its log: "catalogue and shelf change only by these calls and alterations". Of a call it knows
-- the equation of the call's `ensures` (crates/catalog/src/lib.rt, crates/batch/src/lib.rt) and nothing else; r and the primed names are the answer and the
-- buffers at its exit. The functions of crates/demands/src/lib.rt make these steps, by calling add, remove, query and batch.
pub data Ran (embeds : Strand → Strand → Bool) : Buffers → List Event → List Line → Type 0 where
  -- no event is left
  run_end : {β : Buffers} → Ran embeds β [] []
  -- 01: "Add (number d, molecule)"
  run_add : {β : Buffers} {es : List Event} {log : List Line} (d : ℕ) (q : Strand) (r : Added) (catalog' cache' : List ℕ)
      → effect r catalog' cache' ≡ add_outcome β.catalog β.cache d q
      → Ran embeds (buffers_of catalog' cache') es log
      → Ran embeds β (call (add d q) ∷ es) (gave (add d q) (add_result r) ∷ log)
  -- 01: "Remove (d)"
  run_remove : {β : Buffers} {es : List Event} {log : List Line} (d : ℕ) (r : Removed) (catalog' cache' : List ℕ)
      → effect r catalog' cache' ≡ remove_outcome β.catalog β.cache d
      → Ran embeds (buffers_of catalog' cache') es log
      → Ran embeds β (call (remove d) ∷ es) (gave (remove d) (remove_result r) ∷ log)
  -- 01: "Query (motif)", with a work slice of any length and any slice for the hits; the catalog is only read
  run_query : {β : Buffers} {es : List Event} {log : List Line} (p : Strand) (work : ℕ) (hits : List ℕ) (r : Queried) (cache' hits' : List ℕ)
      → queried r cache' hits' ≡ query_outcome embeds β.catalog β.cache p work hits
      → Ran embeds (buffers_of β.catalog cache') es log
      → Ran embeds β (call (query p work hits) ∷ es) (gave (query p work hits) (query_result r hits') ∷ log)
  -- 02, (v): motifs "in one lent buffer", here any buffer at all (its rules decide), with a work slice of any length and any slice for the hits; catalog and
  -- motifs are only read
  run_batch : {β : Buffers} {es : List Event} {log : List Line} (motifs : List ℕ) (work : ℕ) (hits : List ℕ) (r : Batched) (cache' hits' : List ℕ)
      → batched r cache' hits' ≡ batch_outcome embeds β.catalog motifs work β.cache hits
      → Ran embeds (buffers_of β.catalog cache') es log
      → Ran embeds β (call (batch motifs work hits) ∷ es)
      (gave (batch motifs work hits) (batch_result (block_count β.catalog) (block_count motifs) r hits') ∷ log)
  -- 01: "An alteration sets one byte of one shelf block"
  run_alter : {β : Buffers} {es : List Event} {log : List Line} (s i v : ℕ) → Ran embeds (altered β s i v) es log → Ran embeds β (alter s i v ∷ es) log

-- A call that came to this is a step of a run: whatever run goes on from β', this call in front of it is a run from β.
abbrev pub IsStep : (Strand → Strand → Bool) → Buffers → Call → Result → Buffers → Type 0
IsStep embeds β c result β' = (es : List Event) (log : List Line) → Ran embeds β' es log → Ran embeds β (call c ∷ es) (gave c result ∷ log)

-- Every list of events has a run, from any buffers.
abbrev pub SomeRun : (Strand → Strand → Bool) → Type 0
SomeRun embeds = (β : Buffers) (es : List Event) → (log : List Line) × Ran embeds β es log

-- ---- refusals

-- What the rules say of a call, by what it came to; and of each call of a log.
unfoldable pub verdict_of : Result → Verdict
verdict_of (refused rule side place) = refusal rule side place
verdict_of done = Ok tt
verdict_of (found count hits searched) = Ok tt
verdict_of (found_all each read) = Ok tt

unfoldable pub verdicts_of : List Line → List Verdict
verdicts_of [] = []
verdicts_of (line ∷ log) = verdict_of line.result ∷ verdicts_of log

-- For every list, with no limit on alterations: a run refuses just what the model refuses, by the same rule, side and place. So "accepted" is one notion
-- for both.
abbrev pub SameRefusals : (Strand → Strand → Bool) → Type 0
SameRefusals embeds =
    (B S : ℕ) (es : List Event) (log : List Line) → Ran embeds (zeroed B S) es log → verdicts_of log ≡ verdicts_of (model_log embeds B S start es)

-- ---- admitted lists

-- "At most one alteration in each block before the first accepted call and between one accepted call and the next." `times` counts the alterations of
-- each block since the last call that ended a period, and is tested where a call ends one: an accepted call (`ends_period`). After the last accepted call
-- there is no limit. Every alteration names a block below S, a byte below 512 and a value below 256.
module _ (embeds : Strand → Strand → Bool) (B S : ℕ) where
  unfoldable pub at_most_once : (ℕ → ℕ) → Bool
  at_most_once times = every S (λ s. leb (times s) 1)

  unfoldable pub admitted_from : State → (ℕ → ℕ) → List Event → Bool
  admitted_from σ times [] = true
  admitted_from σ times (alter s i v ∷ es) =
      ltb s S && ltb i block_size && ltb v 256 && admitted_from (model_alter embeds B S σ s i v) (put_at times s (times s + 1)) es
  admitted_from σ times (call c ∷ es) =
      choose (ends_period (model_result embeds B S σ c))
      (at_most_once times && admitted_from (model_after embeds B S σ c) (λ s. 0) es)
      (admitted_from (model_after embeds B S σ c) times es)

  unfoldable pub admitted : List Event → Bool
  admitted es = admitted_from start (λ s. 0) es

-- ---- right queries

-- What stands under number d, where x stood, after an accepted call: an add puts a molecule there, a remove takes it away.
unfoldable pub holding_by : ℕ → Holding → Call → Holding
holding_by d x (add n q) = choose (eqb d n) (holds q) x
holding_by d x (remove n) = choose (eqb d n) vacant x
holding_by d x (query p work hits) = x
holding_by d x (batch motifs work hits) = x

-- The same after a call that came to this, and after the calls of a log.
unfoldable pub holding_after : ℕ → Holding → Call → Result → Holding
holding_after d x c (refused rule side place) = x
holding_after d x c done = holding_by d x c
holding_after d x c (found count hits searched) = x
holding_after d x c (found_all each read) = x

unfoldable pub holding_since : ℕ → Holding → List Line → Holding
holding_since d x [] = x
holding_since d x (line ∷ log) = holding_since d (holding_after d x line.of line.result) log

-- Molecule q is held under number d after these calls: added by an accepted one and not removed by one since.
abbrev pub Held : ℕ → Strand → List Line → Type 0
Held d q log = holding_since d vacant log ≡ holds q

-- A query that a call made: its motif, the count and the hit list that it came to. An accepted query makes one, an accepted batch one for each motif; no other
-- call makes any.
pub record Ask : Type 0 where
  pub motif : Strand
  pub count : ℕ
  pub hits : List ℕ

-- The queries of a batch by what they found: the first of `each` is that of motif t, the next that of motif t + 1, and so on.
unfoldable pub asks_from : List ℕ → ℕ → List Found → List Ask
asks_from motifs t [] = []
asks_from motifs t (x ∷ each) = record { motif = motif_of motifs t; count = x.count; hits = x.hits } ∷ asks_from motifs (suc t) each

-- The queries that a call made which came to this.
unfoldable pub asks_of : Call → Result → List Ask
asks_of (add d q) result = []
asks_of (remove d) result = []
asks_of (query p work slice) (refused rule side place) = []
asks_of (query p work slice) done = []
asks_of (query p work slice) (found count hits searched) = record { motif = p; count = count; hits = hits } ∷ []
asks_of (query p work slice) (found_all each read) = []
asks_of (batch motifs work slice) (refused rule side place) = []
asks_of (batch motifs work slice) done = []
asks_of (batch motifs work slice) (found count hits searched) = []
asks_of (batch motifs work slice) (found_all each read) = asks_from motifs 0 each

-- A query stands in a log: the call of the line after `before` made it.
pub record Stands (log before : List Line) (a : Ask) : Type 0 where
  pub line : Line
  pub after : List Line
  pub here : log ≡ before ++ (line ∷ after)
  pub front : List Ask
  pub back : List Ask
  pub among : asks_of line.of line.result ≡ front ++ (a ∷ back)

-- d is in the list.
abbrev pub Among : ℕ → List ℕ → Type 0
Among d list = (i : ℕ) × (i < length list) × (nth list i ≡ d)

module _ (Relation : Strand → Strand → Type 0) where
  -- A query after the calls of a log is right.
  pub record RightHits (before : List Line) (a : Ask) : Type 0 where
    -- just the numbers then held into whose molecules the motif embeds
    pub exact : (d : ℕ) → Among d a.hits ↔ ((q : Strand) × Held d q before × Relation a.motif q)
    pub rising : (i j : ℕ) → i < j → j < length a.hits → nth a.hits i < nth a.hits j
    pub counted : a.count ≡ length a.hits

  -- The claim about the log of a whole list.
  pub record RightLog (embeds : Strand → Strand → Bool) (B S : ℕ) (es : List Event) (log : List Line) : Type 0 where
    -- what is compared is equal: it is the log of the reference model
    pub same : log ≡ model_log embeds B S start es
    -- every query of the log is right
    pub right : (before : List Line) (a : Ask) → Stands log before a → RightHits before a

  -- The test decides the relation for each motif and molecule that rules 1 to 7 let pass.
  unfoldable pub Decides : (Strand → Strand → Bool) → Type 0
  Decides embeds = (p q : Strand) → motif_verdict p ≡ Ok tt → molecule_verdict q ≡ Ok tt → (embeds p q ≡ true) ↔ Relation p q

  -- 01, demand 3, of every run: for all B and S, from zeroed buffers, through an admitted list.
  unfoldable pub RunTheorem : (Strand → Strand → Bool) → Type 0
  RunTheorem embeds =
      (B S : ℕ) (es : List Event) (log : List Line) → Ran embeds (zeroed B S) es log → admitted embeds B S es ≡ true → RightLog embeds B S es log
