-- What is claimed of histories (01, demand 3), closed with the calls' own test: `embeds` is the test of a query, `EmbedsIn` says that an
-- embedding exists. `claims`, in proofs/Claims, proves it.
use Rattle.std.specs.Prelude.{ℕ, ◌%◌, ◌≡◌, ◌⊎◌, ◌↔◌, List, [], ◌∷◌, ◌++◌, length}
use Rattle.strand.specs.Strands.{Strand, empty_motif, Respelled}
use Rattle.refusals.specs.Rules.{no_side, not_whole_blocks}
use Rattle.embedding.specs.Embedding.{EmbedsIn}
use Rattle.embedding.specs.Longest.{embeds}
use Rattle.block.specs.Content.{block_size}
use Rattle.block.specs.Block.{block_count}
use Rattle.calls.specs.Calls.{Found, refused, found, found_all}
use Rattle.calls.specs.Motifs.{motif_of}
use Rattle.history.specs.Model.{query, batch, Event, Line, gave}
use Rattle.history.specs.History.{Buffers, Ran, SomeRun, SameRefusals, Held, Ask, Stands, Among, RightHits, RightLog, Decides, RunTheorem}
use Rattle.history.specs.Examples.{stories, AllByModel, AllByRuns, AlterationsLimited}

-- Every accepted query of a log is right: what `right` of `RightLog` comes to for a line that is one.
abbrev pub QueriesRight : (Strand → Strand → Type 0) → List Line → Type 0
QueriesRight Relation log =
    (before after : List Line) (p : Strand) (work : ℕ) (slice : List ℕ) (count : ℕ) (hits : List ℕ) (searched : ℕ)
    → log ≡ before ++ (gave (query p work slice) (found count hits searched) ∷ after)
    → RightHits Relation before (record { motif = p; count = count; hits = hits })

-- An accepted batch is right: `each` has one result for each motif, in the order of the motifs, and each of them is right for the query of its motif: the
-- result that has t others in front of it for motif t.
pub record RightBatch (Relation : Strand → Strand → Type 0) (before : List Line) (motifs : List ℕ) (each : List Found) : Type 0 where
  pub many : length each ≡ block_count motifs
  pub right : (front back : List Found) (x : Found) → each ≡ front ++ (x ∷ back)
      → RightHits Relation before (record { motif = motif_of motifs (length front); count = x.count; hits = x.hits })

-- Every accepted batch of a log is right.
abbrev pub BatchesRight : (Strand → Strand → Type 0) → List Line → Type 0
BatchesRight Relation log =
    (before after : List Line) (motifs : List ℕ) (work : ℕ) (slice : List ℕ) (each : List Found) (read : ℕ)
    → log ≡ before ++ (gave (batch motifs work slice) (found_all each read) ∷ after)
    → RightBatch Relation before motifs each

-- 02, (iii): "Query histories may contain it, and the hit rule covers it without an exception". An empty motif embeds in every molecule, so each accepted
-- query of it lists just the numbers then held.
abbrev pub EmptyMotifListsHeld : List Line → Type 0
EmptyMotifListsHeld log =
    (before : List Line) (a : Ask) → Stands log before a → a.motif ≡ empty_motif → (d : ℕ) → Among d a.hits ↔ ((q : Strand) × Held d q before)

-- After two logs the same numbers are held, and each has the same molecule, in the same or in another spelling.
pub record HeldAlike (log log' : List Line) : Type 0 where
  pub there : (d : ℕ) (q : Strand) → Held d q log → (q' : Strand) × Held d q' log' × Respelled q q'
  pub back : (d : ℕ) (q' : Strand) → Held d q' log' → (q : Strand) × Held d q log × Respelled q q'

-- 02, (vi): "T reads as U". Two spellings of a motif have the same hits, with the same molecules held in whichever spelling; in one history or in two.
abbrev pub SpellingsHitAlike : List Line → List Line → Type 0
SpellingsHitAlike log log' =
    (before before' : List Line) (a a' : Ask) → Stands log before a → Stands log' before' a' → Respelled a.motif a'.motif → HeldAlike before before'
    → a.hits ≡ a'.hits

-- Buffers of which one is not whole blocks; a log whose every call is refused by rule 10.
abbrev pub NotWhole : Buffers → Type 0
NotWhole β = (length β.catalog % block_size ≡ 0 → ⊥) ⊎ (length β.cache % block_size ≡ 0 → ⊥)

unfoldable pub AllRefused : List Line → Type 0
AllRefused [] = Unit
AllRefused (line ∷ log) = (line.result ≡ refused not_whole_blocks no_side 0) × AllRefused log

-- All the claims.
pub record Claims : Type 0 where
  -- a query's test says yes exactly where an embedding exists
  pub decides : Decides EmbedsIn embeds
  -- every run through an admitted list, from zeroed buffers; and every list has a run
  pub runs : RunTheorem EmbedsIn embeds
  pub some_run : SomeRun embeds
  -- every list, admitted or not: a run refuses what the model refuses
  pub refusals : SameRefusals embeds
  -- so every accepted query of a right log, as a line of it, is right
  pub queries : (B S : ℕ) (es : List Event) (log : List Line) → RightLog EmbedsIn embeds B S es log → QueriesRight EmbedsIn log
  -- and so is every accepted batch
  pub batches : (B S : ℕ) (es : List Event) (log : List Line) → RightLog EmbedsIn embeds B S es log → BatchesRight EmbedsIn log
  -- and every accepted query of the motif with no bases lists all that is held
  pub empty_motif_lem : (B S : ℕ) (es : List Event) (log : List Line) → RightLog EmbedsIn embeds B S es log → EmptyMotifListsHeld log
  -- and two spellings of a motif have the same hits
  pub spellings : {B S B' S' : ℕ} {es es' : List Event} {log log' : List Line}
      → RightLog EmbedsIn embeds B S es log → RightLog EmbedsIn embeds B' S' es' log' → SpellingsHitAlike log log'
  -- buffers that are not whole blocks: every call of every list is refused by rule 10
  pub not_whole : (es : List Event) (β : Buffers) (log : List Line) → NotWhole β → Ran embeds β es log → AllRefused log
  -- the hypotheses can be met: the stories are admitted, alterations among them, and come to their results by the model and by every run
  pub by_model : AllByModel stories
  pub by_runs : AllByRuns stories
  -- which lists are not admitted, and that the limit on alterations is needed
  pub limited : AlterationsLimited
