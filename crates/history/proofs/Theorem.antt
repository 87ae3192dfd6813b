-- The history theorem (01: demand 3) of every run: over every test that decides a relation of motifs and molecules, and closed with embeddings.
use mathlib.Core.Bool.{Bool}
use mathlib.Core.List.{List}
use borrow.Author.Tests.{eqb-true, eq-eqb}
use Rattle.letters.specs.Letters.{letters_match}
use Rattle.strand.specs.Strands.{Strand, least_motif}
use Rattle.refusals.specs.Rules.{motif_side}
use Rattle.strand.proofs.VerdictLaws.{accepted_proper}
use Rattle.embedding.proofs.Computed.{whole_iff}
use Rattle.calls.specs.Buffers.{most_motif_bases, motif_verdict}
use Rattle.embedding.specs.Longest.{embeds}
use Rattle.embedding.specs.Embedding.{EmbedsIn}
use Rattle.history.specs.Model.{Event, Line, start}
use Rattle.history.specs.History.{Buffers, zeroed, Ran, SomeRun, SameRefusals, admitted, Decides, RunTheorem}
use Rattle.history.specs.Statements.{NotWhole, AllRefused}
use Rattle.history.proofs.Bytes.{bytes_log, BytesTheorem}
use Rattle.history.proofs.Verdicts.{same_verdicts, tracks_start}
use Rattle.history.proofs.SameLog.{same_log, follows_start}
use Rattle.history.proofs.NotWhole.{all_refused}
use Rattle.history.proofs.Right.{right_start}
use Rattle.history.proofs.Runs.{ran_log, bytes_run}

-- of the log of the bytes
on_bytes : (test : Strand → Strand → Bool) (Relation : Strand → Strand → Type 0) → Decides Relation test → BytesTheorem test Relation
unfolding BytesTheorem admitted
on_bytes test Relation decides B S es a =
    let same = same_log test B S es (zeroed B S) start (λ s. 0) (follows_start test B S) a in
    record {
      same = same;
      right = λ before a s. right_start test Relation B S decides es _ before a same s;
    }

-- of every run
pub history : (test : Strand → Strand → Bool) (Relation : Strand → Strand → Type 0) → Decides Relation test → RunTheorem Relation test
unfolding BytesTheorem RunTheorem
history test Relation decides B S es log ran a = rw (ran_log test ran) (on_bytes test Relation decides B S es a)

-- The test of a query decides whether an embedding exists.
pub decides : Decides EmbedsIn embeds
unfolding Decides embeds motif_verdict
decides p q hp hq =
    let proper = accepted_proper motif_side least_motif most_motif_bases p.bases p.mates hp in
    let whole = whole_iff letters_match p.bases p.mates q.bases q.mates proper.nested.inside in
    (λ e. whole.0 (eqb-true _ _ e), λ x. eq-eqb _ _ (whole.1 x))

pub demand_3 : RunTheorem EmbedsIn embeds
demand_3 = history embeds EmbedsIn decides

-- every list has a run
pub some_run : SomeRun embeds
some_run β es = (bytes_log embeds β es, bytes_run embeds β es)

-- a run refuses what the model refuses
pub refusals : SameRefusals embeds
refusals B S es log ran = rw (ran_log embeds ran) (same_verdicts embeds B S es (zeroed B S) start (tracks_start embeds B S))

-- buffers of which one is not whole blocks: every call of every list is refused by rule 10
pub not_whole : (es : List Event) (β : Buffers) (log : List Line) → NotWhole β → Ran embeds β es log → AllRefused log
not_whole es β log n ran = rw (ran_log embeds ran) (all_refused embeds es β n)
