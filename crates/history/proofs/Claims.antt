-- What is claimed of histories holds: the record of `specs/Statements` from the theorems.
use Prim.Native.Nat.{ℕ}
use mathlib.Core.List.{List}
use Rattle.letters.specs.Letters.{letters_match}
use Rattle.embedding.specs.Embedding.{EmbedsIn}
use Rattle.embedding.specs.Longest.{embeds}
use Rattle.embedding.proofs.Claims as embedding
use Rattle.history.specs.Model.{Event, Line}
use Rattle.history.specs.History.{RightLog}
use Rattle.history.specs.Statements.{EmptyMotifListsHeld, Claims}
use Rattle.history.proofs.Theorem as theorem
use Rattle.history.proofs.Right.{query_right, batch_right}
use Rattle.history.proofs.Spellings.{spellings}
use Rattle.history.proofs.Computed as computed
use Rattle.history.proofs.Stories as stories

-- The motif with no bases embeds in every molecule held.
lists_held : (B S : ℕ) (es : List Event) (log : List Line) → RightLog EmbedsIn embeds B S es log → EmptyMotifListsHeld log
lists_held B S es log r before a s e d =
    let x = (r.right before a s).exact d in (
      (λ i. let h = x.0 i in (h.0, h.1)),
      (λ h. x.1 (h.0, h.1, rw e (λ i. i, ((embedding.claims).empty_motif_lem letters_match h.0.bases h.0.mates).embeds (λ i. i)))),
    )

pub claims : Claims
claims =
    record {
      decides = theorem.decides;
      runs = theorem.demand_3;
      some_run = theorem.some_run;
      refusals = theorem.refusals;
      queries = λ B S es log r. query_right r;
      batches = λ B S es log r. batch_right r;
      empty_motif_lem = lists_held;
      spellings = spellings;
      not_whole = theorem.not_whole;
      by_model = computed.settled;
      by_runs = stories.settled_runs;
      limited = stories.limited;
    }
