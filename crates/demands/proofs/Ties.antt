-- From the equation of a call's contract to what the demands say of its answer r and of the buffers that it leaves.
use Prim.Native.Nat.{ℕ}
use mathlib.Core.Path.{◌≡◌, sym, ap, ◌∙◌}
use mathlib.Core.List.{List}
use lib.ListN.{length as len}
use Rattle.refusals.specs.Rules.{WorkKept}
use Rattle.strand.specs.Strands.{Strand, Checked, check_answer}
use Rattle.embedding.specs.Longest.{VerifyAnswer, verify_answer, embeds}
use Rattle.matcher.specs.Answers.{Matched, length_verdict, length_answer, show_verdict, show_answer, PlacesShown}
use Rattle.window.specs.Answers.{Windowed, window_answer}
use Rattle.calls.specs.Answers.{Added, Removed, Queried}
use Rattle.calls.specs.declared.Batched.{Batched}
use Rattle.calls.specs.Calls.{Effect, effect, add_outcome, remove_outcome, QueryEffect, queried, query_verdict, query_outcome}
use Rattle.calls.specs.Batch.{BatchEffect, batched, batch_verdict, batch_outcome}
use Rattle.history.specs.History.{run_add, run_remove, run_query, run_batch}
use Rattle.demands.specs.Meets.{CheckMeets, LengthMeets, ShowMeets, VerifyMeets, WindowMeets, AddMeets, RemoveMeets, QueryMeets, BatchMeets}
use Rattle.demands.proofs.Demands.{demands}

pub check_tied : (bases mates : List ℕ) (r : Checked) → r ≡ check_answer bases mates → CheckMeets bases mates r
check_tied bases mates r e =
    record { refuses = rw e (demands.any_input.check bases mates); says = rw e (demands.right_answer.check bases mates) }

pub length_tied : (p pm q qm work : List ℕ) (r : Matched) (work' : List ℕ) → r ≡ length_answer p pm q qm (len work)
    → WorkKept (length_verdict p pm q qm (len work)) work work' → LengthMeets p pm q qm work r work'
length_tied p pm q qm work r work' e kept =
    record {
      refuses = rw e (demands.any_input.length p pm q qm (len work));
      says = rw e (demands.right_answer.length p pm q qm (len work));
      whole = rw e (demands.right_answer.whole p pm q qm (len work));
      work_kept = kept;
    }

pub show_tied : (p pm q qm places work : List ℕ) (r : Matched) (places' work' : List ℕ) → r ≡ show_answer p pm q qm (len places) (len work)
    → PlacesShown r p pm q qm places places' → WorkKept (show_verdict p pm q qm (len places) (len work)) work work'
    → ShowMeets p pm q qm places work r places' work'
show_tied p pm q qm places work r places' work' e shown kept =
    record {
      refuses = rw e (demands.any_input.show p pm q qm (len places) (len work));
      says = rw e (demands.right_answer.show p pm q qm (len places) (len work));
      places_shown = shown;
      work_kept = kept;
    }

pub verify_tied : (p pm q qm v : List ℕ) (r : VerifyAnswer) → r ≡ verify_answer p pm q qm v → VerifyMeets p pm q qm v r
verify_tied p pm q qm v r e =
    record { refuses = rw e (demands.any_input.verify p pm q qm v); says = rw e (demands.right_answer.verify p pm q qm v) }

pub window_tied : (p pm q qm work : List ℕ) (r : Windowed) (work' : List ℕ) → r ≡ window_answer p pm q qm (len work)
    → WorkKept (length_verdict p pm q qm (len work)) work work' → WindowMeets p pm q qm work r work'
window_tied p pm q qm work r work' e kept =
    record {
      refuses = rw e (demands.any_input.window p pm q qm (len work));
      says = rw e (demands.right_answer.window p pm q qm (len work));
      work_kept = kept;
    }

pub add_tied : (catalog cache : List ℕ) (d : ℕ) (q : Strand) (r : Added) (catalog' cache' : List ℕ)
    → effect r catalog' cache' ≡ add_outcome catalog cache d q → AddMeets catalog cache d q r catalog' cache'
add_tied catalog cache d q r catalog' cache' e =
    let answer = ap (λ (x : Effect Added). x.answer) e in
    record {
      outcome = e;
      refuses = rw answer (demands.any_input.add catalog cache d q);
      keeps = λ x h.
          let same = demands.any_input.add_keeps catalog cache d q x (sym answer ∙ h) in
          (ap (λ (x : Effect Added). x.catalog) e ∙ same.0, ap (λ (x : Effect Added). x.cache) e ∙ same.1);
      says = λ f. rw answer (demands.right_answer.add catalog cache d q f);
      step = λ es log ran. run_add d q r catalog' cache' e ran;
    }

pub remove_tied : (catalog cache : List ℕ) (d : ℕ) (r : Removed) (catalog' cache' : List ℕ)
    → effect r catalog' cache' ≡ remove_outcome catalog cache d → RemoveMeets catalog cache d r catalog' cache'
remove_tied catalog cache d r catalog' cache' e =
    let answer = ap (λ (x : Effect Removed). x.answer) e in
    record {
      outcome = e;
      refuses = rw answer (demands.any_input.remove catalog cache d);
      keeps = λ x h.
          let same = demands.any_input.remove_keeps catalog cache d x (sym answer ∙ h) in
          (ap (λ (x : Effect Removed). x.catalog) e ∙ same.0, ap (λ (x : Effect Removed). x.cache) e ∙ same.1);
      step = λ es log ran. run_remove d r catalog' cache' e ran;
    }

pub query_tied : (catalog cache : List ℕ) (p : Strand) (work hits : List ℕ) (r : Queried) (cache' work' hits' : List ℕ)
    → queried r cache' hits' ≡ query_outcome embeds catalog cache p (len work) hits
    → WorkKept (query_verdict catalog cache p (len work) (len hits)) work work' → QueryMeets catalog cache p work hits r cache' work' hits'
query_tied catalog cache p work hits r cache' work' hits' e kept =
    let answer = ap (λ (x : QueryEffect). x.answer) e in
    record {
      outcome = e;
      refuses = rw answer (demands.any_input.query catalog cache p (len work) hits);
      keeps = λ x h.
          let same = demands.any_input.query_keeps catalog cache p (len work) hits x (sym answer ∙ h) in
          (ap (λ (x : QueryEffect). x.cache) e ∙ same.0, ap (λ (x : QueryEffect). x.hits) e ∙ same.1);
      step = λ es log ran. run_query p (len work) hits r cache' hits' e ran;
      work_kept = kept;
    }

pub batch_tied : (catalog cache motifs work hits : List ℕ) (r : Batched) (cache' work' hits' : List ℕ)
    → batched r cache' hits' ≡ batch_outcome embeds catalog motifs (len work) cache hits
    → WorkKept (batch_verdict catalog cache motifs (len work) (len hits)) work work' → BatchMeets catalog cache motifs work hits r cache' work' hits'
batch_tied catalog cache motifs work hits r cache' work' hits' e kept =
    let read = ap (λ (x : BatchEffect). x.answer.read) e in
    record {
      outcome = e;
      refuses = rw read (demands.any_input.batch catalog cache motifs (len work) hits);
      keeps = λ x h.
          let same = demands.any_input.batch_keeps catalog cache motifs (len work) hits x (sym read ∙ h) in
          (ap (λ (x : BatchEffect). x.cache) e ∙ same.0, ap (λ (x : BatchEffect). x.hits) e ∙ same.1);
      leaves = λ ok. rw e (demands.right_answer.batch catalog cache motifs (len work) hits ok);
      of_one = λ ok one. rw e (demands.right_answer.batch_of_one catalog cache motifs (len work) hits ok one);
      step = λ es log ran. run_batch motifs (len work) hits r cache' hits' e ran;
      work_kept = kept;
    }
