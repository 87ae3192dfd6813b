-- The example histories of every run: by the theorem, from what the model makes of them.
use Prim.Native.Nat.{ℕ, ◌+◌, ◌*◌}
use mathlib.Core.Path.{◌≡◌, ◌∙◌, ap}
use mathlib.Core.List.{List, [], ◌∷◌}
use lib.Seq.{set-set}
use Rattle.block.specs.Content.{block_size}
use Rattle.embedding.specs.Longest.{embeds}
use Rattle.history.specs.Model.{Call, Event, call, alter, Line, gave}
use Rattle.history.specs.History.{Buffers, zeroed, altered, RunTheorem}
use Rattle.history.proofs.Bytes.{bytes_result, bytes_next, bytes_log}
use Rattle.history.proofs.Runs.{ran_log, bytes_run}
use Rattle.history.specs.Examples.{Story, results_of, stories, ByModel, ByRuns, AllByModel, AllByRuns, altered_once}
use Rattle.history.specs.Examples.{altered_twice, AlterationsLimited}
use Rattle.history.proofs.Theorem.{demand_3}
use Rattle.history.proofs.Computed.{settled, computed}
use Rattle.history.proofs.BatchStory.{refused_between_lem, altered_twice_lem}

-- What the model comes to in a story, every run comes to: by the history theorem.
pub by_runs : (t : Story) → ByModel t → ByRuns t
unfolding RunTheorem
by_runs t m log ran = ap results_of (demand_3 t.blocks t.slots t.events log ran m.0).same ∙ m.1

all_by_runs : (ts : List Story) → AllByModel ts → AllByRuns ts
unfolding AllByModel AllByRuns
all_by_runs [] m = tt
all_by_runs (t ∷ ts) m = (by_runs t m.0, all_by_runs ts m.1)

pub settled_runs : AllByRuns stories
settled_runs = all_by_runs stories settled

-- Two alterations of one byte are the later one.
two_alterations : (s i v w : ℕ) (es : List Event) (β : Buffers) → bytes_log embeds β (alter s i v ∷ alter s i w ∷ es) ≡ bytes_log embeds β (alter s i w ∷ es)
unfolding bytes_log altered
two_alterations s i v w es β = rw (set-set β.cache (block_size * s + i) v w)

after_call : (c : Call) (es fs : List Event) → ((β : Buffers) → bytes_log embeds β es ≡ bytes_log embeds β fs) → (β : Buffers)
    → bytes_log embeds β (call c ∷ es) ≡ bytes_log embeds β (call c ∷ fs)
unfolding bytes_log
after_call c es fs h β = ap (λ (log : List Line). gave c (bytes_result embeds β c) ∷ log) (h (bytes_next embeds β c))

pub limited : AlterationsLimited
unfolding altered_once altered_twice
limited =
    record {
      one = computed.0;
      two = computed.1;
      refusal_between = computed.2;
      refused_batch_lem = refused_between_lem;
      before_batch = altered_twice_lem;
      run_knows = λ log ran.
          ap results_of (ran_log embeds ran ∙ after_call _ _ _ (after_call _ _ _ (two_alterations 0 444 0 1 _)) (zeroed 1 1))
          ∙ by_runs altered_once computed.0 _ (bytes_run embeds (zeroed 1 1) _);
      model_searches = computed.3;
    }
