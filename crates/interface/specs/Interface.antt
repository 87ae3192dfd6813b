-- The answers of the calls as C sees them: for each case of an answer the numbers of the struct.
use Rattle.std.specs.Prelude.{ℕ, List, Option, Some, None, Ok, Err, cond}
use Rattle.refusals.specs.declared.Refusal.{Refusal}
use Rattle.refusals.specs.Rules.{number_of, number_of_side}
use Rattle.strand.specs.declared.Fold.{Fold}
use Rattle.strand.specs.Strands.{Checked}
use Rattle.embedding.specs.Longest.{VerifyAnswer}
use Rattle.matcher.specs.Answers.{Matched}
use Rattle.window.specs.declared.search.Window.{Window}
use Rattle.window.specs.Answers.{Windowed}
use Rattle.calls.specs.Answers.{Added, Removed, Queried, BatchRead}
use Rattle.calls.specs.declared.Batched.{Batched}
use Rattle.calls.specs.Calls.{Effect, effect, QueryEffect}
use Rattle.calls.specs.Batch.{BatchEffect}
use Rattle.interface.specs.declared.Answer.{Answer}
use Rattle.interface.specs.declared.WindowAnswer.{WindowAnswer}
use Rattle.interface.specs.declared.BatchAnswer.{BatchAnswer}

-- An accepted call: refusal number 0, and what the call says.
abbrev pub accepted : ℕ → ℕ → Fold → Answer
accepted value searched f = record { refusal = 0; side = 0; place = 0; value = value; searched = searched; arcs = f.arcs; depth = f.depth }

-- Remove and query say nothing of a fold: zeros.
abbrev pub no_fold : Fold
no_fold = record { arcs = 0; depth = 0 }

-- A refused call: 01's number, side and place, else zeros.
abbrev pub refused : Refusal → Answer
refused x = record { refusal = number_of x.rule; side = number_of_side x.side; place = x.place; value = 0; searched = 0; arcs = 0; depth = 0 }

-- Check: the fold of the molecule.
abbrev pub check_in_c : Checked → Answer
check_in_c (Ok f) = accepted 0 0 f
check_in_c (Err x) = refused x

-- Length and show: the length of the prefix, and the fold of the molecule.
abbrev pub match_in_c : Matched → Answer
match_in_c (Ok r) = accepted r.length 0 r.fold
match_in_c (Err x) = refused x

-- An accepted window: refusal number 0, 1 or 0 for whether a window was found, its start and length, and the fold of the molecule.
abbrev pub accepted_window : ℕ → ℕ → ℕ → Fold → WindowAnswer
accepted_window found start size f =
    record { refusal = 0; side = 0; place = 0; found = found; start = start; length = size; arcs = f.arcs; depth = f.depth }

-- A refused window: 01's number, side and place, else zeros.
abbrev pub refused_window : Refusal → WindowAnswer
refused_window x =
    record { refusal = number_of x.rule; side = number_of_side x.side; place = x.place; found = 0; start = 0; length = 0; arcs = 0; depth = 0 }

-- Window: 1 with start and length of the window, or zeros in these three where there is none; in both cases the fold of the molecule.
abbrev pub found_in_c : Option Window → Fold → WindowAnswer
found_in_c (Some window) f = accepted_window 1 window.start window.length f
found_in_c None f = accepted_window 0 0 0 f

abbrev pub window_in_c : Windowed → WindowAnswer
window_in_c (Ok r) = found_in_c r.window r.fold
window_in_c (Err x) = refused_window x

-- Verify: 1 for yes, 0 for no, and the fold of the molecule.
abbrev pub verify_in_c : VerifyAnswer → Answer
verify_in_c (Ok r) = accepted (cond r.embeds 1 0) 0 r.fold
verify_in_c (Err x) = refused x

-- Add: the fold of the molecule, as check tells it.
abbrev pub add_in_c : Added → Answer
add_in_c a = check_in_c a

-- Remove.
abbrev pub remove_in_c : Removed → Answer
remove_in_c (Ok u) = accepted 0 0 no_fold
remove_in_c (Err x) = refused x

-- Query: the count of hits, and how many molecules were searched.
abbrev pub query_in_c : Queried → Answer
query_in_c (Ok h) = accepted h.count h.searched no_fold
query_in_c (Err x) = refused x

-- An accepted batch: refusal number 0, how many molecules were read, and for each motif its count of hits and its searched number.
abbrev pub accepted_batch : ℕ → List ℕ → List ℕ → BatchAnswer
accepted_batch read counts searched = record { refusal = 0; side = 0; place = 0; read = read; counts = counts; searched = searched }

-- A refused batch: number, side and place as 01 and 02 have them, nothing read, and the numbers of the motifs as the call has them, zeros.
abbrev pub refused_batch : Refusal → List ℕ → List ℕ → BatchAnswer
refused_batch x counts searched =
    record { refusal = number_of x.rule; side = number_of_side x.side; place = x.place; read = 0; counts = counts; searched = searched }

-- Batch: by how it ended, with the numbers of the motifs.
abbrev pub batch_read_in_c : BatchRead → List ℕ → List ℕ → BatchAnswer
batch_read_in_c (Ok read) counts searched = accepted_batch read counts searched
batch_read_in_c (Err x) counts searched = refused_batch x counts searched

abbrev pub batch_in_c : Batched → BatchAnswer
batch_in_c a = batch_read_in_c a.read a.counts a.searched

-- The effect of add or remove as C sees it: the struct in place of the answer, and both buffers afterwards.
unfoldable pub effect_in_c : {A : Type 0} → (A → Answer) → Effect A → Effect Answer
effect_in_c in_c e = effect (in_c e.answer) e.catalog e.cache

-- The effect of query as C sees it: the struct, the cache and the slice of the hits afterwards.
pub record QueryEffectInC : Type 0 where
  pub answer : Answer
  pub cache : List ℕ
  pub hits : List ℕ

abbrev pub queried_in_c : Answer → List ℕ → List ℕ → QueryEffectInC
queried_in_c answer cache hits = record { answer = answer; cache = cache; hits = hits }

unfoldable pub query_effect_in_c : QueryEffect → QueryEffectInC
query_effect_in_c e = queried_in_c (query_in_c e.answer) e.cache e.hits

-- The effect of batch as C sees it: the struct, the cache and the slice of the hits afterwards.
pub record BatchEffectInC : Type 0 where
  pub answer : BatchAnswer
  pub cache : List ℕ
  pub hits : List ℕ

abbrev pub batched_in_c : BatchAnswer → List ℕ → List ℕ → BatchEffectInC
batched_in_c answer cache hits = record { answer = answer; cache = cache; hits = hits }

unfoldable pub batch_effect_in_c : BatchEffect → BatchEffectInC
batch_effect_in_c e = batched_in_c (batch_in_c e.answer) e.cache e.hits
