-- From a call's own statement to the statement for C: the struct in place of the answer, beside the effect on the buffers.
use Prim.Native.Nat.{ℕ}
use mathlib.Core.Path.{◌≡◌, ap, ◌∙◌}
use mathlib.Core.List.{List}
use Rattle.calls.specs.Answers.{Queried}
use Rattle.calls.specs.declared.Batched.{Batched}
use Rattle.calls.specs.Calls.{Effect, effect, QueryEffect, queried}
use Rattle.calls.specs.Batch.{BatchEffect, batched}
use Rattle.interface.specs.declared.Answer.{Answer}
use Rattle.interface.specs.declared.BatchAnswer.{BatchAnswer}
use Rattle.interface.specs.Interface.{effect_in_c, query_in_c, queried_in_c, query_effect_in_c, batch_in_c, batched_in_c, batch_effect_in_c}

pub effect_in_c_lem
    : {A : Type 0} (in_c : A → Answer) {r : Answer} {a : A} {catalog cache : List ℕ} {e : Effect A}
    → r ≡ in_c a → effect a catalog cache ≡ e → effect r catalog cache ≡ effect_in_c in_c e
unfolding effect_in_c
effect_in_c_lem in_c {catalog = catalog} {cache = cache} same outcome = ap (λ x. effect x catalog cache) same ∙ ap (effect_in_c in_c) outcome

pub query_in_c_lem
    : {r : Answer} {a : Queried} {cache hits : List ℕ} {e : QueryEffect}
    → r ≡ query_in_c a → queried a cache hits ≡ e → queried_in_c r cache hits ≡ query_effect_in_c e
unfolding query_effect_in_c
query_in_c_lem {cache = cache} {hits = hits} same effect = ap (λ x. queried_in_c x cache hits) same ∙ ap query_effect_in_c effect

pub batch_in_c_lem
    : {r : BatchAnswer} {a : Batched} {cache hits : List ℕ} {e : BatchEffect}
    → r ≡ batch_in_c a → batched a cache hits ≡ e → batched_in_c r cache hits ≡ batch_effect_in_c e
unfolding batch_effect_in_c
batch_in_c_lem {cache = cache} {hits = hits} same effect = ap (λ x. batched_in_c x cache hits) same ∙ ap batch_effect_in_c effect
