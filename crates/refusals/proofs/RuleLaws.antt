-- Rules one after the other: when one refuses, when it passes, and what follows of a list that accepts.
use mathlib.Core.Path.{◌≡◌, refl, sym, ap, ◌∙◌}
use mathlib.Core.Bool.{Bool, true, false}
use mathlib.Core.List.{List, [], ◌∷◌}
use Prim.Native.Nat.{ℕ, ◌<◌, ◌≤◌}
use native.Mathlib.Omega.{arith}
use lib.Dec.{ltb}
use lib.ListN.{length}
use borrow.Author.Tests.{lt-ltb, le-ltb, ltb-false}
use Rattle.lists.specs.Vocabulary.{choose, lowest}
use Rattle.lists.proofs.ListLaws.{lowest_before}
use Rattle.refusals.specs.declared.Refusal.{Refusal}
use Rattle.refusals.specs.declared.Rule.{Rule}
use Rattle.refusals.specs.declared.Side.{Side}
use Rattle.std.specs.Prelude.{Result, Ok, Err}
use Rattle.std.specs.Result.{IsErrAnd}
use Rattle.std.proofs.lemmas.Result.{err_from_is_err_and}
use Rattle.refusals.specs.Rules.{Verdict, WorkKept, refusal, refuse_if, refuse_at_lowest, first, by_verdict}

pub unrefused : (x : Refusal) → ◌≡◌ {A = Verdict} (Err x) (Ok tt) → ⊥
unrefused x e = cc

pub first_one : (v : Verdict) → first (v ∷ []) ≡ v
unfolding first
first_one (Ok u) = refl
first_one (Err x) = refl

pub first_pass : (v : Verdict) (vs : List Verdict) → first (v ∷ vs) ≡ Ok tt → (v ≡ Ok tt) × (first vs ≡ Ok tt)
unfolding first
first_pass (Ok u) vs e = (refl, e)
first_pass (Err x) vs e = absurd (unrefused x e)

module _ (rule : Rule) (side : Side) where
  pub rule_yes : (b : Bool) → b ≡ true → refuse_if rule side b ≡ refusal rule side 0
  unfolding refuse_if choose
  rule_yes b e = rw e

  pub rule_no : (b : Bool) → b ≡ false → refuse_if rule side b ≡ Ok tt
  unfolding refuse_if choose
  rule_no b e = rw e

  pub rule_pass : (b : Bool) → refuse_if rule side b ≡ Ok tt → b ≡ false
  unfolding refuse_if choose
  rule_pass true e = absurd (unrefused _ e)
  rule_pass false e = refl

  pub rule_at_yes : (n : ℕ) (p : ℕ → Bool) (i : ℕ) → i ≡ lowest n p → i < n → refuse_at_lowest rule side n p ≡ refusal rule side i
  unfolding refuse_at_lowest choose
  rule_at_yes n p i e l = rw (← e, lt-ltb i n l)

  pub rule_at_no : (n : ℕ) (p : ℕ → Bool) (i : ℕ) → i ≡ lowest n p → n ≤ i → refuse_at_lowest rule side n p ≡ Ok tt
  unfolding refuse_at_lowest choose
  rule_at_no n p i e l = rw (← e, le-ltb i n l)

  pub rule_at_pass : (n : ℕ) (p : ℕ → Bool) → refuse_at_lowest rule side n p ≡ Ok tt → (i : ℕ) → i < n → p i ≡ false
  unfolding refuse_at_lowest choose
  rule_at_pass n p e i l = go (ltb (lowest n p) n) refl
    where
      go : (b : Bool) → ltb (lowest n p) n ≡ b → p i ≡ false
      go false q = lowest_before p n i (let z : n ≤ lowest n p = ltb-false (lowest n p) n q in omega arith) l
      go true q = absurd (unrefused _ (rw q at e))

pub first_second : (a b : Verdict) → a ≡ Ok tt → b ≡ first (a ∷ b ∷ [])
unfolding first
first_second a b e = rw e (sym (first_one b))

-- A rule that passes gives way to the next; one that refuses is the answer.
pub first_skip : (v : Verdict) (vs : List Verdict) → v ≡ Ok tt → first (v ∷ vs) ≡ first vs
unfolding first
first_skip v vs e = rw e

-- a rule that accepts behind another may be left out
pub first_without : (v : Verdict) (vs : List Verdict) → first (v ∷ Ok tt ∷ vs) ≡ first (v ∷ vs)
unfolding first
first_without (Ok u) vs = refl
first_without (Err r) vs = refl

pub first_stop : (v : Verdict) (vs : List Verdict) (r : Refusal) → v ≡ Err r → first (v ∷ vs) ≡ Err r
unfolding first
first_stop v vs r e = rw e

-- What a call leaves in the work slice.
pub work_refused : (v : Verdict) (r : Refusal) (w : List ℕ) → v ≡ Err r → WorkKept v w w
unfolding WorkKept
work_refused v r w e = rw e

pub work_accepted : (v : Verdict) (w w' : List ℕ) → v ≡ Ok tt → length w' ≡ length w → WorkKept v w w'
unfolding WorkKept
work_accepted v w w' e k = rw e k

-- What a verdict comes to.
pub by_accepted : {A : Type 0} (v : Verdict) (f : Refusal → A) (x : A) → v ≡ Ok tt → by_verdict v f x ≡ x
unfolding by_verdict
by_accepted v f x e = rw e

pub by_refused : {A : Type 0} (v : Verdict) (f : Refusal → A) (x : A) (r : Refusal) → v ≡ Err r → by_verdict v f x ≡ f r
unfolding by_verdict
by_refused v f x r e = rw e

-- What the exit of a `?` returns: the refusal of the call before it.
pub handed_on : {A : Type 0} (answer : Result A Refusal) {x : Refusal} → IsErrAnd answer (λ y. y ≡ x) → answer ≡ Err x
handed_on answer h = let p = err_from_is_err_and answer h in p.1 ∙ ap Err p.2
