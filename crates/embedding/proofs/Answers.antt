-- The answers of tests: negated, made of others, and what a choice by one comes to.
use mathlib.Core.Path.{◌≡◌, refl, sym, ◌∙◌}
use mathlib.Core.Bool.{Bool, true, false, not, ◌&&◌, true≢false}
use Rattle.lists.specs.Vocabulary.{choose}
use Rattle.lists.proofs.ListLaws.{Tells, choose_yes, choose_no}

pub tells_yes : {A : Type 0} → A → Tells true A
tells_yes a = record { yes = λ e. a; no = λ e. absurd (true≢false e) }

pub tells_no : {A : Type 0} → (A → ⊥) → Tells false A
tells_no n = record { yes = λ e. absurd (true≢false (sym e)); no = λ e. n }

pub tells_same : {A B : Type 0} (b : Bool) → (A → B) → (B → A) → Tells b A → Tells b B
tells_same b f g T = record { yes = λ e. f (T.yes e); no = λ e x. T.no e (g x) }

pub tells_not : {A B : Type 0} (b : Bool) → (A → B → ⊥) → ((A → ⊥) → B) → Tells b A → Tells (not b) B
tells_not true n y T = tells_no (n (T.yes refl))
tells_not false n y T = tells_yes (y (T.no refl))

pub and_of : {a b : Bool} → a ≡ true → b ≡ true → a && b ≡ true
and_of p q = rw (p, q)

pub not_true_is : (b : Bool) → (b ≡ true → ⊥) → b ≡ false
not_true_is true n = absurd (n refl)
not_true_is false n = refl

-- A choice by a test, case by case.
pub by_test : {A : Type 0} (P : A → Type 0) (t : Bool) {x y : A} → (t ≡ true → P x) → (t ≡ false → P y) → P (choose t x y)
by_test P true {x} {y} f g = rw (choose_yes true x y refl) (f refl)
by_test P false {x} {y} f g = rw (choose_no false x y refl) (g refl)

-- A test that failed and passed.
pub clash : {t : Bool} → t ≡ false → t ≡ true → ⊥
clash p q = true≢false (sym q ∙ p)
