-- Which refusals a list of rules can give, and that a call that goes by its verdict tells just these.
use Prim.Native.Nat.{ℕ, ◌≤◌, ◌<◌}
use native.Mathlib.Omega.{arith}
use mathlib.Core.Path.{◌≡◌, refl, sym, ap, ◌∙◌}
use mathlib.Core.Logic.{◌↔◌}
use mathlib.Core.Bool.{Bool, true, false}
use mathlib.Core.List.{List, [], ◌∷◌}
use lib.Dec.{ltb}
use Rattle.lists.specs.Vocabulary.{choose, lowest}
use Rattle.refusals.specs.declared.Refusal.{Refusal}
use Rattle.refusals.specs.declared.Rule.{Rule}
use Rattle.refusals.specs.declared.Side.{Side}
use Rattle.std.specs.Prelude.{Ok, Err}
use Rattle.refusals.specs.Rules.{number_of, number_of_side, no_bases, bad_letter, unsound_block, arcs_cross, not_held, molecule_side, work_too_short, no_side}
use Rattle.refusals.specs.Rules.{Verdict, refusal, refuse_if, refuse_at_lowest, first, by_verdict, Numbered, RefusesBy, Keeps, work_rule}
use Rattle.refusals.specs.Rules.{TableSide, is_neither, TableSides}
use Rattle.refusals.proofs.RuleLaws.{unrefused, by_accepted, by_refused}

-- What is said of every refusal that a verdict can be.
abbrev pub RefusalsBy : (Refusal → Type 0) → Verdict → Type 0
RefusalsBy said v = (r : Refusal) → v ≡ Err r → said r

-- That its numbers are in a table; in the table of every call but batch.
abbrev pub InTable : (ℕ → ℕ → ℕ → Type 0) → Refusal → Type 0
InTable table r = table (number_of r.rule) (number_of_side r.side) r.place

abbrev pub NumberingBy : (ℕ → ℕ → ℕ → Type 0) → Verdict → Type 0
NumberingBy table v = RefusalsBy (InTable table) v

abbrev pub Numbering : Verdict → Type 0
Numbering v = NumberingBy Numbered v

-- That this holds of its side.
abbrev pub OfSide : (Side → Type 0) → Refusal → Type 0
OfSide said r = said r.side

abbrev pub SidesBy : (Side → Type 0) → Verdict → Type 0
SidesBy said v = RefusalsBy (OfSide said) v

-- ---- rule by rule

module _ (said : Refusal → Type 0) where
  refusal_said : (rule : Rule) (side : Side) (place : ℕ) → said (record { rule = rule; side = side; place = place }) → RefusalsBy said (refusal rule side place)
  refusal_said rule side place ok r e = let same : ◌≡◌ {A = Refusal} (record { rule = rule; side = side; place = place }) r = cc in rw same at ok

  -- a rule that names no place; where it applies it must give a refusal of which this is said
  pub when_said : (rule : Rule) (side : Side) (b : Bool) → (b ≡ true → said (record { rule = rule; side = side; place = 0 }))
      → RefusalsBy said (refuse_if rule side b)
  unfolding refuse_if choose
  when_said rule side true ok r e = refusal_said rule side 0 (ok refl) r e
  when_said rule side false ok r e = absurd (unrefused r (sym e))

  -- a rule that names the lowest place
  pub lowest_said : (rule : Rule) (side : Side) → ((place : ℕ) → said (record { rule = rule; side = side; place = place })) → (n : ℕ) (p : ℕ → Bool)
      → RefusalsBy said (refuse_at_lowest rule side n p)
  unfolding refuse_at_lowest choose
  lowest_said rule side ok n p = go (ltb (lowest n p) n)
    where
      go : (b : Bool) → RefusalsBy said (choose b (refusal rule side (lowest n p)) (Ok tt))
      go true r e = refusal_said rule side (lowest n p) (ok (lowest n p)) r e
      go false r e = absurd (unrefused r (sym e))

  pub none_said : RefusalsBy said (first [])
  unfolding first
  none_said r e = absurd (unrefused r (sym e))

  pub first_said : (v : Verdict) (vs : List Verdict) → RefusalsBy said v → RefusalsBy said (first vs) → RefusalsBy said (first (v ∷ vs))
  unfolding first
  first_said (Ok u) vs a b = b
  first_said (Err x) vs a b = a

pub strand_number : (number side place : ℕ) → 1 ≤ number → number ≤ number_of arcs_cross → side ≤ number_of_side molecule_side
    → (number ≡ number_of no_bases → side ≡ number_of_side molecule_side) → (number < number_of bad_letter → place ≡ 0) → Numbered number side place
strand_number number side place a b c two d =
    record {
      from = a;
      upto = omega arith;
      of_strand = λ h. c;
      of_molecule = two;
      of_call = λ h. absurd (omega arith);
      early = d;
      late = λ h n. absurd (omega arith);
    }

pub call_number : (number place : ℕ) → 8 ≤ number → number ≤ number_of not_held → ((number ≡ number_of unsound_block → ⊥) → place ≡ 0)
    → Numbered number (number_of_side no_side) place
call_number number place a b d =
    record {
      from = omega arith;
      upto = b;
      of_strand = λ h. absurd (omega arith);
      of_molecule = λ h. absurd (omega arith);
      of_call = λ h. refl;
      early = λ h. absurd (omega arith);
      late = λ h n. d n;
    }

-- The same of a table.
module _ (table : ℕ → ℕ → ℕ → Type 0) where
  pub when_by : (rule : Rule) (side : Side) (b : Bool) → (b ≡ true → table (number_of rule) (number_of_side side) 0) → NumberingBy table (refuse_if rule side b)
  when_by rule side b ok = when_said (InTable table) rule side b ok

  pub lowest_by : (rule : Rule) (side : Side) → ((place : ℕ) → table (number_of rule) (number_of_side side) place) → (n : ℕ) (p : ℕ → Bool)
      → NumberingBy table (refuse_at_lowest rule side n p)
  lowest_by rule side ok n p = lowest_said (InTable table) rule side ok n p

  pub none_by : NumberingBy table (first [])
  none_by = none_said (InTable table)

  pub first_by : (v : Verdict) (vs : List Verdict) → NumberingBy table v → NumberingBy table (first vs) → NumberingBy table (first (v ∷ vs))
  first_by v vs a b = first_said (InTable table) v vs a b

-- The same of sides.
module _ (said : Side → Type 0) where
  pub when_side : (rule : Rule) (side : Side) (b : Bool) → said side → SidesBy said (refuse_if rule side b)
  when_side rule side b ok = when_said (OfSide said) rule side b (λ e. ok)

  pub lowest_side : (rule : Rule) (side : Side) (n : ℕ) (p : ℕ → Bool) → said side → SidesBy said (refuse_at_lowest rule side n p)
  lowest_side rule side n p ok = lowest_said (OfSide said) rule side (λ place. ok) n p

  pub none_side : SidesBy said (first [])
  none_side = none_said (OfSide said)

  pub first_side : (v : Verdict) (vs : List Verdict) → SidesBy said v → SidesBy said (first vs) → SidesBy said (first (v ∷ vs))
  first_side v vs a b = first_said (OfSide said) v vs a b

pub work_sides : (m n work : ℕ) → TableSides (work_rule m n work)
work_sides m n work = when_side TableSide work_too_short no_side _ (is_neither refl)

-- The same by the table of every call but batch.
module _ (rule : Rule) (side : Side) where
  pub when_numbered : (b : Bool) → (b ≡ true → Numbered (number_of rule) (number_of_side side) 0) → Numbering (refuse_if rule side b)
  when_numbered = when_by Numbered rule side

  pub if_numbered : Numbered (number_of rule) (number_of_side side) 0 → (b : Bool) → Numbering (refuse_if rule side b)
  if_numbered ok b = when_numbered b (λ e. ok)

  pub lowest_numbered : ((place : ℕ) → Numbered (number_of rule) (number_of_side side) place) → (n : ℕ) (p : ℕ → Bool)
      → Numbering (refuse_at_lowest rule side n p)
  lowest_numbered = lowest_by Numbered rule side

pub none_numbered : Numbering (first [])
none_numbered = none_by Numbered

pub first_numbered : (v : Verdict) (vs : List Verdict) → Numbering v → Numbering (first vs) → Numbering (first (v ∷ vs))
first_numbered = first_by Numbered

pub work_numbered : (m n work : ℕ) → Numbering (work_rule m n work)
work_numbered m n work = if_numbered work_too_short no_side (call_number 8 0 (omega arith) (omega arith) (λ n. refl)) _

-- A call that comes to a value by its verdict, of which `answer` is read: refusals have different answers, and no other answer is one of them.
module _ {E A : Type 0} (v : Verdict) (f : Refusal → E) (x : E) (answer : E → A) (refused : Refusal → A) (tells : (r : Refusal) → answer (f r) ≡ refused r)
    (apart : (r : Refusal) → answer x ≡ refused r → ⊥) where
  pub refuses_by : {table : ℕ → ℕ → ℕ → Type 0} → NumberingBy table v → ((r s : Refusal) → refused r ≡ refused s → r ≡ s)
      → RefusesBy table v refused (answer (by_verdict v f x))
  refuses_by ok one = record { numbered = ok; exactly = go v }
    where
      go : (w : Verdict) (r : Refusal) → (w ≡ Err r) ↔ (answer (by_verdict w f x) ≡ refused r)
      go (Ok u) r = ((λ e. absurd (unrefused r (sym e))), (λ e. absurd (apart r (sym (ap answer (by_accepted (Ok u) f x refl)) ∙ e))))
      go (Err s) r = (
        (λ e. let z : s ≡ r = cc in ap answer (by_refused (Err s) f x s refl) ∙ tells s ∙ ap refused z),
        (λ e. ap Err (one s r (sym (ap answer (by_refused (Err s) f x s refl) ∙ tells s) ∙ e))),
      )

  -- and a refusal leaves the two buffers as it found them
  pub keeps_by : (one two : E → List ℕ) (a b : List ℕ) → ((r : Refusal) → one (f r) ≡ a) → ((r : Refusal) → two (f r) ≡ b)
      → Keeps refused (answer (by_verdict v f x)) a b (one (by_verdict v f x)) (two (by_verdict v f x))
  keeps_by one two a b same_one same_two = go v
    where
      go : (w : Verdict) → Keeps refused (answer (by_verdict w f x)) a b (one (by_verdict w f x)) (two (by_verdict w f x))
      go (Ok u) r e = absurd (apart r (sym (ap answer (by_accepted (Ok u) f x refl)) ∙ e))
      go (Err s) r e = let w = by_refused (Err s) f x s refl in (ap one w ∙ same_one s, ap two w ∙ same_two s)
