-- The table of refusals: its rules and sides with their numbers, a refusal with rule, side and place, the first rule that applies; and the work slice.
use Rattle.std.specs.Prelude.{ℕ, ◌+◌, ◌*◌, ◌≤◌, ◌<◌, List, [], ◌∷◌, Bool, ltb, ◌≡◌, ◌↔◌, length, Result, Ok, Err}
use Rattle.lists.specs.Vocabulary.{choose, lowest}
use Rattle.refusals.specs.declared.Rule.{Rule}
use Rattle.refusals.specs.declared.Rule.TheVariants.{UnequalLengths, NoBases, TooLong, BadLetter, BadMate, MatesNotMutual, ArcsCross, WorkTooShort}
use Rattle.refusals.specs.declared.Rule.TheVariants.{WrongSlice, NotWholeBlocks, UnsoundBlock, NumberTooLarge, AlreadyHeld, NotHeld, BadMotifs}
use Rattle.refusals.specs.declared.Side.{Side}
use Rattle.refusals.specs.declared.Side.TheVariants.{Motif, Molecule, Neither, Other}
use Rattle.refusals.specs.declared.Refusal.{Refusal}

-- The rules of the table.
abbrev pub unequal_lengths : Rule
unequal_lengths = UnequalLengths

abbrev pub no_bases : Rule
no_bases = NoBases

abbrev pub too_long : Rule
too_long = TooLong

abbrev pub bad_letter : Rule
bad_letter = BadLetter

abbrev pub bad_mate : Rule
bad_mate = BadMate

abbrev pub mates_not_mutual : Rule
mates_not_mutual = MatesNotMutual

abbrev pub arcs_cross : Rule
arcs_cross = ArcsCross

abbrev pub work_too_short : Rule
work_too_short = WorkTooShort

abbrev pub wrong_slice : Rule
wrong_slice = WrongSlice

abbrev pub not_whole_blocks : Rule
not_whole_blocks = NotWholeBlocks

abbrev pub unsound_block : Rule
unsound_block = UnsoundBlock

abbrev pub number_too_large : Rule
number_too_large = NumberTooLarge

abbrev pub already_held : Rule
already_held = AlreadyHeld

abbrev pub not_held : Rule
not_held = NotHeld

-- 02, (v): the motif buffer of a batch.
abbrev pub bad_motifs : Rule
bad_motifs = BadMotifs

-- The numbers of the table.
abbrev pub number_of : Rule → ℕ
number_of UnequalLengths = 1
number_of NoBases = 2
number_of TooLong = 3
number_of BadLetter = 4
number_of BadMate = 5
number_of MatesNotMutual = 6
number_of ArcsCross = 7
number_of WorkTooShort = 8
number_of WrongSlice = 9
number_of NotWholeBlocks = 10
number_of UnsoundBlock = 11
number_of NumberTooLarge = 12
number_of AlreadyHeld = 13
number_of NotHeld = 14
number_of BadMotifs = 15

-- The sides: a motif, a molecule, neither.
abbrev pub motif_side : Side
motif_side = Motif

abbrev pub molecule_side : Side
molecule_side = Molecule

abbrev pub no_side : Side
no_side = Neither

-- Their numbers; any other number is a side that the table does not have.
abbrev pub number_of_side : Side → ℕ
number_of_side Motif = 0
number_of_side Molecule = 1
number_of_side Neither = 2
number_of_side (Other number) = number

-- What the rules of a call come to: `Ok tt` where nothing is refused, else a refusal.
abbrev pub Verdict : Type 0
Verdict = Result Unit Refusal

-- A refusal: rule, side and place.
abbrev pub refusal : Rule → Side → ℕ → Verdict
refusal rule side place = Err (record { rule = rule; side = side; place = place })

-- A rule of the table (01: a row) that names no place: it refuses where its condition holds.
unfoldable pub refuse_if : Rule → Side → Bool → Verdict
refuse_if rule side applies = choose applies (refusal rule side 0) (Ok tt)

-- A rule that names the lowest place below n where its condition holds.
unfoldable pub refuse_at_lowest : Rule → Side → ℕ → (ℕ → Bool) → Verdict
refuse_at_lowest rule side n applies = choose (ltb (lowest n applies) n) (refusal rule side (lowest n applies)) (Ok tt)

-- The first refusal of a list of rules.
unfoldable pub first : List Verdict → Verdict
first [] = Ok tt
first (Ok u ∷ vs) = first vs
first (Err r ∷ vs) = Err r

-- What a verdict comes to: one value for each refusal, another where nothing is refused.
unfoldable pub by_verdict : {A : Type 0} → Verdict → (Refusal → A) → A → A
by_verdict (Ok u) refused accepted = accepted
by_verdict (Err r) refused accepted = refused r

-- A refusal of the table: "Numbers 1 to 7 have side 0 for a motif and 1 for a molecule; the others have side 2"; 02, (iii): "Refusal 2 remains for molecules
-- only"; the place is 0 where the table names none, which is with all but 4 to 7 and 11.
pub record Numbered (number side place : ℕ) : Type 0 where
  pub from : number_of unequal_lengths ≤ number
  pub upto : number ≤ number_of not_held
  pub of_strand : number ≤ number_of arcs_cross → side ≤ number_of_side molecule_side
  pub of_molecule : number ≡ number_of no_bases → side ≡ number_of_side molecule_side
  pub of_call : number_of arcs_cross < number → side ≡ number_of_side no_side
  pub early : number < number_of bad_letter → place ≡ 0
  pub late : number_of arcs_cross < number → (number ≡ number_of unsound_block → ⊥) → place ≡ 0

-- A refusal of a batch: one of these, or one of its motif buffer (02, (v)), "side 0": 15 or 3, with any place. (`MotifsRefuse` of crate calls says which.)
pub data BatchNumbered (number side place : ℕ) : Type 0 where
  of_table : Numbered number side place → BatchNumbered number side place
  of_motifs : number ≡ number_of bad_motifs → side ≡ number_of_side motif_side → BatchNumbered number side place
  of_long : number ≡ number_of too_long → side ≡ number_of_side motif_side → BatchNumbered number side place

-- The rules of a call give verdict v, and the call has this answer: every refusal of the rules is one of `table`, and the call answers a refusal exactly where
-- the rules refuse, and the same one.
pub record RefusesBy (table : ℕ → ℕ → ℕ → Type 0) {A : Type 0} (v : Verdict) (refused : Refusal → A) (answer : A) : Type 0 where
  pub numbered : (r : Refusal) → v ≡ Err r → table (number_of r.rule) (number_of_side r.side) r.place
  pub exactly : (r : Refusal) → (v ≡ Err r) ↔ (answer ≡ refused r)

-- One of the table's three sides, and not `Other`, whatever its number.
pub data TableSide (side : Side) : Type 0 where
  is_motif : side ≡ motif_side → TableSide side
  is_molecule : side ≡ molecule_side → TableSide side
  is_neither : side ≡ no_side → TableSide side

-- Every refusal that a verdict can be has one of these.
abbrev pub TableSides : Verdict → Type 0
TableSides v = (r : Refusal) → v ≡ Err r → TableSide r.side

-- The refusals of every call but batch.
abbrev pub Refuses : {A : Type 0} → Verdict → (Refusal → A) → A → Type 0
Refuses v refused answer = RefusesBy Numbered v refused answer

-- Where it answers a refusal, its two buffers are afterwards (a prime marks them) as they were before.
abbrev pub Keeps : {A : Type 0} → (Refusal → A) → A → List ℕ → List ℕ → List ℕ → List ℕ → Type 0
Keeps refused answer a b a' b' = (r : Refusal) → answer ≡ refused r → (a' ≡ a) × (b' ≡ b)

-- 01: a work slice of at least 64 × (m + 1) + 8 × n entries, for a motif of m and a molecule of n bases.
abbrev pub work_size : ℕ → ℕ → ℕ
work_size m n = 64 * (m + 1) + 8 * n

-- Rule 8: work too short.
abbrev pub work_rule : ℕ → ℕ → ℕ → Verdict
work_rule m n work = refuse_if work_too_short no_side (ltb work (work_size m n))

-- A refused call leaves the work slice as it was; after an accepted one it has its length, and its entries are free.
unfoldable pub WorkKept : Verdict → List ℕ → List ℕ → Type 0
WorkKept (Ok u) before after = length after ≡ length before
WorkKept (Err r) before after = after ≡ before
