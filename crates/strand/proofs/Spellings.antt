-- Two spellings of the same bases: rules 1 to 7 read of the bases how many they are and which are no letters, and both are the same.
use Prim.Native.Nat.{ℕ}
use mathlib.Core.Path.{◌≡◌, refl, ap₂, fun_ext}
use mathlib.Core.List.{List, [], ◌∷◌}
use Rattle.letters.specs.Letters.{not_letter, ReadAlike}
use Rattle.letters.proofs.LetterLaws.{alike_letter}
use Rattle.refusals.specs.declared.Side.{Side}
use Rattle.refusals.specs.Rules.{Verdict, motif_side, molecule_side, first}
use Rattle.strand.specs.Strands.{strand_verdict, check_verdict, check_answer, pair_verdict, least_motif, least_molecule, greatest_length}

pub alike_verdict : {a b : List ℕ} → ReadAlike a b → (side : Side) (least greatest : ℕ) (ms : List ℕ)
    → strand_verdict side least greatest a ms ≡ strand_verdict side least greatest b ms
unfolding strand_verdict
alike_verdict {a} {b} R side least greatest ms =
    let other : not_letter side a ≡ not_letter side b = fun_ext (λ x. alike_letter R x side) in
    rw (R.many, other) refl

pub alike_check : {q q' : List ℕ} → ReadAlike q q' → (qm : List ℕ) → check_answer q qm ≡ check_answer q' qm
unfolding check_answer check_verdict
alike_check R qm = rw (alike_verdict R molecule_side least_molecule greatest_length qm) refl

pub alike_pair : {p p' q q' : List ℕ} → ReadAlike p p' → ReadAlike q q' → (pm qm : List ℕ) → pair_verdict p pm q qm ≡ pair_verdict p' pm q' qm
unfolding pair_verdict
alike_pair P Q pm qm =
    ap₂ (λ (u v : Verdict). first (u ∷ v ∷ [])) (alike_verdict P motif_side least_motif greatest_length pm)
    (alike_verdict Q molecule_side least_molecule greatest_length qm)
