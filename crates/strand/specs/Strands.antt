-- Strands: what molecules and motifs are made of, when one is nested and when proper, what it is refused for; the key of a motif.
use Rattle.std.specs.Prelude.{ℕ, ◌+◌, ◌≤◌, ◌<◌, ◌≡◌, ◌↔◌, Bool, true, not, ◌&&◌, List, [], ◌∷◌, ltb, leb, eqb, length, Result, Ok, Err}
use Rattle.lists.specs.Vocabulary.{nth, some, all, same_list, total}
use Rattle.letters.specs.Letters.{is_letter, not_letter, ReadAlike}
use Rattle.refusals.specs.declared.Side.{Side}
use Rattle.refusals.specs.declared.Refusal.{Refusal}
use Rattle.refusals.specs.Rules.{motif_side, molecule_side, unequal_lengths, no_bases, too_long, bad_letter, bad_mate, mates_not_mutual, arcs_cross, refuse_if}
use Rattle.refusals.specs.Rules.{Verdict, refuse_at_lowest, first, by_verdict}
use Rattle.strand.specs.declared.Fold.{Fold}
use Rattle.strand.specs.Folds.{fold_of, IsFold}

-- A molecule or a motif: bases as bytes, and for each base its mate, which is its own position where the base has no bond.
pub record Strand : Type 0 where
  pub bases : List ℕ
  pub mates : List ℕ

abbrev pub strand_of : List ℕ → List ℕ → Strand
strand_of bs ms = record { bases = bs; mates = ms }

-- 02, (iii): the motif with no bases.
abbrev pub empty_motif : Strand
empty_motif = strand_of [] []

-- The same bases, byte by byte, and the same mates: T and U are two letters here.
unfoldable pub same_strand : Strand → Strand → Bool
same_strand p q = same_list p.bases q.bases && same_list p.mates q.mates

-- 02, (vi), "T reads as U": two spellings of a strand. Where a letter differs they are two motifs for the cache; rules 1 to 7 and every search take them
-- alike.
pub record Respelled (p q : Strand) : Type 0 where
  pub bases : ReadAlike p.bases q.bases
  pub mates : q.mates ≡ p.mates

-- The key of a motif: the sum of its base bytes and its mates.
unfoldable pub key : Strand → ℕ
key p = total p.bases + total p.mates

-- The mate of i is at or above the length.
unfoldable pub mate_outside : List ℕ → ℕ → Bool
mate_outside mates i = leb (length mates) (nth mates i)

-- The mate of i's mate is not i.
unfoldable pub not_mutual : List ℕ → ℕ → Bool
not_mutual mates i = not (eqb (nth mates (nth mates i)) i)

-- The arcs (a, b) and (i, j) cross.
unfoldable pub crosses : ℕ → ℕ → ℕ → ℕ → Bool
crosses a b i j = ltb a i && ltb i b && ltb b j

-- An arc that begins below i crosses the arc that begins at i.
unfoldable pub crossed_at : List ℕ → ℕ → Bool
crossed_at mates i = some i (λ a. crosses a (nth mates a) i (nth mates i))

-- The mates are in range and mutual, and no two arcs cross.
unfoldable pub is_nested : List ℕ → Bool
is_nested mates =
    not (some (length mates) (mate_outside mates)) && not (some (length mates) (not_mutual mates)) && not (some (length mates) (crossed_at mates))

-- The same as propositions: `mate i` is the mate of base i, n the number of bases. The mates are in range.
abbrev pub Inside : (ℕ → ℕ) → ℕ → Type 0
Inside mate n = (i : ℕ) → i < n → mate i < n

-- The mates are mutual.
abbrev pub Paired : (ℕ → ℕ) → ℕ → Type 0
Paired mate n = (i : ℕ) → i < n → mate (mate i) ≡ i

-- No two arcs cross.
abbrev pub Apart : (ℕ → ℕ) → ℕ → Type 0
Apart mate n = (a i : ℕ) → i < n → a < i → i < mate a → mate a < mate i → ⊥

-- The mates are nested.
pub record Nested (mate : ℕ → ℕ) (n : ℕ) : Type 0 where
  pub inside : Inside mate n
  pub paired : Paired mate n
  pub apart : Apart mate n

-- A nested strand of letters whose length lies within the limits.
pub record Proper (side : Side) (least greatest : ℕ) (bases mates : List ℕ) : Type 0 where
  pub same : length mates ≡ length bases
  pub enough : least ≤ length bases
  pub small : length bases ≤ greatest
  pub letters : all (is_letter side) bases ≡ true
  pub nested : Nested (nth mates) (length bases)

-- Rules 1 to 7 for a strand of one side whose length has limits.
unfoldable pub strand_verdict : Side → ℕ → ℕ → List ℕ → List ℕ → Verdict
strand_verdict side least greatest bases mates =
    first
    (refuse_if unequal_lengths side (not (eqb (length mates) (length bases)))
    ∷ refuse_if no_bases side (ltb (length bases) least)
    ∷ refuse_if too_long side (ltb greatest (length bases))
    ∷ refuse_at_lowest bad_letter side (length bases) (not_letter side bases)
    ∷ refuse_at_lowest bad_mate side (length mates) (mate_outside mates)
    ∷ refuse_at_lowest mates_not_mutual side (length mates) (not_mutual mates)
    ∷ refuse_at_lowest arcs_cross side (length mates) (crossed_at mates)
    ∷ [])

-- 01, lengths: a molecule has 1 base at the least. 02, (iii): a motif may have none, and refusal 2 "remains for molecules only".
abbrev pub least_molecule : ℕ
least_molecule = 1

abbrev pub least_motif : ℕ
least_motif = 0

-- 01, lengths: 4,096 at the most in the direct calls.
abbrev pub greatest_length : ℕ
greatest_length = 4096

-- The rules of the call check: a molecule.
unfoldable pub check_verdict : List ℕ → List ℕ → Verdict
check_verdict bases mates = strand_verdict molecule_side least_molecule greatest_length bases mates

-- It is accepted exactly where no rule applies. 01, Check: it "accepts a nested molecule", of 1 to 4,096 letters, and nothing else.
abbrev pub CheckAccepts : List ℕ → List ℕ → Type 0
CheckAccepts bases mates = (check_verdict bases mates ≡ Ok tt) ↔ Proper molecule_side least_molecule greatest_length bases mates

-- An answer of the check: a refusal, or the fold of the molecule.
abbrev pub Checked : Type 0
Checked = Result Fold Refusal

-- Its answer. 02, (i): the check of a molecule "also answers the number of arcs and the depth".
unfoldable pub check_answer : List ℕ → List ℕ → Checked
check_answer bases mates = by_verdict (check_verdict bases mates) Err (Ok (fold_of mates))

-- The answer r is that the molecule is nested, with f, exactly when it is a nested one of 1 to 4,096 letters and f is its number of arcs and its depth.
abbrev pub CheckSays : List ℕ → List ℕ → Checked → Type 0
CheckSays bases mates r = (f : Fold) → (r ≡ Ok f) ↔ (Proper molecule_side least_molecule greatest_length bases mates × IsFold mates f)

-- What the direct calls on a motif and a molecule refuse first: the motif, then the molecule.
unfoldable pub pair_verdict : List ℕ → List ℕ → List ℕ → List ℕ → Verdict
pair_verdict p pm q qm =
    first
    (strand_verdict motif_side least_motif greatest_length p pm
    ∷ strand_verdict molecule_side least_molecule greatest_length q qm
    ∷ [])

-- A motif of at most 4,096 letters and a molecule of 1 to 4,096, both nested: what they let pass.
pub record Pair (p pm q qm : List ℕ) : Type 0 where
  pub motif : Proper motif_side least_motif greatest_length p pm
  pub molecule : Proper molecule_side least_molecule greatest_length q qm
