-- What is claimed of these definitions, for all lists; `claims`, in proofs/Claims, proves it.
use Rattle.std.specs.Prelude.{ℕ, ◌≤◌, ◌<◌, ◌≡◌, Bool, true, false, ◌↔◌, List, [], length, Ok, Err}
use Rattle.lists.specs.Vocabulary.{nth, lowest}
use Rattle.refusals.specs.declared.Side.{Side}
use Rattle.refusals.specs.declared.Refusal.{Refusal}
use Rattle.refusals.specs.Rules.{motif_side, Refuses, TableSides}
use Rattle.letters.specs.Letters.{ReadAlike}
use Rattle.strand.specs.declared.Fold.{Fold}
use Rattle.strand.specs.Folds.{arc_count, depth_of, fold_of, IsArcCount, IsDepth, IsFold}
use Rattle.strand.specs.Strands.{is_nested, Nested, Proper, strand_verdict, check_verdict, check_answer, CheckAccepts, CheckSays}
use Rattle.strand.specs.Strands.{Strand, same_strand, empty_motif, least_motif, pair_verdict, key}

-- 01, Molecule and motif: the test of the mates passes exactly when they are in range and mutual and no two arcs cross.
abbrev pub NestedSays : List ℕ → Type 0
NestedSays mates = (is_nested mates ≡ true) ↔ Nested (nth mates) (length mates)

-- Rules 1 to 7 let a strand pass exactly when it is proper: a nested strand of letters whose length lies within the limits.
abbrev pub StrandSays : Side → ℕ → ℕ → List ℕ → List ℕ → Type 0
StrandSays side least greatest bases mates =
    (strand_verdict side least greatest bases mates ≡ Ok tt) ↔ Proper side least greatest bases mates

-- Where rules 1 to 7 refuse a strand, the refusal has the side that they are given.
abbrev pub SideSays : Side → ℕ → ℕ → List ℕ → List ℕ → Type 0
SideSays side least greatest bases mates = (r : Refusal) → strand_verdict side least greatest bases mates ≡ Err r → r.side ≡ side

-- The place that a rule names: the test passes there, and nowhere below. It is n where the test passes nowhere.
pub record LowestSays (n : ℕ) (test : ℕ → Bool) : Type 0 where
  pub upto : lowest n test ≤ n
  pub passes : lowest n test < n → test (lowest n test) ≡ true
  pub below : (i : ℕ) → i < lowest n test → test i ≡ false

-- 02, (iii), of the motif with no bases: rules 1 to 7 let it pass; so a direct call on it refuses first what check refuses of the molecule. Its key is 0.
pub record EmptyMotifSays : Type 0 where
  pub passes : (greatest : ℕ) → strand_verdict motif_side least_motif greatest [] [] ≡ Ok tt
  pub pair : (q qm : List ℕ) → pair_verdict [] [] q qm ≡ check_verdict q qm
  pub key_0 : key empty_motif ≡ 0

-- 02, (vi): rules 1 to 7 take two spellings of the same bases alike: both are accepted, or both are refused with the same number, side and place.
abbrev pub RespelledVerdict : List ℕ → List ℕ → List ℕ → Type 0
RespelledVerdict a b mates =
    ReadAlike a b → (side : Side) (least greatest : ℕ) → strand_verdict side least greatest a mates ≡ strand_verdict side least greatest b mates

-- 02, (i), for all mates, nested or not: `arc_count` and `depth_of` are the number of arcs and the depth as the propositions say them, and no other fold is;
-- the depth is "0 without arcs".
pub record FoldSays (mates : List ℕ) : Type 0 where
  pub arcs : IsArcCount mates (arc_count mates)
  pub depth : IsDepth mates (depth_of mates)
  pub only : (f : Fold) → IsFold mates f → f ≡ fold_of mates
  pub without : arc_count mates ≡ 0 → depth_of mates ≡ 0

-- All the claims.
pub record Claims : Type 0 where
  pub nested_says : (mates : List ℕ) → NestedSays mates
  pub strand_says : (side : Side) (least greatest : ℕ) (bases mates : List ℕ) → StrandSays side least greatest bases mates
  pub side_says : (side : Side) (least greatest : ℕ) (bases mates : List ℕ) → SideSays side least greatest bases mates
  pub check_accepts : (bases mates : List ℕ) → CheckAccepts bases mates
  pub check_says : (bases mates : List ℕ) → CheckSays bases mates (check_answer bases mates)
  pub check_refuses : (bases mates : List ℕ) → Refuses (check_verdict bases mates) Err (check_answer bases mates)
  pub check_sides : (bases mates : List ℕ) → TableSides (check_verdict bases mates)
  pub empty_motif_says : EmptyMotifSays
  pub fold_says : (mates : List ℕ) → FoldSays mates
  -- 02, (vi): "the shelf still compares motifs byte by byte": two motifs are the same for it exactly when all their bytes and mates are
  pub same_says : (p q : Strand) → (same_strand p q ≡ true) ↔ (p ≡ q)
  pub respelled_verdict : (a b mates : List ℕ) → RespelledVerdict a b mates
  pub check_respelled : (a b mates : List ℕ) → ReadAlike a b → check_answer a mates ≡ check_answer b mates
  pub lowest_says : (n : ℕ) (test : ℕ → Bool) → LowestSays n test
