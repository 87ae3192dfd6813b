-- Add, remove and query tell a refusal of the table exactly where their rules refuse, and change nothing there.
use Rattle.std.specs.Prelude.{Ok, Err}
use Prim.Native.Nat.{ℕ}
use native.Mathlib.Omega.{arith}
use mathlib.Core.Path.{◌≡◌, refl}
use mathlib.Core.Bool.{Bool}
use mathlib.Core.List.{List}
use lib.ListN.{length}
use Rattle.strand.specs.Folds.{fold_of}
use Rattle.strand.specs.Strands.{Strand, least_motif, least_molecule}
use Rattle.refusals.specs.Rules.{motif_side, molecule_side, no_side, wrong_slice, not_whole_blocks, unsound_block, number_too_large, already_held, not_held}
use Rattle.refusals.specs.Rules.{refuse_if, Refuses, Keeps, TableSide, is_motif, is_molecule, is_neither, TableSides}
use Rattle.refusals.proofs.Refusing.{Numbering, call_number, if_numbered, lowest_numbered, none_numbered, first_numbered, work_numbered, refuses_by}
use Rattle.refusals.proofs.Refusing.{keeps_by, when_side, lowest_side, none_side, first_side, work_sides}
use Rattle.refusals.specs.declared.Refusal.{Refusal}
use Rattle.strand.proofs.VerdictLaws.{strand_numbered, strand_side}
use Rattle.calls.specs.Answers.{Added, Removed, Queried, hits_of}
use Rattle.calls.specs.Buffers.{most_molecule_bases, most_motif_bases, molecule_verdict, motif_verdict, work_verdict, buffers_verdict}
use Rattle.calls.specs.Calls.{Effect, add_verdict, add_outcome, remove_verdict, remove_outcome, QueryEffect, query_verdict, query_accepted}
use Rattle.calls.specs.Calls.{query_outcome}

-- ---- the refusals of the rules

pub buffers_numbered : (catalog cache : List ℕ) → Numbering (buffers_verdict catalog cache)
unfolding buffers_verdict
buffers_numbered catalog cache =
    first_numbered _ _ (if_numbered not_whole_blocks no_side (call_number 10 0 (omega arith) (omega arith) (λ n. refl)) _)
    (first_numbered _ _ (lowest_numbered unsound_block no_side (λ place. call_number 11 place (omega arith) (omega arith) (λ n. absurd (n refl))) _ _)
    none_numbered)

molecule_numbered : (q : Strand) → Numbering (molecule_verdict q)
unfolding molecule_verdict
molecule_numbered q = strand_numbered molecule_side (omega arith) least_molecule most_molecule_bases q.bases q.mates (λ h. refl)

motif_numbered : (p : Strand) → Numbering (motif_verdict p)
unfolding motif_verdict
motif_numbered p = strand_numbered motif_side (omega arith) least_motif most_motif_bases p.bases p.mates (λ h. absurd (omega arith))

number_numbered : (b : Bool) → Numbering (refuse_if number_too_large no_side b)
number_numbered b = if_numbered number_too_large no_side (call_number 12 0 (omega arith) (omega arith) (λ n. refl)) b

add_numbered : (catalog cache : List ℕ) (d : ℕ) (q : Strand) → Numbering (add_verdict catalog cache d q)
unfolding add_verdict
add_numbered catalog cache d q =
    first_numbered _ _ (buffers_numbered catalog cache)
    (first_numbered _ _ (number_numbered _)
    (first_numbered _ _ (if_numbered already_held no_side (call_number 13 0 (omega arith) (omega arith) (λ n. refl)) _)
    (first_numbered _ _ (molecule_numbered q) none_numbered)))

remove_numbered : (catalog cache : List ℕ) (d : ℕ) → Numbering (remove_verdict catalog cache d)
unfolding remove_verdict
remove_numbered catalog cache d =
    first_numbered _ _ (buffers_numbered catalog cache)
    (first_numbered _ _ (number_numbered _)
    (first_numbered _ _ (if_numbered not_held no_side (call_number 14 0 (omega arith) (omega arith) (λ n. refl)) _) none_numbered))

query_numbered : (catalog cache : List ℕ) (p : Strand) (work room : ℕ) → Numbering (query_verdict catalog cache p work room)
unfolding query_verdict work_verdict
query_numbered catalog cache p work room =
    first_numbered _ _ (buffers_numbered catalog cache)
    (first_numbered _ _ (motif_numbered p)
    (first_numbered _ _ (if_numbered wrong_slice no_side (call_number 9 0 (omega arith) (omega arith) (λ n. refl)) _)
    (first_numbered _ _ (work_numbered (length p.bases) most_molecule_bases work) none_numbered)))

-- ---- their sides

pub buffers_sides : (catalog cache : List ℕ) → TableSides (buffers_verdict catalog cache)
unfolding buffers_verdict
buffers_sides catalog cache =
    first_side TableSide _ _ (when_side TableSide not_whole_blocks no_side _ (is_neither refl))
    (first_side TableSide _ _ (lowest_side TableSide unsound_block no_side _ _ (is_neither refl)) (none_side TableSide))

molecule_sides : (q : Strand) → TableSides (molecule_verdict q)
unfolding molecule_verdict
molecule_sides q = strand_side TableSide molecule_side least_molecule most_molecule_bases q.bases q.mates (is_molecule refl)

motif_sides : (p : Strand) → TableSides (motif_verdict p)
unfolding motif_verdict
motif_sides p = strand_side TableSide motif_side least_motif most_motif_bases p.bases p.mates (is_motif refl)

pub add_sides : (catalog cache : List ℕ) (d : ℕ) (q : Strand) → TableSides (add_verdict catalog cache d q)
unfolding add_verdict
add_sides catalog cache d q =
    first_side TableSide _ _ (buffers_sides catalog cache)
    (first_side TableSide _ _ (when_side TableSide number_too_large no_side _ (is_neither refl))
    (first_side TableSide _ _ (when_side TableSide already_held no_side _ (is_neither refl))
    (first_side TableSide _ _ (molecule_sides q) (none_side TableSide))))

pub remove_sides : (catalog cache : List ℕ) (d : ℕ) → TableSides (remove_verdict catalog cache d)
unfolding remove_verdict
remove_sides catalog cache d =
    first_side TableSide _ _ (buffers_sides catalog cache)
    (first_side TableSide _ _ (when_side TableSide number_too_large no_side _ (is_neither refl))
    (first_side TableSide _ _ (when_side TableSide not_held no_side _ (is_neither refl)) (none_side TableSide)))

pub query_sides : (catalog cache : List ℕ) (p : Strand) (work room : ℕ) → TableSides (query_verdict catalog cache p work room)
unfolding query_verdict work_verdict
query_sides catalog cache p work room =
    first_side TableSide _ _ (buffers_sides catalog cache)
    (first_side TableSide _ _ (motif_sides p)
    (first_side TableSide _ _ (when_side TableSide wrong_slice no_side _ (is_neither refl))
    (first_side TableSide _ _ (work_sides (length p.bases) most_molecule_bases work) (none_side TableSide))))

-- ---- the calls

module _ (catalog cache : List ℕ) (d : ℕ) (q : Strand) where
  apart_add : (r : Refusal) → ◌≡◌ {A = Added} (Ok (fold_of q.mates)) (Err r) → ⊥
  apart_add r h = cc

  pub add_refuses : Refuses (add_verdict catalog cache d q) Err (add_outcome catalog cache d q).answer
  unfolding add_outcome
  add_refuses =
      refuses_by (add_verdict catalog cache d q) _ _ (λ (a : Effect Added). a.answer) Err (λ r. refl) apart_add
      (add_numbered catalog cache d q) (λ r s e. cc)

  pub add_keeps : Keeps Err (add_outcome catalog cache d q).answer catalog cache
      (add_outcome catalog cache d q).catalog (add_outcome catalog cache d q).cache
  unfolding add_outcome
  add_keeps =
      keeps_by (add_verdict catalog cache d q) _ _ (λ (a : Effect Added). a.answer) Err (λ r. refl) apart_add
      (λ (a : Effect Added). a.catalog) (λ (a : Effect Added). a.cache) catalog cache (λ r. refl) (λ r. refl)

module _ (catalog cache : List ℕ) (d : ℕ) where
  apart_remove : (r : Refusal) → ◌≡◌ {A = Removed} (Ok tt) (Err r) → ⊥
  apart_remove r h = cc

  pub remove_refuses : Refuses (remove_verdict catalog cache d) Err (remove_outcome catalog cache d).answer
  unfolding remove_outcome
  remove_refuses =
      refuses_by (remove_verdict catalog cache d) _ _ (λ (a : Effect Removed). a.answer) Err (λ r. refl) apart_remove
      (remove_numbered catalog cache d) (λ r s e. cc)

  pub remove_keeps : Keeps Err (remove_outcome catalog cache d).answer catalog cache
      (remove_outcome catalog cache d).catalog (remove_outcome catalog cache d).cache
  unfolding remove_outcome
  remove_keeps =
      keeps_by (remove_verdict catalog cache d) _ _ (λ (a : Effect Removed). a.answer) Err (λ r. refl) apart_remove
      (λ (a : Effect Removed). a.catalog) (λ (a : Effect Removed). a.cache) catalog cache (λ r. refl) (λ r. refl)

module _ (embeds : Strand → Strand → Bool) (catalog cache : List ℕ) (p : Strand) (work : ℕ) (hits : List ℕ) where
  apart_query : (count searched : ℕ) (r : Refusal) → ◌≡◌ {A = Queried} (Ok (hits_of count searched)) (Err r) → ⊥
  apart_query count searched r h = cc

  pub query_refuses : Refuses (query_verdict catalog cache p work (length hits)) Err (query_outcome embeds catalog cache p work hits).answer
  unfolding query_outcome query_accepted
  query_refuses =
      refuses_by (query_verdict catalog cache p work (length hits)) _ _ (λ (a : QueryEffect). a.answer) Err (λ r. refl) (apart_query _ _)
      (query_numbered catalog cache p work (length hits)) (λ r s e. cc)

  pub query_keeps : Keeps Err (query_outcome embeds catalog cache p work hits).answer cache hits
      (query_outcome embeds catalog cache p work hits).cache (query_outcome embeds catalog cache p work hits).hits
  unfolding query_outcome query_accepted
  query_keeps =
      keeps_by (query_verdict catalog cache p work (length hits)) _ _ (λ (a : QueryEffect). a.answer) Err (λ r. refl) (apart_query _ _)
      (λ (a : QueryEffect). a.cache) (λ (a : QueryEffect). a.hits) cache hits (λ r. refl) (λ r. refl)
