-- The rules of batch: where it is accepted, what it is refused for, at which place and in which order, and that a refused batch changes nothing.
use Rattle.std.specs.Prelude.{Ok, Err}
use Prim.Native.Nat.{ℕ, ◌-◌, ◌/◌, ◌<◌}
use native.Mathlib.Omega.{arith}
use mathlib.Core.Path.{◌≡◌, refl, sym, ◌∙◌}
use mathlib.Core.Bool.{Bool, true, false}
use mathlib.Core.List.{List}
use lib.ListN.{length, replicate}
use borrow.Author.Tests.{le-leb}
use Rattle.lists.specs.Vocabulary.{lowest}
use Rattle.lists.proofs.ListLaws.{lowest_all, lowest_found}
use Rattle.strand.specs.Strands.{Strand}
use Rattle.refusals.specs.Rules.{motif_side, no_side, bad_motifs, too_long, Keeps, RefusesBy, BatchNumbered, of_table, of_motifs, of_long, work_size}
use Rattle.refusals.specs.Rules.{Verdict, wrong_slice, TableSide, is_motif, is_neither, TableSides}
use Rattle.refusals.proofs.Refusing.{Numbering, NumberingBy, call_number, if_numbered, work_numbered, when_by, lowest_by, none_by, first_by, refuses_by}
use Rattle.refusals.proofs.Refusing.{keeps_by, when_side, lowest_side, none_side, first_side, work_sides}
use Rattle.refusals.specs.declared.Refusal.{Refusal}
use Rattle.block.specs.Block.{block_count}
use Rattle.calls.specs.Answers.{BatchRead}
use Rattle.calls.specs.Buffers.{most_molecule_bases, is_whole}
use Rattle.calls.specs.Motifs.{most_motifs, no_motif_at, long_motif_at, motifs_verdict, longest_motif}
use Rattle.calls.specs.Batch.{batch_verdict, BatchEffect, not_batched, batch_answer, batch_outcome}
use Rattle.calls.specs.BatchStatements.{BatchAccepts, MotifBlocks, MotifsRefuse, BatchOrder}
use Rattle.calls.proofs.ReadingLaws.{whole_is}
use Rattle.calls.proofs.FactLaws.{whole_facts}
use Rattle.calls.proofs.Accepting.{usable_pass}
use Rattle.calls.proofs.Refusing.{buffers_numbered, buffers_sides}
use Rattle.calls.proofs.MotifLaws.{no_motif_is, long_at, short_at, motifs_not_whole, no_motif, long_motif_lem, usable_motifs, longest_least, longest_bound}
use Rattle.calls.proofs.BatchLaws.{batch_facts}
use Rattle.calls.proofs.BatchLaws as law

pub batch_accepts : (catalog cache motifs : List ℕ) (work room : ℕ) → BatchAccepts catalog cache motifs work room
batch_accepts catalog cache motifs work room = (
  batch_facts catalog cache motifs work room,
  (λ h.
      let least = h.1.least in
      let most : ℕ = (work - work_size 0 most_molecule_bases) / 64 in
      let long = longest_bound motifs most (block_count motifs) (λ t l. omega (arith, h.3 t l)) in
      sym (law.batch_passes catalog cache motifs work room (usable_pass catalog cache h.0) (usable_motifs motifs h.1) h.2
      (omega (arith, h.3 0 least, long)))),
)

-- The place and the order

module _ (motifs : List ℕ) where
  not_blocks : (MotifBlocks motifs → ⊥) → is_whole most_motifs motifs ≡ false
  not_blocks h = go (is_whole most_motifs motifs) refl
    where
      go : (b : Bool) → is_whole most_motifs motifs ≡ b → b ≡ false
      go true e = absurd (h (whole_facts most_motifs motifs e))
      go false e = refl

  blocks_whole : MotifBlocks motifs → is_whole most_motifs motifs ≡ true
  blocks_whole h =
      whole_is most_motifs (block_count motifs) motifs h.0
      ∙ rw (le-leb 1 (block_count motifs) h.1, le-leb (block_count motifs) most_motifs h.2)

  -- the lowest number below n that passes is t
  lowest_at : (n : ℕ) (p : ℕ → Bool) (t : ℕ) → t < n → p t ≡ true → ((s : ℕ) → s < t → p s ≡ false) → t ≡ lowest n p
  lowest_at n p t l here below = sym (lowest_found p n t (lowest_all p t below) l here)

  pub motifs_refuse : MotifsRefuse motifs
  motifs_refuse =
      record {
        wrong_size = λ h. sym (motifs_not_whole motifs (not_blocks h));
        no_motif = λ whole t l here below.
            sym (no_motif motifs (blocks_whole whole) t
            (lowest_at (block_count motifs) (no_motif_at motifs) t l (no_motif_is motifs t refl here) (λ s k. no_motif_is motifs s refl (below s k))) l);
        too_long_lem = λ whole held t l here below.
            sym (long_motif_lem motifs (blocks_whole whole) (block_count motifs)
            (sym (lowest_all (no_motif_at motifs) (block_count motifs) (λ s k. no_motif_is motifs s refl (held s k)))) (omega arith) t
            (lowest_at (block_count motifs) (long_motif_at motifs) t l (long_at motifs t here) (λ s k. short_at motifs s (below s k))) l);
        passes = usable_motifs motifs;
      }

pub batch_order : (catalog cache motifs : List ℕ) (work room : ℕ) → BatchOrder catalog cache motifs work room
batch_order catalog cache motifs work room =
    record {
      buffers = λ r e. sym (law.batch_buffers_refused catalog cache motifs work room r e);
      motif_buffer = λ pass r e. sym (law.batch_motifs_refused catalog cache motifs work room pass r e);
      few_hits_lem = λ pass usable h. sym (law.batch_few_hits catalog cache motifs work room pass usable h);
      short_work = λ pass usable fits t l h.
          sym (law.batch_short_work catalog cache motifs work room pass usable fits (omega (arith, longest_least motifs (block_count motifs) t l, h)));
    }

-- The numbers

-- a refusal of the table of the other calls
of_table_lem : (v : Verdict) → Numbering v → NumberingBy BatchNumbered v
of_table_lem v h r e = of_table (h r e)

motifs_numbered : (motifs : List ℕ) → NumberingBy BatchNumbered (motifs_verdict motifs)
unfolding motifs_verdict
motifs_numbered motifs =
    first_by BatchNumbered _ _ (when_by BatchNumbered bad_motifs motif_side _ (λ h. of_motifs refl refl))
    (first_by BatchNumbered _ _ (lowest_by BatchNumbered bad_motifs motif_side (λ place. of_motifs refl refl) _ _)
    (first_by BatchNumbered _ _ (lowest_by BatchNumbered too_long motif_side (λ place. of_long refl refl) _ _) (none_by BatchNumbered)))

batch_numbered : (catalog cache motifs : List ℕ) (work room : ℕ) → NumberingBy BatchNumbered (batch_verdict catalog cache motifs work room)
unfolding batch_verdict
batch_numbered catalog cache motifs work room =
    first_by BatchNumbered _ _ (of_table_lem _ (buffers_numbered catalog cache))
    (first_by BatchNumbered _ _ (motifs_numbered motifs)
    (first_by BatchNumbered _ _ (of_table_lem _ (if_numbered wrong_slice no_side (call_number 9 0 (omega arith) (omega arith) (λ n. refl)) _))
    (first_by BatchNumbered _ _ (of_table_lem _ (work_numbered (longest_motif motifs) most_molecule_bases work)) (none_by BatchNumbered))))

-- The sides

pub motifs_sides : (motifs : List ℕ) → TableSides (motifs_verdict motifs)
unfolding motifs_verdict
motifs_sides motifs =
    first_side TableSide _ _ (when_side TableSide bad_motifs motif_side _ (is_motif refl))
    (first_side TableSide _ _ (lowest_side TableSide bad_motifs motif_side _ _ (is_motif refl))
    (first_side TableSide _ _ (lowest_side TableSide too_long motif_side _ _ (is_motif refl)) (none_side TableSide)))

pub batch_sides : (catalog cache motifs : List ℕ) (work room : ℕ) → TableSides (batch_verdict catalog cache motifs work room)
unfolding batch_verdict
batch_sides catalog cache motifs work room =
    first_side TableSide _ _ (buffers_sides catalog cache)
    (first_side TableSide _ _ (motifs_sides motifs)
    (first_side TableSide _ _ (when_side TableSide wrong_slice no_side _ (is_neither refl))
    (first_side TableSide _ _ (work_sides (longest_motif motifs) most_molecule_bases work) (none_side TableSide))))

module _ (embeds : Strand → Strand → Bool) (catalog cache motifs : List ℕ) (work : ℕ) (hits : List ℕ) where
  apart_batch : (n : ℕ) (r : Refusal) → ◌≡◌ {A = BatchRead} (Ok n) (Err r) → ⊥
  apart_batch n r h = cc

  pub batch_refuses : RefusesBy BatchNumbered (batch_verdict catalog cache motifs work (length hits)) Err
      (batch_outcome embeds catalog motifs work cache hits).answer.read
  unfolding batch_outcome not_batched batch_answer
  batch_refuses =
      refuses_by (batch_verdict catalog cache motifs work (length hits)) _ _ (λ (a : BatchEffect). a.answer.read) Err (λ r. refl) (apart_batch _)
      (batch_numbered catalog cache motifs work (length hits)) (λ r s e. cc)

  pub batch_keeps : Keeps Err (batch_outcome embeds catalog motifs work cache hits).answer.read cache hits
      (batch_outcome embeds catalog motifs work cache hits).cache (batch_outcome embeds catalog motifs work cache hits).hits
  unfolding batch_outcome not_batched batch_answer
  batch_keeps =
      keeps_by (batch_verdict catalog cache motifs work (length hits)) _ _ (λ (a : BatchEffect). a.answer.read) Err (λ r. refl) (apart_batch _)
      (λ (a : BatchEffect). a.cache) (λ (a : BatchEffect). a.hits) cache hits (λ r. refl) (λ r. refl)

  pub batch_no_numbers : Keeps Err (batch_outcome embeds catalog motifs work cache hits).answer.read (replicate most_motifs 0) (replicate most_motifs 0)
      (batch_outcome embeds catalog motifs work cache hits).answer.counts (batch_outcome embeds catalog motifs work cache hits).answer.searched
  unfolding batch_outcome not_batched batch_answer
  batch_no_numbers =
      keeps_by (batch_verdict catalog cache motifs work (length hits)) _ _ (λ (a : BatchEffect). a.answer.read) Err (λ r. refl) (apart_batch _)
      (λ (a : BatchEffect). a.answer.counts) (λ (a : BatchEffect). a.answer.searched) (replicate most_motifs 0) (replicate most_motifs 0)
      (λ r. refl) (λ r. refl)
