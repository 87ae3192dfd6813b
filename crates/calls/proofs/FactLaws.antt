-- What is known of a call that its rules let pass.
use Rattle.std.specs.Prelude.{Ok}
use mathlib.Core.Path.{◌≡◌, refl}
use mathlib.Core.Bool.{true, false, not, ◌&&◌}
use mathlib.Core.List.{List, []}
use Prim.Native.Nat.{ℕ, ◌*◌, ◌%◌, ◌<◌, ◌≤◌}
use native.Mathlib.Omega.{arith}
use lib.ListN.{length}
use lib.Dec.{eqb, ltb, leb}
use borrow.Author.Tests.{eqb-true, leb-true, leb-false, ltb-false, ltb-true}
use Rattle.strand.specs.Strands.{Strand, Proper, least_motif, least_molecule, strand_verdict}
use Rattle.refusals.specs.Rules.{motif_side, molecule_side, no_side, wrong_slice, not_whole_blocks, unsound_block}
use Rattle.refusals.specs.Rules.{number_too_large, already_held, not_held, work_too_short}
use Rattle.refusals.specs.Rules.{refuse_if, refuse_at_lowest, work_size}
use Rattle.lists.proofs.ListLaws.{and_true, not_not, true_not}
use Rattle.refusals.proofs.RuleLaws.{first_pass, rule_pass, rule_at_pass}
use Rattle.strand.proofs.VerdictLaws.{accepted_proper}
use Rattle.block.specs.Content.{block_size, is_empty, molecule_in}
use Rattle.block.specs.Block.{sound_molecule, block_of, block_count}
use Rattle.calls.specs.Buffers.{most_catalog_blocks, most_cache_blocks, most_molecule_bases, most_motif_bases, molecule_verdict, motif_verdict, work_verdict}
use Rattle.calls.specs.Buffers.{is_whole, are_whole, unsound_at, held, molecule_at, buffers_verdict, Usable}
use Rattle.calls.specs.Calls.{add_verdict, remove_verdict, query_verdict}

pub whole_facts : (most : ℕ) (s : List ℕ) → is_whole most s ≡ true → (length s ≡ block_size * block_count s) × (1 ≤ block_count s) × (block_count s ≤ most)
unfolding is_whole
whole_facts most s e =
    let x = and_true _ (leb (block_count s) most) e in
    let y = and_true (eqb (length s % block_size) 0) (leb 1 (block_count s)) x.0 in
    let z : length s % block_size ≡ 0 = eqb-true _ 0 y.0 in
    (omega arith, leb-true 1 _ y.1, leb-true _ most x.1)

sound_block : (cat : List ℕ) (d : ℕ) → unsound_at cat d ≡ false → sound_molecule (block_of d cat) ≡ true
unfolding unsound_at
sound_block cat d e = not_not _ e

-- Buffers that rules 10 and 11 let pass.
pub sized : (cat cache : List ℕ) → buffers_verdict cat cache ≡ Ok tt → Usable cat cache
unfolding buffers_verdict are_whole
sized cat cache e =
    let a = first_pass (refuse_if not_whole_blocks no_side (not (is_whole most_catalog_blocks cat && is_whole most_cache_blocks cache))) _ e in
    let b = first_pass (refuse_at_lowest unsound_block no_side (block_count cat) (unsound_at cat)) [] a.1 in
    let w = and_true (is_whole most_catalog_blocks cat) (is_whole most_cache_blocks cache) (not_not _ (rule_pass not_whole_blocks no_side _ a.0)) in
    record {
      filled = (whole_facts most_catalog_blocks cat w.0).0;
      least = (whole_facts most_catalog_blocks cat w.0).1;
      most = (whole_facts most_catalog_blocks cat w.0).2;
      whole = (whole_facts most_cache_blocks cache w.1).0;
      slots = (whole_facts most_cache_blocks cache w.1).1;
      most_slots = (whole_facts most_cache_blocks cache w.1).2;
      blocks = λ d l. sound_block cat d (rule_at_pass unsound_block no_side (block_count cat) (unsound_at cat) b.0 d l);
    }

pub held_facts : (cat : List ℕ) (d : ℕ) → held cat d ≡ true → (d < block_count cat) × (is_empty (block_of d cat) ≡ false)
unfolding held
held_facts cat d e =
    let x = and_true (ltb d (block_count cat)) _ e in
    (ltb-true d _ x.0, true_not (is_empty (block_of d cat)) x.1)

pub molecule_at_lem : (cat : List ℕ) (d : ℕ) → molecule_in (block_of d cat) ≡ molecule_at cat d
unfolding molecule_at
molecule_at_lem cat d = refl

module _ (cat cache : List ℕ) (d : ℕ) where
  pub add_facts : (q : Strand) → add_verdict cat cache d q ≡ Ok tt
      → (d < block_count cat) × Proper molecule_side least_molecule most_molecule_bases q.bases q.mates × Usable cat cache × (held cat d ≡ false)
  unfolding add_verdict molecule_verdict
  add_facts q e =
      let a = first_pass (buffers_verdict cat cache) _ e in
      let b = first_pass (refuse_if number_too_large no_side (leb (block_count cat) d)) _ a.1 in
      let c = first_pass (refuse_if already_held no_side (held cat d)) _ b.1 in
      let f = first_pass (strand_verdict molecule_side least_molecule most_molecule_bases q.bases q.mates) [] c.1 in (
        leb-false _ d (rule_pass number_too_large no_side _ b.0),
        accepted_proper molecule_side least_molecule most_molecule_bases q.bases q.mates f.0,
        sized cat cache a.0,
        rule_pass already_held no_side _ c.0,
      )

  pub remove_facts : remove_verdict cat cache d ≡ Ok tt → (d < block_count cat) × Usable cat cache × (held cat d ≡ true)
  unfolding remove_verdict
  remove_facts e =
      let a = first_pass (buffers_verdict cat cache) _ e in
      let b = first_pass (refuse_if number_too_large no_side (leb (block_count cat) d)) _ a.1 in
      let c = first_pass (refuse_if not_held no_side (not (held cat d))) [] b.1 in
      (leb-false _ d (rule_pass number_too_large no_side _ b.0), sized cat cache a.0, not_not _ (rule_pass not_held no_side _ c.0))

pub query_facts : (cat cache : List ℕ) (p : Strand) (work room : ℕ) → query_verdict cat cache p work room ≡ Ok tt
    → Usable cat cache × Proper motif_side least_motif most_motif_bases p.bases p.mates × (work_size (length p.bases) most_molecule_bases ≤ work)
    × (block_count cat ≤ room)
unfolding query_verdict motif_verdict work_verdict
query_facts cat cache p work room e =
    let a = first_pass (buffers_verdict cat cache) _ e in
    let b = first_pass (strand_verdict motif_side least_motif most_motif_bases p.bases p.mates) _ a.1 in
    let c = first_pass (refuse_if wrong_slice no_side (ltb room (block_count cat))) _ b.1 in
    let f = first_pass (refuse_if work_too_short no_side (ltb work (work_size (length p.bases) most_molecule_bases))) [] c.1 in (
      sized cat cache a.0,
      accepted_proper motif_side least_motif most_motif_bases p.bases p.mates b.0,
      ltb-false work _ (rule_pass work_too_short no_side _ f.0),
      ltb-false room _ (rule_pass wrong_slice no_side _ c.0),
    )
