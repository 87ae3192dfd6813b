-- A catalog stores these molecules: all that is known of its bytes, and what the calls make of it.
use Rattle.std.specs.Prelude.{Ok, Err}
use Prim.Native.Nat.{ℕ, ◌*◌, ◌<◌}
use native.Mathlib.Omega.{arith}
use native.Mathlib.Decide.{dec_lt}
use mathlib.Core.Path.{◌≡◌, refl, sym, ap, ◌∙◌}
use mathlib.Core.Bool.{true, false, not, and-false}
use mathlib.Core.List.{List, [], ◌∷◌}
use mathlib.Core.Option.{none as vacant, some as holds}
use lib.Dec.{leb, ltb}
use lib.ListN.{length, replicate, length-replicate}
use borrow.Author.Tests.{le-ltb}
use Rattle.strand.specs.Strands.{Strand}
use Rattle.refusals.specs.Rules.{no_side, wrong_slice, not_whole_blocks, unsound_block, number_too_large, already_held, Verdict}
use Rattle.refusals.specs.Rules.{not_held, first, refuse_if, refuse_at_lowest}
use Rattle.refusals.proofs.RuleLaws.{first_skip, first_one, first_stop}
use Rattle.block.specs.Content.{block_size}
use Rattle.block.specs.Block.{block_count}
use Rattle.calls.specs.Buffers.{most_catalog_blocks, most_cache_blocks, in_range, molecule_verdict, motif_verdict, work_verdict, Holding}
use Rattle.calls.specs.Buffers.{is_held, are_whole, unsound_at, held, molecule_at, buffers_verdict}
use Rattle.lists.specs.Vocabulary.{put_at}
use Rattle.calls.specs.Calls.{add_verdict, add_outcome, remove_verdict, remove_outcome, query_verdict}
use Rattle.calls.specs.Batch.{batch_rules, batch_verdict}
use Rattle.calls.specs.Statements.{OnlyAt}
use Rattle.calls.proofs.BlockUse as leaf
use Rattle.calls.proofs.ReadingLaws.{count_is, whole_is, no_place, block_zero}
use Rattle.calls.proofs.FactLaws.{add_facts, remove_facts}
use Rattle.calls.proofs.HoldingLaws.{by_number, put_all}
use Rattle.calls.proofs.Claims.{add_accepted, remove_accepted}

-- The catalog has B blocks, none unsound, and holds just these molecules.
pub record Stores (B : ℕ) (catalog : List ℕ) (molecules : ℕ → Holding) : Type 0 where
  pub size : length catalog ≡ block_size * B
  pub sound : (d : ℕ) → d < B → unsound_at catalog d ≡ false
  pub held_is : (d : ℕ) → held catalog d ≡ is_held (molecules d)
  pub molecule_is : (d : ℕ) (q : Strand) → molecules d ≡ holds q → molecule_at catalog d ≡ q

-- a list of rules of which only the first can refuse
first_only : (v : Verdict) → first (v ∷ Ok tt ∷ []) ≡ v
first_only (Ok u) = first_skip (Ok tt) (Ok tt ∷ []) refl ∙ first_one (Ok tt)
first_only (Err r) = first_stop (Err r) (Ok tt ∷ []) r refl

-- A zeroed catalog

zero_held : (B d : ℕ) → held (replicate (block_size * B) 0) d ≡ false
unfolding held
zero_held B d =
    elim (dec_lt d B) [
      | yes l ↦ rw (block_zero B d l, leaf.empty_empty) (and-false (ltb d (block_count (replicate {A = ℕ} (block_size * B) 0))))
      | no l ↦ rw (count_is (replicate (block_size * B) 0) B (length-replicate (block_size * B) 0), le-ltb d B (omega arith))
    ]

pub stores_zeroed : (B : ℕ) → Stores B (replicate (block_size * B) 0) (λ d. vacant)
stores_zeroed B =
    record {
      size = length-replicate (block_size * B) 0;
      sound = λ d l. unfold unsound_at in (rw (block_zero B d l, leaf.empty_molecule));
      held_is = λ d. unfold is_held in (zero_held B d);
      molecule_is = λ d q e. let z : ◌≡◌ {A = ℕ} 0 1 = cc in absurd (omega arith);
    }

-- One block changed

module _ {B : ℕ} {catalog : List ℕ} {molecules : ℕ → Holding} (s : Stores B catalog molecules) where
  pub count : block_count catalog ≡ B
  count = count_is catalog B s.size

  module _ (d : ℕ) (l : d < B) (after : List ℕ) (only : OnlyAt d catalog after) where
    size_after : length after ≡ block_size * B
    size_after = only.size ∙ s.size

    count_after : block_count after ≡ B
    count_after = count_is after B size_after

    unsound_else : (e : ℕ) → e < B → (e ≡ d → ⊥) → unsound_at after e ≡ false
    unfolding unsound_at
    unsound_else e k ne = rw (only.others e (omega (arith, count)) ne) (unfold unsound_at in (s.sound e k))

    held_else : (e : ℕ) → (e ≡ d → ⊥) → held after e ≡ held catalog e
    unfolding held
    held_else e ne =
        elim (dec_lt e B) [
          | yes k ↦ rw (count_after, count, only.others e (omega (arith, count)) ne)
          | no k ↦ rw (count_after, count, le-ltb e B (omega arith))
        ]

    molecule_else : (e : ℕ) → e < B → (e ≡ d → ⊥) → molecule_at after e ≡ molecule_at catalog e
    unfolding molecule_at
    molecule_else e k ne = rw (only.others e (omega (arith, count)) ne)

    below : (e : ℕ) (q : Strand) → molecules e ≡ holds q → e < B
    below e q h =
        elim (dec_lt e B) [
          | yes k ↦ k
          | no k ↦ let x : held catalog e ≡ true = s.held_is e ∙ (unfold is_held in (ap is_held h)) in
              let y : held catalog e ≡ false = unfold held in (rw (count, le-ltb e B (omega arith))) in
              let z : true ≡ false = sym x ∙ y in
              let w : ◌≡◌ {A = ℕ} 0 1 = cc in
              absurd (omega arith)
        ]

    stores_put : (x : Holding) → unsound_at after d ≡ false → held after d ≡ is_held x → ((q : Strand) → x ≡ holds q → molecule_at after d ≡ q)
        → Stores B after (put_at molecules d x)
    stores_put x ok has is =
        record {
          size = size_after;
          sound =
              by_number d (λ e. e < B → unsound_at after e ≡ false) (λ k. ok) (λ e ne k. unsound_else e k ne);
          held_is = put_all molecules d x (λ e y. held after e ≡ is_held y) has (λ e ne. held_else e ne ∙ s.held_is e);
          molecule_is =
              λ e q.
              put_all molecules d x (λ n y. y ≡ holds q → molecule_at after n ≡ q) (is q)
              (λ n ne h. molecule_else n (below n q h) ne ∙ s.molecule_is n q h) e;
        }

  -- The calls

  pub stores_add : (cache : List ℕ) (d : ℕ) (q : Strand) → add_verdict catalog cache d q ≡ Ok tt
      → Stores B (add_outcome catalog cache d q).catalog (put_at molecules d (holds q))
  stores_add cache d q e =
      let new = add_accepted catalog cache d q e in
      stores_put d (omega (arith, count, (add_facts catalog cache d q e).0)) _ new.only (holds q)
      (unfold unsound_at in (ap not new.block_sound)) (unfold is_held in new.is_held_lem) (λ r h. new.molecule ∙ cc)

  pub stores_remove : (cache : List ℕ) (d : ℕ) → remove_verdict catalog cache d ≡ Ok tt
      → Stores B (remove_outcome catalog cache d).catalog (put_at molecules d vacant)
  stores_remove cache d e =
      let new = remove_accepted catalog cache d e in
      stores_put d (omega (arith, count, (remove_facts catalog cache d e).0)) _ new.only vacant
      (unfold unsound_at in (rw (new.block_empty, leaf.empty_molecule))) (unfold is_held in new.not_held_lem)
      (λ r h. let z : ◌≡◌ {A = ℕ} 0 1 = cc in absurd (omega arith))

  -- The rules of the calls, for a cache of S blocks

  module _ (S : ℕ) (cache : List ℕ) (len : length cache ≡ block_size * S) where
    whole : are_whole catalog cache ≡ in_range B S
    unfolding are_whole in_range
    whole = rw (whole_is most_catalog_blocks B catalog s.size, whole_is most_cache_blocks S cache len)

    rule_11 : refuse_at_lowest unsound_block no_side (block_count catalog) (unsound_at catalog) ≡ Ok tt
    rule_11 = rw count (no_place unsound_block no_side B (unsound_at catalog) s.sound)

    buffers_judged : buffers_verdict catalog cache ≡ refuse_if not_whole_blocks no_side (not (in_range B S))
    unfolding buffers_verdict
    buffers_judged = rw (whole, rule_11) (first_only (refuse_if not_whole_blocks no_side (not (in_range B S))))

    pub add_judged : (d : ℕ) (q : Strand) → add_verdict catalog cache d q
        ≡ first
        (refuse_if not_whole_blocks no_side (not (in_range B S))
        ∷ refuse_if number_too_large no_side (leb B d)
        ∷ refuse_if already_held no_side (is_held (molecules d))
        ∷ molecule_verdict q
        ∷ [])
    unfolding add_verdict
    add_judged d q = rw (buffers_judged, count, s.held_is d)

    pub remove_judged : (d : ℕ) → remove_verdict catalog cache d
        ≡ first
        (refuse_if not_whole_blocks no_side (not (in_range B S))
        ∷ refuse_if number_too_large no_side (leb B d)
        ∷ refuse_if not_held no_side (not (is_held (molecules d)))
        ∷ [])
    unfolding remove_verdict
    remove_judged d = rw (buffers_judged, count, s.held_is d)

    pub query_judged : (p : Strand) (work room : ℕ) → query_verdict catalog cache p work room
        ≡ first
        (refuse_if not_whole_blocks no_side (not (in_range B S))
        ∷ motif_verdict p
        ∷ refuse_if wrong_slice no_side (ltb room B)
        ∷ work_verdict p work
        ∷ [])
    unfolding query_verdict
    query_judged p work room = rw (buffers_judged, count)

    pub batch_judged : (motifs : List ℕ) (work room : ℕ) → batch_verdict catalog cache motifs work room
        ≡ batch_rules (refuse_if not_whole_blocks no_side (not (in_range B S))) B motifs work room
    unfolding batch_verdict
    batch_judged motifs work room = rw (buffers_judged, count)
