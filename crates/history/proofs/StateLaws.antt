-- What the model keeps on every history: molecules and motifs that rules 1 to 7 let pass, sets of held numbers, nothing at or above B.
use Rattle.std.specs.Prelude.{Ok, Err}
use Prim.Native.Nat.{ℕ, zero, suc, ◌<◌, ◌≤◌}
use native.Mathlib.Omega.{arith}
use mathlib.Core.Path.{◌≡◌, refl, ap, ◌∙◌}
use mathlib.Core.Logic.{⊎_elim}
use mathlib.Core.Bool.{Bool, true, false, not, ◌&&◌}
use mathlib.Core.List.{List, []}
use mathlib.Core.Option.{none as vacant, some as holds}
use lib.Dec.{leb, eqb}
use borrow.Author.Tests.{leb-false, leb-true, eq-eqb}
use Rattle.lists.specs.Vocabulary.{nth, put_at}
use Rattle.strand.specs.Strands.{Strand}
use Rattle.refusals.specs.Rules.{no_side, not_whole_blocks, number_too_large, already_held, refuse_if, Verdict}
use Rattle.lists.proofs.ListLaws.{by_bool, and_true, not_not, never, choose_yes, choose_no}
use Rattle.refusals.proofs.RuleLaws.{first_pass, rule_pass, by_accepted, by_refused}
use Rattle.octets.specs.Octets.{without}
use Rattle.block.specs.Block.{block_count}
use Rattle.calls.specs.Buffers.{most_catalog_blocks, most_cache_blocks, in_range, molecule_verdict, motif_verdict, Holding, is_held, slot_of}
use Rattle.calls.specs.Motifs.{motif_of, motifs_verdict, UsableMotifs}
use Rattle.calls.proofs.HoldingLaws.{put_other, put_all}
use Rattle.calls.proofs.MotifLaws.{motifs_usable, motif_verdict_lem}
use Rattle.history.specs.Model.{Call, add, remove, query, batch, Slot, nothing, keeps, State, start, held_in, dropped, model_verdict, asked, asked_to}
use Rattle.history.specs.Model.{model_next, model_after, model_alter, slot_block}

abbrev pub HoldingOk : Holding → Type 0
HoldingOk vacant = Unit
HoldingOk (holds q) = molecule_verdict q ≡ Ok tt

abbrev pub SlotOk : (ℕ → Holding) → Slot → Type 0
SlotOk mols nothing = Unit
SlotOk mols (keeps m set) = (motif_verdict m ≡ Ok tt) × ((d : ℕ) → set d ≡ true → is_held (mols d) ≡ true)

pub record StateOk (B : ℕ) (σ : State) : Type 0 where
  pub holding_ok : (d : ℕ) → HoldingOk (σ.molecules d)
  pub slot_ok : (s : ℕ) → SlotOk σ.molecules (σ.slots s)
  pub above : (d : ℕ) → B ≤ d → σ.molecules d ≡ vacant

pub start_ok : (B : ℕ) → StateOk B start
unfolding start
start_ok B = record { holding_ok = λ d. tt; slot_ok = λ s. tt; above = λ d l. refl }

-- What an accepted call has passed

module _ (embeds : Strand → Strand → Bool) (B S : ℕ) (σ : State) where
  pub add_passed : (d : ℕ) (q : Strand) → model_verdict embeds B S σ (add d q) ≡ Ok tt
      → (d < B) × (is_held (σ.molecules d) ≡ false) × (molecule_verdict q ≡ Ok tt)
  unfolding model_verdict held_in
  add_passed d q e =
      let r = (first_pass (refuse_if not_whole_blocks no_side (not (in_range B S))) _ e).1 in
      let x = first_pass (refuse_if number_too_large no_side (leb B d)) _ r in
      let y = first_pass (refuse_if already_held no_side (is_held (σ.molecules d))) _ x.1 in
      let z = first_pass (molecule_verdict q) [] y.1 in
      (leb-false B d (rule_pass number_too_large no_side _ x.0), rule_pass already_held no_side _ y.0, z.0)

  pub remove_passed : (d : ℕ) → model_verdict embeds B S σ (remove d) ≡ Ok tt → d < B
  unfolding model_verdict
  remove_passed d e =
      let r = (first_pass (refuse_if not_whole_blocks no_side (not (in_range B S))) _ e).1 in
      leb-false B d (rule_pass number_too_large no_side (leb B d) (first_pass (refuse_if number_too_large no_side (leb B d)) _ r).0)

  pub query_passed : (p : Strand) (work : ℕ) (hits : List ℕ) → model_verdict embeds B S σ (query p work hits) ≡ Ok tt → motif_verdict p ≡ Ok tt
  unfolding model_verdict
  query_passed p work hits e = (first_pass (motif_verdict p) _ (first_pass (refuse_if not_whole_blocks no_side (not (in_range B S))) _ e).1).0

  pub batch_passed : (motifs : List ℕ) (work : ℕ) (hits : List ℕ) → model_verdict embeds B S σ (batch motifs work hits) ≡ Ok tt → UsableMotifs motifs
  unfolding model_verdict
  batch_passed motifs work hits e =
      motifs_usable motifs (first_pass (motifs_verdict motifs) _ (first_pass (refuse_if not_whole_blocks no_side (not (in_range B S))) _ e).1).0

  range_rule_lem : refuse_if not_whole_blocks no_side (not (in_range B S)) ≡ Ok tt → in_range B S ≡ true
  range_rule_lem e = not_not _ (rule_pass not_whole_blocks no_side (not (in_range B S)) e)

  pub range_passed : (c : Call) → model_verdict embeds B S σ c ≡ Ok tt → in_range B S ≡ true
  unfolding model_verdict
  range_passed (add d q) e = range_rule_lem (first_pass (refuse_if not_whole_blocks no_side (not (in_range B S))) _ e).0
  range_passed (remove d) e = range_rule_lem (first_pass (refuse_if not_whole_blocks no_side (not (in_range B S))) _ e).0
  range_passed (query p work hits) e = range_rule_lem (first_pass (refuse_if not_whole_blocks no_side (not (in_range B S))) _ e).0
  range_passed (batch motifs work hits) e = range_rule_lem (first_pass (refuse_if not_whole_blocks no_side (not (in_range B S))) _ e).0

module _ (B S : ℕ) (range : in_range B S ≡ true) where
  four : ((leb 1 B && leb B most_catalog_blocks) ≡ true) × ((leb 1 S && leb S most_cache_blocks) ≡ true)
  unfolding in_range
  four = and_true (leb 1 B && leb B most_catalog_blocks) (leb 1 S && leb S most_cache_blocks) range

  pub most_blocks : B ≤ most_catalog_blocks
  most_blocks = leb-true B most_catalog_blocks (and_true (leb 1 B) (leb B most_catalog_blocks) four.0).1

  pub some_slot : 1 ≤ S
  some_slot = leb-true 1 S (and_true (leb 1 S) (leb S most_cache_blocks) four.1).0

-- An alteration leaves the state, or takes one slot away

module _ (embeds : Strand → Strand → Bool) (B S : ℕ) (σ : State) (s i v : ℕ) where
  pub alter_keeps : eqb (nth (slot_block embeds B S σ.molecules (σ.slots s)) i) v ≡ true → model_alter embeds B S σ s i v ≡ σ
  unfolding model_alter
  alter_keeps e = choose_yes _ _ _ e

  pub alter_takes : eqb (nth (slot_block embeds B S σ.molecules (σ.slots s)) i) v ≡ false
      → model_alter embeds B S σ s i v ≡ record { molecules = σ.molecules; slots = put_at σ.slots s nothing }
  unfolding model_alter
  alter_takes e = choose_no _ _ _ e

  pub molecules_same : (model_alter embeds B S σ s i v).molecules ≡ σ.molecules
  molecules_same =
      ⊎_elim
      (λ (e : eqb (nth (slot_block embeds B S σ.molecules (σ.slots s)) i) v ≡ true). ap (λ (τ : State). τ.molecules) (alter_keeps e))
      (λ (e : eqb (nth (slot_block embeds B S σ.molecules (σ.slots s)) i) v ≡ false). ap (λ (τ : State). τ.molecules) (alter_takes e))
      (by_bool (eqb (nth (slot_block embeds B S σ.molecules (σ.slots s)) i) v))

-- Every step keeps it

module _ (embeds : Strand → Strand → Bool) (B S : ℕ) (σ : State) (ok : StateOk B σ) where
  put_ok : (d : ℕ) (x : Holding) → HoldingOk x → (e : ℕ) → HoldingOk (put_at σ.molecules d x e)
  put_ok d x h = put_all σ.molecules d x (λ e y. HoldingOk y) h (λ e ne. ok.holding_ok e)

  put_above : (d : ℕ) (x : Holding) → d < B → (e : ℕ) → B ≤ e → put_at σ.molecules d x e ≡ vacant
  put_above d x l e k = put_other σ.molecules d x e (λ (w : e ≡ d). omega arith) ∙ ok.above e k

  slot_add : (d : ℕ) (q : Strand) (s : Slot) → SlotOk σ.molecules s → SlotOk (put_at σ.molecules d (holds q)) s
  slot_add d q nothing k = tt
  slot_add d q (keeps m set) k =
      (k.0, put_all σ.molecules d (holds q) (λ e y. set e ≡ true → is_held y ≡ true) (λ h. unfold is_held in refl) (λ e ne. k.1 e))

  slot_remove : (d : ℕ) (s : Slot) → SlotOk σ.molecules s → SlotOk (put_at σ.molecules d vacant) (dropped d s)
  unfolding dropped without
  slot_remove d nothing k = tt
  slot_remove d (keeps m set) k = (
    k.0,
    put_all σ.molecules d vacant (λ e y. (set e && not (eqb e d)) ≡ true → is_held y ≡ true)
        (λ h. let r : false ≡ true = rw (eq-eqb d d refl) at (and_true (set d) (not (eqb d d)) h).1 in never r)
        (λ e ne h. k.1 e (and_true (set e) (not (eqb e d)) h).0),
  )

  slot_put : (s : ℕ) (x : Slot) → SlotOk σ.molecules x → (r : ℕ) → SlotOk σ.molecules (put_at σ.slots s x r)
  slot_put s x h = put_all σ.slots s x (λ r y. SlotOk σ.molecules y) h (λ r ne. ok.slot_ok r)

  pub asked_ok : (p : Strand) → motif_verdict p ≡ Ok tt → StateOk B (asked embeds B S σ p)
  unfolding asked
  asked_ok p h =
      record {
        holding_ok = ok.holding_ok;
        slot_ok = slot_put (slot_of S p) (keeps p (held_in σ)) (h, λ d e. unfold held_in in e);
        above = ok.above;
      }

-- The queries of a batch, one after the other, change no molecule

module _ (embeds : Strand → Strand → Bool) (B S : ℕ) (σ : State) (motifs : List ℕ) where
  pub asked_molecules : (t : ℕ) → (asked_to embeds B S σ motifs t).molecules ≡ σ.molecules
  unfolding asked_to asked
  asked_molecules zero = refl
  asked_molecules (suc t) = asked_molecules t

  pub asked_to_ok : UsableMotifs motifs → StateOk B σ → (t : ℕ) → t ≤ block_count motifs → StateOk B (asked_to embeds B S σ motifs t)
  unfolding asked_to
  asked_to_ok u ok zero l = ok
  asked_to_ok u ok (suc t) l = asked_ok embeds B S _ (asked_to_ok u ok t (omega arith)) (motif_of motifs t) (motif_verdict_lem motifs u t (omega arith))

module _ (embeds : Strand → Strand → Bool) (B S : ℕ) (σ : State) (ok : StateOk B σ) where
  pub next_ok : (c : Call) → model_verdict embeds B S σ c ≡ Ok tt → StateOk B (model_next embeds B S σ c)
  unfolding model_next
  next_ok (add d q) e =
      let y = add_passed embeds B S σ d q e in
      record {
        holding_ok = put_ok embeds B S σ ok d (holds q) y.2;
        slot_ok = λ s. slot_add embeds B S σ ok d q (σ.slots s) (ok.slot_ok s);
        above = put_above embeds B S σ ok d (holds q) y.0;
      }
  next_ok (remove d) e =
      record {
        holding_ok = put_ok embeds B S σ ok d vacant tt;
        slot_ok = λ s. slot_remove embeds B S σ ok d (σ.slots s) (ok.slot_ok s);
        above = put_above embeds B S σ ok d vacant (remove_passed embeds B S σ d e);
      }
  next_ok (query p work hits) e = asked_ok embeds B S σ ok p (query_passed embeds B S σ p work hits e)
  next_ok (batch motifs work hits) e = asked_to_ok embeds B S σ motifs (batch_passed embeds B S σ motifs work hits e) ok (block_count motifs) (omega arith)

  pub alter_ok : (s i v : ℕ) → StateOk B (model_alter embeds B S σ s i v)
  alter_ok s i v =
      ⊎_elim
      (λ (e : eqb (nth (slot_block embeds B S σ.molecules (σ.slots s)) i) v ≡ true). rw (alter_keeps embeds B S σ s i v e) ok)
      (λ (e : eqb (nth (slot_block embeds B S σ.molecules (σ.slots s)) i) v ≡ false).
      rw (alter_takes embeds B S σ s i v e) (record { holding_ok = ok.holding_ok; slot_ok = slot_put embeds B S σ ok s nothing tt; above = ok.above }))
      (by_bool (eqb (nth (slot_block embeds B S σ.molecules (σ.slots s)) i) v))

  pub after_ok : (c : Call) → StateOk B (model_after embeds B S σ c)
  unfolding model_after
  after_ok c = go (model_verdict embeds B S σ c) refl
    where
      go : (v : Verdict) → model_verdict embeds B S σ c ≡ v → StateOk B (model_after embeds B S σ c)
      go (Ok u) e = rw (by_accepted (model_verdict embeds B S σ c) (λ r. σ) (model_next embeds B S σ c) e) (next_ok c e)
      go (Err r) e = rw (by_refused (model_verdict embeds B S σ c) (λ r. σ) (model_next embeds B S σ c) r e) ok
