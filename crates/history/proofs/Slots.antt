-- The block that the model gives to a slot: what the calls and alterations make of it, by the laws of entries alone.
use Prim.Native.Nat.{ℕ, ◌<◌}
use mathlib.Core.Path.{◌≡◌, refl, sym, ap, fun_ext, ◌∙◌}
use mathlib.Core.Bool.{Bool, true, false, not, ◌&&◌, and-false, and-true as and-true-right}
use mathlib.Core.List.{List}
use mathlib.Core.Logic.{⊎_elim}
use mathlib.Core.Option.{none as vacant, some as holds}
use lib.Dec.{eqb}
use lib.ListN.{length}
use borrow.Author.Tests.{eq-eqb, ne_eqb}
use Rattle.strand.specs.Strands.{Strand, same_strand}
use Rattle.strand.proofs.VerdictLaws.{same_strand_eq}
use Rattle.lists.proofs.ListLaws.{by_bool, and_true, never}
use Rattle.block.specs.Content.{block_size, encode_entry, hit_in}
use Rattle.octets.specs.Octets.{without}
use Rattle.block.specs.Block.{sound_entry, cleaned, forgot}
use Rattle.calls.specs.Buffers.{most_catalog_blocks, Holding, is_held}
use Rattle.lists.specs.Vocabulary.{put_at}
use Rattle.calls.specs.Calls.{is_known}
use Rattle.calls.proofs.BlockUse as entry
use Rattle.calls.proofs.CallLaws.{entry_known, empty_known}
use Rattle.calls.proofs.HoldingLaws.{by_number, put_other}
use Rattle.history.specs.Model.{Slot, nothing, keeps, known_in, dropped, embeds_at, slot_block}
use Rattle.history.proofs.StateLaws.{SlotOk}

module _ (embeds : Strand → Strand → Bool) (B S : ℕ) (mols : ℕ → Holding) where
  pub slot_length : (s : Slot) → SlotOk mols s → length (slot_block embeds B S mols s) ≡ block_size
  unfolding slot_block
  slot_length nothing k = entry.empty_length
  slot_length (keeps m set) k = entry.entry_length m k.0 set _

  pub slot_sound : (s : Slot) → SlotOk mols s → sound_entry (slot_block embeds B S mols s) ≡ true
  unfolding slot_block
  slot_sound nothing k = entry.empty_entry
  slot_sound (keeps m set) k = entry.entry_sound m k.0 set _ (λ d e. (and_true (set d) _ e).0)

  pub slot_clean : (s : Slot) → SlotOk mols s → cleaned (slot_block embeds B S mols s) ≡ slot_block embeds B S mols s
  slot_clean s k = entry.sound_clean _ (slot_sound s k)

  -- an unsound block is cleaned to the block of an empty slot
  pub slot_lost : (x : List ℕ) → length x ≡ block_size → sound_entry x ≡ false → cleaned x ≡ slot_block embeds B S mols nothing
  unfolding slot_block
  slot_lost x l e = entry.unsound_clean x l e

  -- Add: a number that is not held is in no set.

  hit_add : (d : ℕ) (q m : Strand) (set : ℕ → Bool) → is_held (mols d) ≡ false → ((e : ℕ) → set e ≡ true → is_held (mols e) ≡ true)
      → (e : ℕ) → (set e && embeds_at embeds B S m (mols e)) ≡ (set e && embeds_at embeds B S m (put_at mols d (holds q) e))
  hit_add d q m set free sub =
      by_number d (λ e. (set e && embeds_at embeds B S m (mols e)) ≡ (set e && embeds_at embeds B S m (put_at mols d (holds q) e)))
      (⊎_elim
      (λ (w : set d ≡ true). never (sym free ∙ sub d w))
      (λ (w : set d ≡ false). rw w)
      (by_bool (set d)))
      (λ e ne. rw (put_other mols d (holds q) e ne))

  pub slot_add : (d : ℕ) (q : Strand) (s : Slot) → is_held (mols d) ≡ false → SlotOk mols s
      → slot_block embeds B S mols s ≡ slot_block embeds B S (put_at mols d (holds q)) s
  unfolding slot_block
  slot_add d q nothing free k = refl
  slot_add d q (keeps m set) free k = ap (encode_entry m set) (fun_ext (hit_add d q m set free k.1))

  -- Remove: the number is taken out of the set.

  hit_remove : (d : ℕ) (m : Strand) (set : ℕ → Bool) (e : ℕ)
      → without d (λ x. set x && embeds_at embeds B S m (mols x)) e ≡ (without d set e && embeds_at embeds B S m (put_at mols d vacant e))
  unfolding without
  hit_remove d m set =
      by_number d
      (λ e. ((set e && embeds_at embeds B S m (mols e)) && not (eqb e d)) ≡ ((set e && not (eqb e d)) && embeds_at embeds B S m (put_at mols d vacant e)))
      (rw (eq-eqb d d refl, and-false (set d && embeds_at embeds B S m (mols d)), and-false (set d)))
      (λ e ne.
      rw (ne_eqb e d ne, and-true-right (set e && embeds_at embeds B S m (mols e)), and-true-right (set e), put_other mols d vacant e ne))

  pub slot_remove : (d : ℕ) (s : Slot) → d < most_catalog_blocks → SlotOk mols s
      → forgot d (slot_block embeds B S mols s) ≡ slot_block embeds B S (put_at mols d vacant) (dropped d s)
  unfolding slot_block dropped
  slot_remove d nothing l k = entry.empty_forgot d
  slot_remove d (keeps m set) l k =
      entry.entry_forgot m k.0 set (λ x. set x && embeds_at embeds B S m (mols x)) d l ∙ ap (encode_entry m (without d set)) (fun_ext (hit_remove d m set))

  -- Query: what the entry knows is what the slot knows, and its hit bit is then the embedding test.

  module _ (p : Strand) (d : ℕ) (l : d < most_catalog_blocks) where
    pub slot_known : (s : Slot) → SlotOk mols s → is_known (slot_block embeds B S mols s) p d ≡ known_in s p d
    unfolding known_in slot_block
    slot_known nothing k = empty_known p d
    slot_known (keeps m set) k = entry_known m k.0 set _ p d l

    pub slot_hit : (s : Slot) → SlotOk mols s → known_in s p d ≡ true → hit_in (slot_block embeds B S mols s) d ≡ embeds_at embeds B S p (mols d)
    unfolding known_in slot_block
    slot_hit nothing k e = never e
    slot_hit (keeps m set) k e =
        let y = and_true (same_strand m p) (set d) e in
        entry.entry_hit m k.0 set _ d l ∙ rw (y.1, same_strand_eq m p y.0)
