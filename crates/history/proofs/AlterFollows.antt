-- Alterations: the bytes go on following the model.
use Prim.Native.Nat.{ℕ, ◌+◌, ◌<◌, ◌≤◌}
use native.Mathlib.Omega.{arith}
use mathlib.Core.Path.{◌≡◌, sym, ap, ◌∙◌}
use mathlib.Core.Logic.{⊎_elim}
use mathlib.Core.Bool.{Bool, true, false}
use mathlib.Core.List.{List}
use lib.Dec.{eqb}
use lib.ListN.{length, set, length-set}
use lib.Seq.{set-get_or}
use borrow.Author.Tests.{eqb-true, eqb-false}
use Rattle.lists.specs.Vocabulary.{nth, put_at}
use Rattle.lists.proofs.ListLaws.{by_bool}
use Rattle.strand.specs.Strands.{Strand}
use Rattle.block.specs.Content.{block_size}
use Rattle.block.specs.Block.{block_of, sound_entry, cleaned}
use Rattle.calls.proofs.BlockUse as entry
use Rattle.calls.proofs.HoldingLaws.{by_number, put_same, put_other}
use Rattle.calls.proofs.ReadingLaws.{alter_same, alter_other}
use Rattle.history.specs.Model.{nothing, State, slot_block, model_alter}
use Rattle.history.specs.History.{Buffers, altered}
use Rattle.history.proofs.Verdicts.{tracks_alter}
use Rattle.history.proofs.StateLaws.{alter_keeps, alter_takes, molecules_same, alter_ok}
use Rattle.history.proofs.Slots.{slot_length, slot_sound, slot_clean, slot_lost}
use Rattle.history.proofs.Follows.{Follows}

set_same : (b : List ℕ) (i v : ℕ) → nth b i ≡ v → set b i v ≡ b
set_same b i v e = ap (set b i) (sym e) ∙ set-get_or b i 0

module _ (embeds : Strand → Strand → Bool) (B S : ℕ) (β : Buffers) (σ : State) (times : ℕ → ℕ) (f : Follows embeds B S β σ times)
    (s i v : ℕ) (s< : s < S) (i< : i < block_size) where
  -- the model's block of a slot, before and after
  abbrev was : ℕ → List ℕ
  was r = slot_block embeds B S σ.molecules (σ.slots r)

  abbrev is : ℕ → List ℕ
  is r = slot_block embeds B S σ.molecules ((model_alter embeds B S σ s i v).slots r)

  abbrev bytes : ℕ → List ℕ
  bytes r = block_of r (altered β s i v).cache

  bytes_other : (r : ℕ) → (r ≡ s → ⊥) → bytes r ≡ block_of r β.cache
  unfolding altered
  bytes_other r ne = alter_other β.cache s r i v i< ne

  bytes_same : times s ≡ 0 → bytes s ≡ set (was s) i v
  unfolding altered
  bytes_same z = alter_same β.cache s i v i< ∙ ap (λ (x : List ℕ). set x i v) (f.never s s< z)

  -- the value is the one that stood there, or another
  kept : eqb (nth (was s) i) v ≡ true → (r : ℕ) → is r ≡ was r
  kept e r = ap (λ (τ : State). slot_block embeds B S σ.molecules (τ.slots r)) (alter_keeps embeds B S σ s i v e)

  taken : eqb (nth (was s) i) v ≡ false → (r : ℕ) → is r ≡ slot_block embeds B S σ.molecules (put_at σ.slots s nothing r)
  taken e r = ap (λ (τ : State). slot_block embeds B S σ.molecules (τ.slots r)) (alter_takes embeds B S σ s i v e)

  is_other : (r : ℕ) → (r ≡ s → ⊥) → is r ≡ was r
  is_other r ne =
      ⊎_elim
      (λ (e : eqb (nth (was s) i) v ≡ true). kept e r)
      (λ (e : eqb (nth (was s) i) v ≡ false). taken e r ∙ ap (slot_block embeds B S σ.molecules) (put_other σ.slots s nothing r ne))
      (by_bool (eqb (nth (was s) i) v))

  -- the first alteration of the block: it is unsound now, or the same
  clean_same : times s ≡ 0 → cleaned (bytes s) ≡ is s
  clean_same z =
      let good = f.ok.slot_ok s in
      ⊎_elim
      (λ (e : eqb (nth (was s) i) v ≡ true).
      ap cleaned (bytes_same z ∙ set_same (was s) i v (eqb-true _ v e)) ∙ slot_clean embeds B S σ.molecules (σ.slots s) good ∙ sym (kept e s))
      (λ (e : eqb (nth (was s) i) v ≡ false).
      let unsound : sound_entry (set (was s) i v) ≡ false =
      entry.entry_changed (was s) i v (slot_sound embeds B S σ.molecules (σ.slots s) good) i< (eqb-false _ v e) in
      let long : length (set (was s) i v) ≡ block_size = length-set (was s) i v ∙ slot_length embeds B S σ.molecules (σ.slots s) good in
      ap cleaned (bytes_same z)
      ∙ slot_lost embeds B S σ.molecules (set (was s) i v) long unsound
      ∙ sym (taken e s ∙ ap (slot_block embeds B S σ.molecules) (put_same σ.slots s nothing)))
      (by_bool (eqb (nth (was s) i) v))

  abbrev more : ℕ → ℕ
  more = put_at times s (times s + 1)

  once_all : (r : ℕ) → r < S → more r ≤ 1 → cleaned (bytes r) ≡ is r
  once_all =
      by_number s (λ r. r < S → more r ≤ 1 → cleaned (bytes r) ≡ is r)
      (λ l m. let k : more s ≡ times s + 1 = put_same times s (times s + 1) in clean_same (omega arith))
      (λ r ne l m.
      let k : more r ≡ times r = put_other times s (times s + 1) r ne in
      ap cleaned (bytes_other r ne) ∙ f.once r l (omega arith) ∙ sym (is_other r ne))

  never_all : (r : ℕ) → r < S → more r ≡ 0 → bytes r ≡ is r
  never_all =
      by_number s (λ r. r < S → more r ≡ 0 → bytes r ≡ is r)
      (λ l m. let k : more s ≡ times s + 1 = put_same times s (times s + 1) in let z : ⊥ = omega arith in absurd z)
      (λ r ne l m.
      let k : more r ≡ times r = put_other times s (times s + 1) r ne in
      bytes_other r ne ∙ f.never r l (omega arith) ∙ sym (is_other r ne))

  pub alter_follows : Follows embeds B S (altered β s i v) (model_alter embeds B S σ s i v) (put_at times s (times s + 1))
  alter_follows =
      let tracks = tracks_alter embeds B S β σ (record { stored = f.stored; sized = f.sized }) s i v in
      record {
        ok = alter_ok embeds B S σ f.ok s i v;
        stored = tracks.stored;
        sized = tracks.sized;
        once = λ r l m. rw (molecules_same embeds B S σ s i v) (once_all r l m);
        never = λ r l m. rw (molecules_same embeds B S σ s i v) (never_all r l m);
      }
