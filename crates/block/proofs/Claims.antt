-- The claims of specs/Statements hold.
use Prim.Native.Nat.{ℕ}
use mathlib.Core.Path.{◌≡◌, refl, sym, ap, ◌∙◌}
use mathlib.Core.Bool.{Bool, true, false}
use mathlib.Core.Logic.{◌⊎◌, inl, inr}
use mathlib.Core.List.{List}
use Rattle.strand.specs.Strands.{Strand, Proper, least_motif}
use Rattle.refusals.specs.Rules.{motif_side}
use Rattle.octets.specs.Octets.{Bytes}
use Rattle.block.specs.Content.{entry_bases, empty_block, is_empty, molecule_in, motif_in, searched_in, hit_in}
use Rattle.block.specs.Motif.{motif_handed_in, encode_motif, sound_motif, holds_motif}
use Rattle.block.specs.Block.{sound_molecule, sound_entry}
use Rattle.block.specs.Statements.{HoldsMolecule, HoldsMotif, HoldsEntry, MoleculeSound, MotifSound, MotifHeld, EntrySound, EntryBack, Claims}
use Rattle.block.proofs.ContentLaws as law
use Rattle.block.proofs.EmptyMotif.{empty_motif_lem}
use Rattle.block.proofs.Examples.{layout}

molecule_says : (s : List ℕ) → Bytes s → MoleculeSound s
molecule_says s bytes = ((λ ok. to ok (is_empty s) refl), from)
  where
    to : sound_molecule s ≡ true → (b : Bool) → is_empty s ≡ b → (s ≡ empty_block) ⊎ ((q : Strand) × HoldsMolecule s q)
    to ok true e = inl (law.empty_is s (law.molecule_size s ok) e)
    to ok false e = inr (molecule_in s, record { proper = law.molecule_proper s ok e; encoded = sym (law.molecule_again s ok e bytes) })

    from : (s ≡ empty_block) ⊎ ((q : Strand) × HoldsMolecule s q) → sound_molecule s ≡ true
    from (inl e) = ap sound_molecule e ∙ law.empty_molecule
    from (inr (q, h)) = ap sound_molecule h.encoded ∙ law.molecule_sound q h.proper

motif_says : (s : List ℕ) → Bytes s → MotifSound s
motif_says s bytes = ((λ ok. to ok (is_empty s) refl), from)
  where
    to : sound_motif s ≡ true → (b : Bool) → is_empty s ≡ b → (s ≡ empty_block) ⊎ ((q : Strand) × HoldsMotif s q)
    to ok true e = inl (law.empty_is s (law.motif_size s ok) e)
    to ok false e = inr (motif_handed_in s, record { proper = law.motif_proper s ok e; encoded = sym (law.motif_again s ok e bytes) })

    from : (s ≡ empty_block) ⊎ ((q : Strand) × HoldsMotif s q) → sound_motif s ≡ true
    from (inl e) = ap sound_motif e ∙ law.empty_motif_lem
    from (inr (q, h)) = ap sound_motif h.encoded ∙ law.motif_sound q h.proper

motif_held : (s : List ℕ) → Bytes s → MotifHeld s
motif_held s bytes = (to, from)
  where
    to : holds_motif s ≡ true → (q : Strand) × HoldsMotif s q
    to h =
        let a = law.held_sound s h in
        (motif_handed_in s, record { proper = law.motif_proper s a.0 a.1; encoded = sym (law.motif_again s a.0 a.1 bytes) })

    from : ((q : Strand) × HoldsMotif s q) → holds_motif s ≡ true
    from (q, h) = ap holds_motif h.encoded ∙ law.sound_held (encode_motif q) (law.motif_sound q h.proper) (law.motif_full q h.proper)

entry_says : (s : List ℕ) → Bytes s → EntrySound s
entry_says s bytes = ((λ ok. to ok (is_empty s) refl), from)
  where
    to : sound_entry s ≡ true → (b : Bool) → is_empty s ≡ b
        → (s ≡ empty_block) ⊎ ((q : Strand) × ((searched : ℕ → Bool) × ((hits : ℕ → Bool) × HoldsEntry s q searched hits)))
    to ok true e = inl (law.empty_is s (law.entry_size s ok) e)
    to ok false e = inr (
      motif_in s,
      (
        searched_in s,
        (
          hit_in s,
          record { proper = law.entry_proper s ok e; within = law.entry_hit_searched s ok e; encoded = sym (law.entry_again s ok e bytes) },
        ),
      ),
    )

    from : (s ≡ empty_block) ⊎ ((q : Strand) × ((searched : ℕ → Bool) × ((hits : ℕ → Bool) × HoldsEntry s q searched hits))) → sound_entry s ≡ true
    from (inl e) = ap sound_entry e ∙ law.empty_entry
    from (inr (q, (searched, (hits, h)))) = ap sound_entry h.encoded ∙ law.entry_sound_below q h.proper searched hits h.within

entry_back : (q : Strand) → Proper motif_side least_motif entry_bases q.bases q.mates → (searched hits : ℕ → Bool) → EntryBack q searched hits
entry_back q ok searched hits =
    record {
      motif = law.entry_motif q ok searched hits;
      searched_bit = law.entry_searched q ok searched hits;
      hit_bit_lem = law.entry_hit q ok searched hits;
      forgotten = law.entry_forgot q ok searched hits;
    }

pub claims : Claims
claims =
    record {
      molecule_sound = molecule_says;
      motif_sound = motif_says;
      motif_held = motif_held;
      entry_sound = entry_says;
      molecule_back = law.molecule_back;
      motif_back = law.motif_back;
      entry_back = entry_back;
      molecule_altered = λ s ok i v. law.molecule_changed s i v ok;
      motif_altered = λ s ok i v. law.motif_changed s i v ok;
      entry_altered = λ s ok i v. law.entry_changed s i v ok;
      empty_motif_lem = empty_motif_lem;
      layout = layout;
    }
