-- The walk over the molecule that a sound block holds: what it asks is met, and it tells whether the motif embeds.
use mathlib.Core.Path.{◌≡◌, sym, ap, ap₂, ◌∙◌}
use mathlib.Core.Bool.{Bool, true, false}
use mathlib.Core.List.{List, ◌++◌}
use Rattle.std.specs.Prelude.{Option, Some}
use Prim.Native.Nat.{ℕ, ◌≤◌}
use native.Mathlib.Omega.{arith}
use lib.ListN.{length, take}
use lib.Seq.{take_at}
use Rattle.strand.specs.Strands.{Strand, strand_of, Proper, least_motif, least_molecule, greatest_length}
use Rattle.refusals.specs.Rules.{motif_side, molecule_side, work_size}
use Rattle.strand.proofs.VerdictLaws.{proper_within}
use Rattle.embedding.specs.Longest.{embeds}
use Rattle.walk.specs.Walk.{TablesFor}
use Rattle.block.specs.Block.{block_of, sound_molecule}
use Rattle.block.specs.Content.{block_bases, is_empty, molecule_in}
use Rattle.block.proofs.ContentLaws.{molecule_fits, molecule_count, molecule_proper}
use Rattle.codec.specs.Outcomes.{decoded, molecule_decoded}
use Rattle.codec.proofs.OutcomeLaws.{decoded_some, decoded_at}
use Rattle.calls.specs.Buffers.{most_molecule_bases, most_motif_bases, held, molecule_at}
use Rattle.calls.proofs.FactLaws.{held_facts, molecule_at_lem}
use Rattle.judge.specs.Judge.{SoundCatalog}

first_part : (x m t : List ℕ) (n : ℕ) → x ≡ m ++ t → n ≡ length m → take n x ≡ m
first_part x m t n e l = ap (take n) e ∙ take_at m t n (sym l)

-- The walk takes longer strands than a query does.
pub motif_long : (p pm : List ℕ) → Proper motif_side least_motif most_motif_bases p pm → Proper motif_side least_motif greatest_length p pm
motif_long p pm ok = proper_within (omega arith) ok

-- The tables after a walk over a molecule.
pub tables_after : {p pm old new : List ℕ} {k : ℕ} → TablesFor p pm block_bases old → length new ≡ length old → TablesFor p pm k new
    → TablesFor p pm block_bases new
tables_after T e N = record { motif = N.motif; room = omega (arith, T.room) }

-- The first n entries of x and of y are the molecule q, which the rules accept.
pub record Read (q : Strand) (n : ℕ) (x y : List ℕ) : Type 0 where
  pub short : n ≤ most_molecule_bases
  pub letters : take n x ≡ q.bases
  pub bonds : take n y ≡ q.mates
  pub proper : Proper molecule_side least_molecule most_molecule_bases q.bases q.mates

-- The decoder finds the molecule of a block that is held.
pub found_at : (b l m x y : List ℕ) (n : Option ℕ) → 160 ≤ length l → 160 ≤ length m → decoded n x y ≡ molecule_decoded b l m
    → (cat : List ℕ) (d : ℕ) → SoundCatalog cat → held cat d ≡ true → b ≡ block_of d cat → n ≡ Some (length (molecule_in b).bases)
found_at b l m x y n hl hm e cat d ok there eb =
    decoded_some b l m n x y (ap sound_molecule eb ∙ ok.sound d (held_facts cat d there).0) hl hm e

module _ (b l m x y : List ℕ) (r : Option ℕ) (n : ℕ) (er : r ≡ Some n) (hl : 160 ≤ length l) (hm : 160 ≤ length m) (e : decoded r x y ≡
    molecule_decoded b l m) where
  -- The decoder leaves the molecule of a sound block that is not empty in the slices l and m.
  read_block : sound_molecule b ≡ true → is_empty b ≡ false → Read (molecule_in b) n x y
  read_block sound full =
      let f = decoded_at b l m n x y sound hl hm (ap (λ (s : Option ℕ). decoded s x y) (sym er) ∙ e) in
      let z = molecule_proper b sound full in
      record {
        short = let u = molecule_count b sound in let v = molecule_fits b sound in let w = f.0 in omega arith;
        letters = first_part x (molecule_in b).bases _ n f.1 f.0;
        bonds = first_part y (molecule_in b).mates _ n f.2 (f.0 ∙ sym z.same);
        proper = z;
      }

  -- So it does with molecule d of the catalog.
  pub read_at : (cat : List ℕ) (d : ℕ) → SoundCatalog cat → held cat d ≡ true → b ≡ block_of d cat → Read (molecule_at cat d) n x y
  read_at cat d ok there eb =
      let f = held_facts cat d there in
      rw (sym (molecule_at_lem cat d), sym eb) (read_block (ap sound_molecule eb ∙ ok.sound d f.0) (ap is_empty eb ∙ f.1))

module _ (q : Strand) (n : ℕ) (x y : List ℕ) (r : Read q n x y) where
  pub molecule_read : Proper molecule_side least_molecule greatest_length (take n x) (take n y)
  molecule_read = rw (r.letters, r.bonds) (proper_within (omega arith) r.proper)

  pub room : (p : List ℕ) (work : ℕ) → work_size (length p) most_molecule_bases ≤ work → work_size (length p) (length (take n x)) ≤ work
  room p work h = rw r.letters (let z = r.proper.small in omega arith)

  pub tables_read : {p pm tables : List ℕ} → TablesFor p pm block_bases tables → TablesFor p pm (length (take n x)) tables
  tables_read T = rw r.letters record { motif = T.motif; room = omega (arith, T.room, r.proper.small) }

  pub matched : (p : Strand) (b : Bool) → b ≡ embeds p (strand_of (take n x) (take n y)) → b ≡ embeds p q
  matched p b e = e ∙ ap₂ (λ (u v : List ℕ). embeds p (strand_of u v)) r.letters r.bonds
