-- Molecule d of a sound catalog, its bases where they stand and its mates in their row among those of all wanted molecules: how they are read, and what the
-- search of it asks.
use Prim.Native.Nat.{ℕ, ◌+◌, ◌-◌, ◌<◌, ◌≤◌}
use native.Mathlib.Omega.{arith}
use native.Mathlib.Decide.{ℕ_discrete}
use mathlib.Core.Path.{◌≡◌, sym, ap, ap₂, ◌∙◌}
use mathlib.Core.Bool.{Bool, true, false}
use mathlib.Core.List.{List, [], ◌++◌}
use lib.ListN.{length, take, drop, get_or, set, length-drop, length-set}
use lib.Seq.{take_at, take_all}
use Rattle.std.proofs.lemmas.List.{get_or-set_same, get_or-set_other}
use Rattle.lists.specs.Vocabulary.{nth, between, select}
use Rattle.lists.proofs.ListLaws.{never, some_yes}
use Rattle.lists.proofs.Ranges.{some_true, select_ext}
use Rattle.octets.specs.Octets.{map_bit, map_bytes, words}
use Rattle.octets.proofs.MapLaws.{map_bit_lem}
use Rattle.strand.specs.Strands.{Strand, strand_of, Proper, least_molecule}
use Rattle.refusals.specs.Rules.{molecule_side}
use Rattle.embedding.specs.Longest.{embeds}
use Rattle.block.specs.Block.{block_of, block_count, sound_molecule}
use Rattle.block.specs.Content.{block_size, block_bases, molecule_in, strand_in}
use Rattle.block.proofs.ContentLaws.{molecule_size, molecule_fits, molecule_count, molecule_proper}
use Rattle.calls.specs.Buffers.{most_catalog_blocks, most_molecule_bases, held, molecule_at}
use Rattle.calls.proofs.FactLaws.{held_facts, molecule_at_lem}
use Rattle.judge.specs.Judge.{SoundCatalog}
use Rattle.batch.specs.Steps.{in_some, Asked, Wanted, BondsTo, Searching, MoleculeRead}

pub length_of_molecule : (catalog : List ℕ) (d : ℕ) → SoundCatalog catalog → d < block_count catalog → length (molecule_at catalog d).bases ≤ block_bases
length_of_molecule catalog d ok l =
    let s = ok.sound d l in
    rw (sym (molecule_at_lem catalog d)) (omega (arith, molecule_count (block_of d catalog) s, molecule_fits (block_of d catalog) s))

-- b is block d, which holds a molecule.
module _ (catalog : List ℕ) (ok : SoundCatalog catalog) (d : ℕ) (there : held catalog d ≡ true) where
  pub below : d < block_count catalog
  below = (held_facts catalog d there).0

  sound : sound_molecule (block_of d catalog) ≡ true
  sound = ok.sound d below

  pub proper : Proper molecule_side least_molecule most_molecule_bases (molecule_at catalog d).bases (molecule_at catalog d).mates
  proper = rw (sym (molecule_at_lem catalog d)) (molecule_proper (block_of d catalog) sound (held_facts catalog d there).1)

  module _ (b : List ℕ) (is : b ≡ block_of d catalog) where
    pub block_size_lem : length b ≡ block_size
    block_size_lem = ap length is ∙ molecule_size (block_of d catalog) sound

    pub bases_fit : nth b 1 ≤ block_bases
    bases_fit = rw is (molecule_fits (block_of d catalog) sound)

    pub bases_are : between 28 (28 + nth b 1) b ≡ (molecule_at catalog d).bases
    unfolding molecule_at molecule_in strand_in
    bases_are = ap (λ (s : List ℕ). between 28 (28 + nth s 1) s) is

    mates_are : words (nth b 1) (drop 188 b) ≡ (molecule_at catalog d).mates
    unfolding molecule_at molecule_in strand_in
    mates_are = ap (λ (s : List ℕ). words (nth s 1) (drop 188 s)) is

    count_is : nth b 1 ≡ length (molecule_at catalog d).bases
    count_is = rw is (molecule_count (block_of d catalog) sound ∙ ap (λ (s : Strand). length s.bases) (molecule_at_lem catalog d))

    -- Its mates, read to the start of a row.
    pub mates_read : (n : ℕ) (r rest : List ℕ) → n ≡ nth b 1 → r ≡ words n (between 188 (length b) b)
        → take (length (molecule_at catalog d).bases) (r ++ rest) ≡ (molecule_at catalog d).mates
    mates_read n r rest en er = rw (sym count_is, read) (take_at (molecule_at catalog d).mates rest (nth b 1) (proper.same ∙ sym count_is))
      where
        read : r ≡ (molecule_at catalog d).mates
        read =
            er ∙ ap (λ (k : ℕ). words k (between 188 (length b) b)) en
            ∙ ap (words (nth b 1)) (take_all (length b - 188) (drop 188 b) (omega (arith, length-drop 188 b)))
            ∙ mates_are

-- Molecule d is wanted: it is held.
pub wanted_there : (catalog wanted : List ℕ) → Wanted catalog wanted → (d : ℕ) → d < block_count catalog → map_bit wanted 0 d ≡ true → held catalog d ≡ true
wanted_there catalog wanted W d l e = W.holds d (omega (arith, W.most)) e

-- A number that is not wanted, one that is, and none at all.
module _ (catalog : List ℕ) (want : ℕ → Bool) (bonds : List (List ℕ)) where
  pub bonds_skip : (d : ℕ) → BondsTo catalog want bonds d → want d ≡ false → BondsTo catalog want bonds (d + 1)
  bonds_skip d B no-want = record {
    rows = B.rows;
    each = λ u l w. elim (ℕ_discrete u d) [
      | yes q ↦ never (sym no-want ∙ ap want (sym q) ∙ w)
      | no q ↦ B.each u (omega arith) w
    ];
  }

  pub bonds_next : (d : ℕ) (r : List ℕ) → BondsTo catalog want bonds d → d < most_catalog_blocks
      → take (length (molecule_at catalog d).bases) r ≡ (molecule_at catalog d).mates → BondsTo catalog want (set bonds d r) (d + 1)
  bonds_next d r B l e = record { rows = length-set bonds d r ∙ B.rows; each = at }
    where
      at : (u : ℕ) → u < d + 1 → want u ≡ true → take (length (molecule_at catalog u).bases) (get_or (set bonds d r) u []) ≡ (molecule_at catalog u).mates
      at u h w = elim (ℕ_discrete u d) [
        | yes q ↦ rw (q, get_or-set_same bonds d r [] (omega (arith, B.rows))) e
        | no q ↦ rw (get_or-set_other bonds d u r [] q) (B.each u (omega arith) w)
      ]

  pub bonds_start : length bonds ≡ most_catalog_blocks → BondsTo catalog want bonds 0
  bonds_start h = record { rows = h; each = λ u l w. absurd (omega arith) }

-- ---- a molecule that was read, as the walk asks for it; q are its bases, qm the start of its row

module _ (catalog : List ℕ) (bonds : List (List ℕ)) (d : ℕ) (R : MoleculeRead catalog bonds d) (q : List ℕ) (is : q ≡ (molecule_at catalog d).bases) where
  pub short : length q ≤ block_bases
  short = omega (arith, ap length is, length_of_molecule catalog d R.blocks (below catalog R.blocks d R.there))

  mates_there : take (length q) (get_or bonds d []) ≡ (molecule_at catalog d).mates
  mates_there = rw is R.mates

  pub proper_there : Proper molecule_side least_molecule most_molecule_bases q (take (length q) (get_or bonds d []))
  proper_there = rw (mates_there, is) (proper catalog R.blocks d R.there)

  pub embeds_there : (p : Strand) (b : Bool) → b ≡ embeds p (strand_of q (take (length q) (get_or bonds d []))) → b ≡ embeds p (molecule_at catalog d)
  embeds_there p b e = e ∙ ap (embeds p) (ap₂ strand_of is mates_there)

-- ---- what the motifs ask for, as one map

module _ (catalog motifs : List ℕ) (todo : List (List ℕ)) (A : Asked catalog motifs todo) where
  module _ (wanted : List ℕ) (together : wanted ≡ map_bytes (in_some (block_count motifs) todo)) where
    is_wanted : (d : ℕ) → d < most_catalog_blocks → map_bit wanted 0 d ≡ in_some (block_count motifs) todo d
    is_wanted d l = ap (λ (m : List ℕ). map_bit m 0 d) together ∙ map_bit_lem (in_some (block_count motifs) todo) d l

    pub wanted_held : Wanted catalog wanted
    unfolding in_some
    wanted_held = record { blocks = A.blocks; most = A.most; holds = at }
      where
        at : (d : ℕ) → d < most_catalog_blocks → map_bit wanted 0 d ≡ true → held catalog d ≡ true
        at d l h =
            let x = some_true (block_count motifs) (λ t. map_bit (get_or todo t []) 0 d) (sym (is_wanted d l) ∙ h) in
            A.holds x.0 d x.1 l x.2

    pub searching : (bonds : List (List ℕ)) → BondsTo catalog (map_bit wanted 0) bonds (block_count catalog) → Searching catalog motifs todo bonds
    searching bonds B = record {
      asked = A;
      bonds_of = record { rows = B.rows; each = λ d l w. B.each d l (is_wanted d (omega (arith, A.most)) ∙ w) };
    }

    pub counted : (r : ℕ) → r ≡ length (select (block_count catalog) (map_bit wanted 0))
        → r ≡ length (select (block_count catalog) (in_some (block_count motifs) todo))
    counted r e = e ∙ ap length (select_ext (block_count catalog) _ _ (λ d l. is_wanted d (omega (arith, A.most))))

-- Motif t asks for molecule d: it was read.
pub was_read : (catalog motifs : List ℕ) (todo bonds : List (List ℕ)) → Searching catalog motifs todo bonds
    → (t d : ℕ) → t < block_count motifs → d < block_count catalog
    → map_bit (get_or todo t []) 0 d ≡ true → MoleculeRead catalog bonds d
unfolding in_some
was_read catalog motifs todo bonds S t d lt ld h = record {
  blocks = S.asked.blocks;
  there = S.asked.holds t d lt (omega (arith, S.asked.most)) h;
  within = omega (arith, S.asked.most);
  mates = S.bonds_of.each d ld (some_yes (λ u. map_bit (get_or todo u []) 0 d) (block_count motifs) t lt h);
}
