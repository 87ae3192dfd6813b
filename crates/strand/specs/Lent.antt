-- What contracts say of strands that the code lends: the definitions speak of lists of bases and mates, and these read them of the struct.
use Rattle.std.specs.Prelude.{ℕ, List}
use Rattle.strand.specs.Strands.{Strand, strand_of}
use Rattle.strand.specs.declared.Strand.{Strand as Lent}

-- The strand that the struct lends.
abbrev pub lent : Lent → Strand
lent s = strand_of s.bases.now s.mates.now

-- What is said of a list of bases and one of mates, of a strand.
abbrev pub on_strand {ℓ} : {A : Type ℓ} → (List ℕ → List ℕ → A) → Lent → A
on_strand said s = said s.bases.now s.mates.now

-- What is said of the lists of a motif and a molecule, of the two strands.
abbrev pub on_pair {ℓ} : {A : Type ℓ} → (List ℕ → List ℕ → List ℕ → List ℕ → A) → Lent → Lent → A
on_pair said motif molecule = said motif.bases.now motif.mates.now molecule.bases.now molecule.mates.now
