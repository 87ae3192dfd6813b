-- Motif t of an accepted batch, with its mates and its row of tables: what the walk asks of it, and what it leaves.
use Prim.Native.Nat.{ℕ, ◌<◌, ◌≤◌}
use native.Mathlib.Omega.{arith}
use native.Mathlib.Decide.{ℕ_discrete}
use mathlib.Core.Path.{◌≡◌, ap, ap₂, ◌∙◌}
use mathlib.Core.Bool.{Bool}
use mathlib.Core.List.{List, []}
use lib.ListN.{length, get_or, set, length-set}
use Rattle.std.proofs.lemmas.List.{get_or-set_same, get_or-set_other}
use Rattle.strand.specs.Strands.{Strand, strand_of, Proper, least_motif, least_molecule, greatest_length}
use Rattle.strand.proofs.VerdictLaws.{proper_within}
use Rattle.refusals.specs.Rules.{motif_side, molecule_side, work_size}
use Rattle.walk.specs.Walk.{TablesFor}
use Rattle.embedding.specs.Longest.{embeds}
use Rattle.block.specs.Block.{block_count}
use Rattle.block.specs.Content.{block_bases}
use Rattle.calls.specs.Buffers.{most_motif_bases, most_molecule_bases}
use Rattle.calls.specs.Motifs.{motif_of, UsableMotifs}
use Rattle.calls.proofs.MotifLaws.{motif_proper}
use Rattle.batch.specs.Steps.{Ready}

module _ (motifs : List ℕ) (U : UsableMotifs motifs) (t : ℕ) (l : t < block_count motifs) (p pm : List ℕ) (ep : p ≡ (motif_of motifs t).bases)
    (em : pm ≡ (motif_of motifs t).mates) where
  pub strand_at : strand_of p pm ≡ motif_of motifs t
  strand_at = ap₂ strand_of ep em

  pub proper_at : Proper motif_side least_motif most_motif_bases p pm
  proper_at = rw (em, ep) (motif_proper motifs U t l)

  module _ (work : ℕ) (tables : List (List ℕ)) (R : Ready motifs tables work) (q qm : List ℕ)
      (Q : Proper molecule_side least_molecule most_molecule_bases q qm) where
    pub long_motif : Proper motif_side least_motif greatest_length p pm
    long_motif = proper_within (omega arith) proper_at

    pub long_molecule : Proper molecule_side least_molecule greatest_length q qm
    long_molecule = proper_within (omega arith) Q

    pub room_at : work_size (length p) (length q) ≤ work
    room_at = omega (arith, R.work_of.room t l, ap length ep, Q.small)

    pub tables_at : TablesFor p pm (length q) (get_or tables t [])
    tables_at = rw (em, ep) record { motif = (R.tables_of.each t l).motif; room = omega (arith, (R.tables_of.each t l).room, Q.small) }

    -- The tables of the motif came back as r: those of all motifs are still theirs.
    pub ready_back : (r : List ℕ) → length r ≡ length (get_or tables t []) → TablesFor p pm (length q) r → Ready motifs (set tables t r) work
    ready_back r size N =
        record { rows = length-set tables t r ∙ R.rows; tables_of = record { each = each }; work_of = R.work_of }
      where
        here : TablesFor (motif_of motifs t).bases (motif_of motifs t).mates block_bases r
        here =
            let own : TablesFor p pm block_bases r
            = record { motif = N.motif; room = omega (arith, (R.tables_of.each t l).room, size, ap length ep) } in
            rw (em, ep) at own

        each : (u : ℕ) → u < block_count motifs → TablesFor (motif_of motifs u).bases (motif_of motifs u).mates block_bases (get_or (set tables t r) u [])
        each u k =
            elim (ℕ_discrete u t) [
              | yes x ↦ rw (x, get_or-set_same tables t r [] (omega (arith, R.rows, U.most))) here
              | no x ↦ rw (get_or-set_other tables t u r [] x) (R.tables_of.each u k)
            ]

    pub embeds_here : (b : Bool) → b ≡ embeds (strand_of p pm) (strand_of q qm) → b ≡ embeds (motif_of motifs t) (strand_of q qm)
    embeds_here b e = e ∙ ap (λ (s : Strand). embeds s (strand_of q qm)) strand_at
