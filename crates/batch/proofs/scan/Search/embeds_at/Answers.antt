-- `batch::scan::Search::embeds_at` meets its contract: motif t with its own mates and tables, and molecule d with its mates, are what the walk asks for.
use Rattle.batch.proofs.MotifUse as motif
use Rattle.batch.proofs.MoleculeUse as molecules
use Rattle.batch.proofs.scan.Search.embeds_at.Goals as goal

pub shared_ref_as_front-molecule : goal.shared_ref_as_front-molecule
shared_ref_as_front-molecule c = molecules.short _ _ c.args.d c.requires.2 _ c.bases_of-q.ensures

pub embeds-requires-clause-proper : goal.embeds-requires-clause-proper
embeds-requires-clause-proper c =
    motif.long_motif _ c.args.self.now.motifs.now.usable c.args.t c.requires.1 _ _ c.motif_at-motif.ensures.0 c.motif_at-motif.ensures.1
    _ _ c.requires.0 _ _ (molecules.proper_there _ _ c.args.d c.requires.2 _ c.bases_of-q.ensures)

pub embeds-requires-clause-proper_2 : goal.embeds-requires-clause-proper_2
embeds-requires-clause-proper_2 c =
    motif.long_molecule _ c.args.self.now.motifs.now.usable c.args.t c.requires.1 _ _ c.motif_at-motif.ensures.0 c.motif_at-motif.ensures.1
    _ _ c.requires.0 _ _ (molecules.proper_there _ _ c.args.d c.requires.2 _ c.bases_of-q.ensures)

pub embeds-requires-clause-work_room : goal.embeds-requires-clause-work_room
embeds-requires-clause-work_room c =
    motif.room_at _ c.args.self.now.motifs.now.usable c.args.t c.requires.1 _ _ c.motif_at-motif.ensures.0 c.motif_at-motif.ensures.1
    _ _ c.requires.0 _ _ (molecules.proper_there _ _ c.args.d c.requires.2 _ c.bases_of-q.ensures)

pub embeds-requires-clause-tables_for : goal.embeds-requires-clause-tables_for
embeds-requires-clause-tables_for c =
    motif.tables_at _ c.args.self.now.motifs.now.usable c.args.t c.requires.1 _ _ c.motif_at-motif.ensures.0 c.motif_at-motif.ensures.1
    _ _ c.requires.0 _ _ (molecules.proper_there _ _ c.args.d c.requires.2 _ c.bases_of-q.ensures)

pub returns : goal.returns
returns c = (
  molecules.embeds_there _ _ c.args.d c.requires.2 _ c.bases_of-q.ensures _ _
      (motif.embeds_here _ c.args.self.now.motifs.now.usable c.args.t c.requires.1 _ _ c.motif_at-motif.ensures.0 c.motif_at-motif.ensures.1
      _ _ c.requires.0 _ _ (molecules.proper_there _ _ c.args.d c.requires.2 _ c.bases_of-q.ensures)
      _ c.embeds.ensures.value),
  rw c.embeds.auto.work (motif.ready_back _ c.args.self.now.motifs.now.usable c.args.t c.requires.1 _ _ c.motif_at-motif.ensures.0 c.motif_at-motif.ensures.1
      _ _ c.requires.0 _ _ (molecules.proper_there _ _ c.args.d c.requires.2 _ c.bases_of-q.ensures)
      _ c.embeds.auto.tables c.embeds.ensures.tables_for_2),
)
