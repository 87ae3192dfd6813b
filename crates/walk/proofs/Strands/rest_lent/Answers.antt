-- `walk::Strands::rest_lent` meets its contract: the tables are made, with room for the bounds of the molecule.
use Rattle.walk.proofs.Strands.rest_lent.Goals as goal

pub whole_end-requires : goal.whole_end-requires
whole_end-requires c =
    record {
      walked = c.requires.walked;
      work_room = c.requires.work_room;
      tables_for = c.prepare.ensures _ c.requires.table_room;
    }
