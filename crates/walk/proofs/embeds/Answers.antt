-- `walk::embeds` meets its contract: the whole molecule carries the motif exactly when the motif embeds in it (`carried_embeds`).
use Rattle.walk.proofs.WindowWalk.{carried_embeds}
use Rattle.walk.proofs.embeds.Goals as goal

pub returns : goal.returns
returns c =
    record {
      value = carried_embeds _ c.requires.proper.nested.inside c.carries.ensures.tells;
      tables_for_2 = c.carries.ensures.tables_for_2;
    }
