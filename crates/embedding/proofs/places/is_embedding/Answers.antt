-- `embedding::places::is_embedding` meets its contract: order and range, letters and arcs together are an embedding, and an embedding has each of them.
use Rattle.embedding.proofs.Answers.{tells_same}
use Rattle.embedding.proofs.Placing.{all_embed, embed_arcs}
use Rattle.embedding.proofs.places.is_embedding.Goals as goal

pub returns : goal.returns
returns c =
    tells_same _ (all_embed _ _ _ _ _ c.requires.places_len (c.in_order.ensures.yes c.if-not-in_order.false)
    (c.same_letters.ensures.yes c.if-not-same_letters.false))
    (embed_arcs c.args.motif.now.bases.now _ c.args.molecule.now.bases.now _ _ c.requires.places_len) c.same_arcs.ensures
