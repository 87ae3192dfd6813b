-- `embedding::places::has_place` meets its contract: the places rise, so the search finds x where it is (`searched`).
use Rattle.std.proofs.lemmas.List.Sorted.{searched}
use Rattle.embedding.proofs.Placing.{order_le, searched_has}
use Rattle.embedding.proofs.places.has_place.Goals as goal

pub returns : goal.returns
returns c =
    rw c.is_ok.ensures.value (searched_has _ _ c.binary_search.result (searched _ _ _ c.binary_search.ensures.position
    (order_le c.args.places.now c.args.n c.requires)))
