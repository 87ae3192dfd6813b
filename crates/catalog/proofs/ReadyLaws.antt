-- What the search behind a query asks, from the verdict of its judge.
use Rattle.std.specs.Prelude.{Ok}
use mathlib.Core.Path.{◌≡◌}
use mathlib.Core.List.{List}
use Prim.Native.Nat.{ℕ, ◌≤◌}
use Rattle.strand.specs.Strands.{Strand}
use Rattle.block.specs.Block.{block_count}
use Rattle.calls.specs.Calls.{query_verdict}
use Rattle.calls.proofs.FactLaws.{query_facts}
use Rattle.search.specs.Search.{Judged}

pub query_ready : (catalog cache : List ℕ) (p : Strand) (work room : ℕ) → query_verdict catalog cache p work room ≡ Ok tt
    → Judged catalog p.bases p.mates work × (block_count catalog ≤ room) × (1 ≤ block_count cache)
query_ready catalog cache p work room e =
    let f = query_facts catalog cache p work room e in
    (record { blocks = record { sound = f.0.blocks }; most = f.0.most; motif = f.1; room = f.2 }, f.3, f.0.slots)
