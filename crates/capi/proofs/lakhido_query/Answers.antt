-- `capi::lakhido_query` meets its contract. The outcome is that of `catalog::query`, its answer told as a struct of numbers; what is kept of the work slice is
-- said by the same verdict.
use Rattle.interface.proofs.InterfaceLaws.{query_in_c_lem}
use Rattle.capi.proofs.lakhido_query.Goals as goal

pub returns : goal.returns
returns c = (query_in_c_lem c.into.ensures c.query.ensures.0, c.query.ensures.1)
