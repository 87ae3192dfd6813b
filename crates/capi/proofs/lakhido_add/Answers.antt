-- `capi::lakhido_add` meets its contract. The outcome is that of `catalog::add`, its answer told as a struct of numbers.
use Rattle.interface.specs.Interface.{add_in_c}
use Rattle.interface.proofs.InterfaceLaws.{effect_in_c_lem}
use Rattle.capi.proofs.lakhido_add.Goals as goal

pub returns : goal.returns
returns c = effect_in_c_lem add_in_c c.into.ensures c.add.ensures
