-- `capi::lakhido_remove` meets its contract. The outcome is that of `catalog::remove`, its answer told as a struct of numbers.
use Rattle.interface.specs.Interface.{remove_in_c}
use Rattle.interface.proofs.InterfaceLaws.{effect_in_c_lem}
use Rattle.capi.proofs.lakhido_remove.Goals as goal

pub returns : goal.returns
returns c = effect_in_c_lem remove_in_c c.into.ensures c.remove.ensures
