-- `octets::bits::set` meets its contract: one byte is stored; past the end nothing is.
use Rattle.octets.proofs.BitLaws.{set_map_out}
use Rattle.octets.specs.Bits.{set_map}
use mathlib.Core.Path.{sym}
use Rattle.octets.proofs.bits.set.Goals as goal

pub returns-in-Some : goal.returns-in-Some
unfolding set_map
returns-in-Some c = rw (c.with_bit.ensures, c.in-Some.ensures.0)

pub returns-in_default : goal.returns-in_default
returns-in_default c = sym (set_map_out _ _ _ c.in_default.ensures)
