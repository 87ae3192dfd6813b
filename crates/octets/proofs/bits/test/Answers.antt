-- `octets::bits::test` meets its contract: one byte is read; past the end every bit is false.
use Rattle.octets.proofs.BitLaws.{test_out}
use Rattle.octets.specs.Octets.{map_bit}
use mathlib.Core.Path.{sym}
use Rattle.octets.proofs.bits.test.Goals as goal

pub returns-in-Some : goal.returns-in-Some
unfolding map_bit
returns-in-Some c = rw (c.bit_of.ensures, c.in-Some.ensures.0)

pub returns-in-None : goal.returns-in-None
returns-in-None c = sym (test_out _ _ _ c.in-None.ensures)
