-- `screening::text::Text::put_number` meets its contract. The digits of n are those of n / 10 and then the last one (`digits`): the call of itself writes
-- the first, `put_byte` the last. The measure is n, and n / 10 is less where n is at least 10.
use native.Mathlib.Omega.{arith}
use mathlib.Core.Path.{ap}
use lib.ListN.{length}
use Rattle.screening.proofs.TextLaws as law
use Rattle.screening.proofs.WritingLaws as writing
use Rattle.screening.proofs.text.Text.+put_number.Goals as goal

pub put_byte-requires : goal.put_byte-requires
put_byte-requires t c = omega (arith, ap length (law.digits_small _ c.if-n-lt10.true), c.requires)

pub returns-then-n-lt10 : goal.returns-then-n-lt10
returns-then-n-lt10 t c = writing.number_small c.args.n c.if-n-lt10.true c.put_byte.ensures

pub put_number-requires : goal.put_number-requires
put_number-requires t c = (omega arith, omega (arith, law.digits_length _ c.if-n-lt10.false, c.requires))

pub put_byte-requires-2 : goal.put_byte-requires-2
put_byte-requires-2 t c =
    omega (arith, c.put_number.ensures.put.past, c.put_number.ensures.size, law.digits_length _ c.if-n-lt10.false, c.requires)

pub returns : goal.returns
returns t c = writing.number_more c.args.n c.if-n-lt10.false c.requires c.put_number.ensures c.put_byte-2.ensures
