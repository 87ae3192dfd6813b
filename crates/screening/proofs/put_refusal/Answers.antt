-- `screening::put_refusal` meets its contract. A refusal has at most `most_output` bytes of text whatever its numbers are, so `put_refused` has the room
-- that it asks for.
use native.Mathlib.Omega.{arith}
use Rattle.screening.proofs.TextLaws.{most_refused}
use Rattle.screening.proofs.put_refusal.Goals as goal

pub put_refused-requires : goal.put_refused-requires
put_refused-requires c =
    omega (
      arith,
      most_refused c.number.result c.number-2.result c.args.refusal.place c.number.type_inv c.number-2.type_inv (omega arith),
      c.requires,
    )
