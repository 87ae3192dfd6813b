-- `screening::text::put_hits` meets its contract. Four texts, each written where the one before it ends; the rest of the room is what is left for the
-- later ones.
use borrow.Author.Rules.{rules}
use native.Mathlib.Omega.{arith}
use mathlib.Core.Path.{ap}
use lib.ListN.{length, take}
use Rattle.screening.specs.Text.{hits_text, TextPut}
use Rattle.screening.proofs.TextLaws as law
use Rattle.screening.proofs.text.put_hits.Goals as goal

pub put_field-requires : goal.put_field-requires
put_field-requires c =
    omega (
      arith,
      law.hits_length c.args.count c.args.searched (take c.args.count c.args.numbers.now),
      c.requires.text_fits,
      ap length c.new-text.ensures.1,
      c.new-text.ensures.2,
    )

pub put_field-requires-2 : goal.put_field-requires-2
put_field-requires-2 c =
    omega (
      arith,
      law.hits_length c.args.count c.args.searched (take c.args.count c.args.numbers.now),
      c.requires.text_fits,
      ap length c.new-text.ensures.1,
      c.new-text.ensures.2,
      c.put_field.ensures.put.past,
      c.put_field.ensures.size,
    )

pub put_byte-requires : goal.put_byte-requires
put_byte-requires c =
    omega (
      arith,
      law.hits_length c.args.count c.args.searched (take c.args.count c.args.numbers.now),
      c.requires.text_fits,
      ap length c.new-text.ensures.1,
      c.new-text.ensures.2,
      c.put_field.ensures.put.past,
      c.put_field.ensures.size,
      c.put_field-2.ensures.put.past,
      c.put_field-2.ensures.size,
    )

pub put_lines-requires : goal.put_lines-requires
put_lines-requires c =
    omega (
      arith,
      law.hits_length c.args.count c.args.searched (take c.args.count c.args.numbers.now),
      c.requires.text_fits,
      ap length c.new-text.ensures.1,
      c.new-text.ensures.2,
      c.put_field.ensures.put.past,
      c.put_field.ensures.size,
      c.put_field-2.ensures.put.past,
      c.put_field-2.ensures.size,
      c.put_byte.ensures.put.past,
      c.put_byte.ensures.size,
    )

pub returns : goal.returns
returns c =
    let whole : TextPut (hits_text c.args.count c.args.searched (take c.args.count c.args.numbers.now)) c.args.out.now c.put_lines.new.self.out.now 0
    c.put_lines.new.self.len
    = law.hits_put _ _ _ c.requires.text_fits (rw (c.new-text.ensures.1, c.new-text.ensures.2) at c.put_field.ensures.put)
    c.put_field-2.ensures.put c.put_byte.ensures.put c.put_lines.ensures.put in
    search rules
