-- `screening::text::put_refused` meets its contract. Three fields and a line feed, each written where the one before it ends.
use Prim.Native.Nat.{ℕ}
use borrow.Author.Rules.{rules}
use native.Mathlib.Omega.{arith}
use mathlib.Core.Path.{ap}
use lib.ListN.{length}
use Rattle.screening.specs.Text.{digits, refused_text, TextPut}
use Rattle.screening.proofs.TextLaws as law
use Rattle.screening.proofs.text.put_refused.Goals as goal

pub put_field-requires : goal.put_field-requires
put_field-requires c =
    omega (
      arith,
      law.refused_length c.args.number c.args.side c.args.place,
      c.requires,
      ap length c.new-text.ensures.1,
      c.new-text.ensures.2,
      ap (λ (n : ℕ). length (digits n)) c.from.ensures,
    )

pub put_field-requires-2 : goal.put_field-requires-2
put_field-requires-2 c =
    omega (
      arith,
      law.refused_length c.args.number c.args.side c.args.place,
      c.requires,
      ap length c.new-text.ensures.1,
      c.new-text.ensures.2,
      ap (λ (n : ℕ). length (digits n)) c.from.ensures,
      ap (λ (n : ℕ). length (digits n)) c.from-2.ensures,
      c.put_field.ensures.put.past,
      c.put_field.ensures.size,
    )

pub put_field-requires-3 : goal.put_field-requires-3
put_field-requires-3 c =
    omega (
      arith,
      law.refused_length c.args.number c.args.side c.args.place,
      c.requires,
      ap length c.new-text.ensures.1,
      c.new-text.ensures.2,
      ap (λ (n : ℕ). length (digits n)) c.from.ensures,
      ap (λ (n : ℕ). length (digits n)) c.from-2.ensures,
      c.put_field.ensures.put.past,
      c.put_field.ensures.size,
      c.put_field-2.ensures.put.past,
      c.put_field-2.ensures.size,
    )

pub put_byte-requires : goal.put_byte-requires
put_byte-requires c =
    omega (
      arith,
      law.refused_length c.args.number c.args.side c.args.place,
      c.requires,
      ap length c.new-text.ensures.1,
      c.new-text.ensures.2,
      ap (λ (n : ℕ). length (digits n)) c.from.ensures,
      ap (λ (n : ℕ). length (digits n)) c.from-2.ensures,
      c.put_field.ensures.put.past,
      c.put_field.ensures.size,
      c.put_field-2.ensures.put.past,
      c.put_field-2.ensures.size,
      c.put_field-3.ensures.put.past,
      c.put_field-3.ensures.size,
    )

pub returns : goal.returns
returns c =
    let whole : TextPut (refused_text c.args.number c.args.side c.args.place) c.args.out.now c.put_byte.new.self.out.now 0 c.put_byte.new.self.len
    = law.refused_put _ _ _ c.requires (rw (c.from.ensures, c.new-text.ensures.1, c.new-text.ensures.2) at c.put_field.ensures.put)
    (rw c.from-2.ensures at c.put_field-2.ensures.put) c.put_field-3.ensures.put c.put_byte.ensures.put in
    search rules
