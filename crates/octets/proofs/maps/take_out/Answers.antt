-- `octets::maps::take_out` meets its contract: each byte has the numbers that are left.
use borrow.Author.Rules.{rules}
use mathlib.Core.Path.{◌∙◌}
use native.Mathlib.Omega.{arith}
use Rattle.octets.proofs.SetLaws.{out_all}
use Rattle.octets.proofs.maps.take_out.Goals as goal

pub returns : goal.returns
returns c =
    out_all c.args.map.now c.args.s.now _ c.args.at (c.combine.ensures.len ∙ c.requires.0) (λ i. search rules) (λ i. omega (arith, c.type_inv.s i))
    (λ j h. grind (arith, c.combine.ensures.each j))
