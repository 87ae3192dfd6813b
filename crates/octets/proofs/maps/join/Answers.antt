-- `octets::maps::join` meets its contract: each byte has the numbers of both.
use borrow.Author.Rules.{rules}
use mathlib.Core.Path.{◌∙◌}
use native.Mathlib.Omega.{arith}
use Rattle.octets.proofs.SetLaws.{join_all}
use Rattle.octets.proofs.maps.join.Goals as goal

pub returns : goal.returns
returns c =
    join_all c.args.map.now c.args.s.now _ c.args.at (c.combine.ensures.len ∙ c.requires.0) (λ i. search rules) (λ i. omega (arith, c.type_inv.s i))
    (λ j h. grind (arith, c.combine.ensures.each j))
