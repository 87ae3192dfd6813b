-- `octets::maps::keep` meets its contract: each byte has the numbers that stay.
use borrow.Author.Rules.{rules}
use mathlib.Core.Path.{◌∙◌}
use native.Mathlib.Omega.{arith}
use Rattle.octets.proofs.SetLaws.{keep_all}
use Rattle.octets.proofs.maps.keep.Goals as goal

pub returns : goal.returns
returns c =
    keep_all c.args.map.now c.args.s.now _ c.args.at (c.combine.ensures.len ∙ c.requires.0) (λ i. search rules)
    (λ j h. grind (arith, c.combine.ensures.each j))
