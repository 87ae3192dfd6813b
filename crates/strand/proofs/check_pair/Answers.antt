-- `strand::check_pair` meets its contract: the verdict on the motif where it refuses, else that on the molecule.
use mathlib.Core.Path.{sym, ◌∙◌}
use Rattle.strand.specs.Strands.{pair_verdict}
use Rattle.refusals.proofs.RuleLaws.{first_second, handed_on, first_stop}
use Rattle.strand.proofs.check_pair.Goals as goal

pub returns-in_err-check_strand : goal.returns-in_err-check_strand
unfolding pair_verdict
returns-in_err-check_strand c =
    handed_on _ c.from_residual.ensures.1 ∙ sym (first_stop _ _ _ (sym c.check_strand.ensures ∙ c.in_err-check_strand.was))

pub returns : goal.returns
unfolding pair_verdict
returns c = c.check_strand-2.ensures ∙ first_second _ _ (sym c.check_strand.ensures ∙ c.in_ok-check_strand.was)
