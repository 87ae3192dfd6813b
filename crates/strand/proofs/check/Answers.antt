-- `strand::check` meets its contract: the verdict of the rules, and the fold of an accepted strand, whose mates are nested.
use native.Mathlib.Omega.{arith}
use mathlib.Core.Path.{◌∙◌, sym, ap}
use Rattle.std.specs.Prelude.{Ok}
use Rattle.refusals.proofs.RuleLaws.{by_refused, by_accepted, handed_on}
use Rattle.refusals.specs.Rules.{molecule_side}
use Rattle.strand.specs.Strands.{least_molecule, greatest_length, check_verdict, check_answer}
use Rattle.strand.proofs.VerdictLaws.{accepted_proper, proper_mates}
use Rattle.strand.proofs.check.Goals as goal

pub returns-in_err-check_strand : goal.returns-in_err-check_strand
unfolding check_answer check_verdict
returns-in_err-check_strand c =
    handed_on _ c.from_residual.ensures.1
    ∙ sym (by_refused _ _ _ _ (sym c.check_strand.ensures ∙ c.in_err-check_strand.was))

pub fold_of-requires : goal.fold_of-requires
fold_of-requires c =
    let all = proper_mates (omega arith)
    (accepted_proper molecule_side least_molecule greatest_length _ _ (sym c.check_strand.ensures ∙ c.in_ok-check_strand.was)) in record {
      nested = all.0;
      mates_len_bound = all.1;
    }

pub returns : goal.returns
unfolding check_answer check_verdict
returns c = ap Ok c.fold_of.ensures ∙ sym (by_accepted _ _ _ (sym c.check_strand.ensures ∙ c.in_ok-check_strand.was))
