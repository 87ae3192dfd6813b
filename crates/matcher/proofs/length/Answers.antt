-- `matcher::length` meets its contract: on a refusal nothing was touched; accepted strands are proper, the molecule's mates nested, and the search gives the
-- longest.
use mathlib.Core.Path.{sym, ◌∙◌}
use Rattle.matcher.specs.Answers.{length_answer}
use Rattle.refusals.proofs.RuleLaws.{handed_on, work_refused, work_accepted}
use Rattle.matcher.proofs.CallLaws.{answer_refused, answer_prefix, length_facts, length_mates}
use Rattle.matcher.proofs.length.Goals as goal

pub returns-in_err-judge_length : goal.returns-in_err-judge_length
unfolding length_answer
returns-in_err-judge_length c = (
  handed_on _ c.from_residual.ensures.1 ∙ answer_refused _ _ _ _ (sym c.judge_length.ensures ∙ c.in_err-judge_length.was),
  work_refused _ _ _ (sym c.judge_length.ensures ∙ c.in_err-judge_length.was),
)

pub fold_of-fold-requires : goal.fold_of-fold-requires
fold_of-fold-requires c =
    let all = length_mates _ _ _ _ _ (sym c.judge_length.ensures ∙ c.in_ok-judge_length.was) in record {
      nested = all.0;
      mates_len_bound = all.1;
    }

pub prefix_length-length-requires : goal.prefix_length-length-requires
prefix_length-length-requires c =
    let F = length_facts _ _ _ _ _ (sym c.judge_length.ensures ∙ c.in_ok-judge_length.was) in
    record {
      proper = F.0.motif;
      proper_2 = F.0.molecule;
      work_room = F.1;
    }

pub returns : goal.returns
unfolding length_answer
returns c = (
  answer_prefix _ _ _ _ _ (sym c.judge_length.ensures ∙ c.in_ok-judge_length.was) c.prefix_length-length.ensures
      c.fold_of-fold.ensures,
  work_accepted _ _ _ (sym c.judge_length.ensures ∙ c.in_ok-judge_length.was)
      c.prefix_length-length.auto.work,
)
