-- `window::window` meets its contract: on a refusal nothing was touched; accepted strands are proper, and what the search found is the definition's window.
use mathlib.Core.Path.{sym, ◌∙◌}
use Rattle.refusals.proofs.RuleLaws.{handed_on, work_refused, work_accepted}
use Rattle.window.proofs.AnswerLaws.{answer_refused, window_facts, window_mates_lem, answered}
use Rattle.window.proofs.window.Goals as goal

pub returns-in_err-judge_length : goal.returns-in_err-judge_length
returns-in_err-judge_length c = (
  handed_on _ c.from_residual.ensures.1 ∙ answer_refused _ _ _ _ _ _ (sym c.judge_length.ensures ∙ c.in_err-judge_length.was),
  work_refused _ _ _ (sym c.judge_length.ensures ∙ c.in_err-judge_length.was),
)

pub fold_of-fold-requires : goal.fold_of-fold-requires
fold_of-fold-requires c =
    let all = window_mates_lem _ _ _ _ _ (sym c.judge_length.ensures ∙ c.in_ok-judge_length.was) in record {
      nested = all.0;
      mates_len_bound = all.1;
    }

pub tightest-window-requires : goal.tightest-window-requires
tightest-window-requires c =
    let F = window_facts _ _ _ _ _ (sym c.judge_length.ensures ∙ c.in_ok-judge_length.was) in record {
      proper = F.0.motif;
      proper_2 = F.0.molecule;
      work_room = F.1;
    }

pub returns : goal.returns
returns c = (
  answered _ _ _ _ _ (sym c.judge_length.ensures ∙ c.in_ok-judge_length.was) _ c.tightest-window.ensures _ c.fold_of-fold.ensures,
  work_accepted _ _ _ (sym c.judge_length.ensures ∙ c.in_ok-judge_length.was) c.tightest-window.auto.work,
)
