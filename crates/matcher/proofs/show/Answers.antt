-- `matcher::show` meets its contract: on a refusal nothing was touched; else the molecule's mates are nested, the walk's largest end is the longest, and its
-- places are those shown.
use mathlib.Core.Path.{refl, sym, ◌∙◌}
use Rattle.matcher.specs.Answers.{show_answer, PlacesShown}
use Rattle.refusals.proofs.RuleLaws.{handed_on, work_refused, work_accepted}
use Rattle.walk.proofs.Whole.{walked_longest}
use Rattle.matcher.proofs.CallLaws.{answer_refused, answer_prefix, show_facts, show_mates, shown_of}
use Rattle.matcher.proofs.show.Goals as goal

pub returns-in_err-judge_show : goal.returns-in_err-judge_show
unfolding show_answer PlacesShown
returns-in_err-judge_show c = (
  handed_on _ c.from_residual.ensures.1 ∙ answer_refused _ _ _ _ (sym c.judge_show.ensures ∙ c.in_err-judge_show.was),
  rw (handed_on _ c.from_residual.ensures.1) refl,
  work_refused _ _ _ (sym c.judge_show.ensures ∙ c.in_err-judge_show.was),
)

pub fold_of-fold-requires : goal.fold_of-fold-requires
fold_of-fold-requires c =
    let all = show_mates _ _ _ _ _ _ (sym c.judge_show.ensures ∙ c.in_ok-judge_show.was) in record {
      nested = all.0;
      mates_len_bound = all.1;
    }

pub place_all-length-requires : goal.place_all-length-requires
place_all-length-requires c =
    let F = show_facts _ _ _ _ _ _ (sym c.judge_show.ensures ∙ c.in_ok-judge_show.was) in record {
      setting = F.0;
      room = F.1;
      work_room = F.2;
    }

pub returns : goal.returns
unfolding show_answer PlacesShown
returns c = (
  answer_prefix _ _ _ _ _ (sym c.judge_show.ensures ∙ c.in_ok-judge_show.was)
      (walked_longest _ _ _ _ c.place_all-length.ensures.best) c.fold_of-fold.ensures,
  shown_of c.place_all-length.ensures.laid,
  work_accepted _ _ _ (sym c.judge_show.ensures ∙ c.in_ok-judge_show.was) c.place_all-length.auto.work,
)
