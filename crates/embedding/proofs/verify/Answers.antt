-- `embedding::verify` meets its contract: the verdict refuses, or the test of the places tells whether they are an embedding, and
-- the mates of an accepted molecule are nested.
use mathlib.Core.Path.{sym, ◌∙◌}
use Rattle.refusals.proofs.RuleLaws.{handed_on}
use Rattle.embedding.proofs.VerifyLaws.{accepted_facts, accepted_mates, answer_refused, answer_accepted, tells_verified}
use Rattle.embedding.proofs.verify.Goals as goal

pub returns-in_err-judge : goal.returns-in_err-judge
returns-in_err-judge c = handed_on _ c.from_residual.ensures.1 ∙ answer_refused _ _ _ _ _ _ (sym c.judge.ensures ∙ c.in_err-judge.was)

pub is_embedding-embeds-requires : goal.is_embedding-embeds-requires
is_embedding-embeds-requires c =
    let all = accepted_facts _ _ _ _ _ (sym c.judge.ensures ∙ c.in_ok-judge.was) in record {
      places_len = all.0;
      motif_len = all.1.0.0;
      molecule_len = all.1.0.1;
      inside = all.1.1;
    }

pub fold_of-fold-requires : goal.fold_of-fold-requires
fold_of-fold-requires c =
    let all = accepted_mates _ _ _ _ _ (sym c.judge.ensures ∙ c.in_ok-judge.was) in record {
      nested = all.0;
      mates_len_bound = all.1;
    }

pub returns : goal.returns
returns c =
    let e = sym c.judge.ensures ∙ c.in_ok-judge.was in
    answer_accepted _ _ _ _ _ e _ _ (tells_verified _ _ _ _ _ e _ c.is_embedding-embeds.ensures) c.fold_of-fold.ensures
