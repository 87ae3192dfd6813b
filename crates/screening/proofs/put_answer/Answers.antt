-- `screening::put_answer` meets its contract. The text of an answer is by cases on it, and each case is what `put_refusal` or `put_hits` writes. There is
-- room: the answer fits into `most_output` bytes, and `out` has as many.
use native.Mathlib.Omega.{arith}
use Rattle.screening.specs.Text.{most_output}
use Rattle.screening.proofs.ScreenLaws as law
use Rattle.screening.proofs.put_answer.Goals as goal

pub put_hits-requires : goal.put_hits-requires
put_hits-requires c =
    record {
      count_in_bounds = (law.fits_hits c.in-Ok.found _ _ most_output c.in-Ok.is c.requires.answer_fits).0;
      text_fits = omega (
        arith,
        (law.fits_hits c.in-Ok.found _ _ most_output c.in-Ok.is c.requires.answer_fits).1,
        c.requires.most_output_in_bounds,
      );
    }

pub returns-in-Err : goal.returns-in-Err
returns-in-Err c = law.put_refused c.in-Err.x _ _ c.in-Err.is c.put_refusal.ensures

pub returns-in-Ok : goal.returns-in-Ok
returns-in-Ok c = law.put_hits c.in-Ok.found _ _ c.in-Ok.is c.put_hits.ensures
