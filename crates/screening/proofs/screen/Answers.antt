-- `screening::screen` meets its contract. Where there is no room nothing is written; else the outcome is what `write_output` leaves.
use mathlib.Core.Path.{sym, ◌∙◌}
use lib.ListN.{length}
use Rattle.embedding.specs.Longest.{embeds}
use Rattle.screening.proofs.ScreenLaws as law
use Rattle.screening.proofs.screen.Goals as goal

pub returns-then-not-has_room : goal.returns-then-not-has_room
returns-then-not-has_room c =
    record {
      outcome = law.outcome_none embeds c.args.input.now c.args.out.now c.args.cache.now (length c.args.work.now)
          c.args.hits.now (sym c.has_room.ensures ∙ c.if-not-has_room.true);
      work_kept = law.work_none _ _ _ _ (sym c.has_room.ensures ∙ c.if-not-has_room.true);
    }

pub returns : goal.returns
returns c =
    record {
      outcome = law.outcome_written embeds c.args.input.now c.args.out.now c.args.cache.now (length c.args.work.now)
          c.args.hits.now (sym c.has_room.ensures ∙ c.if-not-has_room.false) c.write_output.ensures.text_put
          c.write_output.ensures.buffers_after.0 c.write_output.ensures.buffers_after.1;
      work_kept = law.work_room _ _ _ _ _ (sym c.has_room.ensures ∙ c.if-not-has_room.false)
          (c.write_output.ensures.buffers_after.2, c.write_output.ensures.buffers_after.3);
    }
