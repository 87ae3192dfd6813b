-- `screening::write_output` meets its contract. One return for each case of `screen_output`: bad length, bad motif, and the text of the query. The
-- first two leave cache, work and hits as they were; the third leaves what `ask` does.
use native.Mathlib.Omega.{arith}
use mathlib.Core.Path.{sym, ◌∙◌}
use lib.ListN.{length}
use lib.Seq.{length-take-le}
use Rattle.embedding.specs.Longest.{embeds}
use Rattle.screening.specs.Text.{most_output}
use Rattle.screening.proofs.ScreenLaws as law
use Rattle.screening.proofs.write_output.Goals as goal

pub put_text-requires : goal.put_text-requires
put_text-requires c =
    omega (
      arith,
      (law.room_facts (length c.args.out.now) (length c.args.cache.now) (length c.args.work.now)
          (length c.args.hits.now) c.requires).0,
    )

pub returns-then-not-is_input : goal.returns-then-not-is_input
returns-then-not-is_input c =
    record {
      text_put = law.put_bad_length embeds c.args.input.now (sym c.is_input.ensures ∙ c.if-not-is_input.true)
          c.put_text.ensures;
      buffers_after = law.left_unasked embeds c.args.input.now c.args.out.now c.args.cache.now (length c.args.work.now)
          c.args.hits.now c.args.work.now (law.not_input _ (sym c.is_input.ensures ∙ c.if-not-is_input.true));
    }

pub slice_bounds-holds_motif-end : goal.slice_bounds-holds_motif-end
slice_bounds-holds_motif-end c =
    sym (length-take-le 512 c.args.input.now
    (omega (arith, (law.input_few c.args.input.now (sym c.is_input.ensures ∙ c.if-not-is_input.false)).0)))

pub put_text-requires-then-not-holds_motif : goal.put_text-requires-then-not-holds_motif
put_text-requires-then-not-holds_motif c =
    omega (
      arith,
      (law.room_facts (length c.args.out.now) (length c.args.cache.now) (length c.args.work.now)
          (length c.args.hits.now) c.requires).0,
    )

pub returns-then-not-holds_motif : goal.returns-then-not-holds_motif
returns-then-not-holds_motif c =
    record {
      text_put = law.put_bad_motif embeds c.args.input.now (sym c.is_input.ensures ∙ c.if-not-is_input.false)
          (sym c.holds_motif.ensures ∙ c.if-not-holds_motif.true) c.put_text-then-not-holds_motif.ensures;
      buffers_after = law.left_unasked embeds c.args.input.now c.args.out.now c.args.cache.now (length c.args.work.now)
          c.args.hits.now c.args.work.now (law.asked_by_motif _ _ (sym c.is_input.ensures ∙ c.if-not-is_input.false)
          (sym c.holds_motif.ensures ∙ c.if-not-holds_motif.true));
    }

pub ask-answer-requires : goal.ask-answer-requires
ask-answer-requires c =
    record {
      input_whole = (sym c.is_input.ensures ∙ c.if-not-is_input.false);
      motif_held = (sym c.holds_motif.ensures ∙ c.if-not-holds_motif.false);
      cache_len = (law.room_facts (length c.args.out.now) (length c.args.cache.now) (length c.args.work.now)
          (length c.args.hits.now) c.requires).1;
    }

pub put_answer-requires : goal.put_answer-requires
put_answer-requires c =
    record {
      answer_fits = law.answer_fits embeds c.args.input.now (length c.args.work.now) c.args.hits.now c.ask-answer.result
          c.ask-answer.new.cache c.ask-answer.new.hits (sym c.is_input.ensures ∙ c.if-not-is_input.false) (law.room_facts
          (length c.args.out.now) (length c.args.cache.now) (length c.args.work.now)
          (length c.args.hits.now) c.requires).2 (law.room_facts (length c.args.out.now) (length c.args.cache.now)
          (length c.args.work.now) (length c.args.hits.now) c.requires).3 c.ask-answer.ensures.0 most_output
          (omega arith);
      most_output_in_bounds = (law.room_facts (length c.args.out.now) (length c.args.cache.now) (length c.args.work.now)
          (length c.args.hits.now) c.requires).0;
    }

pub returns : goal.returns
returns c =
    record {
      text_put = law.put_answered embeds c.args.input.now (length c.args.work.now) c.args.hits.now c.ask-answer.result
          c.ask-answer.new.cache c.ask-answer.new.hits (sym c.is_input.ensures ∙ c.if-not-is_input.false) (law.room_facts
          (length c.args.out.now) (length c.args.cache.now) (length c.args.work.now)
          (length c.args.hits.now) c.requires).2 (law.room_facts (length c.args.out.now) (length c.args.cache.now)
          (length c.args.work.now) (length c.args.hits.now) c.requires).3 c.ask-answer.ensures.0
          (sym c.holds_motif.ensures ∙ c.if-not-holds_motif.false) c.put_answer.ensures;
      buffers_after = law.left_asked embeds c.args.input.now c.args.out.now c.args.cache.now (length c.args.work.now)
          c.args.hits.now c.args.work.now c.ask-answer.new.work (law.asked_by_motif _ _
          (sym c.is_input.ensures ∙ c.if-not-is_input.false)
          (sym c.holds_motif.ensures ∙ c.if-not-holds_motif.false)) c.ask-answer.ensures.0 c.ask-answer.ensures.1;
    }
