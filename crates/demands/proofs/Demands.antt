-- The three demands hold: assembled from the claims of the crates.
use Rattle.letters.specs.Letters.{letters_match}
use Rattle.letters.proofs.Claims as letters
use Rattle.strand.proofs.Claims as strand
use Rattle.embedding.proofs.Claims as embedding
use Rattle.embedding.specs.Longest.{embeds}
use Rattle.matcher.proofs.Claims as matcher
use Rattle.window.proofs.Claims as window
use Rattle.calls.proofs.Claims as calls
use Rattle.calls.proofs.BatchClaims as batches
use Rattle.history.specs.History.{RunTheorem}
use Rattle.history.proofs.Claims as history
use Rattle.demands.specs.Demands.{AnyInput, RightAnswer, EveryHistory, Demands}

any_input : AnyInput
any_input =
    record {
      check = (strand.claims).check_refuses;
      length = (matcher.claims).length_refuses;
      show = (matcher.claims).show_refuses;
      verify = (embedding.claims).verify_refuses;
      window = (window.claims).window_refuses;
      add = (calls.claims embeds).add_refuses;
      remove = (calls.claims embeds).remove_refuses;
      query = (calls.claims embeds).query_refuses;
      batch = (batches.claims embeds).batch_refuses;
      motifs_refuse = (batches.claims embeds).motifs_refuse;
      batch_order = (batches.claims embeds).batch_order;
      check_accepts = (strand.claims).check_accepts;
      length_accepts = (matcher.claims).length_accepts;
      show_accepts = (matcher.claims).show_accepts;
      verify_accepts = (embedding.claims).verify_accepts;
      add_accepts = (calls.claims embeds).add_accepts;
      remove_accepts = (calls.claims embeds).remove_accepts;
      query_accepts = (calls.claims embeds).query_accepts;
      batch_accepts = (batches.claims embeds).batch_accepts;
      add_keeps = (calls.claims embeds).add_keeps;
      remove_keeps = (calls.claims embeds).remove_keeps;
      query_keeps = (calls.claims embeds).query_keeps;
      batch_keeps = (batches.claims embeds).batch_keeps;
      check_sides = (strand.claims).check_sides;
      length_sides = (matcher.claims).length_sides;
      show_sides = (matcher.claims).show_sides;
      verify_sides = (embedding.claims).verify_sides;
      add_sides = (calls.claims embeds).add_sides;
      remove_sides = (calls.claims embeds).remove_sides;
      query_sides = (calls.claims embeds).query_sides;
      batch_sides = (batches.claims embeds).batch_sides;
    }

right_answer : RightAnswer
right_answer =
    record {
      check = (strand.claims).check_says;
      length = (matcher.claims).length_says;
      show = (matcher.claims).show_says;
      whole = (matcher.claims).length_whole;
      verify = (embedding.claims).verify_says;
      window = (window.claims).window_says;
      windows = (embedding.claims).windows_say letters_match;
      empty_motif_matched = (matcher.claims).empty_motif_matched;
      empty_motif_verified = (embedding.claims).empty_motif_verified;
      empty_motif_windowed = (window.claims).empty_motif_windowed;
      letter = (letters.claims).letter_says;
      match = (letters.claims).match_says;
      check_respelled = (strand.claims).check_respelled;
      length_respelled = (matcher.claims).length_respelled;
      show_respelled = (matcher.claims).show_respelled;
      verify_respelled = (embedding.claims).verify_respelled;
      window_respelled = (window.claims).window_respelled;
      add = (calls.claims embeds).add_says;
      batch = (batches.claims embeds).batch_accepted;
      batch_of_one = (batches.claims embeds).batch_of_one;
      batch_shares = (batches.claims embeds).batch_shares;
    }

every_history : EveryHistory
unfolding RunTheorem
every_history =
    record {
      decides = (history.claims).decides;
      runs = (history.claims).runs;
      refusals = (history.claims).refusals;
      some_run = (history.claims).some_run;
      empty_motif_lem = λ B S es log ran ok. (history.claims).empty_motif_lem B S es log ((history.claims).runs B S es log ran ok);
      spellings = λ B S B' S' es es' log log' ran ok ran' ok'.
          (history.claims).spellings ((history.claims).runs B S es log ran ok) ((history.claims).runs B' S' es' log' ran' ok');
    }

pub demands : Demands
demands = record { any_input = any_input; right_answer = right_answer; every_history = every_history }
