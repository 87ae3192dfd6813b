-- `screening::ask` meets its contract. A zeroed cache of 512 bytes is the empty block, so the outcome of `ask_lent` is that of a fresh cache.
use borrow.Author.Rules.{rules}
use lib.ListN.{length}
use Rattle.embedding.specs.Longest.{embeds}
use Rattle.screening.proofs.ScreenLaws as law
use Rattle.screening.proofs.ask.Goals as goal

pub returns : goal.returns
returns c = (
  law.afresh embeds c.args.input.now c.args.cache.now (length c.args.work.now) c.args.hits.now
      c.fill.new.self c.requires.cache_len (search rules) _ c.ask_lent.ensures.0,
  law.afresh_work embeds c.args.input.now c.args.cache.now (length c.args.work.now) c.args.hits.now
      c.fill.new.self c.requires.cache_len (search rules) _ _ c.ask_lent.ensures.1,
)
