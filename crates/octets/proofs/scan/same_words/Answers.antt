-- `octets::scan::same_words` meets its contract: the numbers passed are equal.
use native.Mathlib.Omega.{arith}
use Rattle.octets.proofs.ScanLaws.{other_word, same_word, all_words}
use Rattle.octets.proofs.scan.same_words.Goals as goal

pub returns-then-word_at-word : goal.returns-then-word_at-word
returns-then-word_at-word c = other_word c.args.s.now c.args.src.now c.loop-i.i (omega arith) _ c.word_at.ensures c.if-word_at-word.true

pub loop-i-preserved : goal.loop-i-preserved
loop-i-preserved c = (
  omega arith,
  same_word c.args.s.now c.args.src.now c.loop-i.i (omega arith) _ c.word_at.ensures c.if-word_at-word.false
      c.loop-i.invariant.1,
)

pub returns : goal.returns
returns c = all_words c.args.s.now c.args.src.now (λ k h. c.loop-i.invariant.1 k (omega arith))
