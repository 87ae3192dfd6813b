-- `codec::parts::put_content` meets its contract: head, bases and mates are written one after the other, each over the whole of its part.
use borrow.Author.Rules.{rules}
use native.Mathlib.Omega.{arith}
use lib.ListN.{length}
use mathlib.Core.Path.{refl}
use Rattle.block.specs.Content.{content_of}
use Rattle.codec.proofs.CodeLaws as laws
use Rattle.codec.proofs.parts.put_content.Goals as goal

pub returns : goal.returns
unfolding content_of
returns c =
    let kind = c.args.kind.now in
    laws.content_put kind.mark kind.start kind.most c.args.own.now c.args.strand.now.bases.now c.args.strand.now.mates.now (omega arith) (search rules)
    (length c.args.strand.now.bases.now) c.args.s.now c.put_head.new.s c.put_padded.new.s c.put_mates.new.s (search rules) refl
    c.put_head.ensures c.put_padded.ensures c.put_mates.ensures
