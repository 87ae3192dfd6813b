-- `strand::check_strand` meets its contract: each return is the first rule that refuses; the rules before it passed.
use mathlib.Core.Path.{sym, ◌∙◌}
use Rattle.lists.proofs.ListLaws.{not_not, true_not}
use Rattle.strand.proofs.CheckLaws.{refused_unequal, refused_no_bases, refused_too_long, refused_letter, refused_mate, refused_not_mutual}
use Rattle.strand.proofs.CheckLaws.{refused_crossing, accepted_strand, found_inside, found_paired}
use Rattle.strand.proofs.check_strand.Goals as goal

pub returns-then-mates-bases : goal.returns-then-mates-bases
returns-then-mates-bases c = c.refuse.ensures ∙ refused_unequal _ _ _ _ _ c.if-mates-bases.true

pub returns-then-bases-least : goal.returns-then-bases-least
returns-then-bases-least c = c.refuse-then-bases-least.ensures ∙ refused_no_bases _ _ _ _ _ c.if-mates-bases.false c.if-bases-least.true

pub returns-then-greatest-bases : goal.returns-then-greatest-bases
returns-then-greatest-bases c = c.refuse-then-greatest-bases.ensures ∙ refused_too_long _ _ _ _ _ c.if-mates-bases.false c.if-bases-least.false
    c.if-greatest-bases.true

pub returns-then-letter-bases : goal.returns-then-letter-bases
returns-then-letter-bases c =
    c.refuse-then-letter-bases.ensures
    ∙ refused_letter _ _ _ _ _ c.if-mates-bases.false c.if-bases-least.false c.if-greatest-bases.false _ c.lowest_non_letter-letter.ensures
    c.if-letter-bases.true

pub returns-then-outside-mates : goal.returns-then-outside-mates
returns-then-outside-mates c =
    c.refuse-then-outside-mates.ensures
    ∙ refused_mate _ _ _ _ _ c.if-mates-bases.false c.if-bases-least.false c.if-greatest-bases.false _ c.lowest_non_letter-letter.ensures
    c.if-letter-bases.false _ c.lowest_outside-outside.ensures c.if-outside-mates.true

pub lowest_not_mutual-single-requires : goal.lowest_not_mutual-single-requires
lowest_not_mutual-single-requires c = found_inside c.args.strand.now.mates.now _ c.lowest_outside-outside.ensures c.if-outside-mates.false

pub returns-then-single-mates : goal.returns-then-single-mates
returns-then-single-mates c =
    c.refuse-then-single-mates.ensures
    ∙ refused_not_mutual _ _ _ _ _ c.if-mates-bases.false c.if-bases-least.false c.if-greatest-bases.false _ c.lowest_non_letter-letter.ensures
    c.if-letter-bases.false _ c.lowest_outside-outside.ensures c.if-outside-mates.false _ c.lowest_not_mutual-single.ensures
    c.if-single-mates.true

pub arcs_close-requires : goal.arcs_close-requires
arcs_close-requires c =
    record {
      inside = found_inside c.args.strand.now.mates.now _ c.lowest_outside-outside.ensures c.if-outside-mates.false;
      paired = found_paired c.args.strand.now.mates.now _ c.lowest_not_mutual-single.ensures c.if-single-mates.false;
    }

pub returns-then-arcs_close : goal.returns-then-arcs_close
returns-then-arcs_close c =
    accepted_strand _ _ _ _ _ c.if-mates-bases.false c.if-bases-least.false c.if-greatest-bases.false _ c.lowest_non_letter-letter.ensures
    c.if-letter-bases.false _ c.lowest_outside-outside.ensures c.if-outside-mates.false _ c.lowest_not_mutual-single.ensures
    c.if-single-mates.false (true_not _ (sym c.arcs_close.ensures ∙ c.if-arcs_close.true))

pub returns : goal.returns
returns c =
    c.refuse-2.ensures
    ∙ refused_crossing _ _ _ _ _ c.if-mates-bases.false c.if-bases-least.false c.if-greatest-bases.false _ c.lowest_non_letter-letter.ensures
    c.if-letter-bases.false _ c.lowest_outside-outside.ensures c.if-outside-mates.false _ c.lowest_not_mutual-single.ensures
    c.if-single-mates.false _ c.lowest_crossed.ensures (not_not _ (sym c.arcs_close.ensures ∙ c.if-arcs_close.false))
