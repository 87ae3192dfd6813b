-- `walk::loop_end` meets its contract. The invariant: the bases that were walked take the motif from `from` to `end` and no further.
use mathlib.Core.Path.{◌≡◌, ap, ◌∙◌}
use Prim.Native.Nat.{◌+◌}
use native.Mathlib.Omega.{arith}
use Rattle.letters.specs.Letters.{is_letter}
use Rattle.refusals.specs.Rules.{molecule_side}
use Rattle.embedding.proofs.Recurrence.{empty}
use Rattle.rows.proofs.Parts.{range_at, range_length}
use Rattle.arcs.proofs.Pairs.{rest_setting}
use Rattle.arcs.proofs.Made.{letter_at}
use Rattle.walk.proofs.Hairpins.{loop_step}
use Rattle.walk.proofs.loop_end.Goals as goal

pub loop-base-init : goal.loop-base-init
loop-base-init c = let i : c.args.lo + 0 ≡ c.args.lo = omega arith in rw i (empty _ _ c.requires.from_in_bounds)

pub next_of-end-requires : goal.next_of-end-requires
next_of-end-requires c =
    record {
      p_len_bound = c.loop-base.invariant.reach.upto;
      y_letter = ap (is_letter molecule_side) (range_at c.args.lo c.args.hi c.args.pair.now.q.now c.requires.lo_le_hi.1 c.loop-base.base-index
          c.loop-base-test.true)
          ∙ letter_at (rest_setting c.args.pair.now c.requires.from_in_bounds) (c.args.lo + c.loop-base.base-index)
          (omega (arith, c.requires.lo_le_hi, c.loop-base-test.true, range_length c.args.lo c.args.hi c.args.pair.now.q.now c.requires.lo_le_hi.1));
    }

pub loop-base-preserved : goal.loop-base-preserved
loop-base-preserved c =
    let i : c.args.lo + (c.loop-base.base-index + 1) ≡ c.args.lo + c.loop-base.base-index + 1 = omega arith in
    rw (c.next_of-end.ensures, range_at c.args.lo c.args.hi c.args.pair.now.q.now c.requires.lo_le_hi.1 c.loop-base.base-index c.loop-base-test.true, i)
    (loop_step c.args.pair.now.motif.bases.now c.args.pair.now.motif.mates.now c.args.pair.now.q.now _ _ c.requires.unbonded (omega arith)
    (omega (arith, c.loop-base-test.true, range_length c.args.lo c.args.hi c.args.pair.now.q.now c.requires.lo_le_hi.1)) c.loop-base.invariant)

pub returns : goal.returns
returns c =
    let i : c.args.lo + c.loop-base.base-index ≡ c.args.hi = omega (
      arith,
      c.requires.lo_le_hi,
      c.loop-base-test.false,
      c.loop-base.auto.base-index-end,
      range_length c.args.lo c.args.hi c.args.pair.now.q.now c.requires.lo_le_hi.1,
    ) in
    rw (← i) c.loop-base.invariant
