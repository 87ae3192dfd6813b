-- `window::search::Strands::narrow` meets its contract: where the window from `first` does not carry the motif, none to `end` is shorter than the best
-- (`seek_passed`); else the last start gives the best now (`seek_found`).
use native.Mathlib.Omega.{arith}
use mathlib.Core.Path.{refl}
use Rattle.window.proofs.CarryLaws.{carried_long, starts_from, seek_passed, seek_found}
use Rattle.window.proofs.search.Strands.narrow.Goals as goal

pub still_carries-requires-clause-next_le_first : goal.still_carries-requires-clause-next_le_first
still_carries-requires-clause-next_le_first c =
    let L = carried_long c.args.self.now.base _ _ c.requires.ends_at.0.here in
    (omega arith, (omega (arith, L), omega arith))

pub returns-then-not-still_carries-clause-seek_2 : goal.returns-then-not-still_carries-clause-seek_2
returns-then-not-still_carries-clause-seek_2 c = (
  seek_passed c.requires.seek _ _ _ c.requires.ends_at.0 (omega arith) (omega arith) c.requires.ends_at.1.0 c.requires.ends_at.1.1
      (c.still_carries.ensures.tells.no c.if-not-still_carries.true),
  refl,
)

pub overflow_sub-end : goal.overflow_sub-end
overflow_sub-end c = omega (arith, carried_long c.args.self.now.base _ _ c.requires.ends_at.0.here)

pub last_start-start-requires-clause-starts_at : goal.last_start-start-requires-clause-starts_at
last_start-start-requires-clause-starts_at c =
    starts_from c.args.self.now.base (c.still_carries.ensures.tells.yes c.if-not-still_carries.false)

pub returns-clause-seek_2 : goal.returns-clause-seek_2
returns-clause-seek_2 c =
    let L = carried_long c.args.self.now.base _ _ c.requires.ends_at.0.here in
    let S = c.last_start-start.ensures.starts_at_2 in (
      seek_found c.requires.seek _ _ _ c.requires.ends_at.0 (omega arith) (omega arith) _ c.requires.ends_at.1.0 S.0 S.1.0
          (omega (arith, S.1.1, c.args.self.now.base, L)),
      refl,
    )
