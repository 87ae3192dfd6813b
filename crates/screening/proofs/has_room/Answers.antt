-- `screening::has_room` meets its contract. Each return is the case of `has_room` in which the tests so far are settled.
use Rattle.screening.proofs.ScreenLaws as law
use Rattle.screening.proofs.has_room.Goals as goal

pub returns-then-out-lt-MOST_OUTPUT : goal.returns-then-out-lt-MOST_OUTPUT
returns-then-out-lt-MOST_OUTPUT c = law.out_too_short _ _ _ _ c.if-out-lt-MOST_OUTPUT.true

pub returns-then-cache-ne-BLOCK_SIZE : goal.returns-then-cache-ne-BLOCK_SIZE
returns-then-cache-ne-BLOCK_SIZE c = law.cache_not_one _ _ _ _ c.if-out-lt-MOST_OUTPUT.false c.if-cache-ne-BLOCK_SIZE.true

pub returns-then-work-lt-SCREEN_WORK : goal.returns-then-work-lt-SCREEN_WORK
returns-then-work-lt-SCREEN_WORK c = law.work_too_short_lem _ _ _ _ c.if-out-lt-MOST_OUTPUT.false c.if-cache-ne-BLOCK_SIZE.false c.if-work-lt-SCREEN_WORK.true

pub returns : goal.returns
returns c = law.room_by_hits _ _ _ _ c.if-out-lt-MOST_OUTPUT.false c.if-cache-ne-BLOCK_SIZE.false c.if-work-lt-SCREEN_WORK.false
