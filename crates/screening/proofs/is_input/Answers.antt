-- `screening::is_input` meets its contract. Each return is the case of `is_input` in which the tests so far are settled.
use Rattle.screening.proofs.ScreenLaws as law
use Rattle.screening.proofs.is_input.Goals as goal

pub returns-then-n-ne0 : goal.returns-then-n-ne0
returns-then-n-ne0 c = law.input_not_blocks _ c.if-n-ne0.true

pub returns-then-n-lt2 : goal.returns-then-n-lt2
returns-then-n-lt2 c = law.input_too_short _ c.if-n-ne0.false c.if-n-lt2.true

pub returns : goal.returns
returns c = law.input_by_most _ c.if-n-ne0.false c.if-n-lt2.false
