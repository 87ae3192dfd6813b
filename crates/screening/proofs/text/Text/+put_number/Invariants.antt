-- `screening::text::Text::put_number` meets its contract. The digits of n are those of n / 10 and then the last one (`digits`): the call of itself writes
-- the first, `put_byte` the last. The measure is n, and n / 10 is less where n is at least 10.
use Rattle.screening.proofs.text.Text.+put_number.Given as goal

abbrev pub decreases-put_number : goal.decreases-put_number
decreases-put_number l = l.n
