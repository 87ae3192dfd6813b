-- `rows::tables::unit_entry` meets its contract: one more where both tests pass.
use Rattle.rows.proofs.TableLaws as tables
use Rattle.rows.proofs.tables.unit_entry.Goals as goal

pub returns : goal.returns
returns c = rw (c.from.ensures, c.from-2.ensures, c.letters_match.ensures) (tables.both_tests _ _ _)
