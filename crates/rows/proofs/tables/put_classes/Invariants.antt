-- `rows::tables::put_classes` meets its contract. The invariant: the entries before j are the classes of the letters (`Written`).
use Rattle.lists.specs.Vocabulary.{nth}
use Rattle.letters.specs.Classes.{letter_class}
use Rattle.rows.specs.Rows.{Written}
use Rattle.rows.proofs.tables.put_classes.Given as goal

abbrev pub invariant-loop-j : goal.invariant-loop-j
invariant-loop-j l = Written (λ k. letter_class (nth l.p k)) l.initial.tables l.tables 0 l.j
