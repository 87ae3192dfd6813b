-- `motifs::longest` meets its contract.
-- Invariant: m is the number of bases of the longest of the first t motifs.
use mathlib.Core.Path.{◌≡◌}
use Rattle.calls.specs.Motifs.{longest_to}
use Rattle.motifs.proofs.longest.Given as goal

abbrev pub invariant-loop-t : goal.invariant-loop-t
invariant-loop-t l = l.m ≡ longest_to l.motifs l.t
