-- `search::maps::fill_todo` meets its contract: all held numbers, but for those that an entry of this motif has searched.
use native.Mathlib.Omega.{arith}
use Rattle.search.proofs.KnownLaws as laws
use Rattle.search.proofs.maps.fill_todo.Goals as goal

pub returns-then-same : goal.returns-then-same
returns-then-same c =
    laws.todo_same c.args.entry.now c.args.held.now c.copy_from_slice.new.self c.args.same c.if-same.true
    c.copy_from_slice.ensures.after _ c.take_out.ensures

pub returns-else-same : goal.returns-else-same
returns-else-same c =
    laws.todo_other c.args.entry.now c.args.held.now _ c.args.same c.if-same.false c.requires.1
    (λ i. omega (arith, c.type_inv.held i)) c.copy_from_slice.ensures.after
