-- `search::maps::fill_known` meets its contract: of the held numbers those that an entry of this motif has searched and found; none of another motif's.
use borrow.Author.Rules.{rules}
use mathlib.Core.Path.{◌≡◌}
use lib.ListN.{length, replicate}
use Rattle.search.proofs.KnownLaws as laws
use Rattle.search.proofs.maps.fill_known.Goals as goal

pub returns-then-not-same : goal.returns-then-not-same
returns-then-not-same c =
    let zeros : c.fill.new.self ≡ replicate (length c.args.found.now) 0 = search rules in
    laws.known_other c.args.entry.now c.args.held.now c.args.held.now c.args.same c.if-not-same.true _ (rw c.requires.2 at zeros)

pub returns : goal.returns
returns c =
    laws.known_same c.args.entry.now c.args.held.now c.copy_from_slice.new.self c.args.same
    c.if-not-same.false c.copy_from_slice.ensures.after c.keep.new.map _ c.keep.ensures c.keep-2.ensures
