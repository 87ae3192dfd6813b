-- `search::scan::Searcher::embeds_at` meets its contract.
-- The decoder leaves the molecule at the start of the room's two arrays, and the walk, whose rules it meets, reads just that.
use borrow.Author.Rules.{rules}
use mathlib.Core.Path.{refl}
use Rattle.strand.specs.Lent.{lent}
use Rattle.calls.specs.Buffers.{molecule_at}
use Rattle.calls.proofs.FactLaws.{held_facts}
use Rattle.search.proofs.MatchLaws as matching
use Rattle.search.proofs.scan.Searcher.embeds_at.Goals as goal

pub block_at-block-requires : goal.block_at-block-requires
block_at-block-requires c = (held_facts c.args.catalog.now c.args.d c.requires.1).0

pub unwrap-n-requires : goal.unwrap-n-requires
unwrap-n-requires c =
    rw (matching.found_at _ c.args.room.now.bases c.args.room.now.mates _ _ _ (search rules) (search rules) c.decode_molecule-decoded.ensures
    _ _ c.requires.0 c.requires.1 c.block_at-block.ensures) (search rules)

pub shared_ref_as_front-molecule : goal.shared_ref_as_front-molecule
shared_ref_as_front-molecule c =
    (matching.read_at _ c.args.room.now.bases c.args.room.now.mates _ _ _ _ c.unwrap-n.ensures (search rules) (search rules)
    c.decode_molecule-decoded.ensures _ _ c.requires.0 c.requires.1 c.block_at-block.ensures).short

pub embeds-requires-clause-proper_2 : goal.embeds-requires-clause-proper_2
embeds-requires-clause-proper_2 c =
    matching.molecule_read (molecule_at c.args.catalog.now c.args.d) _ _ _
    (matching.read_at _ c.args.room.now.bases c.args.room.now.mates _ _ _ _ c.unwrap-n.ensures (search rules) (search rules)
    c.decode_molecule-decoded.ensures _ _ c.requires.0 c.requires.1 c.block_at-block.ensures)

pub returns : goal.returns
returns c = (
  matching.matched (molecule_at c.args.catalog.now c.args.d) _ _ _
      (matching.read_at _ c.args.room.now.bases c.args.room.now.mates _ _ _ _ c.unwrap-n.ensures (search rules) (search rules)
      c.decode_molecule-decoded.ensures _ _ c.requires.0 c.requires.1 c.block_at-block.ensures)
      (lent c.args.self.now.motif) _ c.embeds.ensures.value,
  refl,
)
