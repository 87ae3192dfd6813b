-- Only the functions behind the calls need this file: what is known of a catalog that rules 10 and 11 let pass.
use Rattle.std.specs.Prelude.{ℕ, ◌<◌, ◌≡◌, true, List}
use Rattle.block.specs.Block.{block_of, sound_molecule, block_count}

-- Rule 11 lets the catalog pass: each block is sound.
pub record SoundCatalog (catalog : List ℕ) : Type 0 where
  pub sound : (d : ℕ) → d < block_count catalog → sound_molecule (block_of d catalog) ≡ true
