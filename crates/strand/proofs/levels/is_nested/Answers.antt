-- `strand::levels::is_nested` meets its contract: the names that bases have are those told by their mates exactly in nested mates (`names_nested`).
use mathlib.Core.Path.{◌∙◌}
use Rattle.strand.proofs.LevelLaws.{names_nested}
use Rattle.strand.proofs.levels.is_nested.Goals as goal

pub returns : goal.returns
returns c =
    c.same_names.ensures
    ∙ names_nested _ _ _ c.requires.inside c.requires.mates_len_bound c.put_names.ensures.own_after c.put_names.ensures.names_told
