-- Only the functions that read and write the parts of blocks need this file: a checksum written into any bytes, and a kind of block by its numbers.
use Rattle.std.specs.Prelude.{ℕ, List, leb, length}
use Rattle.lists.specs.Vocabulary.{choose}
use Rattle.block.specs.Content.{block_size, rechecked, Kind}
use Rattle.block.specs.declared.kind.Kind.{Kind as Numbers}

-- Into less than a block no checksum is written.
unfoldable pub rechecked_whole : List ℕ → List ℕ
rechecked_whole s = choose (leb block_size (length s)) (rechecked s) s

-- The kind with the numbers that the code has.
abbrev pub kind_of : Numbers → Kind
kind_of k = record { mark = k.mark; side = k.side; least = k.least; most = k.most; blank = k.blank; start = k.start }
