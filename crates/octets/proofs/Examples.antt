-- The examples of specs/Examples hold, by computing.
use mathlib.Core.Path.{refl}
use Rattle.lists.specs.Vocabulary.{tab}
use Rattle.octets.specs.Octets.{word16, word32, bytes_of, bit_of, map_bit}
use Rattle.octets.specs.Examples.{ByteExamples}

pub examples : ByteExamples
unfolding word16 word32 bytes_of bit_of map_bit tab
examples = record { four_bytes = refl; four_read = refl; two_bytes = refl; two_read = refl; lowest_first = refl; not_highest = refl }
