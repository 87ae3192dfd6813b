-- What the bytes of a block handed in as a motif say of the motif, and what the loops over such blocks come to.
use Prim.Native.Nat.{ℕ, zero, suc, ◌+◌, ◌-◌, ◌<◌, ◌≤◌, max}
use native.Mathlib.Omega.{arith}
use native.Mathlib.Numerals.{add-one}
use native.Mathlib.Decide.{ℕ_discrete}
use mathlib.Core.Path.{◌≡◌, refl, sym, ap, ◌∙◌}
use mathlib.Core.Bool.{Bool, true, false}
use mathlib.Core.List.{List, [], ◌++◌}
use lib.ListN.{length, take, drop, get_or, set, length-drop}
use lib.Seq.{take_at, take_all}
use Rattle.std.proofs.Common.{Option, Some, None, MatchOption}
use Rattle.std.proofs.lemmas.List.{get_or-set_same, get_or-set_other}
use Rattle.std.specs.List.{find, range_with_len}
use Rattle.lists.specs.Vocabulary.{nth, between, choose, lowest, lowest_from}
use Rattle.lists.proofs.ListLaws.{lowest_before, not_not}
use Rattle.lists.proofs.Stretches.{length_stretch}
use Rattle.octets.specs.Octets.{words}
use Rattle.block.specs.Content.{block_size, block_bases, strand_in}
use Rattle.block.specs.Block.{block_of, block_count}
use Rattle.block.specs.Motif.{motif_handed_in, holds_motif}
use Rattle.block.proofs.ContentLaws.{motif_size, motif_fits, held_sound}
use Rattle.calls.specs.Buffers.{most_motif_bases}
use Rattle.calls.specs.Motifs.{motif_of, no_motif_at, UsableMotifs, longest_to}
use Rattle.calls.proofs.MotifLaws.{motif_proper, longest_more}
use Rattle.walk.specs.Walk.{TablesFor}
use Rattle.motifs.specs.Unpacked.{AllMotifs, TablesTo}

-- b is block t, which has a motif.
module _ (motifs : List ℕ) (t : ℕ) (holds : holds_motif (block_of t motifs) ≡ true) (b : List ℕ) (is : b ≡ block_of t motifs) where
  pub block_size_lem : length b ≡ block_size
  block_size_lem = ap length is ∙ motif_size (block_of t motifs) (held_sound (block_of t motifs) holds).0

  pub bases_fit : nth b 1 ≤ block_bases
  bases_fit = rw is (motif_fits (block_of t motifs) (held_sound (block_of t motifs) holds).0)

  pub bases_are : between 28 (28 + nth b 1) b ≡ (motif_of motifs t).bases
  unfolding motif_of motif_handed_in strand_in
  bases_are = ap (λ (s : List ℕ). between 28 (28 + nth s 1) s) is

  pub mates_are : words (nth b 1) (drop 188 b) ≡ (motif_of motifs t).mates
  unfolding motif_of motif_handed_in strand_in
  mates_are = ap (λ (s : List ℕ). words (nth s 1) (drop 188 s)) is

  pub count_is : nth b 1 ≡ length (motif_of motifs t).bases
  count_is = sym (length_stretch 28 (nth b 1) b (omega (arith, block_size_lem, bases_fit))) ∙ ap length bases_are

-- A motif that a query takes.
module _ (motifs : List ℕ) (ok : UsableMotifs motifs) (t : ℕ) (l : t < block_count motifs) (b : List ℕ) (is : b ≡ block_of t motifs) where
  pub count_small : nth b 1 ≤ most_motif_bases
  count_small = omega (arith, ok.short t l, count_is motifs t (ok.each t l) b is)

  -- Its mates, read to the start of the entries.
  pub mates_read : (n : ℕ) (r rest : List ℕ) → n ≡ nth b 1 → r ≡ words n (between 188 (length b) b)
      → take (length (motif_of motifs t).bases) (r ++ rest) ≡ (motif_of motifs t).mates
  mates_read n r rest en er =
      rw (sym (count_is motifs t (ok.each t l) b is), read) (take_at (motif_of motifs t).mates rest (nth b 1) long)
    where
      read : r ≡ (motif_of motifs t).mates
      read =
          er ∙ ap (λ (k : ℕ). words k (between 188 (length b) b)) en
          ∙ ap (words (nth b 1)) (take_all (length b - 188) (drop 188 b) (omega (arith, length-drop 188 b)))
          ∙ mates_are motifs t (ok.each t l) b is

      long : length (motif_of motifs t).mates ≡ nth b 1
      long = (motif_proper motifs ok t l).same ∙ sym (count_is motifs t (ok.each t l) b is)

-- The tables of one motif more.
pub tables_next : (motifs : List ℕ) (tables : List (List ℕ)) (t : ℕ) (r : List ℕ) → TablesTo motifs tables t → t < length tables
    → TablesFor (motif_of motifs t).bases (motif_of motifs t).mates block_bases r → TablesTo motifs (set tables t r) (t + 1)
tables_next motifs tables t r T l made = record { each = at }
  where
    at : (u : ℕ) → u < t + 1 → TablesFor (motif_of motifs u).bases (motif_of motifs u).mates block_bases (get_or (set tables t r) u [])
    at u h = elim (ℕ_discrete u t) [
      | yes q ↦ rw (q, get_or-set_same tables t r [] l) made
      | no q ↦ rw (get_or-set_other tables t u r [] q) (T.each u (omega arith))
    ]

-- Where no block has none, each has a motif.
pub all_motifs : (motifs : List ℕ) → lowest (block_count motifs) (no_motif_at motifs) ≡ block_count motifs → AllMotifs motifs
unfolding no_motif_at
all_motifs motifs h =
    record { each = λ t l. not_not _ (lowest_before (no_motif_at motifs) (block_count motifs) t (omega (arith, h)) l) }

-- The longest so far, one motif more, and all.
module _ (motifs : List ℕ) where
  pub longest_none : 0 ≡ longest_to motifs 0
  unfolding longest_to
  longest_none = refl

  pub longest_next : (t : ℕ) {m n r : ℕ} → m ≡ longest_to motifs t → n ≡ length (motif_of motifs t).bases → r ≡ max m n → r ≡ longest_to motifs (t + 1)
  longest_next t em en er = er ∙ rw (em, en) (longest_more motifs t)

  pub longest_end : (t k : ℕ) {m : ℕ} → m ≡ longest_to motifs t → t ≤ k → k ≤ t → m ≡ longest_to motifs k
  longest_end t k e h g = let q : t ≡ k = omega arith in e ∙ ap (longest_to motifs) q
