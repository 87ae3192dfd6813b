-- The motif buffers of the example histories: one block or two, each with a motif or empty. What a batch reads of them, from what one block gives back, so
-- that no checksum is computed.
use Rattle.std.specs.Prelude.{Ok}
use Prim.Native.Nat.{ℕ, ◌*◌, ◌<◌, ◌≤◌}
use native.Mathlib.Omega.{arith}
use mathlib.Core.Path.{◌≡◌, refl, sym, ap, ◌∙◌}
use mathlib.Core.Bool.{Bool, true, false}
use mathlib.Core.List.{List, [], ◌++◌, append-nil}
use lib.ListN.{length, length-append}
use Rattle.lists.specs.Vocabulary.{choose, lowest_from, lowest}
use Rattle.lists.proofs.Stretches.{stretch_at}
use Rattle.strand.specs.Strands.{Strand, Proper, least_motif, strand_verdict}
use Rattle.strand.proofs.VerdictLaws.{accepted_proper}
use Rattle.refusals.specs.Rules.{motif_side, bad_motifs, too_long, refusal}
use Rattle.block.specs.Content.{block_size, block_bases, empty_block}
use Rattle.block.specs.Block.{block_of, block_count}
use Rattle.block.specs.Motif.{motif_handed_in, encode_motif, holds_motif}
use Rattle.block.proofs.ContentLaws.{motif_length, motif_sound, motif_full, motif_back, sound_held, empty_length}
use Rattle.block.proofs.Claims as block
use Rattle.calls.specs.Buffers.{most_motif_bases, motif_verdict, is_whole}
use Rattle.calls.specs.Motifs.{most_motifs, motif_of, no_motif_at, long_motif_at, motifs_verdict}
use Rattle.calls.proofs.ReadingLaws.{count_is, whole_is}
use Rattle.calls.proofs.MotifLaws.{motif_at, no_motif_is, long_at, short_at, no_motif, long_motif_lem, motifs_pass, usable_motifs}
use Rattle.history.specs.Examples.{handed_in, one_handed_in}

-- Two blocks

module _ (a b : List ℕ) (la : length a ≡ block_size) (lb : length b ≡ block_size) where
  abbrev both : List ℕ
  both = a ++ b

  size : length both ≡ block_size * 2
  size = length-append a b ∙ omega arith

  two : block_count both ≡ 2
  two = count_is both 2 size

  whole : is_whole most_motifs both ≡ true
  whole = whole_is most_motifs 2 both size

  block_0 : block_of 0 both ≡ a
  block_0 = stretch_at 0 block_size both [] a b refl refl la

  block_1 : block_of 1 both ≡ b
  block_1 = stretch_at block_size block_size both a b [] (ap (λ (s : List ℕ). a ++ s) (sym (append-nil b))) la lb

  motif_0 : motif_of both 0 ≡ motif_handed_in a
  motif_0 = sym (motif_at both 0) ∙ ap motif_handed_in block_0

  motif_1 : motif_of both 1 ≡ motif_handed_in b
  motif_1 = sym (motif_at both 1) ∙ ap motif_handed_in block_1

  -- the lowest of the two where a test passes
  lowest_none : (p : ℕ → Bool) → p 0 ≡ false → p 1 ≡ false → lowest (block_count both) p ≡ block_count both
  unfolding lowest lowest_from choose
  lowest_none p x y = rw (two, x, y)

  lowest_second : (p : ℕ → Bool) → p 0 ≡ false → p 1 ≡ true → lowest (block_count both) p ≡ 1
  unfolding lowest lowest_from choose
  lowest_second p x y = rw (two, x, y)

  module _ (holds-0 : holds_motif a ≡ true) where
    some_0 : no_motif_at both 0 ≡ false
    some_0 = no_motif_is both 0 refl (ap holds_motif block_0 ∙ holds-0)

    second_empty : holds_motif b ≡ false → motifs_verdict both ≡ refusal bad_motifs motif_side 1
    second_empty e =
        let none_1 = no_motif_is both 1 refl (ap holds_motif block_1 ∙ e) in
        sym (no_motif both whole 1 (sym (lowest_second (no_motif_at both) some_0 none_1)) (omega (arith, two)))

    module _ (holds-1 : holds_motif b ≡ true) (short : length (motif_handed_in a).bases ≤ most_motif_bases) where
      all_there : lowest (block_count both) (no_motif_at both) ≡ block_count both
      all_there = lowest_none (no_motif_at both) some_0 (no_motif_is both 1 refl (ap holds_motif block_1 ∙ holds-1))

      short_0 : long_motif_at both 0 ≡ false
      short_0 = short_at both 0 (rw motif_0 short)

      both_pass : length (motif_handed_in b).bases ≤ most_motif_bases → motifs_verdict both ≡ Ok tt
      both_pass h =
          let none = lowest_none (long_motif_at both) short_0 (short_at both 1 (rw motif_1 h)) in
          sym (motifs_pass both whole (block_count both) (sym all_there) (omega arith) (block_count both) (sym none) (omega arith))

      second_long : most_motif_bases < length (motif_handed_in b).bases → motifs_verdict both ≡ refusal too_long motif_side 1
      second_long h =
          let one = lowest_second (long_motif_at both) short_0 (long_at both 1 (rw motif_1 h)) in
          sym (long_motif_lem both whole (block_count both) (sym all_there) (omega arith) 1 (sym one) (omega (arith, two)))

-- Encoded motifs: a strand that has room in a block, and a motif that a query takes

abbrev Fits : Strand → Type 0
Fits p = Proper motif_side least_motif block_bases p.bases p.mates

module _ (p : Strand) (ok : motif_verdict p ≡ Ok tt) where
  proper : Proper motif_side least_motif most_motif_bases p.bases p.mates
  unfolding motif_verdict
  proper = accepted_proper motif_side least_motif most_motif_bases p.bases p.mates ok

  fits : Fits p
  fits =
      let x = proper in
      record { same = x.same; enough = x.enough; small = omega arith; letters = x.letters; nested = x.nested }

  short_motif : length (motif_handed_in (encode_motif p)).bases ≤ most_motif_bases
  short_motif = rw (motif_back p fits) proper.small

held_one : (p : Strand) → Fits p → holds_motif (encode_motif p) ≡ true
held_one p ok = sound_held (encode_motif p) (motif_sound p ok) (motif_full p ok)

-- an empty block behind a motif; a motif that is too long
module _ (p : Strand) (ok : motif_verdict p ≡ Ok tt) where
  pub empty_behind : motifs_verdict (one_handed_in p) ≡ refusal bad_motifs motif_side 1
  unfolding one_handed_in
  empty_behind =
      second_empty (encode_motif p) empty_block (motif_length p (fits p ok)) empty_length (held_one p (fits p ok)) (block.claims).empty_motif_lem.not_handed_in

  pub long_behind : (q : Strand) → strand_verdict motif_side least_motif block_bases q.bases q.mates ≡ Ok tt → most_motif_bases < length q.bases
      → motifs_verdict (handed_in p q) ≡ refusal too_long motif_side 1
  unfolding handed_in
  long_behind q e h =
      let room = accepted_proper motif_side least_motif block_bases q.bases q.mates e in
      second_long (encode_motif p) (encode_motif q) (motif_length p (fits p ok)) (motif_length q room) (held_one p (fits p ok)) (held_one q room)
      (short_motif p ok) (rw (motif_back q room) h)

-- one motif that a query takes
module _ (p : Strand) (ok : motif_verdict p ≡ Ok tt) where
  pub alone_count : block_count (encode_motif p) ≡ 1
  alone_count = count_is (encode_motif p) 1 (motif_length p (fits p ok))

  alone_block : (t : ℕ) → t < 1 → block_of t (encode_motif p) ≡ encode_motif p
  alone_block t l =
      let zero_is : t ≡ 0 = omega arith in
      rw zero_is (stretch_at 0 block_size (encode_motif p) [] (encode_motif p) [] (sym (append-nil (encode_motif p))) refl (motif_length p (fits p ok)))

  alone_at : (t : ℕ) → t < 1 → motif_of (encode_motif p) t ≡ p
  alone_at t l = sym (motif_at (encode_motif p) t) ∙ ap motif_handed_in (alone_block t l) ∙ motif_back p (fits p ok)

  pub alone_0 : motif_of (encode_motif p) 0 ≡ p
  alone_0 = alone_at 0 (omega arith)

  pub alone_pass : motifs_verdict (encode_motif p) ≡ Ok tt
  alone_pass =
      let one = alone_count in
      usable_motifs (encode_motif p) (record {
        filled = motif_length p (fits p ok) ∙ omega arith;
        least = omega arith;
        most = omega arith;
        each = λ t l. ap holds_motif (alone_block t (omega arith)) ∙ held_one p (fits p ok);
        short = λ t l. rw (alone_at t (omega arith)) (proper p ok).small;
      })

-- two motifs that a query takes
module _ (p q : Strand) (okp : motif_verdict p ≡ Ok tt) (okq : motif_verdict q ≡ Ok tt) where
  pub handed_two : block_count (handed_in p q) ≡ 2
  unfolding handed_in
  handed_two = two (encode_motif p) (encode_motif q) (motif_length p (fits p okp)) (motif_length q (fits q okq))

  pub handed_0 : motif_of (handed_in p q) 0 ≡ p
  unfolding handed_in
  handed_0 = motif_0 (encode_motif p) (encode_motif q) (motif_length p (fits p okp)) (motif_length q (fits q okq)) ∙ motif_back p (fits p okp)

  pub handed_1 : motif_of (handed_in p q) 1 ≡ q
  unfolding handed_in
  handed_1 = motif_1 (encode_motif p) (encode_motif q) (motif_length p (fits p okp)) (motif_length q (fits q okq)) ∙ motif_back q (fits q okq)

  pub handed_pass : motifs_verdict (handed_in p q) ≡ Ok tt
  unfolding handed_in
  handed_pass =
      both_pass (encode_motif p) (encode_motif q) (motif_length p (fits p okp)) (motif_length q (fits q okq)) (held_one p (fits p okp)) (held_one q (fits q
      okq))
      (short_motif p okp) (short_motif q okq)
