-- The rows of batches. What is read of their motif buffers follows from what one block gives back, so that no checksum is computed.
use Rattle.std.specs.Prelude.{Ok}
use Prim.Native.Nat.{ℕ, ◌+◌, ◌*◌, ◌-◌, ◌%◌, ◌<◌, ◌≤◌}
use native.Mathlib.Omega.{arith}
use native.Mathlib.Decide.{dec_lt}
use mathlib.Core.Path.{◌≡◌, refl, sym, ap, ◌∙◌}
use mathlib.Core.Bool.{true, false}
use mathlib.Core.List.{List, [], ◌∷◌, ◌++◌}
use lib.Dec.{ltb}
use borrow.Author.Tests.{le-leb}
use lib.ListN.{length, set, replicate, length-append, length-set, get_or-append}
use lib.Seq.{ext_get_or, get_or-append-add, take_at}
use Rattle.lists.specs.Vocabulary.{nth, choose, every, some, lowest_from, lowest, largest, select, tab, some_list, total, same_list, put_at}
use Rattle.lists.proofs.Stretches.{length_stretch, nth_stretch}
use Rattle.lists.proofs.ListLaws.{lowest_all, lowest_found}
use Rattle.letters.specs.Letters.{letters_match, is_letter, not_letter}
use Rattle.strand.specs.Strands.{Strand, same_strand, key, mate_outside, not_mutual, crosses, crossed_at, strand_verdict}
use Rattle.refusals.specs.declared.Rule.{Rule}
use Rattle.refusals.specs.declared.Side.{Side}
use Rattle.refusals.specs.Rules.{motif_side, no_side, bad_motifs, too_long, wrong_slice, work_too_short, refusal}
use Rattle.refusals.specs.Rules.{first, refuse_if, refuse_at_lowest, by_verdict, work_rule}
use Rattle.refusals.proofs.RuleLaws.{first_skip, first_stop}
use Rattle.embedding.specs.Longest.{longest, prefix_ok, closed_to, places_ok, embeds}
use Rattle.octets.specs.Octets.{without}
use Rattle.block.specs.Content.{block_size, empty_block, content_of, with_checksum, strand_block}
use Rattle.block.specs.Block.{block_of, block_count}
use Rattle.block.specs.Motif.{motif_handed_in, encode_motif, holds_motif}
use Rattle.block.proofs.ContentLaws.{motif_length, motif_sound, motif_changed, empty_length}
use Rattle.calls.specs.Buffers.{most_molecule_bases, most_motif_bases, in_range, molecule_verdict, motif_verdict, work_verdict, is_held, is_whole, slot_of}
use Rattle.calls.specs.Calls.{refused_by}
use Rattle.calls.specs.Motifs.{most_motifs, motif_of, no_motif_at, motifs_verdict, UsableMotifs, longest_to, longest_motif}
use Rattle.calls.proofs.ReadingLaws.{count_is, whole_is, not_whole}
use Rattle.calls.proofs.MotifLaws.{no_motif_is, motifs_not_whole, no_motif, motifs_usable, usable_motifs}
use Rattle.history.specs.Model.{batch, ends_period, start, held_in, known_in, dropped, range_rule, model_verdict, embeds_at, hit_list, searches, search_list}
use Rattle.history.specs.Model.{asked, asked_to, found_by, read_by, model_answer, model_next, model_result, model_after, model_log}
use Rattle.history.specs.History.{at_most_once, admitted_from, admitted}
use Rattle.history.specs.Examples.{results_of, ByModel, bonded, unbonded, long_motif as long, handed_in, one_handed_in}
use Rattle.history.proofs.HandedIn.{empty_behind, long_behind, handed_two, handed_0, handed_1, handed_pass}
use Rattle.examples.specs.Table.{a, refused_batch, twice, sixteen, not_motifs, four_motifs, together_story}
use Rattle.examples.proofs.ScreenRow.{a_motif}

-- ---- a buffer behind another

module _ (a b : List ℕ) (m n : ℕ) (la : length a ≡ block_size * m) (lb : length b ≡ block_size * n) where
  size : length (a ++ b) ≡ block_size * (m + n)
  size = omega (arith, length-append a b)

  block_front : (t : ℕ) → t < m → block_of t (a ++ b) ≡ block_of t a
  block_front t l = ext_get_or 0 (block_of t (a ++ b)) (block_of t a) (here ∙ sym there) (λ i k. at i (omega (arith, here)))
    where
      here : length (block_of t (a ++ b)) ≡ block_size
      here = length_stretch (block_size * t) block_size (a ++ b) (omega (arith, size))

      there : length (block_of t a) ≡ block_size
      there = length_stretch (block_size * t) block_size a (omega arith)

      at : (i : ℕ) → i < block_size → nth (block_of t (a ++ b)) i ≡ nth (block_of t a) i
      at i k =
          nth_stretch (block_size * t) block_size (a ++ b) i k
          ∙ get_or-append a b 0 (block_size * t + i) (omega arith)
          ∙ sym (nth_stretch (block_size * t) block_size a i k)

  block_behind : (t : ℕ) → t < n → block_of (m + t) (a ++ b) ≡ block_of t b
  block_behind t l = ext_get_or 0 (block_of (m + t) (a ++ b)) (block_of t b) (here ∙ sym there) (λ i k. at i (omega (arith, here)))
    where
      here : length (block_of (m + t) (a ++ b)) ≡ block_size
      here = length_stretch (block_size * (m + t)) block_size (a ++ b) (omega (arith, size))

      there : length (block_of t b) ≡ block_size
      there = length_stretch (block_size * t) block_size b (omega arith)

      at : (i : ℕ) → i < block_size → nth (block_of (m + t) (a ++ b)) i ≡ nth (block_of t b) i
      at i k =
          let e : block_size * (m + t) + i ≡ length a + (block_size * t + i) = omega arith in
          nth_stretch (block_size * (m + t)) block_size (a ++ b) i k
          ∙ ap (nth (a ++ b)) e
          ∙ get_or-append-add a b (block_size * t + i) 0
          ∙ sym (nth_stretch (block_size * t) block_size b i k)

  -- what holds of the blocks of both
  by_parts : (P : List ℕ → Type 0) → ((t : ℕ) → t < m → P (block_of t a)) → ((t : ℕ) → t < n → P (block_of t b))
      → (t : ℕ) → t < m + n → P (block_of t (a ++ b))
  by_parts P f g t l =
      elim (dec_lt t m) [
        | yes h ↦ rw (block_front t h) (f t h)
        | no h ↦
            let e : t ≡ m + (t - m) = omega arith in
            rw (e, block_behind (t - m) (omega arith)) (g (t - m) (omega arith))
      ]

-- Motifs that a batch takes, n of them.
record Counted (motifs : List ℕ) (n : ℕ) : Type 0 where
  usable : UsableMotifs motifs
  count : block_count motifs ≡ n

counted_length : (motifs : List ℕ) (n : ℕ) → Counted motifs n → length motifs ≡ block_size * n
counted_length motifs n x = x.usable.filled ∙ ap (λ (k : ℕ). block_size * k) x.count

-- motifs behind motifs
module _ (a b : List ℕ) (m n : ℕ) (x : Counted a m) (y : Counted b n) where
  motif_front : (t : ℕ) → t < m → motif_of (a ++ b) t ≡ motif_of a t
  unfolding motif_of
  motif_front t l = ap motif_handed_in (block_front a b m n (counted_length a m x) (counted_length b n y) t l)

  motif_behind : (t : ℕ) → t < n → motif_of (a ++ b) (m + t) ≡ motif_of b t
  unfolding motif_of
  motif_behind t l = ap motif_handed_in (block_behind a b m n (counted_length a m x) (counted_length b n y) t l)

  both_counted : m + n ≤ most_motifs → Counted (a ++ b) (m + n)
  both_counted few =
      record {
        usable = record {
          filled = all ∙ ap (λ (k : ℕ). block_size * k) (sym count);
          least = omega (arith, count, x.count, x.usable.least);
          most = omega (arith, count);
          each = λ t l. parts (λ s. holds_motif s ≡ true) x.usable.each y.usable.each t l;
          short = λ t l. unfold motif_of in
              (parts (λ s. length (motif_handed_in s).bases ≤ most_motif_bases) x.usable.short y.usable.short t l);
        };
        count = count;
      }
    where
      all : length (a ++ b) ≡ block_size * (m + n)
      all = size a b m n (counted_length a m x) (counted_length b n y)

      count : block_count (a ++ b) ≡ m + n
      count = count_is (a ++ b) (m + n) all

      parts : (P : List ℕ → Type 0) → ((t : ℕ) → t < block_count a → P (block_of t a)) → ((t : ℕ) → t < block_count b → P (block_of t b))
          → (t : ℕ) → t < block_count (a ++ b) → P (block_of t (a ++ b))
      parts P f g t l =
          by_parts a b m n (counted_length a m x) (counted_length b n y) P (λ t k. f t (omega (arith, x.count))) (λ t k. g t (omega (arith, y.count))) t
          (omega (arith, count))

-- behind motifs a block that holds none
module _ (a b : List ℕ) (m n : ℕ) (x : Counted a m) (lb : length b ≡ block_size * n) (some-behind : 1 ≤ n) (few : m + n ≤ most_motifs) where
  none_behind : holds_motif (block_of 0 b) ≡ false → motifs_verdict (a ++ b) ≡ refusal bad_motifs motif_side m
  none_behind e = sym (no_motif (a ++ b) whole m (sym place) (omega (arith, count)))
    where
      all : length (a ++ b) ≡ block_size * (m + n)
      all = size a b m n (counted_length a m x) lb

      count : block_count (a ++ b) ≡ m + n
      count = count_is (a ++ b) (m + n) all

      whole : is_whole most_motifs (a ++ b) ≡ true
      whole = whole_is most_motifs (m + n) (a ++ b) all ∙ rw (le-leb 1 (m + n) (omega arith), le-leb (m + n) most_motifs few)

      held : (t : ℕ) → t < m → no_motif_at (a ++ b) t ≡ false
      held t l =
          no_motif_is (a ++ b) t refl
          (ap holds_motif (block_front a b m n (counted_length a m x) lb t l) ∙ x.usable.each t (omega (arith, x.count)))

      here : no_motif_at (a ++ b) m ≡ true
      here =
          let first_behind : m ≡ m + 0 = omega arith in
          no_motif_is (a ++ b) m refl
          (ap (λ (t : ℕ). holds_motif (block_of t (a ++ b))) first_behind
          ∙ ap holds_motif (block_behind a b m n (counted_length a m x) lb 0 (omega arith)) ∙ e)

      place : lowest (block_count (a ++ b)) (no_motif_at (a ++ b)) ≡ m
      place = lowest_found (no_motif_at (a ++ b)) _ m (lowest_all (no_motif_at (a ++ b)) m held) (omega (arith, count)) here

-- ---- a batch that is refused

range : range_rule embeds 2 1 ≡ Ok tt
unfolding in_range refuse_if choose
range = refl

module _ (motifs : List ℕ) (work room : ℕ) (rule : Rule) (side : Side) (place : ℕ) where
  refused_story : model_verdict embeds 2 1 start (batch motifs work (replicate room 0)) ≡ refusal rule side place
      → ByModel (refused_batch motifs work room rule side place)
  unfolding refused_batch admitted admitted_from model_log results_of model_result model_after by_verdict refused_by ends_period choose
  refused_story e = rw e (refl, refl)

  -- by the rules of the motif buffer
  by_motifs : motifs_verdict motifs ≡ refusal rule side place → ByModel (refused_batch motifs work room rule side place)
  unfolding model_verdict
  by_motifs e = refused_story (first_skip _ _ range ∙ first_stop _ _ _ e)

  -- by the rules behind them
  by_slices : motifs_verdict motifs ≡ Ok tt
      → first
      (refuse_if wrong_slice no_side (ltb (length (replicate {A = ℕ} room 0)) (block_count motifs * 2))
      ∷ work_rule (longest_motif motifs) most_molecule_bases work
      ∷ [])
      ≡ refusal rule side place
      → ByModel (refused_batch motifs work room rule side place)
  unfolding model_verdict
  by_slices pass e = refused_story (first_skip _ _ range ∙ first_skip _ _ pass ∙ e)

-- ---- the motifs of the rows

motifs_ok : (motif_verdict a ≡ Ok tt) × (motif_verdict bonded ≡ Ok tt) × (motif_verdict unbonded ≡ Ok tt)
unfolding motif_verdict strand_verdict first refuse_if refuse_at_lowest choose some lowest_from lowest is_letter not_letter mate_outside not_mutual crosses
    crossed_at
motifs_ok = (refl, refl, refl)

two_counted : (p q : Strand) → motif_verdict p ≡ Ok tt → motif_verdict q ≡ Ok tt → Counted (handed_in p q) 2
two_counted p q okp okq = record { usable = motifs_usable (handed_in p q) (handed_pass p q okp okq); count = handed_two p q okp okq }

two_a : Counted (handed_in a a) 2
two_a = two_counted a a motifs_ok.0 motifs_ok.0

sixteen_counted : Counted sixteen 16
unfolding twice
sixteen_counted = doubled _ 8 (omega arith) (doubled _ 4 (omega arith) (doubled _ 2 (omega arith) two_a))
  where
    doubled : (s : List ℕ) (n : ℕ) → n + n ≤ most_motifs → Counted s n → Counted (s ++ s) (n + n)
    doubled s n few x = both_counted s s n n x x few

-- a block with one byte altered
altered : List ℕ
altered = set (encode_motif a) 0 9

altered_length : length altered ≡ block_size
unfolding altered
altered_length = length-set (encode_motif a) 0 9 ∙ motif_length a a_motif

altered_unsound : holds_motif altered ≡ false
unfolding altered holds_motif
altered_unsound = rw (motif_changed (encode_motif a) 0 9 (motif_sound a a_motif) (omega arith) (λ e. omega (arith, kind)))
  where
    kind : nth (encode_motif a) 0 ≡ 1
    kind = unfold encode_motif strand_block with_checksum content_of in refl

-- ---- the rows of refusals

pub no_block : ByModel (refused_batch [] 0 0 bad_motifs motif_side 0)
no_block = by_motifs [] 0 0 bad_motifs motif_side 0 (sym (motifs_not_whole [] (unfold is_whole in refl)))

pub seventeen_blocks : ByModel (refused_batch (sixteen ++ encode_motif a) 0 0 bad_motifs motif_side 0)
seventeen_blocks = by_motifs _ 0 0 bad_motifs motif_side 0 (sym (motifs_not_whole _ (whole_is most_motifs 17 _ all)))
  where
    all : length (sixteen ++ encode_motif a) ≡ block_size * 17
    all = size sixteen (encode_motif a) 16 1 (counted_length sixteen 16 sixteen_counted) (motif_length a a_motif)

pub byte_more : ByModel (refused_batch (encode_motif a ++ (0 ∷ [])) 0 0 bad_motifs motif_side 0)
byte_more = by_motifs _ 0 0 bad_motifs motif_side 0 (sym (motifs_not_whole _ (not_whole most_motifs _ odd)))
  where
    odd : length (encode_motif a ++ (0 ∷ [])) % block_size ≡ 0 → ⊥
    odd e = omega (arith, length-append (encode_motif a) (0 ∷ []), motif_length a a_motif)

pub empty_second : ByModel (refused_batch (one_handed_in bonded) 0 0 bad_motifs motif_side 1)
empty_second = by_motifs _ 0 0 bad_motifs motif_side 1 (empty_behind bonded motifs_ok.1)

pub unsound_third : ByModel (refused_batch (handed_in a a ++ not_motifs) 0 0 bad_motifs motif_side 2)
unfolding altered
unsound_third = by_motifs _ 0 0 bad_motifs motif_side 2 (none_behind (handed_in a a) not_motifs 2 2 two_a all (omega arith) (omega arith) none)
  where
    all : length not_motifs ≡ block_size * 2
    all = size altered empty_block 1 1 altered_length empty_length

    none : holds_motif (block_of 0 not_motifs) ≡ false
    none = ap holds_motif (take_at altered empty_block block_size altered_length) ∙ altered_unsound

pub long_second : ByModel (refused_batch (handed_in bonded long) 0 0 too_long motif_side 1)
unfolding strand_verdict first refuse_if refuse_at_lowest choose some lowest_from lowest tab is_letter not_letter mate_outside not_mutual crosses crossed_at
    long
long_second = by_motifs _ 0 0 too_long motif_side 1 (long_behind bonded motifs_ok.1 long refl (omega arith))

pub few_hits_lem : ByModel (refused_batch sixteen 0 31 wrong_slice no_side 0)
unfolding refuse_if choose first
few_hits_lem = by_slices sixteen 0 31 wrong_slice no_side 0 (usable_motifs sixteen sixteen_counted.usable) (rw sixteen_counted.count)

pub little_work : ByModel (refused_batch (handed_in bonded a) 1471 4 work_too_short no_side 0)
unfolding refuse_if choose first longest_to
little_work =
    by_slices _ 1471 4 work_too_short no_side 0 (handed_pass bonded a motifs_ok.1 motifs_ok.0)
    (rw (
      handed_two bonded a motifs_ok.1 motifs_ok.0,
      handed_0 bonded a motifs_ok.1 motifs_ok.0,
      handed_1 bonded a motifs_ok.1 motifs_ok.0,
    ))

-- ---- 01's story with a batch of four

front : Counted (handed_in bonded bonded) 2
front = two_counted bonded bonded motifs_ok.1 motifs_ok.1

back : Counted (handed_in unbonded bonded) 2
back = two_counted unbonded bonded motifs_ok.2 motifs_ok.1

four : Counted four_motifs 4
four = both_counted _ _ 2 2 front back (omega arith)

-- its motifs, one after the other
four_0 : motif_of four_motifs 0 ≡ bonded
four_0 = motif_front _ _ 2 2 front back 0 (omega arith) ∙ handed_0 bonded bonded motifs_ok.1 motifs_ok.1

four_1 : motif_of four_motifs 1 ≡ bonded
four_1 = motif_front _ _ 2 2 front back 1 (omega arith) ∙ handed_1 bonded bonded motifs_ok.1 motifs_ok.1

four_2 : motif_of four_motifs 2 ≡ unbonded
four_2 = motif_behind _ _ 2 2 front back 0 (omega arith) ∙ handed_0 unbonded bonded motifs_ok.2 motifs_ok.1

four_3 : motif_of four_motifs 3 ≡ bonded
four_3 = motif_behind _ _ 2 2 front back 1 (omega arith) ∙ handed_1 unbonded bonded motifs_ok.2 motifs_ok.1

pub together : ByModel together_story
unfolding together_story admitted admitted_from at_most_once model_log results_of embeds longest largest prefix_ok closed_to places_ok letters_match choose
    every some lowest_from lowest select some_list tab total same_list same_strand key first refuse_if refuse_at_lowest strand_verdict is_letter not_letter
    mate_outside not_mutual crosses crossed_at molecule_verdict motif_verdict work_verdict longest_to slot_of refused_by by_verdict ends_period start put_at
    is_held held_in known_in dropped in_range model_verdict embeds_at hit_list searches search_list asked asked_to found_by read_by model_answer model_next
    model_result model_after without
together = rw (usable_motifs four_motifs four.usable, four.count, four_0, four_1, four_2, four_3) (refl, refl)
