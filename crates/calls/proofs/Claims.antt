-- The claims about add, remove and query for all inputs and all contents of the buffers.
use Rattle.std.specs.Prelude.{Ok, Err}
use Prim.Native.Nat.{ℕ, ◌+◌, ◌*◌, ◌/◌, ◌%◌, ◌<◌}
use native.Mathlib.Omega.{arith}
use native.Mathlib.Nat.{mod-lt, zero-mod}
use native.Mathlib.Decide.{ℕ_discrete}
use mathlib.Core.Path.{◌≡◌, refl, sym, ◌∙◌, ap}
use mathlib.Core.Logic.{⊎_elim}
use mathlib.Core.Bool.{Bool, true, false, not, ◌&&◌, and-true as and-true-right, and-false}
use mathlib.Core.List.{List, [], ◌∷◌}
use lib.Dec.{ltb, eqb}
use lib.ListN.{length, drop, get_or-replicate}
use lib.Seq.{take_at, drop_at}
use borrow.Author.Tests.{eq-eqb, lt-ltb}
use Rattle.lists.specs.Vocabulary.{select}
use Rattle.strand.specs.Strands.{Strand, empty_motif, key, same_strand, Proper, least_motif}
use Rattle.strand.proofs.Claims as strand
use Rattle.refusals.specs.Rules.{motif_side, no_side, wrong_slice, first, refuse_if, work_rule}
use Rattle.lists.proofs.ListLaws.{and_true, by_bool, same_refl, choose_yes, choose_no}
use Rattle.block.specs.Content.{block_size, searched_at, hit_at, empty_block, is_empty, molecule_in, motif_in}
use Rattle.block.specs.Content.{searched_in, hit_in, keeps_motif, encode_molecule}
use Rattle.block.specs.Content.{encode_entry}
use Rattle.octets.specs.Octets.{without, map_bit, Bytes}
use Rattle.octets.proofs.ByteLaws.{small_zeros, small_between}
use Rattle.octets.proofs.BitLaws.{zero_bit}
use Rattle.block.specs.Block.{block_of, sound_molecule, sound_entry, cleaned, forgot, block_count, each_block, put_block}
use Rattle.buffer.proofs.BlockLaws.{length_block, length_put, block_put, block_other}
use Rattle.block.proofs.ContentLaws as law
use Rattle.refusals.specs.declared.Refusal.{Refusal}
use Rattle.refusals.proofs.RuleLaws.{first_without, by_accepted, by_refused}
use Rattle.calls.specs.Buffers.{most_catalog_blocks, most_molecule_bases, most_motif_bases, motif_verdict, work_verdict, buffers_verdict, held, molecule_at}
use Rattle.calls.specs.Buffers.{slot_of, clean_cache, Usable}
use Rattle.calls.specs.Calls.{effect, add_verdict, add_outcome, remove_verdict, remove_outcome, queried, query_verdict, is_known, to_search, is_hit}
use Rattle.calls.specs.Calls.{slot_in, entry_for, query_accepted, query_outcome, found, query_result}
use Rattle.calls.specs.Statements.{AllSound, OnlyAt, AddLeaves, RemoveLeaves, QueryLeaves, Claims}
use Rattle.calls.proofs.Accepting.{add_accepts, remove_accepts, query_accepts}
use Rattle.calls.proofs.CallLaws.{add_says}
use Rattle.calls.proofs.Refusing.{add_refuses, add_keeps, remove_refuses, remove_keeps, query_refuses, query_keeps}
use Rattle.calls.proofs.Refusing.{buffers_sides, add_sides, remove_sides, query_sides}
use Rattle.calls.proofs.BlockUse as leaf
use Rattle.calls.proofs.ReadingLaws as read
use Rattle.calls.proofs.FactLaws.{add_facts, remove_facts, query_facts}

-- Whether a number is held, from its block

held_yes : (buf : List ℕ) (d : ℕ) → d < block_count buf → is_empty (block_of d buf) ≡ false → held buf d ≡ true
unfolding held
held_yes buf d l e = rw (lt-ltb d (block_count buf) l, e)

held_no : (buf : List ℕ) (d : ℕ) → is_empty (block_of d buf) ≡ true → held buf d ≡ false
unfolding held
held_no buf d e = rw e (and-false (ltb d (block_count buf)))

-- One block of a buffer written

module _ (buf : List ℕ) (n : ℕ) (len : length buf ≡ block_size * n) (d : ℕ) (l : d < n) (b : List ℕ) (lb : length b ≡ block_size) where
  put_at_lem : block_of d (put_block d b buf) ≡ b
  put_at_lem = block_put d b buf lb (omega (arith, len))

  put_only : OnlyAt d buf (put_block d b buf)
  put_only =
      record {
        size = length_put d b buf lb (omega (arith, len));
        others = λ e k ne. block_other d b buf lb (omega (arith, len)) e ne (omega arith);
      }

-- The cleaned cache

module _ (cache : List ℕ) (n : ℕ) (len : length cache ≡ block_size * n) where
  clean_sound : (s : ℕ) → s < n → sound_entry (block_of s (clean_cache cache)) ≡ true
  clean_sound s l =
      rw (read.clean_block cache n len s l) (read.cleaned_sound (block_of s cache) (length_block s cache (omega (arith, len))))

  clean_all : AllSound (clean_cache cache)
  clean_all s l = clean_sound s (omega (arith, read.count_is (clean_cache cache) n (read.clean_length cache n len)))

-- Add

module _ (catalog cache : List ℕ) (d : ℕ) (q : Strand) (e : add_verdict catalog cache d q ≡ Ok tt) where
  pub add_accepted : AddLeaves catalog cache d q (add_outcome catalog cache d q)
  unfolding add_outcome
  add_accepted =
      let f = add_facts catalog cache d q e in
      let z = f.2 in
      let lb = law.molecule_length q f.1 in
      let only = put_only catalog (block_count catalog) z.filled d f.0 (encode_molecule q) lb in
      let at = put_at_lem catalog (block_count catalog) z.filled d f.0 (encode_molecule q) lb in
      rw (by_accepted (add_verdict catalog cache d q) _ _ e) (record {
        answer = refl;
        block_sound = ap sound_molecule at ∙ law.molecule_sound q f.1;
        is_held_lem = held_yes _ d (omega (arith, f.0, only.size)) (ap is_empty at ∙ law.molecule_full q f.1);
        molecule = unfold molecule_at in (ap molecule_in at ∙ law.molecule_back q f.1);
        only = only;
        cache_sound = clean_all cache (block_count cache) z.whole;
        cache_each =
            record {
              size = read.clean_length cache (block_count cache) z.whole ∙ sym z.whole;
              each = read.clean_block cache (block_count cache) z.whole;
            };
      })

-- Remove

without_same : (d : ℕ) (p : ℕ → Bool) → without d p d ≡ false
unfolding without
without_same d p = rw (eq-eqb d d refl, and-false)

empty_bit : (at d : ℕ) → at + d / 8 < block_size → map_bit empty_block at d ≡ false
unfolding map_bit empty_block
empty_bit at d l = rw (get_or-replicate {A = ℕ} block_size (at + d / 8) 0 0 l) (zero_bit (d % 8))

empty_bits : (d : ℕ) → d < most_catalog_blocks → (searched_in empty_block d ≡ false) × (hit_in empty_block d ≡ false)
unfolding searched_in hit_in
empty_bits d l = (empty_bit searched_at d (omega arith), empty_bit hit_at d (omega arith))

without_yes : (d e : ℕ) (p q : ℕ → Bool) → (p e ≡ true → q e ≡ true) → without d p e ≡ true → without d q e ≡ true
unfolding without
without_yes d e p q h k = let x = and_true (p e) (not (eqb e d)) k in rw (h x.0, x.1)

-- a sound block of bytes with the number taken out: no bit of it is left, and it is sound
module _ (b : List ℕ) (d : ℕ) (ok : sound_entry b ≡ true) (small : Bytes b) (l : d < most_catalog_blocks) where
  forgot_is : is_empty b ≡ false → forgot d b ≡ encode_entry (motif_in b) (without d (searched_in b)) (without d (hit_in b))
  forgot_is e =
      ap (forgot d) (sym (law.entry_again b ok e small)) ∙ law.entry_forgot (motif_in b) (law.entry_proper b ok e) (searched_in b) (hit_in b) d l

  forgot_bits : (searched_in (forgot d b) d ≡ false) × (hit_in (forgot d b) d ≡ false)
  forgot_bits =
      ⊎_elim
      (λ (e : is_empty b ≡ true). rw (law.empty_is b (law.entry_size b ok) e, leaf.empty_forgot d) (empty_bits d l))
      (λ (e : is_empty b ≡ false). rw (forgot_is e) (
        law.entry_searched (motif_in b) (law.entry_proper b ok e) _ _ d l ∙ without_same d (searched_in b),
        law.entry_hit (motif_in b) (law.entry_proper b ok e) _ _ d l ∙ without_same d (hit_in b),
      ))
      (by_bool (is_empty b))

  forgot_sound : sound_entry (forgot d b) ≡ true
  forgot_sound =
      ⊎_elim
      (λ (e : is_empty b ≡ true). rw (law.empty_is b (law.entry_size b ok) e, leaf.empty_forgot d) leaf.empty_entry)
      (λ (e : is_empty b ≡ false). rw (forgot_is e)
      (law.entry_sound_below (motif_in b) (law.entry_proper b ok e) _ _ (λ x m. without_yes d x (hit_in b) (searched_in b) (law.entry_hit_searched b ok e x
      m))))
      (by_bool (is_empty b))

-- a cleaned block of bytes is bytes
zero_bytes : Bytes empty_block
unfolding empty_block
zero_bytes = small_zeros block_size

clean_bytes : (b : List ℕ) → length b ≡ block_size → Bytes b → Bytes (cleaned b)
clean_bytes b l h =
    ⊎_elim
    (λ (e : sound_entry b ≡ true). rw (leaf.sound_clean b e) h)
    (λ (e : sound_entry b ≡ false). rw (leaf.unsound_clean b l e) zero_bytes)
    (by_bool (sound_entry b))

module _ (catalog cache : List ℕ) (d : ℕ) (e : remove_verdict catalog cache d ≡ Ok tt) where
  -- every block of the cleaned cache, after the number is taken out
  remove_each : (P : List ℕ → Type 0) → ((b : List ℕ) → sound_entry b ≡ true → Bytes b → d < most_catalog_blocks → P (forgot d b)) → Bytes cache → (s : ℕ)
      → s < block_count (each_block (forgot d) (clean_cache cache)) → P (block_of s (each_block (forgot d) (clean_cache cache)))
  remove_each P holds small s l =
      let f = remove_facts catalog cache d e in
      let len = f.1.whole in
      let count = read.count_is (each_block (forgot d) (clean_cache cache)) (block_count cache) (read.forgot_length cache (block_count cache) len d) in
      let k : s < block_count cache = omega (arith, count) in
      let n : length (block_of s cache) ≡ block_size = length_block s cache (omega arith) in
      let i : d < most_catalog_blocks = omega (arith, f.0, f.1.most) in
      rw (read.forgot_block cache (block_count cache) len d s k)
      (holds (cleaned (block_of s cache)) (read.cleaned_sound (block_of s cache) n)
      (clean_bytes (block_of s cache) n (small_between (block_size * s) (block_size * s + block_size) cache small)) i)

  pub remove_accepted : RemoveLeaves catalog cache d (remove_outcome catalog cache d)
  unfolding remove_outcome
  remove_accepted =
      let f = remove_facts catalog cache d e in
      let z = f.1 in
      let at = put_at_lem catalog (block_count catalog) z.filled d f.0 empty_block leaf.empty_length in
      rw (by_accepted (remove_verdict catalog cache d) _ _ e) (record {
        answer = refl;
        block_empty = at;
        not_held_lem = held_no _ d (ap is_empty at ∙ leaf.empty_empty);
        only = put_only catalog (block_count catalog) z.filled d f.0 empty_block leaf.empty_length;
        cache_forgets = remove_each (λ b. (searched_in b d ≡ false) × (hit_in b d ≡ false)) (λ b ok bs l. forgot_bits b d ok bs l);
        cache_sound = remove_each (λ b. sound_entry b ≡ true) (λ b ok bs l. forgot_sound b d ok bs l);
        cache_each =
            record {
              size = read.forgot_length cache (block_count cache) z.whole d ∙ sym z.whole;
              each = read.forgot_block cache (block_count cache) z.whole d;
            };
      })

-- Query

module _ (p : Strand) (good : Proper motif_side least_motif most_motif_bases p.bases p.mates) (searched hits : ℕ → Bool) where
  entry_keeps_lem : keeps_motif (encode_entry p searched hits) p ≡ true
  unfolding keeps_motif same_strand
  entry_keeps_lem = rw (law.entry_full p good searched hits, law.entry_motif p good searched hits, same_refl p.bases, same_refl p.mates)

module _ (embeds : Strand → Strand → Bool) where
  pub hit_known : (catalog entry : List ℕ) (p : Strand) (d : ℕ) → is_known entry p d ≡ true → is_hit embeds catalog entry p d
      ≡ (held catalog d && hit_in entry d)
  unfolding is_hit
  hit_known catalog entry p d e = ap (λ (t : Bool). held catalog d && t) (choose_yes (is_known entry p d) (hit_in entry d) (embeds p (molecule_at catalog d)) e)

  pub hit_unknown : (catalog entry : List ℕ) (p : Strand) (d : ℕ) → is_known entry p d ≡ false
      → is_hit embeds catalog entry p d ≡ (held catalog d && embeds p (molecule_at catalog d))
  unfolding is_hit
  hit_unknown catalog entry p d e = ap (λ (t : Bool). held catalog d && t) (choose_no (is_known entry p d) (hit_in entry d) (embeds p (molecule_at catalog
      d)) e)

  hit_held : (catalog entry : List ℕ) (p : Strand) (d : ℕ) → is_hit embeds catalog entry p d ≡ true → held catalog d ≡ true
  unfolding is_hit
  hit_held catalog entry p d e = (and_true (held catalog d) _ e).0

  other_motif : (catalog entry : List ℕ) (p : Strand) → keeps_motif entry p ≡ false → (d : ℕ)
      → (is_hit embeds catalog entry p d ≡ (held catalog d && embeds p (molecule_at catalog d))) × (to_search catalog entry p d ≡ held catalog d)
  unfolding to_search is_known
  other_motif catalog entry p e d = (
    hit_unknown catalog entry p d (unfold is_known in (rw e)),
    ap (λ (t : Bool). held catalog d && not (t && searched_in entry d)) e ∙ and-true-right (held catalog d),
  )

  same_motif : (catalog entry : List ℕ) (p : Strand) (d : ℕ) → keeps_motif entry p ≡ true → searched_in entry d ≡ true
      → (is_hit embeds catalog entry p d ≡ (held catalog d && hit_in entry d)) × (to_search catalog entry p d ≡ false)
  unfolding to_search is_known
  same_motif catalog entry p d e h = (hit_known catalog entry p d (unfold is_known in (rw (e, h))), rw (e, h) (and-false (held catalog d)))

  module _ (catalog cache : List ℕ) (p : Strand) (work : ℕ) (hits : List ℕ) (e : query_verdict catalog cache p work (length hits) ≡ Ok tt) where
    abbrev hit : ℕ → Bool
    hit = is_hit embeds catalog (entry_for cache p) p

    abbrev list : List ℕ
    list = select (block_count catalog) hit

    abbrev entry : List ℕ
    entry = encode_entry p (held catalog) hit

    sizes : Usable catalog cache
    sizes = (query_facts catalog cache p work (length hits) e).0

    good : Proper motif_side least_motif most_motif_bases p.bases p.mates
    good = (query_facts catalog cache p work (length hits) e).1

    slot_below : slot_in cache p < block_count cache
    unfolding slot_of
    slot_below = let h = sizes.slots in mod-lt (key p) h

    clean_length : length (clean_cache cache) ≡ block_size * block_count cache
    clean_length = read.clean_length cache (block_count cache) sizes.whole

    at : (m n : ℕ → Bool) → block_of (slot_in cache p) (put_block (slot_in cache p) (encode_entry p m n) (clean_cache cache)) ≡ encode_entry p m n
    at m n = put_at_lem (clean_cache cache) (block_count cache) clean_length (slot_in cache p) slot_below (encode_entry p m n) (law.entry_length p good m n)

    only : (m n : ℕ → Bool) → OnlyAt (slot_in cache p) (clean_cache cache) (put_block (slot_in cache p) (encode_entry p m n) (clean_cache cache))
    only m n = put_only (clean_cache cache) (block_count cache) clean_length (slot_in cache p) slot_below (encode_entry p m n) (law.entry_length p good m n)

    new_sound : AllSound (put_block (slot_in cache p) entry (clean_cache cache))
    new_sound s l =
        let k : s < block_count cache = omega (arith, (only (held catalog) hit).size, clean_length) in
        elim (ℕ_discrete s (slot_in cache p)) [
          | yes q ↦ rw (q, at (held catalog) hit) (law.entry_sound p good _ _ (hit_held catalog (entry_for cache p) p))
          | no q ↦ rw ((only (held catalog) hit).others s (omega (arith, clean_length)) q) (clean_sound cache (block_count cache) sizes.whole s k)
        ]

    pub query_accepted_lem : QueryLeaves catalog cache (slot_in cache p) p hits hit
        (to_search catalog (entry_for cache p) p) (query_outcome embeds catalog cache p work hits)
    unfolding query_outcome query_accepted
    query_accepted_lem =
        rw (by_accepted (query_verdict catalog cache p work (length hits)) _ _ e) (record {
          answer = refl;
          listed = take_at list (drop (length list) hits) (length list) refl;
          later = drop_at list (drop (length list) hits) (length list) refl;
          only = only _ _;
          entry = at _ _;
          keeps = ap (λ (b : List ℕ). keeps_motif b p) (at _ _) ∙ entry_keeps_lem p good _ _;
          searched = λ d l. ap (λ (b : List ℕ). searched_in b d) (at _ _) ∙ law.entry_searched p good _ _ d l;
          hit_bits = λ d l. ap (λ (b : List ℕ). hit_in b d) (at _ _) ∙ law.entry_hit p good _ _ d l;
          cache_sound = new_sound;
        })

-- Refused calls

pub add_refused : (catalog cache : List ℕ) (d : ℕ) (q : Strand) (r : Refusal) → add_verdict catalog cache d q ≡ Err r
    → add_outcome catalog cache d q ≡ effect (Err r) catalog cache
unfolding add_outcome
add_refused catalog cache d q r e = by_refused (add_verdict catalog cache d q) _ _ r e

pub remove_refused : (catalog cache : List ℕ) (d : ℕ) (r : Refusal) → remove_verdict catalog cache d ≡ Err r
    → remove_outcome catalog cache d ≡ effect (Err r) catalog cache
unfolding remove_outcome
remove_refused catalog cache d r e = by_refused (remove_verdict catalog cache d) _ _ r e

pub query_refused : (embeds : Strand → Strand → Bool) (catalog cache : List ℕ) (p : Strand) (work : ℕ) (hits : List ℕ) (r : Refusal)
    → query_verdict catalog cache p work (length hits) ≡ Err r → query_outcome embeds catalog cache p work hits ≡ queried (Err r) cache hits
unfolding query_outcome
query_refused embeds catalog cache p work hits r e = by_refused (query_verdict catalog cache p work (length hits)) _ _ r e

-- What an accepted query comes to.
pub query_found : (embeds : Strand → Strand → Bool) (catalog cache : List ℕ) (p : Strand) (work : ℕ) (hits : List ℕ)
    → query_verdict catalog cache p work (length hits) ≡ Ok tt
    → query_result (query_outcome embeds catalog cache p work hits).answer (query_outcome embeds catalog cache p work hits).hits
    ≡ found
    (length (select (block_count catalog) (is_hit embeds catalog (entry_for cache p) p)))
    (select (block_count catalog) (is_hit embeds catalog (entry_for cache p) p))
    (length (select (block_count catalog) (to_search catalog (entry_for cache p) p)))
unfolding query_result
query_found embeds catalog cache p work hits e =
    let new = query_accepted_lem embeds catalog cache p work hits e in
    rw (new.answer, new.listed)

-- The motif with no bases.
empty_motif_verdict_lem : (catalog cache : List ℕ) (work room : ℕ) → query_verdict catalog cache empty_motif work room
    ≡ first (buffers_verdict catalog cache ∷ refuse_if wrong_slice no_side (ltb room (block_count catalog)) ∷ work_rule 0 most_molecule_bases work ∷ [])
unfolding query_verdict motif_verdict work_verdict
empty_motif_verdict_lem catalog cache work room =
    rw ((strand.claims).empty_motif_says.passes most_motif_bases) (first_without (buffers_verdict catalog cache) _)

empty_motif_slot : (S : ℕ) → slot_of S empty_motif ≡ 0
unfolding slot_of
empty_motif_slot S = rw (strand.claims).empty_motif_says.key_0 (zero-mod S)

pub claims : (embeds : Strand → Strand → Bool) → Claims embeds
claims embeds =
    record {
      add_accepted = add_accepted;
      remove_accepted = remove_accepted;
      query_accepted_lem = query_accepted_lem embeds;
      add_says = add_says;
      add_accepts = add_accepts;
      remove_accepts = remove_accepts;
      query_accepts = query_accepts;
      buffers_sides = buffers_sides;
      add_sides = add_sides;
      remove_sides = remove_sides;
      query_sides = query_sides;
      add_refuses = add_refuses;
      add_keeps = add_keeps;
      remove_refuses = remove_refuses;
      remove_keeps = remove_keeps;
      query_refuses = query_refuses embeds;
      query_keeps = query_keeps embeds;
      hit_held = hit_held embeds;
      same_motif = same_motif embeds;
      other_motif = other_motif embeds;
      empty_motif_verdict_lem = empty_motif_verdict_lem;
      empty_motif_slot = empty_motif_slot;
    }
