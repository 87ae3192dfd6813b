-- Laws of the screen's output: which text an input gets, and that the query's own buffers do not show in it.
use Rattle.std.specs.Prelude.{Some, None, Ok, Err}
use mathlib.Core.Path.{◌≡◌, refl, sym, ap, ap₂, subst, ◌∙◌}
use mathlib.Core.Bool.{Bool, true, false, ◌&&◌}
use mathlib.Core.List.{List, [], ◌∷◌, ◌++◌}
use Prim.Native.Nat.{ℕ, ◌+◌, ◌*◌, ◌-◌, ◌%◌, ◌<◌, ◌≤◌}
use native.Mathlib.Omega.{arith}
use borrow.Author.Tests.{le-ltb, eqb-true, leb-true, lt-leb, le-leb, eq-eqb, ne_eqb}
use lib.Dec.{ltb, leb, eqb}
use lib.ListN.{length, take, drop, replicate, length-append, length-drop, length-replicate}
use lib.Seq.{take_at, take_all}
use Rattle.lists.specs.Vocabulary.{choose, select}
use Rattle.strand.specs.Strands.{Strand, strand_of, Proper, least_motif}
use Rattle.refusals.specs.Rules.{motif_side, no_side, wrong_slice, first, refuse_if, by_verdict, WorkKept, Verdict, number_of, number_of_side}
use Rattle.lists.proofs.ListLaws.{and_true, and_left, never, select_short}
use Rattle.strand.proofs.VerdictLaws.{accepted_proper}
use Rattle.block.specs.Content.{block_size, empty_block}
use Rattle.block.proofs.ContentLaws.{motif_proper as handed_proper, held_sound}
use Rattle.refusals.specs.declared.Refusal.{Refusal}
use Rattle.block.specs.Motif.{holds_motif, sound_motif, motif_handed_in}
use Rattle.block.specs.Block.{block_of, block_count}
use Rattle.calls.specs.declared.Hits.{Hits}
use Rattle.calls.specs.Answers.{Queried}
use Rattle.calls.specs.Buffers.{motif_verdict, work_verdict, most_motif_bases, buffers_verdict, slot_of, clean_cache}
use Rattle.calls.specs.Calls.{QueryEffect, queried, query_verdict, query_accepted, query_outcome, is_hit, to_search}
use Rattle.screening.specs.Text.{line, spaced, hits_text, refused_text, bad_length_text, bad_motif_text, most_output, TextPut}
use Rattle.screening.specs.Screen.{most_screened, is_input, first_block, catalog_in, screen_work, answer_text, AnswerFits, effect_text, screen_query}
use Rattle.screening.specs.Screen.{screen_verdict, screen_output, has_room, screened, is_asked, cache_left, hits_left, screen_outcome}
use Rattle.screening.proofs.TextLaws.{most_hits, put_first}

-- An accepted motif has at most 120 bases.
motif_short : (p : Strand) → motif_verdict p ≡ Ok tt → length p.bases ≤ 120
unfolding motif_verdict
motif_short p e = (accepted_proper motif_side least_motif most_motif_bases p.bases p.mates e).small

rows_same : (p : Strand) (work room n : ℕ) → n ≤ most_screened → screen_work ≤ work → most_screened ≤ room → length p.bases ≤ 120
    → first (refuse_if wrong_slice no_side (ltb room n) ∷ work_verdict p work ∷ []) ≡ Ok tt
unfolding first refuse_if work_verdict choose
rows_same p work room n a b h m =
    rw (le-ltb room n (omega arith), le-ltb work (64 * (length p.bases + 1) + 8 * 160) (omega arith))

chain : (p : Strand) (work room n : ℕ) → n ≤ most_screened → screen_work ≤ work → most_screened ≤ room → (b m : Verdict) → motif_verdict p ≡ m
    → first (b ∷ m ∷ refuse_if wrong_slice no_side (ltb room n) ∷ work_verdict p work ∷ [])
    ≡ first (b ∷ m ∷ refuse_if wrong_slice no_side (ltb most_screened n) ∷ work_verdict p screen_work ∷ [])
unfolding first
chain p work room n a h r (Err x) m e = refl
chain p work room n a h r (Ok u) (Err x) e = refl
chain p work room n a h r (Ok u) (Ok v) e =
    rows_same p work room n a h r (motif_short p e) ∙ sym (rows_same p screen_work most_screened n a (omega arith) (omega arith) (motif_short p e))

module _ (embeds : Strand → Strand → Bool) (catalog cache : List ℕ) (p : Strand) (work : ℕ) (hits : List ℕ)
    (few : block_count catalog ≤ most_screened) (long : screen_work ≤ work) (wide : most_screened ≤ length hits) where
  verdict_same : query_verdict catalog cache p work (length hits) ≡ query_verdict catalog cache p screen_work most_screened
  unfolding query_verdict
  verdict_same = chain p work (length hits) (block_count catalog) few long wide (buffers_verdict catalog cache) (motif_verdict p) refl

module _ (embeds : Strand → Strand → Bool) (catalog cache entry : List ℕ) (slot : ℕ) (p : Strand) (hits : List ℕ) where
  pub entry_text : effect_text (query_accepted embeds catalog cache entry slot p hits)
      ≡ hits_text (length (select (block_count catalog) (is_hit embeds catalog entry p))) (length (select (block_count catalog) (to_search catalog entry p)))
      (select (block_count catalog) (is_hit embeds catalog entry p))
  unfolding query_accepted answer_text
  entry_text =
      ap (hits_text (length (select (block_count catalog) (is_hit embeds catalog entry p))) (length (select (block_count catalog) (to_search catalog entry p))))
      (take_at (select (block_count catalog) (is_hit embeds catalog entry p))
      (drop (length (select (block_count catalog) (is_hit embeds catalog entry p))) hits)
      (length (select (block_count catalog) (is_hit embeds catalog entry p))) refl)

  pub entry_fits : block_count catalog ≤ most_screened
      → AnswerFits (query_accepted embeds catalog cache entry slot p hits).answer (query_accepted embeds catalog cache entry slot p hits).hits most_output
  unfolding query_accepted AnswerFits
  entry_fits few =
      let list : List ℕ = select (block_count catalog) (is_hit embeds catalog entry p) in
      let sought : List ℕ = select (block_count catalog) (to_search catalog entry p) in
      let e : take (length list) (list ++ drop (length list) hits) ≡ list = take_at list (drop (length list) hits) (length list) refl in
      let a : length list ≤ block_count catalog = select_short (is_hit embeds catalog entry p) (block_count catalog) in
      let b : length sought ≤ block_count catalog = select_short (to_search catalog entry p) (block_count catalog) in (
        omega (arith, length-append list (drop (length list) hits)),
        rw e (most_hits (length list) (length sought) (block_count catalog) (is_hit embeds catalog entry p) (omega arith) (omega arith) few),
      )

unless_text : (v : Verdict) (cache h₁ h₂ : List ℕ) (e₁ e₂ : QueryEffect) → effect_text e₁ ≡ effect_text e₂
    → effect_text (by_verdict v (λ r. queried (Err r) cache h₁) e₁) ≡ effect_text (by_verdict v (λ r. queried (Err r) cache h₂) e₂)
unfolding by_verdict answer_text
unless_text (Ok u) cache h₁ h₂ e₁ e₂ e = e
unless_text (Err r) cache h₁ h₂ e₁ e₂ e = refl

unless_fits : (v : Verdict) (cache h : List ℕ) (e : QueryEffect) → AnswerFits e.answer e.hits most_output
    → AnswerFits (by_verdict v (λ r. queried (Err r) cache h) e).answer (by_verdict v (λ r. queried (Err r) cache h) e).hits most_output
unfolding by_verdict AnswerFits
unless_fits (Ok u) cache h e f = f
unless_fits (Err r) cache h e f = omega arith

module _ (embeds : Strand → Strand → Bool) (catalog cache : List ℕ) (p : Strand) (work : ℕ) (hits : List ℕ)
    (few : block_count catalog ≤ most_screened) (long : screen_work ≤ work) (wide : most_screened ≤ length hits) where
  pub effect_same : effect_text (query_outcome embeds catalog cache p work hits)
      ≡ effect_text (query_outcome embeds catalog cache p screen_work (replicate most_screened 0))
  unfolding query_outcome
  effect_same =
      let slot : ℕ = slot_of (block_count cache) p in
      let entry : List ℕ = block_of slot (clean_cache cache) in
      ap (λ (v : Verdict). effect_text
      (by_verdict v (λ r. queried (Err r) cache hits) (query_accepted embeds catalog (clean_cache cache) entry slot p hits)))
      (verdict_same embeds catalog cache p work hits few long wide)
      ∙ unless_text (query_verdict catalog cache p screen_work most_screened) cache hits (replicate most_screened 0)
      (query_accepted embeds catalog (clean_cache cache) entry slot p hits)
      (query_accepted embeds catalog (clean_cache cache) entry slot p (replicate most_screened 0))
      (entry_text embeds catalog (clean_cache cache) entry slot p hits
      ∙ sym (entry_text embeds catalog (clean_cache cache) entry slot p (replicate most_screened 0)))
      ∙ ap (λ (k : ℕ). effect_text (by_verdict (query_verdict catalog cache p screen_work k) (λ r. queried (Err r) cache (replicate most_screened 0))
      (query_accepted embeds catalog (clean_cache cache) entry slot p (replicate most_screened 0))))
      (sym (length-replicate {A = ℕ} most_screened 0))

  pub effect_fits : AnswerFits (query_outcome embeds catalog cache p work hits).answer (query_outcome embeds catalog cache p work hits).hits most_output
  unfolding query_outcome
  effect_fits =
      let slot : ℕ = slot_of (block_count cache) p in
      let entry : List ℕ = block_of slot (clean_cache cache) in
      unless_fits (query_verdict catalog cache p work (length hits)) cache hits (query_accepted embeds catalog (clean_cache cache) entry slot p hits)
      (entry_fits embeds catalog (clean_cache cache) entry slot p hits few)

-- ---- which text an input gets

few_blocks : (input : List ℕ) → block_count input ≤ 1 + most_screened → 2 ≤ block_count input
    → (2 * block_size ≤ length input) × (block_count (catalog_in input) ≤ most_screened)
few_blocks input h l = (omega arith, omega (arith, length-drop block_size input))

pub input_few : (input : List ℕ) → is_input input ≡ true → (2 * block_size ≤ length input) × (block_count (catalog_in input) ≤ most_screened)
unfolding is_input
input_few input e =
    let a = and_true (eqb (length input % block_size) 0 && leb 2 (block_count input)) (leb (block_count input) (1 + most_screened)) e in
    let b = and_true (eqb (length input % block_size) 0) (leb 2 (block_count input)) a.0 in
    few_blocks input (leb-true (block_count input) (1 + most_screened) a.1) (leb-true 2 (block_count input) b.1)

module _ (embeds : Strand → Strand → Bool) (input : List ℕ) where
  pub output_bad_length : is_input input ≡ false → screen_output embeds input ≡ bad_length_text
  unfolding screen_output choose
  output_bad_length e = rw e

  pub output_bad_motif : is_input input ≡ true → holds_motif (first_block input) ≡ false → screen_output embeds input ≡ bad_motif_text
  unfolding screen_output choose
  output_bad_motif e m = rw (e, m)

  pub output_answer : is_input input ≡ true → holds_motif (first_block input) ≡ true
      → screen_output embeds input ≡ effect_text (screen_query embeds input screen_work (replicate most_screened 0))
  unfolding screen_output choose
  output_answer e m = rw (e, m)

-- ---- the tests of the code

module _ (out cache work hits : ℕ) where
  pub out_too_short : out < most_output → false ≡ has_room out cache work hits
  unfolding has_room
  out_too_short h = rw (lt-leb most_output out h)

  pub cache_not_one : most_output ≤ out → (cache ≡ block_size → ⊥) → false ≡ has_room out cache work hits
  unfolding has_room
  cache_not_one h k = rw (le-leb most_output out h, ne_eqb cache block_size k)

  pub work_too_short_lem : most_output ≤ out → cache ≡ block_size → work < screen_work → false ≡ has_room out cache work hits
  unfolding has_room
  work_too_short_lem h k w = rw (le-leb most_output out h, eq-eqb cache block_size k, lt-leb screen_work work w)

  pub room_by_hits : most_output ≤ out → cache ≡ block_size → screen_work ≤ work → leb most_screened hits ≡ has_room out cache work hits
  unfolding has_room
  room_by_hits h k w = rw (le-leb most_output out h, eq-eqb cache block_size k, le-leb screen_work work w)

  pub room_facts : has_room out cache work hits ≡ true → (most_output ≤ out) × (cache ≡ block_size) × (screen_work ≤ work) × (most_screened ≤ hits)
  unfolding has_room
  room_facts e =
      let a = and_true (leb most_output out && eqb cache block_size && leb screen_work work) (leb most_screened hits) e in
      let b = and_true (leb most_output out && eqb cache block_size) (leb screen_work work) a.0 in
      let d = and_true (leb most_output out) (eqb cache block_size) b.0 in
      (leb-true most_output out d.0, eqb-true cache block_size d.1, leb-true screen_work work b.1, leb-true most_screened hits a.1)

module _ (input : List ℕ) where
  pub input_not_blocks : (length input % block_size ≡ 0 → ⊥) → false ≡ is_input input
  unfolding is_input
  input_not_blocks h = rw (ne_eqb (length input % block_size) 0 h)

  pub input_too_short : length input % block_size ≡ 0 → block_count input < 2 → false ≡ is_input input
  unfolding is_input
  input_too_short h k = rw (eq-eqb (length input % block_size) 0 h, lt-leb 2 (block_count input) k)

  pub input_by_most : length input % block_size ≡ 0 → 2 ≤ block_count input → leb (block_count input) (1 + most_screened) ≡ is_input input
  unfolding is_input
  input_by_most h k = rw (eq-eqb (length input % block_size) 0 h, le-leb 2 (block_count input) k)

pub motif_sound : (s : List ℕ) → holds_motif s ≡ true → sound_motif s ≡ true
motif_sound s e = (held_sound s e).0

-- A motif's block holds a proper strand.
pub motif_proper : (s : List ℕ) → holds_motif s ≡ true → Proper motif_side least_motif 160 (motif_handed_in s).bases (motif_handed_in s).mates
motif_proper s e = let a = held_sound s e in handed_proper s a.0 a.1

pub motif_fits : (s : List ℕ) (n : ℕ) → holds_motif s ≡ true → n ≡ length (motif_handed_in s).bases → n ≤ 160
motif_fits s n e k = omega (arith, (motif_proper s e).small)

-- A strand read into the start of two slices.
pub strand_read : (q : Strand) (x y : List ℕ) (n : ℕ) → n ≡ length q.bases → length q.mates ≡ length q.bases
    → strand_of (take n (q.bases ++ x)) (take n (q.mates ++ y)) ≡ q
strand_read q x y n e l = λ i. record { bases = take_at q.bases x n (sym e) i; mates = take_at q.mates y n (l ∙ sym e) i }

module _ (embeds : Strand → Strand → Bool) (input out cache : List ℕ) (work : ℕ) (hits : List ℕ) where
  pub outcome_none : has_room (length out) (length cache) work (length hits) ≡ false
      → screened None out cache hits ≡ screen_outcome embeds input out cache work hits
  unfolding screen_outcome choose
  outcome_none e = rw e

  pub outcome_written : {new kept left : List ℕ} {n : ℕ} → has_room (length out) (length cache) work (length hits) ≡ true
      → TextPut (screen_output embeds input) out new 0 n
      → kept ≡ cache_left embeds input cache work hits → left ≡ hits_left embeds input work hits
      → screened (Some n) new kept left ≡ screen_outcome embeds input out cache work hits
  unfolding screen_outcome choose
  outcome_written e p k l = rw (e, (put_first p).0, (put_first p).1, k, l)

  -- The cache, the hits and the work slice, for each kind of output.
  pub left_unasked : (w : List ℕ) → is_asked input ≡ false
      → (cache ≡ cache_left embeds input cache work hits) × (hits ≡ hits_left embeds input work hits)
      × (is_asked input ≡ true → WorkKept (screen_verdict input work (length hits)) w w) × (is_asked input ≡ false → w ≡ w)
  unfolding cache_left hits_left choose
  left_unasked w e = (rw e, rw e, λ t. never (sym e ∙ t), λ t. refl)

  pub left_asked : {answer : Queried} {kept left : List ℕ} (before after : List ℕ) → is_asked input ≡ true
      → queried answer kept left ≡ query_outcome embeds (catalog_in input) empty_block (motif_handed_in (first_block input)) work hits
      → WorkKept (screen_verdict input work (length hits)) before after
      → (kept ≡ cache_left embeds input cache work hits) × (left ≡ hits_left embeds input work hits)
      × (is_asked input ≡ true → WorkKept (screen_verdict input work (length hits)) before after) × (is_asked input ≡ false → after ≡ before)
  unfolding cache_left hits_left screen_query choose
  left_asked before after e h w = (
    rw e (ap (λ (q : QueryEffect). q.cache) h),
    rw e (ap (λ (q : QueryEffect). q.hits) h),
    λ t. w,
    λ t. never (sym t ∙ e),
  )

pub not_input : (input : List ℕ) → is_input input ≡ false → is_asked input ≡ false
unfolding is_asked
not_input input e = rw e

pub asked_by_motif : (input : List ℕ) (b : Bool) → is_input input ≡ true → holds_motif (first_block input) ≡ b → is_asked input ≡ b
unfolding is_asked
asked_by_motif input b e m = rw (e, m)

-- The work slice of `screen`, with and without room.
pub work_none : (room asked : Bool) (v : Verdict) (w : List ℕ) → room ≡ false → ((room && asked) ≡ true → WorkKept v w w) × ((room && asked) ≡ false → w ≡ w)
work_none room asked v w e = (λ t. never (sym e ∙ and_left room asked t), λ t. refl)

pub work_room : (room asked : Bool) (v : Verdict) (before after : List ℕ) → room ≡ true
    → (asked ≡ true → WorkKept v before after) × (asked ≡ false → after ≡ before)
    → ((room && asked) ≡ true → WorkKept v before after) × ((room && asked) ≡ false → after ≡ before)
work_room room asked v before after e w = rw e w

-- ---- the query of an input

module _ (embeds : Strand → Strand → Bool) (input cache : List ℕ) (work : ℕ) (hits : List ℕ) where
  -- The motif stands at the start of two slices, and the catalog is the rest of the input.
  module _ (n : ℕ) (b m b₀ m₀ : List ℕ) (ok : holds_motif (first_block input) ≡ true) (k : n ≡ length (motif_handed_in (first_block input)).bases)
      (eb : b ≡ (motif_handed_in (first_block input)).bases ++ drop n b₀) (em : m ≡ (motif_handed_in (first_block input)).mates ++ drop n m₀) where
    rest : take (length input - 512) (catalog_in input) ≡ catalog_in input
    rest = take_all (length input - 512) (catalog_in input) (omega (arith, length-drop block_size input))

    same : strand_of (take n b) (take n m) ≡ motif_handed_in (first_block input)
    same =
        ap₂ (λ (u v : List ℕ). strand_of (take n u) (take n v)) eb em
        ∙ strand_read (motif_handed_in (first_block input)) (drop n b₀) (drop n m₀) n k (motif_proper (first_block input) ok).same

    pub asked : (e : QueryEffect) → e ≡ query_outcome embeds (take (length input - 512) (catalog_in input)) cache (strand_of (take n b) (take n m)) work hits
        → e ≡ query_outcome embeds (catalog_in input) cache (motif_handed_in (first_block input)) work hits
    asked e h = h ∙ ap₂ (λ (u : List ℕ) (v : Strand). query_outcome embeds u cache v work hits) rest same

    pub asked_work : (w w' : List ℕ)
        → WorkKept (query_verdict (take (length input - 512) (catalog_in input)) cache (strand_of (take n b) (take n m)) work (length hits)) w w'
        → WorkKept (query_verdict (catalog_in input) cache (motif_handed_in (first_block input)) work (length hits)) w w'
    asked_work w w' h = rw (rest, same) at h

  module _ (zeroed : List ℕ) (l : length cache ≡ 512) (z : zeroed ≡ replicate (length cache) 0) where
    empty : zeroed ≡ empty_block
    unfolding empty_block
    empty = z ∙ ap (λ (k : ℕ). replicate k 0) l

    pub afresh : (e : QueryEffect) → e ≡ query_outcome embeds (catalog_in input) zeroed (motif_handed_in (first_block input)) work hits
        → e ≡ query_outcome embeds (catalog_in input) empty_block (motif_handed_in (first_block input)) work hits
    afresh e h = h ∙ ap (λ (u : List ℕ). query_outcome embeds (catalog_in input) u (motif_handed_in (first_block input)) work hits) empty

    pub afresh_work : (w w' : List ℕ) → WorkKept (query_verdict (catalog_in input) zeroed (motif_handed_in (first_block input)) work (length hits)) w w'
        → WorkKept (screen_verdict input work (length hits)) w w'
    afresh_work w w' h = rw empty at h

-- ---- the text of an answer

pub fits_hits : (found : Hits) (answer : Queried) (hits : List ℕ) (room : ℕ) → answer ≡ Ok found → AnswerFits answer hits room
    → (found.count ≤ length hits) × (length (hits_text found.count found.searched (take found.count hits)) ≤ room)
unfolding AnswerFits
fits_hits found answer hits room e f = rw e at f

pub fits_more : (answer : Queried) (hits : List ℕ) (room : ℕ) → most_output ≤ room → AnswerFits answer hits most_output → AnswerFits answer hits room
unfolding AnswerFits
fits_more (Ok found) hits room l f = (f.0, omega (arith, f.1))
fits_more (Err r) hits room l f = l

pub put_refused : (r : Refusal) (answer : Queried) (hits : List ℕ) {x y : List ℕ} {n : ℕ} → answer ≡ Err r
    → TextPut (refused_text (number_of r.rule) (number_of_side r.side) r.place) x y 0 n → TextPut (answer_text answer hits) x y 0 n
unfolding answer_text
put_refused r answer hits e p = rw e p

pub put_hits : (found : Hits) (answer : Queried) (hits : List ℕ) {x y : List ℕ} {n : ℕ} → answer ≡ Ok found
    → TextPut (hits_text found.count found.searched (take found.count hits)) x y 0 n → TextPut (answer_text answer hits) x y 0 n
unfolding answer_text
put_hits found answer hits e p = rw e p

-- ---- the output of an input

bad_length_bytes : 98 ∷ 97 ∷ 100 ∷ 32 ∷ 108 ∷ 101 ∷ 110 ∷ 103 ∷ 116 ∷ 104 ∷ 10 ∷ [] ≡ bad_length_text
unfolding bad_length_text line spaced
bad_length_bytes = refl

bad_motif_bytes : 98 ∷ 97 ∷ 100 ∷ 32 ∷ 109 ∷ 111 ∷ 116 ∷ 105 ∷ 102 ∷ 10 ∷ [] ≡ bad_motif_text
unfolding bad_motif_text line spaced
bad_motif_bytes = refl

module _ (embeds : Strand → Strand → Bool) (input : List ℕ) where
  pub put_bad_length : {x y : List ℕ} {n : ℕ} → is_input input ≡ false
      → TextPut (98 ∷ 97 ∷ 100 ∷ 32 ∷ 108 ∷ 101 ∷ 110 ∷ 103 ∷ 116 ∷ 104 ∷ 10 ∷ []) x y 0 n → TextPut (screen_output embeds input) x y 0 n
  put_bad_length e p = rw (output_bad_length embeds input e ∙ sym bad_length_bytes) p

  pub put_bad_motif : {x y : List ℕ} {n : ℕ} → is_input input ≡ true → holds_motif (first_block input) ≡ false
      → TextPut (98 ∷ 97 ∷ 100 ∷ 32 ∷ 109 ∷ 111 ∷ 116 ∷ 105 ∷ 102 ∷ 10 ∷ []) x y 0 n → TextPut (screen_output embeds input) x y 0 n
  put_bad_motif e m p = rw (output_bad_motif embeds input e m ∙ sym bad_motif_bytes) p

  module _ (work : ℕ) (hits : List ℕ) (answer : Queried) (cache left : List ℕ)
      (ok : is_input input ≡ true) (long : screen_work ≤ work) (wide : most_screened ≤ length hits)
      (h : queried answer cache left ≡ query_outcome embeds (catalog_in input) empty_block (motif_handed_in (first_block input)) work hits) where
    pub answer_fits : (room : ℕ) → most_output ≤ room → AnswerFits answer left room
    answer_fits room l =
        fits_more answer left room l
        (subst (λ (e : QueryEffect). AnswerFits e.answer e.hits most_output) (sym h)
        (effect_fits embeds (catalog_in input) empty_block (motif_handed_in (first_block input)) work hits (input_few input ok).1 long wide))

    answer_text_lem : holds_motif (first_block input) ≡ true → screen_output embeds input ≡ answer_text answer left
    unfolding screen_query
    answer_text_lem m =
        output_answer embeds input ok m
        ∙ sym (effect_same embeds (catalog_in input) empty_block (motif_handed_in (first_block input)) work hits (input_few input ok).1 long wide)
        ∙ sym (ap effect_text h)

    pub put_answered : {x y : List ℕ} {n : ℕ} → holds_motif (first_block input) ≡ true → TextPut (answer_text answer left) x y 0 n
        → TextPut (screen_output embeds input) x y 0 n
    put_answered m p = rw (answer_text_lem m) p
