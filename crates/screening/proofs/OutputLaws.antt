-- No output of the screen program is longer than `most_output`: the numbers of a query's refusal are small.
use Rattle.std.specs.Prelude.{Ok, Err}
use mathlib.Core.Path.{◌≡◌, refl, ap}
use mathlib.Core.Bool.{Bool, true, false}
use mathlib.Core.List.{List, [], ◌∷◌}
use Prim.Native.Nat.{ℕ, ◌<◌, ◌≤◌}
use native.Mathlib.Omega.{arith}
use lib.Dec.{ltb}
use lib.ListN.{length, replicate}
use Rattle.lists.specs.Vocabulary.{choose, lowest, select}
use Rattle.strand.specs.Strands.{Strand, strand_verdict, least_motif}
use Rattle.refusals.specs.declared.Rule.{Rule}
use Rattle.refusals.specs.declared.Rule.TheVariants.{UnequalLengths, NoBases, TooLong, BadLetter, BadMate, MatesNotMutual, ArcsCross, WorkTooShort}
use Rattle.refusals.specs.declared.Rule.TheVariants.{WrongSlice, NotWholeBlocks, UnsoundBlock, NumberTooLarge, AlreadyHeld, NotHeld, BadMotifs}
use Rattle.refusals.specs.declared.Side.{Side}
use Rattle.refusals.specs.Rules.{number_of, number_of_side, motif_side, refusal, refuse_if, refuse_at_lowest, first, by_verdict, Verdict}
use Rattle.lists.proofs.ListLaws.{lowest_upto, select_short}
use Rattle.block.specs.Motif.{holds_motif, motif_handed_in}
use Rattle.block.specs.Block.{block_of, block_count}
use Rattle.block.specs.Content.{empty_block}
use Rattle.calls.specs.Buffers.{most_motif_bases, motif_verdict, work_verdict, unsound_at, buffers_verdict, slot_of, clean_cache}
use Rattle.calls.specs.Calls.{QueryEffect, queried, query_verdict, query_accepted, query_outcome, is_hit, to_search}
use Rattle.screening.specs.Text.{line, spaced, bad_length_text, bad_motif_text, most_output}
use Rattle.screening.specs.Screen.{most_screened, is_input, first_block, catalog_in, screen_work, answer_text, effect_text, screen_query, screen_output}
use Rattle.screening.proofs.TextLaws.{most_hits, most_refused}
use Rattle.screening.proofs.ScreenLaws.{entry_text, input_few, motif_proper, output_bad_length, output_bad_motif, output_answer}

-- ---- the numbers of a refusal

rule_small : (rule : Rule) → number_of rule < 256
rule_small UnequalLengths = omega arith
rule_small NoBases = omega arith
rule_small TooLong = omega arith
rule_small BadLetter = omega arith
rule_small BadMate = omega arith
rule_small MatesNotMutual = omega arith
rule_small ArcsCross = omega arith
rule_small WorkTooShort = omega arith
rule_small WrongSlice = omega arith
rule_small NotWholeBlocks = omega arith
rule_small UnsoundBlock = omega arith
rule_small NumberTooLarge = omega arith
rule_small AlreadyHeld = omega arith
rule_small NotHeld = omega arith
rule_small BadMotifs = omega arith

-- Accepted, or refused with a side of a byte and a place up to m.
Small : ℕ → Verdict → Type 0
Small m (Ok u) = 0 ≤ m
Small m (Err r) = (number_of_side r.side < 256) × (r.place ≤ m)

small_row : (m : ℕ) (rule : Rule) (side : Side) (b : Bool) → number_of_side side < 256 → Small m (refuse_if rule side b)
unfolding Small refuse_if choose
small_row m rule side true hs = (hs, omega arith)
small_row m rule side false hs = omega arith

small_at : (m : ℕ) (rule : Rule) (side : Side) (n : ℕ) (p : ℕ → Bool) → number_of_side side < 256 → n ≤ m → Small m (refuse_at_lowest rule side n p)
unfolding Small refuse_at_lowest choose
small_at m rule side n p hs hn = go (ltb (lowest n p) n)
  where
    go : (b : Bool) → Small m (choose b (refusal rule side (lowest n p)) (Ok tt))
    go true = (hs, omega (arith, lowest_upto p n, hn))
    go false = omega arith

small_first : (m : ℕ) (v : Verdict) (vs : List Verdict) → Small m v → Small m (first vs) → Small m (first (v ∷ vs))
unfolding Small first
small_first m (Ok u) vs a b = b
small_first m (Err r) vs a b = a

small_end : (m : ℕ) → Small m (first [])
unfolding Small first
small_end m = omega arith

small_strand : (m : ℕ) (side : Side) (least greatest : ℕ) (bases mates : List ℕ) → number_of_side side < 256 → length bases ≤ m → length mates ≤ m
    → Small m (strand_verdict side least greatest bases mates)
unfolding strand_verdict
small_strand m side least greatest bases mates hs hb hm =
    small_first m _ _ (small_row m _ side _ hs)
    (small_first m _ _ (small_row m _ side _ hs)
    (small_first m _ _ (small_row m _ side _ hs)
    (small_first m _ _ (small_at m _ side (length bases) _ hs hb)
    (small_first m _ _ (small_at m _ side (length mates) _ hs hm)
    (small_first m _ _ (small_at m _ side (length mates) _ hs hm)
    (small_first m _ _ (small_at m _ side (length mates) _ hs hm) (small_end m)))))))

small_buffers : (m : ℕ) (catalog cache : List ℕ) → block_count catalog ≤ m → Small m (buffers_verdict catalog cache)
unfolding buffers_verdict
small_buffers m catalog cache h =
    small_first m _ _ (small_row m _ _ _ (omega arith))
    (small_first m _ _ (small_at m _ _ (block_count catalog) (unsound_at catalog) (omega arith) h) (small_end m))

small_query : (m : ℕ) (catalog cache : List ℕ) (p : Strand) (work room : ℕ) → block_count catalog ≤ m → length p.bases ≤ m → length p.mates ≤ m
    → Small m (query_verdict catalog cache p work room)
unfolding query_verdict motif_verdict work_verdict
small_query m catalog cache p work room h hb hm =
    small_first m _ _ (small_buffers m catalog cache h)
    (small_first m _ _ (small_strand m motif_side least_motif most_motif_bases p.bases p.mates (omega arith) hb hm)
    (small_first m _ _ (small_row m _ _ _ (omega arith)) (small_first m _ _ (small_row m _ _ _ (omega arith)) (small_end m))))

-- ---- the text of an answer

unless_short : (v : Verdict) (cache hits : List ℕ) (e : QueryEffect) → Small 160 v → length (effect_text e) ≤ most_output
    → length (effect_text (by_verdict v (λ r. queried (Err r) cache hits) e)) ≤ most_output
unfolding Small by_verdict answer_text
unless_short (Ok u) cache hits e a f = f
unless_short (Err r) cache hits e a f =
    most_refused (number_of r.rule) (number_of_side r.side) r.place (rule_small r.rule) a.0 (omega (arith, a.1))

module _ (embeds : Strand → Strand → Bool) (catalog : List ℕ) (p : Strand) (few : block_count catalog ≤ most_screened) where
  entry_short : (cache entry : List ℕ) (slot : ℕ) (hits : List ℕ) → length (effect_text (query_accepted embeds catalog cache entry slot p hits)) ≤ most_output
  entry_short cache entry slot hits =
      let list : List ℕ = select (block_count catalog) (is_hit embeds catalog entry p) in
      let sought : List ℕ = select (block_count catalog) (to_search catalog entry p) in
      let a : length list ≤ block_count catalog = select_short (is_hit embeds catalog entry p) (block_count catalog) in
      let b : length sought ≤ block_count catalog = select_short (to_search catalog entry p) (block_count catalog) in
      omega (
        arith,
        ap length (entry_text embeds catalog cache entry slot p hits),
        most_hits (length list) (length sought) (block_count catalog) (is_hit embeds catalog entry p) (omega arith) (omega arith) few,
      )

  effect_short : (cache : List ℕ) (work : ℕ) (hits : List ℕ) → length p.bases ≤ 160 → length p.mates ≤ 160
      → length (effect_text (query_outcome embeds catalog cache p work hits)) ≤ most_output
  unfolding query_outcome
  effect_short cache work hits hb hm =
      let slot : ℕ = slot_of (block_count cache) p in
      let entry : List ℕ = block_of slot (clean_cache cache) in
      unless_short (query_verdict catalog cache p work (length hits)) cache hits (query_accepted embeds catalog (clean_cache cache) entry slot p hits)
      (small_query 160 catalog cache p work (length hits) (omega arith) hb hm) (entry_short (clean_cache cache) entry slot hits)

-- ---- the output

bad_length_long : length bad_length_text ≡ 11
unfolding bad_length_text line spaced
bad_length_long = refl

bad_motif_long : length bad_motif_text ≡ 10
unfolding bad_motif_text line spaced
bad_motif_long = refl

module _ (embeds : Strand → Strand → Bool) (input : List ℕ) where
  query_short : is_input input ≡ true → holds_motif (first_block input) ≡ true
      → length (effect_text (screen_query embeds input screen_work (replicate most_screened 0))) ≤ most_output
  unfolding screen_query
  query_short e m =
      let P = motif_proper (first_block input) m in
      effect_short embeds (catalog_in input) (motif_handed_in (first_block input)) (input_few input e).1 empty_block screen_work (replicate most_screened 0)
      P.small (omega (arith, P.same, P.small))

  pub output_short : length (screen_output embeds input) ≤ most_output
  output_short = by_input (is_input input) refl
    where
      by_motif : is_input input ≡ true → (b : Bool) → holds_motif (first_block input) ≡ b → length (screen_output embeds input) ≤ most_output
      by_motif e false m = omega (arith, ap length (output_bad_motif embeds input e m), bad_motif_long)
      by_motif e true m = rw (output_answer embeds input e m) (query_short e m)

      by_input : (b : Bool) → is_input input ≡ b → length (screen_output embeds input) ≤ most_output
      by_input false e = omega (arith, ap length (output_bad_length embeds input e), bad_length_long)
      by_input true e = by_motif e (holds_motif (first_block input)) refl
