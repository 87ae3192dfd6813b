-- From the judge's acceptance and what the writers left to the outcome of a call; what the entry of a slot knows.
use Rattle.std.specs.Prelude.{Ok, Err}
use Prim.Native.Nat.{ℕ, ◌+◌, ◌-◌, ◌/◌, ◌<◌, ◌≤◌}
use native.Mathlib.Omega.{arith}
use mathlib.Core.Path.{◌≡◌, refl, sym, ap, ap₂, ◌∙◌}
use mathlib.Core.Bool.{Bool, true, false, not, ◌&&◌, ◌||◌, or-false}
use mathlib.Core.List.{List, ◌++◌}
use lib.ListN.{length, drop, length-append, length-drop}
use Rattle.lists.specs.Vocabulary.{choose, select}
use Rattle.strand.specs.declared.Fold.{Fold}
use Rattle.strand.specs.Folds.{fold_of, IsFold}
use Rattle.strand.specs.Strands.{Strand, same_strand}
use Rattle.strand.proofs.FoldLaws.{fold_is, fold_only}
use Rattle.lists.proofs.ListLaws.{choose_yes, choose_no, select_short}
use Rattle.refusals.specs.Rules.{Verdict}
use Rattle.refusals.proofs.RuleLaws.{by_accepted, by_refused}
use Rattle.block.specs.Content.{block_size, empty_block, encode_molecule, encode_entry, keeps_motif, searched_in, hit_in}
use Rattle.block.specs.Block.{block_of, sound_entry, cleaned, forgot, block_count, each_block, put_block}
use Rattle.block.proofs.ContentLaws.{length_cleaned}
use Rattle.buffer.proofs.BlockLaws.{block_each, length_each, length_block}
use Rattle.calls.specs.Answers.{Added, Queried, hits_of}
use Rattle.calls.specs.Buffers.{most_catalog_blocks, motif_verdict, held, molecule_at, slot_of, clean_cache}
use Rattle.calls.specs.Calls.{Effect, effect, add_verdict, add_outcome, remove_verdict, remove_outcome, queried, query_verdict, is_known, query_accepted}
use Rattle.calls.specs.Calls.{AddSays, QueryEffect, entry_for, to_search, is_hit, query_outcome}
use Rattle.calls.specs.Statements.{AllSound}
use Rattle.calls.proofs.BlockUse as leaf
use Rattle.calls.proofs.ReadingLaws.{cleaned_sound}
use Rattle.calls.proofs.FactLaws.{query_facts}

-- Two effects with the same parts are the same.
updated_eq : {A : Type 0} {r r' : A} {a a' b b' : List ℕ} → r ≡ r' → a ≡ a' → b ≡ b' → effect r a b ≡ effect r' a' b'
updated_eq z x y = λ i. record { answer = z i; catalog = x i; cache = y i }

queried_eq : {r r' : Queried} {a a' b b' : List ℕ} → r ≡ r' → a ≡ a' → b ≡ b' → queried r a b ≡ queried r' a' b'
queried_eq z x y = λ i. record { answer = z i; cache = x i; hits = y i }

-- Add

module _ (catalog cache : List ℕ) (d : ℕ) (q : Strand) where
  pub add_does : add_verdict catalog cache d q ≡ Ok tt
      → add_outcome catalog cache d q ≡ effect (Ok (fold_of q.mates)) (put_block d (encode_molecule q) catalog) (clean_cache cache)
  unfolding add_outcome
  add_does e = by_accepted (add_verdict catalog cache d q) _ _ e

  -- x and y are what the writers left, f is what the walk over the mates counted
  pub add_done : (f : Fold) (x y : List ℕ) → add_verdict catalog cache d q ≡ Ok tt → f ≡ fold_of q.mates
      → x ≡ put_block d (encode_molecule q) catalog → y ≡ each_block cleaned cache → effect (Ok f) x y ≡ add_outcome catalog cache d q
  unfolding clean_cache
  add_done f x y e ef ex ey = updated_eq (ap (λ g. Ok g) ef) ex ey ∙ sym (add_does e)

  -- The answer is a fold exactly where the call is accepted, and then the molecule's.
  pub add_says : AddSays catalog cache d q (add_outcome catalog cache d q).answer
  unfolding add_outcome
  add_says f = (
    told (add_verdict catalog cache d q) refl,
    (λ h. ap (λ (x : Effect Added). x.answer) (add_does h.0) ∙ ap (λ g. Ok g) (sym (fold_only q.mates f h.1))),
  )
    where
      told : (v : Verdict) → add_verdict catalog cache d q ≡ v → (add_outcome catalog cache d q).answer ≡ Ok f
          → (add_verdict catalog cache d q ≡ Ok tt) × IsFold q.mates f
      told (Err r) e a =
          let z = sym (ap (λ (x : Effect Added). x.answer) (by_refused (add_verdict catalog cache d q) _ _ r e)) ∙ a in
          absurd (let y : ◌≡◌ {A = Added} (Err r) (Ok f) = z in cc)
      told (Ok u) e a =
          let z = sym (ap (λ (x : Effect Added). x.answer) (add_does e)) ∙ a in
          let same : fold_of q.mates ≡ f = cc in
          (e, rw same at (fold_is q.mates))

-- Remove

module _ (catalog cache : List ℕ) (d : ℕ) where
  remove_does : remove_verdict catalog cache d ≡ Ok tt
      → remove_outcome catalog cache d ≡ effect (Ok tt) (put_block d empty_block catalog) (each_block (forgot d) (clean_cache cache))
  unfolding remove_outcome
  remove_does e = by_accepted (remove_verdict catalog cache d) _ _ e

  pub remove_done : (x y z : List ℕ) → remove_verdict catalog cache d ≡ Ok tt → x ≡ put_block d empty_block catalog → y ≡ each_block cleaned cache
      → z ≡ each_block (forgot d) y → effect (Ok tt) x z ≡ remove_outcome catalog cache d
  unfolding clean_cache
  remove_done x y z e ex ey ez = updated_eq refl ex (ez ∙ ap (each_block (forgot d)) ey) ∙ sym (remove_does e)

-- Query

module _ (embeds : Strand → Strand → Bool) (catalog cache : List ℕ) (p : Strand) (work : ℕ) (hits : List ℕ) where
  pub query_does : query_verdict catalog cache p work (length hits) ≡ Ok tt
      → query_outcome embeds catalog cache p work hits
      ≡ query_accepted embeds catalog (clean_cache cache) (block_of (slot_of (block_count cache) p) (clean_cache cache)) (slot_of (block_count cache) p) p hits
  unfolding query_outcome
  query_does e = by_accepted (query_verdict catalog cache p work (length hits)) _ _ e

  -- the slice of the hits has as many entries as before
  pub query_hits_size : query_verdict catalog cache p work (length hits) ≡ Ok tt → length (query_outcome embeds catalog cache p work hits).hits ≡ length hits
  unfolding query_accepted
  query_hits_size e =
      let list : List ℕ = select (block_count catalog) (is_hit embeds catalog (entry_for cache p) p) in
      ap (λ (x : QueryEffect). length x.hits) (query_does e)
      ∙ length-append list (drop (length list) hits)
      ∙ ap (λ (n : ℕ). length list + n) (length-drop (length list) hits)
      ∙ filled (length list) (block_count catalog) (length hits) (select_short _ (block_count catalog)) (query_facts catalog cache p work (length hits) e).3
    where
      filled : (c b n : ℕ) → c ≤ b → b ≤ n → c + (n - c) ≡ n
      filled c b n h k = omega arith

  -- y is the cache cleaned
  pub query_done : (r : Queried) (x h y : List ℕ) → query_verdict catalog cache p work (length hits) ≡ Ok tt → y ≡ each_block cleaned cache
      → queried r x h ≡ query_accepted embeds catalog y (block_of (slot_of (block_count y) p) y) (slot_of (block_count y) p) p hits
      → queried r x h ≡ query_outcome embeds catalog cache p work hits
  unfolding clean_cache
  query_done r x h y e ey er =
      let len : length y ≡ length cache = ap length ey ∙ length_each cleaned length_cleaned cache in
      er
      ∙ ap₂ (λ (w : List ℕ) (k : ℕ). query_accepted embeds catalog w (block_of k w) k p hits) ey (ap (λ (k : ℕ). slot_of (k / block_size) p) len)
      ∙ sym (query_does e)

-- What an accepted query answers and leaves: c and k count its hits and the numbers that it searched, x is the cache and y the slice of the hits.
module _ (embeds : Strand → Strand → Bool) (catalog cache entry : List ℕ) (s : ℕ) (p : Strand) (hits : List ℕ) where
  pub query_answers : (c k : ℕ) (x y : List ℕ) → c ≡ length (select (block_count catalog) (is_hit embeds catalog entry p))
      → k ≡ length (select (block_count catalog) (to_search catalog entry p))
      → x ≡ put_block s (encode_entry p (held catalog) (is_hit embeds catalog entry p)) cache
      → y ≡ select (block_count catalog) (is_hit embeds catalog entry p) ++ drop c hits
      → queried (Ok (hits_of c k)) x y ≡ query_accepted embeds catalog cache entry s p hits
  unfolding query_accepted
  query_answers c k x y ec ek ex ey =
      queried_eq (ap₂ (λ n m. Ok (hits_of n m)) ec ek) ex (ey ∙ ap (λ (n : ℕ). select (block_count catalog) (is_hit embeds catalog entry p) ++ drop n hits) ec)

-- Every entry of a clean cache is sound.
pub clean_sound : (cache y : List ℕ) → y ≡ each_block cleaned cache → AllSound y
clean_sound cache y e s l =
    let len : length y ≡ length cache = ap length e ∙ length_each cleaned length_cleaned cache in
    ap (λ (w : List ℕ). sound_entry (block_of s w)) e
    ∙ ap sound_entry (block_each cleaned length_cleaned s cache (omega arith))
    ∙ cleaned_sound (block_of s cache) (length_block s cache (omega arith))

-- What an entry knows, and what an empty slot does.
pub entry_known : (m : Strand) → motif_verdict m ≡ Ok tt → (searched hits : ℕ → Bool) (p : Strand) (d : ℕ) → d < most_catalog_blocks
    → is_known (encode_entry m searched hits) p d ≡ (same_strand m p && searched d)
unfolding is_known
entry_known m ok searched hits p d l = rw (leaf.entry_keeps_lem m ok searched hits p, leaf.entry_searched m ok searched hits d l)

pub empty_known : (p : Strand) (d : ℕ) → is_known empty_block p d ≡ false
unfolding is_known
empty_known p d = rw (leaf.empty_keeps p)

-- The numbers that a query has to search, and its hits: those that the entry knows as hits, and those searched in which the motif embeds.
module _ (catalog entry : List ℕ) (p : Strand) (d : ℕ) where
  pub search_is : to_search catalog entry p d ≡ (held catalog d && not (keeps_motif entry p && searched_in entry d))
  unfolding to_search is_known
  search_is = refl

  pub hit_is : (embeds : Strand → Strand → Bool) → is_hit embeds catalog entry p d
      ≡ ((held catalog d && (keeps_motif entry p && (searched_in entry d && hit_in entry d)))
      || (to_search catalog entry p d && embeds p (molecule_at catalog d)))
  unfolding to_search is_hit is_known
  hit_is embeds = go (held catalog d) (keeps_motif entry p) (searched_in entry d) (hit_in entry d) (embeds p (molecule_at catalog d))
    where
      go : (h k s t e : Bool) → (h && choose (k && s) t e) ≡ ((h && (k && (s && t))) || ((h && not (k && s)) && e))
      go false k s t e = refl
      go true false s t e = choose_no false t e refl
      go true true false t e = choose_no false t e refl
      go true true true t e = choose_yes true t e refl ∙ sym (or-false t)
