-- Add, remove and query: what each answers and leaves in every buffer, for all inputs and all contents of the buffers, and what histories compare of a call.
-- These are the definitions that the contracts of the calls cite; Batch has those of batch.
use Rattle.std.specs.Prelude.{ℕ, ◌≤◌, ◌<◌, ◌≡◌, ◌↔◌, List, [], ◌∷◌, ◌++◌, Bool, true, false, not, ◌&&◌, length, drop, take, leb, ltb, Ok, Err}
use Rattle.lists.specs.Vocabulary.{choose, select}
use Rattle.strand.specs.declared.Fold.{Fold}
use Rattle.strand.specs.Folds.{fold_of, IsFold}
use Rattle.strand.specs.Strands.{Strand, Proper, least_motif, least_molecule}
use Rattle.refusals.specs.Rules.{motif_side, molecule_side, no_side, wrong_slice, number_too_large, already_held, not_held, Verdict}
use Rattle.refusals.specs.Rules.{first, refuse_if, by_verdict, work_size}
use Rattle.block.specs.Block.{block_of, forgot, block_count, each_block, put_block}
use Rattle.block.specs.Content.{empty_block, encode_molecule, encode_entry, keeps_motif, searched_in, hit_in}
use Rattle.calls.specs.Answers.{Added, Removed, Queried, hits_of}
use Rattle.calls.specs.Buffers.{most_molecule_bases, most_motif_bases, molecule_verdict, motif_verdict, work_verdict, held, molecule_at, buffers_verdict}
use Rattle.calls.specs.Buffers.{slot_of, clean_cache, Usable}
use Rattle.refusals.specs.declared.Rule.{Rule}
use Rattle.refusals.specs.declared.Side.{Side}
use Rattle.refusals.specs.declared.Refusal.{Refusal}

-- The effect of add or remove: the answer and both buffers afterwards.
pub record Effect (A : Type 0) : Type 0 where
  pub answer : A
  pub catalog : List ℕ
  pub cache : List ℕ

abbrev pub effect : {A : Type 0} → A → List ℕ → List ℕ → Effect A
effect answer catalog cache = record { answer = answer; catalog = catalog; cache = cache }

-- 01, Refused inputs: "Add: 10, 11, 12, 13, then 1 to 7. Remove: 10, 11, 12, 14. Query: 10, 11, motif, 9, 8." The order is the same for the calls and for the
-- reference model: `buffers` is what 10 and 11 say, B the number of catalog blocks, `taken` the numbers held; `work` and `room` are the lengths of the work
-- and the hit slice.
abbrev pub add_rules : Verdict → ℕ → (ℕ → Bool) → ℕ → Strand → Verdict
add_rules buffers B taken d q =
    first (buffers ∷ refuse_if number_too_large no_side (leb B d) ∷ refuse_if already_held no_side (taken d) ∷ molecule_verdict q ∷ [])

abbrev pub remove_rules : Verdict → ℕ → (ℕ → Bool) → ℕ → Verdict
remove_rules buffers B taken d = first (buffers ∷ refuse_if number_too_large no_side (leb B d) ∷ refuse_if not_held no_side (not (taken d)) ∷ [])

abbrev pub query_rules : Verdict → ℕ → Strand → ℕ → ℕ → Verdict
query_rules buffers B p work room = first (buffers ∷ motif_verdict p ∷ refuse_if wrong_slice no_side (ltb room B) ∷ work_verdict p work ∷ [])

-- Add (number d, molecule).
unfoldable pub add_verdict : List ℕ → List ℕ → ℕ → Strand → Verdict
add_verdict catalog cache d q = add_rules (buffers_verdict catalog cache) (block_count catalog) (held catalog) d q

-- It writes block d. 02, (i): "Add hands both on in its own answer", the number of arcs and the depth. A refusal leaves both buffers as they are.
unfoldable pub add_outcome : List ℕ → List ℕ → ℕ → Strand → Effect Added
add_outcome catalog cache d q =
    by_verdict (add_verdict catalog cache d q) (λ r. effect (Err r) catalog cache)
    (effect (Ok (fold_of q.mates)) (put_block d (encode_molecule q) catalog) (clean_cache cache))

-- Its answer r is Ok f exactly when the call is accepted and f is the fold of the molecule.
abbrev pub AddSays : List ℕ → List ℕ → ℕ → Strand → Added → Type 0
AddSays catalog cache d q r = (f : Fold) → (r ≡ Ok f) ↔ ((add_verdict catalog cache d q ≡ Ok tt) × IsFold q.mates f)

-- Remove (d).
unfoldable pub remove_verdict : List ℕ → List ℕ → ℕ → Verdict
remove_verdict catalog cache d = remove_rules (buffers_verdict catalog cache) (block_count catalog) (held catalog) d

-- It zeroes block d, and clears bit d in both maps of every cache entry. A refusal leaves both buffers as they are.
unfoldable pub remove_outcome : List ℕ → List ℕ → ℕ → Effect Removed
remove_outcome catalog cache d =
    by_verdict (remove_verdict catalog cache d) (λ r. effect (Err r) catalog cache)
    (effect (Ok tt) (put_block d empty_block catalog) (each_block (forgot d) (clean_cache cache)))

-- Both are accepted exactly where no rule applies.
abbrev pub AddAccepts : List ℕ → List ℕ → ℕ → Strand → Type 0
AddAccepts catalog cache d q =
    (add_verdict catalog cache d q ≡ Ok tt)
    ↔ (Usable catalog cache × (d < block_count catalog) × (held catalog d ≡ false) × Proper molecule_side least_molecule most_molecule_bases q.bases q.mates)

abbrev pub RemoveAccepts : List ℕ → List ℕ → ℕ → Type 0
RemoveAccepts catalog cache d =
    (remove_verdict catalog cache d ≡ Ok tt) ↔ (Usable catalog cache × (d < block_count catalog) × (held catalog d ≡ true))

-- The effect of query: the answer, the cache and the slice of the hits afterwards. The catalog is only read.
pub record QueryEffect : Type 0 where
  pub answer : Queried
  pub cache : List ℕ
  pub hits : List ℕ

abbrev pub queried : Queried → List ℕ → List ℕ → QueryEffect
queried answer cache hits = record { answer = answer; cache = cache; hits = hits }

-- Query (motif).
unfoldable pub query_verdict : List ℕ → List ℕ → Strand → ℕ → ℕ → Verdict
query_verdict catalog cache p work room = query_rules (buffers_verdict catalog cache) (block_count catalog) p work room

-- It is accepted exactly where no rule applies.
abbrev pub QueryAccepts : List ℕ → List ℕ → Strand → ℕ → ℕ → Type 0
QueryAccepts catalog cache p work room =
    (query_verdict catalog cache p work room ≡ Ok tt)
    ↔ (Usable catalog cache × Proper motif_side least_motif most_motif_bases p.bases p.mates × (block_count catalog ≤ room)
    × (work_size (length p.bases) most_molecule_bases ≤ work))

-- The slot of a motif, and the entry that a query reads there.
abbrev pub slot_in : List ℕ → Strand → ℕ
slot_in cache p = slot_of (block_count cache) p

abbrev pub entry_for : List ℕ → Strand → List ℕ
entry_for cache p = block_of (slot_in cache p) (clean_cache cache)

-- The slot's entry keeps this very motif (same bases, same mates) with searched bit d.
unfoldable pub is_known : List ℕ → Strand → ℕ → Bool
is_known entry p d = keeps_motif entry p && searched_in entry d

-- The query has to search molecule d.
unfoldable pub to_search : List ℕ → List ℕ → Strand → ℕ → Bool
to_search catalog entry p d = held catalog d && not (is_known entry p d)

module _ (embeds : Strand → Strand → Bool) where
  -- Molecule d is a hit when held and, if it is known, its hit bit is set; otherwise if the motif embeds.
  unfoldable pub is_hit : List ℕ → List ℕ → Strand → ℕ → Bool
  is_hit catalog entry p d = held catalog d && choose (is_known entry p d) (hit_in entry d) (embeds p (molecule_at catalog d))

  -- The count of hits and how many molecules had to be searched; the hits, rising, at the start of the slice, whose later entries stay;
  -- the slot written anew with the motif, searched bits for all held numbers and no other, and the hit bits.
  unfoldable pub query_accepted : List ℕ → List ℕ → List ℕ → ℕ → Strand → List ℕ → QueryEffect
  query_accepted catalog cache entry slot p hits =
      let list : List ℕ = select (block_count catalog) (is_hit catalog entry p) in
      queried
      (Ok (hits_of (length list) (length (select (block_count catalog) (to_search catalog entry p)))))
      (put_block slot (encode_entry p (held catalog) (is_hit catalog entry p)) cache)
      (list ++ drop (length list) hits)

  -- The query reads the entry of the motif's slot in the clean cache. A refusal leaves the cache and the hits as they are.
  unfoldable pub query_outcome : List ℕ → List ℕ → Strand → ℕ → List ℕ → QueryEffect
  query_outcome catalog cache p work hits =
      by_verdict (query_verdict catalog cache p work (length hits))
      (λ r. queried (Err r) cache hits)
      (query_accepted catalog (clean_cache cache) (entry_for cache p) (slot_in cache p) p hits)

-- ---- what histories compare

-- What histories compare of each query of an accepted batch: the count, the hit list at the start of its entries, the searched number.
pub record Found : Type 0 where
  pub count : ℕ
  pub hits : List ℕ
  pub searched : ℕ

-- What histories compare of an answer.
pub data Result : Type 0 where
  -- rule, side and place of a refusal
  refused : Rule → Side → ℕ → Result
  -- an accepted add, whose fold is not compared, or remove
  done : Result
  -- an accepted query: the count, the hit list, the searched number
  found : ℕ → List ℕ → ℕ → Result
  -- an accepted batch: that of each motif, in their order, and the number of molecules read
  found_all : List Found → ℕ → Result

-- The result of a refusal, of an add, of a remove, and of a query.
unfoldable pub refused_by : Refusal → Result
refused_by r = refused r.rule r.side r.place

unfoldable pub add_result : Added → Result
add_result (Ok f) = done
add_result (Err r) = refused_by r

unfoldable pub remove_result : Removed → Result
remove_result (Ok u) = done
remove_result (Err r) = refused_by r

-- `hits` is the slice of the hits afterwards.
unfoldable pub query_result : Queried → List ℕ → Result
query_result (Ok h) hits = found h.count (take h.count hits) h.searched
query_result (Err r) hits = refused_by r
