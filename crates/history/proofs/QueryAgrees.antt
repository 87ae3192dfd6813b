-- Query: the bytes and the model come to the same, and the bytes go on following.
use Rattle.std.specs.Prelude.{Ok}
use Prim.Native.Nat.{ℕ, ◌<◌, ◌≤◌}
use native.Mathlib.Omega.{arith}
use native.Mathlib.Nat.{mod-lt}
use native.Mathlib.Decide.{dec_lt}
use mathlib.Core.Path.{◌≡◌, refl, sym, ap, ap₂, fun_ext, ◌∙◌}
use mathlib.Core.Logic.{⊎_elim}
use mathlib.Core.Bool.{Bool, true, false, ◌&&◌}
use mathlib.Core.List.{List}
use mathlib.Core.Option.{none as vacant, some as holds}
use lib.ListN.{length}
use Rattle.lists.specs.Vocabulary.{select, put_at}
use Rattle.lists.proofs.ListLaws.{by_bool}
use Rattle.lists.proofs.Ranges.{select_ext}
use Rattle.strand.specs.Strands.{Strand, key}
use Rattle.block.specs.Block.{block_of, block_count}
use Rattle.block.specs.Content.{encode_entry}
use Rattle.calls.specs.Buffers.{most_catalog_blocks, in_range, motif_verdict, Holding, is_held, held, molecule_at, slot_of, clean_cache}
use Rattle.calls.specs.Calls.{entry_for, is_known, to_search, is_hit, query_verdict, query_outcome, found, query_result}
use Rattle.calls.specs.Statements.{QueryLeaves}
use Rattle.calls.proofs.HoldingLaws.{put_all}
use Rattle.calls.proofs.ReadingLaws.{count_is, clean_length, clean_block}
use Rattle.calls.proofs.Claims.{hit_known, hit_unknown, query_accepted_lem, query_found}
use Rattle.calls.proofs.Stores.{count}
use Rattle.history.specs.Model.{query, ends_period, keeps, State, held_in, known_in, model_verdict, embeds_at, hit_list, searches, search_list, asked}
use Rattle.history.specs.Model.{model_answer, model_next, slot_block}
use Rattle.history.specs.History.{Buffers, buffers_of}
use Rattle.history.proofs.Bytes.{bytes_verdict, bytes_result, bytes_next}
use Rattle.history.proofs.StateLaws.{query_passed, range_passed, most_blocks, some_slot, asked_ok}
use Rattle.history.proofs.Slots.{slot_known, slot_hit}
use Rattle.history.proofs.Follows.{Few, Follows, fresh, CallAgrees, by_verdict_lem}

module _ (embeds : Strand → Strand → Bool) (B S : ℕ) (β : Buffers) (σ : State) (times : ℕ → ℕ) (f : Follows embeds B S β σ times)
    (few : Few S times) (range : in_range B S ≡ true) (p : Strand) where
  -- the entry that the query reads is the block of the motif's slot
  slot_below : slot_of S p < S
  unfolding slot_of
  slot_below = mod-lt (key p) (some_slot B S range)

  clean_is : (s : ℕ) → s < S → block_of s (clean_cache β.cache) ≡ slot_block embeds B S σ.molecules (σ.slots s)
  clean_is s l = clean_block β.cache S f.sized s l ∙ f.once s l (few s l)

  abbrev entry : List ℕ
  entry = slot_block embeds B S σ.molecules (σ.slots (slot_of S p))

  held_is : (d : ℕ) → held β.catalog d ≡ held_in σ d
  unfolding held_in
  held_is = f.stored.held_is

  -- held numbers are below B
  below : (d : ℕ) → is_held (σ.molecules d) ≡ true → d < most_catalog_blocks
  unfolding is_held
  below d h =
      let b : B ≤ most_catalog_blocks = most_blocks B S range in
      elim (dec_lt d B) [
        | yes l ↦ omega arith
        | no l ↦ let z : true ≡ false = sym h ∙ ap is_held (f.ok.above d (omega arith)) in
            let x : ◌≡◌ {A = ℕ} 0 1 = cc in
            omega arith
      ]

  known_is : (d : ℕ) → d < most_catalog_blocks → is_known entry p d ≡ known_in (σ.slots (slot_of S p)) p d
  known_is d l = slot_known embeds B S σ.molecules p d l (σ.slots (slot_of S p)) (f.ok.slot_ok (slot_of S p))

  embeds_is : (x : Holding) (d : ℕ) → σ.molecules d ≡ x → (is_held x && embeds p (molecule_at β.catalog d)) ≡ embeds_at embeds B S p x
  unfolding embeds_at is_held
  embeds_is vacant d e = refl
  embeds_is (holds r) d e = rw (f.stored.molecule_is d r e)

  only_held : (x : Holding) → (is_held x && embeds_at embeds B S p x) ≡ embeds_at embeds B S p x
  unfolding is_held embeds_at
  only_held vacant = refl
  only_held (holds r) = refl

  -- the hits are the numbers into which the motif embeds
  hit_below : (d : ℕ) → d < most_catalog_blocks → is_hit embeds β.catalog entry p d ≡ embeds_at embeds B S p (σ.molecules d)
  hit_below d l =
      ⊎_elim
      (λ (e : known_in (σ.slots (slot_of S p)) p d ≡ true).
      hit_known embeds β.catalog entry p d (known_is d l ∙ e)
      ∙ ap₂ ◌&&◌ (f.stored.held_is d) (slot_hit embeds B S σ.molecules p d l (σ.slots (slot_of S p)) (f.ok.slot_ok (slot_of S p)) e)
      ∙ only_held (σ.molecules d))
      (λ (e : known_in (σ.slots (slot_of S p)) p d ≡ false).
      hit_unknown embeds β.catalog entry p d (known_is d l ∙ e)
      ∙ ap (λ (t : Bool). t && embeds p (molecule_at β.catalog d)) (f.stored.held_is d)
      ∙ embeds_is (σ.molecules d) d refl)
      (by_bool (known_in (σ.slots (slot_of S p)) p d))

  hit_is : (d : ℕ) → is_hit embeds β.catalog entry p d ≡ (held_in σ d && embeds_at embeds B S p (σ.molecules d))
  unfolding held_in
  hit_is d =
      ⊎_elim
      (λ (e : is_held (σ.molecules d) ≡ true). hit_below d (below d e) ∙ sym (only_held (σ.molecules d)))
      (λ (e : is_held (σ.molecules d) ≡ false). unfold is_hit in (rw (f.stored.held_is d, e)))
      (by_bool (is_held (σ.molecules d)))

  search_is : (d : ℕ) → d < B → to_search β.catalog entry p d ≡ searches embeds B S σ p d
  unfolding to_search searches
  search_is d l = let b : B ≤ most_catalog_blocks = most_blocks B S range in rw (held_is d, known_is d (omega arith))

  read : block_of (slot_of S p) (clean_cache β.cache) ≡ entry
  read = clean_is (slot_of S p) slot_below

  cache_count : block_count β.cache ≡ S
  cache_count = count_is β.cache S f.sized

  -- a query has to search what the model searches
  pub search_at : (d : ℕ) → d < B → to_search β.catalog (entry_for β.cache p) p d ≡ searches embeds B S σ p d
  search_at d l = rw (cache_count, read) (search_is d l)

  hits_agree : select (block_count β.catalog) (is_hit embeds β.catalog (entry_for β.cache p) p) ≡ hit_list embeds B S σ p
  unfolding hit_list
  hits_agree =
      rw (count f.stored, cache_count, read) (select_ext B _ _ (λ d l. hit_is d ∙ (unfold held_in in (only_held (σ.molecules d)))))

  search_agrees : select (block_count β.catalog) (to_search β.catalog (entry_for β.cache p) p) ≡ search_list embeds B S σ p
  unfolding search_list
  search_agrees = rw (count f.stored) (select_ext B _ _ search_at)

  -- the slot as it is written anew
  new_entry : encode_entry p (held β.catalog) (is_hit embeds β.catalog entry p) ≡ slot_block embeds B S σ.molecules (keeps p (held_in σ))
  unfolding slot_block
  new_entry = ap₂ (encode_entry p) (fun_ext held_is) (fun_ext hit_is)

  -- One accepted query of this motif, whatever its work slice and its hit slice
  module _ (work : ℕ) (hits : List ℕ) (a : query_verdict β.catalog β.cache p work (length hits) ≡ Ok tt) where
    pub query_same : query_result (query_outcome embeds β.catalog β.cache p work hits).answer
        (query_outcome embeds β.catalog β.cache p work hits).hits
        ≡ found (length (hit_list embeds B S σ p)) (hit_list embeds B S σ p) (length (search_list embeds B S σ p))
    query_same =
        query_found embeds β.catalog β.cache p work hits a
        ∙ ap₂ (λ (l k : List ℕ). found (length l) l (length k)) hits_agree search_agrees

    new : QueryLeaves β.catalog β.cache (slot_of S p) p hits (is_hit embeds β.catalog entry p) (to_search β.catalog entry p)
        (query_outcome embeds β.catalog β.cache p work hits)
    new = rw (cache_count, read) at (query_accepted_lem embeds β.catalog β.cache p work hits a)

    slots_are : (s : ℕ) → s < S
        → block_of s (query_outcome embeds β.catalog β.cache p work hits).cache
        ≡ slot_block embeds B S σ.molecules (put_at σ.slots (slot_of S p) (keeps p (held_in σ)) s)
    slots_are =
        put_all σ.slots (slot_of S p) (keeps p (held_in σ))
        (λ s x. s < S → block_of s (query_outcome embeds β.catalog β.cache p work hits).cache ≡ slot_block embeds B S σ.molecules x)
        (λ l. new.entry ∙ new_entry)
        (λ s ne l.
        new.only.others s (omega (arith, count_is (clean_cache β.cache) S (clean_length β.cache S f.sized))) ne
        ∙ clean_is s l)

    pub query_follows : motif_verdict p ≡ Ok tt
        → Follows embeds B S (buffers_of β.catalog (query_outcome embeds β.catalog β.cache p work hits).cache)
        (asked embeds B S σ p) (λ s. 0)
    unfolding asked
    query_follows fit =
        fresh embeds B S _ _ (unfold asked in (asked_ok embeds B S σ f.ok p fit)) f.stored
        (new.only.size ∙ clean_length β.cache S f.sized) slots_are

module _ (embeds : Strand → Strand → Bool) (B S : ℕ) (p : Strand) (work : ℕ) (hits : List ℕ) where
  module _ (β : Buffers) (σ : State) (times : ℕ → ℕ) (f : Follows embeds B S β σ times) where
    accepted : model_verdict embeds B S σ (query p work hits) ≡ Ok tt → bytes_verdict β (query p work hits) ≡ Ok tt → Few S times
        → (bytes_result embeds β (query p work hits) ≡ model_answer embeds B S σ (query p work hits))
        × Follows embeds B S (bytes_next embeds β (query p work hits)) (model_next embeds B S σ (query p work hits)) (λ s. 0)
    unfolding bytes_verdict bytes_result bytes_next model_answer model_next
    accepted e a few =
        let range = range_passed embeds B S σ (query p work hits) e in (
          query_same embeds B S β σ times f few range p work hits a,
          query_follows embeds B S β σ times f few range p work hits a (query_passed embeds B S σ p work hits e),
        )

  ends : (σ : State) → ends_period (model_answer embeds B S σ (query p work hits)) ≡ true
  unfolding ends_period model_answer
  ends σ = refl

  pub query_agrees : CallAgrees embeds B S (query p work hits)
  query_agrees β σ times f few = by_verdict_lem embeds B S β σ times (query p work hits) (ends σ) (accepted β σ times f) f few
