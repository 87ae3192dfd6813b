-- From the maps of a query to its answer and to what it leaves.
use Rattle.std.specs.Prelude.{Ok}
use mathlib.Core.Path.{◌≡◌, sym, ap, ap₂, ◌∙◌}
use mathlib.Core.Bool.{Bool, true, false, not, ◌&&◌, ◌||◌}
use mathlib.Core.List.{List, [], ◌++◌}
use Prim.Native.Nat.{ℕ, ◌<◌, ◌≤◌}
use native.Mathlib.Omega.{arith}
use native.Mathlib.Decide.{dec_lt}
use lib.ListN.{length, drop}
use Rattle.lists.specs.Vocabulary.{select}
use Rattle.lists.proofs.ListLaws.{and_left, never}
use Rattle.lists.proofs.Ranges.{select_ext}
use Rattle.strand.specs.Strands.{Strand, strand_of}
use Rattle.octets.specs.Octets.{map_bit, map_bytes}
use Rattle.octets.proofs.BitLaws.{test_out}
use Rattle.octets.proofs.MapLaws.{map_bit_lem, map_ext, length_map}
use Rattle.block.specs.Block.{block_of, block_count, put_block}
use Rattle.block.specs.Content.{entry_with, keeps_motif, searched_in}
use Rattle.block.proofs.ContentLaws.{entry_of_maps}
use Rattle.embedding.specs.Longest.{embeds}
use Rattle.calls.specs.Answers.{hits_of}
use Rattle.calls.specs.Buffers.{held, molecule_at}
use Rattle.calls.specs.Calls.{to_search, is_hit, queried, query_accepted}
use Rattle.calls.specs.Calls.{slot_in}
use Rattle.calls.proofs.CallLaws.{search_is, hit_is, query_answers}
use Rattle.search.specs.Search.{AllHeld, known_hit, answered}

-- The bits of a map, as far as there are blocks.
selected : (p : ℕ → Bool) (n : ℕ) (w : List ℕ) → n ≤ 512 → w ≡ map_bytes p → select n (map_bit w 0) ≡ select n p
selected p n w small e = select_ext n (map_bit w 0) p (λ d l. ap (λ (m : List ℕ). map_bit m 0 d) e ∙ map_bit_lem p d (omega arith))

module _ (cat entry : List ℕ) (q : Strand) (todo : List ℕ) (et : todo ≡ map_bytes (to_search cat entry q)) where
  pub todo_held : AllHeld cat todo
  todo_held d h = elim (dec_lt d 512) [ yes l ↦ inside l | no l ↦ never (sym (outside l) ∙ h) ]
    where
      inside : d < 512 → held cat d ≡ true
      inside l =
          and_left (held cat d) (not (keeps_motif entry q && searched_in entry d))
          (sym (search_is cat entry q d) ∙ sym (map_bit_lem (to_search cat entry q) d l) ∙ ap (λ (m : List ℕ). map_bit m 0 d) (sym et) ∙ h)

      outside : (d < 512 → ⊥) → map_bit todo 0 d ≡ false
      outside l = ap (λ (m : List ℕ). map_bit m 0 d) et ∙ test_out (map_bytes (to_search cat entry q)) 0 d (omega (arith, length_map (to_search cat entry q)))

  -- As many were searched as the map has.
  pub searched_is : (k : ℕ) → block_count cat ≤ 512 → k ≡ length (select (block_count cat) (map_bit todo 0))
      → k ≡ length (select (block_count cat) (to_search cat entry q))
  searched_is k small e = e ∙ ap length (selected (to_search cat entry q) (block_count cat) todo small et)

  -- The hits known before, and those searched.
  pub found_is : (known found : List ℕ) → known ≡ map_bytes (known_hit cat entry q)
      → found ≡ map_bytes (λ d. map_bit known 0 d || (map_bit todo 0 d && embeds q (molecule_at cat d))) → found ≡ map_bytes (is_hit embeds cat entry q)
  unfolding known_hit
  found_is known found ek ef =
      ef
      ∙ map_ext _ _ (λ d l.
      ap₂ (λ (a b : Bool). a || (b && embeds q (molecule_at cat d)))
      (ap (λ (m : List ℕ). map_bit m 0 d) ek ∙ map_bit_lem (known_hit cat entry q) d l)
      (ap (λ (m : List ℕ). map_bit m 0 d) et ∙ map_bit_lem (to_search cat entry q) d l)
      ∙ sym (hit_is cat entry q d embeds))

-- From the maps that the search of the entry of slot s leaves: the held numbers, and the hits.
module _ (cat cache entry : List ℕ) (s : ℕ) (p pm hits : List ℕ) (small : block_count cat ≤ 512) (es : s ≡ slot_in cache (strand_of p pm))
    (ee : entry ≡ block_of s cache) (taken found : List ℕ) (eh : taken ≡ map_bytes (held cat))
    (ef : found ≡ map_bytes (is_hit embeds cat entry (strand_of p pm))) where
  -- k were searched; c hits stand at the start of y; x is the cache with the new entry
  pub answer_is : (c k : ℕ) (x y : List ℕ) → k ≡ length (select (block_count cat) (to_search cat entry (strand_of p pm)))
      → (c ≡ length (select (block_count cat) (map_bit found 0))) × (y ≡ select (block_count cat) (map_bit found 0) ++ drop c hits)
      → x ≡ put_block s (entry_with [] p pm taken found) cache → queried (Ok (hits_of c k)) x y ≡ answered cat cache (strand_of p pm) hits
  answer_is c k x y ek listed ex =
      let q : Strand = strand_of p pm in
      let hit : select (block_count cat) (map_bit found 0) ≡ select (block_count cat) (is_hit embeds cat entry q)
      = selected (is_hit embeds cat entry q) (block_count cat) found small ef in
      query_answers embeds cat cache entry s q hits c k x y
      (listed.0 ∙ ap length hit)
      ek
      (ex
      ∙ ap (λ (b : List ℕ). put_block s b cache) (ap₂ (entry_with [] p pm) eh ef ∙ entry_of_maps p pm (held cat) (is_hit embeds cat entry q)))
      (listed.1 ∙ ap (λ (l : List ℕ). l ++ drop c hits) hit)
      ∙ ap₂ (λ (e : List ℕ) (k : ℕ). query_accepted embeds cat cache e k q hits) (ee ∙ ap (λ (k : ℕ). block_of k cache) es) es
