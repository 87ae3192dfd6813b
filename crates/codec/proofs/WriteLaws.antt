-- What the code of entries leaves, put together: a motif compared, an entry written.
use mathlib.Core.Path.{◌≡◌, sym, ap, ap₂, ◌∙◌}
use mathlib.Core.Bool.{true, false}
use mathlib.Core.List.{List, [], ◌++◌}
use Prim.Native.Nat.{ℕ, ◌+◌, ◌-◌, ◌≤◌}
use native.Mathlib.Omega.{arith}
use lib.ListN.{length, take, drop, length-append, length-drop}
use lib.Seq.{take_all}
use borrow.Rule.Slice.PartMut.{put_mid}
use Rattle.lists.specs.Vocabulary.{between, all, same_list}
use Rattle.strand.specs.Strands.{strand_of, same_strand}
use Rattle.octets.specs.Octets.{is_zero, words}
use Rattle.block.specs.Content.{rechecked, entry_kind, is_empty, length_in, strand_in, motif_in, keeps_motif, content_of, entry_with}
use Rattle.block.proofs.PartLaws.{length_content, check_put}
use Rattle.lists.proofs.ListLaws.{length_tab, same_length}
use Rattle.codec.proofs.CodeLaws.{put_next}

-- ---- the motif of an entry

module _ (s bases mates : List ℕ) where
  pub other_bases : same_list (between 20 (20 + length_in s) s) bases ≡ false → false ≡ same_strand (motif_in s) (strand_of bases mates)
  unfolding same_strand motif_in strand_in
  other_bases e = rw e

  module _ (same : same_list (between 20 (20 + length_in s) s) bases ≡ true) where
    pub other_count : (length mates ≡ length_in s → ⊥) → false ≡ same_strand (motif_in s) (strand_of bases mates)
    unfolding same_strand motif_in strand_in
    other_count n = rw (same, same_length (words (length_in s) (drop 140 s)) mates (λ q. n (sym q ∙ length_tab _ (length_in s))))

    pub same_bases : length s ≡ 512 → length mates ≡ length_in s
        → same_list (words (length mates) (take (length s - 140) (drop 140 s))) mates ≡ same_strand (motif_in s) (strand_of bases mates)
    unfolding same_strand motif_in strand_in
    same_bases l n = rw (same, ← n, take_all (length s - 140) (drop 140 s) (simp length-drop (omega arith)))

  pub empty_keeps_none : all is_zero s ≡ true → false ≡ keeps_motif s (strand_of bases mates)
  unfolding keeps_motif is_empty
  empty_keeps_none e = rw e

  pub full_keeps : all is_zero s ≡ false → same_strand (motif_in s) (strand_of bases mates) ≡ keeps_motif s (strand_of bases mates)
  unfolding keeps_motif is_empty
  full_keeps e = rw e

-- ---- a cache entry: content, then the two maps, then the checksum

entry_parts : (bases mates m₁ m₂ t x y r : List ℕ) → length bases ≤ 120 → length mates ≡ length bases → length m₁ ≡ 64 → length m₂ ≡ 64 → length t ≡ 132
    → x ≡ put_mid 380 64 (content_of entry_kind [] bases mates ++ t) m₁ → y ≡ put_mid 444 64 x m₂
    → r ≡ rechecked y → r ≡ entry_with [] bases mates m₁ m₂
unfolding entry_with
entry_parts bases mates m₁ m₂ t x y r hb hm h₁ h₂ ht ex ey er =
    let lc : length (content_of entry_kind [] bases mates) ≡ 380 = length_content entry_kind [] bases mates (omega arith) hb hm in
    let x' : x ≡ content_of entry_kind [] bases mates ++ m₁ ++ drop 64 t = ex ∙ put_next 380 444 (content_of entry_kind [] bases mates) t lc m₁ in
    let l₁ : length (content_of entry_kind [] bases mates ++ m₁) ≡ 444 = length-append (content_of entry_kind [] bases mates) m₁
      ∙ ap₂ (λ (a b : ℕ). a + b) lc h₁ in
    let y' : y ≡ content_of entry_kind [] bases mates ++ m₁ ++ m₂ ++ drop 64 (drop 64 t)
    = ey ∙ ap (λ (l : List ℕ). put_mid 444 64 l m₂) x' ∙ put_next 444 508 (content_of entry_kind [] bases mates ++ m₁) (drop 64 t) l₁ m₂ in
    let l₂ : length (content_of entry_kind [] bases mates ++ m₁ ++ m₂) ≡ 508 = length-append (content_of entry_kind [] bases mates ++ m₁) m₂
    ∙ ap₂ (λ (a b : ℕ). a + b) l₁ h₂ in
    check_put (content_of entry_kind [] bases mates ++ m₁ ++ m₂) (drop 64 (drop 64 t)) y r l₂
    (ap length y' ∙ length-append (content_of entry_kind [] bases mates ++ m₁ ++ m₂) (drop 64 (drop 64 t))
    ∙ ap₂ (λ (a b : ℕ). a + b) l₂ (length-drop 64 (drop 64 t) ∙ ap (λ (k : ℕ). k - 64) (length-drop 64 t ∙ ap (λ (k : ℕ). k - 64) ht))) y' er

pub entry_put_lem : (bases mates m₁ m₂ s c n₁ n₂ r : List ℕ) → length s ≡ 512 → length bases ≤ 120 → length mates ≡ length bases → length m₁ ≡ 64 → length m₂
  ≡ 64
    → c ≡ content_of entry_kind [] bases mates ++ drop 380 s → n₁ ≡ m₁ → n₂ ≡ m₂
    → r ≡ rechecked (put_mid 444 64 (put_mid 380 64 c n₁) n₂) → r ≡ entry_with [] bases mates m₁ m₂
entry_put_lem bases mates m₁ m₂ s c n₁ n₂ r hs hb hm h₁ h₂ ec e₁ e₂ er =
    entry_parts bases mates m₁ m₂ (drop 380 s) (put_mid 380 64 c n₁) (put_mid 444 64 (put_mid 380 64 c n₁) n₂) r hb hm h₁ h₂
    (length-drop 380 s ∙ ap (λ (k : ℕ). k - 380) hs) (ap₂ (put_mid 380 64) ec e₁) (ap (put_mid 444 64 (put_mid 380 64 c n₁)) e₂) er
