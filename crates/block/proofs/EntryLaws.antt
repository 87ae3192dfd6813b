-- The block of a motif with its two maps: it is sound, gives back what it keeps, and a number is taken out of it.
use mathlib.Core.Path.{◌≡◌, refl, sym, ap, ap₂, ◌∙◌}
use mathlib.Core.Bool.{Bool, true, not, ◌||◌}
use mathlib.Core.List.{List, ◌++◌, append_assoc}
use Prim.Native.Nat.{ℕ, ◌+◌, ◌<◌}
use native.Mathlib.Omega.{arith}
use lib.ListN.{length, length-append}
use borrow.Author.Tests.{eq-eqb}
use Rattle.lists.specs.Vocabulary.{nth, choose}
use Rattle.refusals.specs.Rules.{motif_side}
use Rattle.strand.specs.Strands.{strand_of, Proper}
use Rattle.lists.proofs.ListLaws.{every_true}
use Rattle.octets.specs.Octets.{Bytes, bytes32, map_bit, clear_map, map_bytes, without}
use Rattle.block.specs.Content.{checksum_of, checksum_ok, with_checksum, entry_kind, strand_in, content_of, entry_with}
use Rattle.block.specs.Block.{content_ok, hit_ok, hits_ok, sound_entry, forgot}
use Rattle.block.proofs.PartLaws.{length_content, check_put}
use Rattle.octets.proofs.MapLaws.{length_map, map_in, map_bit_lem, clear_in, map_clear, map_small, length_clear}
use Rattle.octets.proofs.ByteLaws.{small_append}
use Rattle.block.proofs.RoundTrip.{small_content, kind_byte, strand_back, content_sound, check_sound}
use Rattle.block.proofs.SoundLaws.{entry_rules_lem}

regroup : (a b c d : List ℕ) → a ++ b ++ c ++ d ≡ a ++ (b ++ (c ++ d))
regroup a b c d = simp append_assoc

regroup₂ : (a b c d : List ℕ) → a ++ b ++ c ++ d ≡ a ++ b ++ (c ++ d)
regroup₂ a b c d = append_assoc (a ++ b) c d

module _ (own bases mates : List ℕ) (ho : 2 + length own ≡ entry_kind.blank) (P : Proper motif_side entry_kind.least 120 bases mates) (S H : ℕ → Bool) where
  C : List ℕ
  C = content_of entry_kind own bases mates

  l_c : length C ≡ 380
  unfolding C
  l_c = length_content entry_kind own bases mates (omega arith) P.small P.same

  body : length (C ++ map_bytes S ++ map_bytes H) ≡ 508
  body =
      length-append (C ++ map_bytes S) (map_bytes H)
      ∙ ap₂ (λ (x y : ℕ). x + y) (length-append C (map_bytes S) ∙ ap₂ (λ (x y : ℕ). x + y) l_c (length_map S)) (length_map H)

  l_cs : length (C ++ map_bytes S) ≡ 444
  l_cs = length-append C (map_bytes S) ∙ ap₂ (λ (x y : ℕ). x + y) l_c (length_map S)

  unfoldable pub kept : List ℕ
  kept = entry_with own bases mates (map_bytes S) (map_bytes H)

  pub entry_length : length kept ≡ 512
  unfolding kept entry_with with_checksum C
  entry_length = length-append (C ++ map_bytes S ++ map_bytes H) (bytes32 (checksum_of (C ++ map_bytes S ++ map_bytes H))) ∙ ap (λ (k : ℕ). k + 4) body

  pub entry_searched : (d : ℕ) → d < 512 → map_bit kept 380 d ≡ S d
  unfolding kept entry_with with_checksum C
  entry_searched d h =
      ap (λ (l : List ℕ). map_bit l 380 d) (regroup C (map_bytes S) (map_bytes H) _)
      ∙ map_in 380 C (map_bytes S) _ l_c (length_map S) d h ∙ map_bit_lem S d h

  pub entry_hit : (d : ℕ) → d < 512 → map_bit kept 444 d ≡ H d
  unfolding kept entry_with with_checksum C
  entry_hit d h =
      ap (λ (l : List ℕ). map_bit l 444 d) (regroup₂ C (map_bytes S) (map_bytes H) _)
      ∙ map_in 444 (C ++ map_bytes S) (map_bytes H) _ l_cs (length_map H) d h ∙ map_bit_lem H d h

  tail : List ℕ
  tail = bytes32 (checksum_of (C ++ map_bytes S ++ map_bytes H))

  cut : kept ≡ C ++ (map_bytes S ++ (map_bytes H ++ tail))
  unfolding kept entry_with with_checksum C tail
  cut = regroup C (map_bytes S) (map_bytes H) tail

  kind_is : nth kept 0 ≡ 2
  unfolding C
  kind_is = ap (λ (l : List ℕ). nth l 0) cut ∙ kind_byte entry_kind own bases mates (map_bytes S ++ (map_bytes H ++ tail)) ho (omega arith) (omega arith) P

  pub entry_back : strand_in entry_kind kept ≡ strand_of bases mates
  unfolding C
  entry_back = ap (strand_in entry_kind) cut ∙ strand_back entry_kind own bases mates (map_bytes S ++ (map_bytes H ++ tail)) ho (omega arith) (omega arith) P

  module _ (d : ℕ) (hd : d < 512) where
    cleared : clear_map (clear_map kept 380 d) 444 d ≡ C ++ map_bytes (without d S) ++ map_bytes (without d H) ++ tail
    cleared =
        ap (λ (l : List ℕ). clear_map (clear_map l 380 d) 444 d) cut
        ∙ ap (λ (l : List ℕ). clear_map l 444 d)
        (clear_in 380 C (map_bytes S) (map_bytes H ++ tail) l_c (length_map S) d hd
        ∙ ap (λ (l : List ℕ). C ++ (l ++ (map_bytes H ++ tail))) (map_clear S d hd)
        ∙ sym (append_assoc C (map_bytes (without d S)) (map_bytes H ++ tail)))
        ∙ clear_in 444 (C ++ map_bytes (without d S)) (map_bytes H) tail
        (length-append C (map_bytes (without d S)) ∙ ap₂ (λ (x y : ℕ). x + y) l_c (length_map (without d S))) (length_map H) d hd
        ∙ ap (λ (l : List ℕ). C ++ map_bytes (without d S) ++ (l ++ tail)) (map_clear H d hd)
        ∙ sym (append_assoc (C ++ map_bytes (without d S)) (map_bytes (without d H)) tail)

-- Number d taken out of a cache entry: the block of the two sets without d.
pub entry_forget : (own bases mates : List ℕ) (ho : 2 + length own ≡ entry_kind.blank) (P : Proper motif_side entry_kind.least 120 bases mates) (S H : ℕ
    → Bool) (d : ℕ)
    → d < 512
    → forgot d (entry_with own bases mates (map_bytes S) (map_bytes H)) ≡ entry_with own bases mates (map_bytes (without d S)) (map_bytes (without d H))
unfolding forgot kept entry_with C choose
entry_forget own bases mates ho P S H d hd =
    rw (eq-eqb _ 512 (entry_length own bases mates ho P S H), kind_is own bases mates ho P S H)
    (check_put (content_of entry_kind own bases mates ++ map_bytes (without d S) ++ map_bytes (without d H))
    (tail own bases mates ho P S H) _ _ (body own bases mates ho P (without d S) (without d H))
    (length_clear _ 444 d ∙ length_clear _ 380 d ∙ entry_length own bases mates ho P S H) (cleared own bases mates ho P S H d hd) refl)

-- The block of a motif and two sets is sound, where each hit was searched.
module _ (own bases mates : List ℕ) (ho : 2 + length own ≡ entry_kind.blank) (P : Proper motif_side entry_kind.least 120 bases mates) (S H : ℕ → Bool)
    (needs : (d : ℕ) → d < 512 → not (H d) || S d ≡ true) (small : Bytes own) where
  block : List ℕ
  block = entry_with own bases mates (map_bytes S) (map_bytes H)

  content_part : content_ok entry_kind block ≡ true
  unfolding block kept C
  content_part =
      ap (content_ok entry_kind) (cut own bases mates ho P S H)
      ∙ content_sound entry_kind own bases mates _ ho (omega arith) (omega arith) P

  hits_part : hits_ok block ≡ true
  unfolding block kept hits_ok hit_ok
  hits_part =
      every_true (hit_ok block) 512
      (λ d l. ap₂ (λ (a b : Bool). not a || b) (entry_hit own bases mates ho P S H d l) (entry_searched own bases mates ho P S H d l) ∙ needs d l)

  check_part : checksum_ok block ≡ true
  unfolding block entry_with C
  check_part =
      check_sound (content_of entry_kind own bases mates ++ map_bytes S ++ map_bytes H) (body own bases mates ho P S H)
      (small_append (content_of entry_kind own bases mates ++ map_bytes S) (map_bytes H)
      (small_append (content_of entry_kind own bases mates) (map_bytes S)
      (small_content entry_kind own bases mates (omega arith) small (omega (arith, P.small)) P.letters) (map_small S))
      (map_small H))

  pub entry_sound : sound_entry (entry_with own bases mates (map_bytes S) (map_bytes H)) ≡ true
  unfolding block kept
  entry_sound = entry_rules_lem block (entry_length own bases mates ho P S H) content_part hits_part check_part
