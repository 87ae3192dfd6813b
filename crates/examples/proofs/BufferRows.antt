-- Rows 10 and 11: a cache of 513 bytes, and a catalog with unsound blocks, refuse every call.
use Rattle.std.specs.Prelude.{Ok}
use Prim.Native.Nat.{ℕ, ◌*◌, ◌%◌, ◌<◌}
use native.Mathlib.Omega.{arith}
use mathlib.Core.Path.{◌≡◌, refl, sym, ap, ◌∙◌}
use mathlib.Core.Logic.{inr}
use mathlib.Core.Bool.{true, false, not}
use mathlib.Core.List.{List, [], ◌∷◌}
use lib.ListN.{length, replicate, set, length-replicate, length-set}
use lib.Seq.{length-sets, get_or-set_same}
use Rattle.lists.specs.Vocabulary.{nth, choose, some, lowest_from, lowest}
use Rattle.refusals.specs.Rules.{no_side, not_whole_blocks, unsound_block, refusal, first, refuse_if, refuse_at_lowest}
use Rattle.letters.specs.Letters.{is_letter, not_letter}
use Rattle.strand.specs.Strands.{mate_outside, not_mutual, crosses, crossed_at, strand_verdict}
use Rattle.lists.proofs.ListLaws.{lowest_all, lowest_found}
use Rattle.octets.specs.Octets.{bytes32}
use Rattle.block.specs.Content.{block_size, checksum_at, checksum_of, rechecked, empty_block, encode_molecule}
use Rattle.block.specs.Block.{block_of, sound_molecule, block_count, put_block}
use Rattle.block.proofs.ContentLaws.{other_first}
use Rattle.calls.specs.Buffers.{molecule_verdict, unsound_at, buffers_verdict}
use Rattle.embedding.specs.Longest.{embeds}
use Rattle.calls.specs.Calls.{Result, refused, refused_by}
use Rattle.calls.proofs.BlockUse.{empty_molecule, molecule_length}
use Rattle.calls.proofs.ReadingLaws.{count_is, whole_is, put_length, put_block_lem, block_zero}
use Rattle.calls.proofs.JudgeLaws.{block_unsound, add_buffers_refused, remove_buffers_refused, query_buffers_refused}
use Rattle.calls.proofs.BatchLaws.{batch_buffers_refused}
use Rattle.history.specs.Model.{Call, add, remove, query, batch, call, Line, gave}
use Rattle.history.specs.History.{Buffers, zeroed, Ran}
use Rattle.history.specs.Statements.{AllRefused}
use Rattle.history.proofs.Bytes.{bytes_verdict, bytes_result, bytes_log, bytes_refused}
use Rattle.history.proofs.Runs.{ran_log, bytes_run}
use Rattle.history.proofs.Theorem.{not_whole}
use Rattle.examples.specs.Table.{a, uneven, nine, unsound}

-- What a call comes to on the bytes, it comes to in every run of it.
by_run : (β : Buffers) (c : Call) (r : Result) → bytes_result embeds β c ≡ r → (log : List Line) → Ran embeds β (call c ∷ []) log → log ≡ gave c r ∷ []
unfolding bytes_log
by_run β c r e log ran = ran_log embeds ran ∙ ap (λ (x : Result). gave c x ∷ []) e

pub uneven_refused : (c : Call) (log : List Line) → Ran embeds uneven (call c ∷ []) log → log ≡ gave c (refused not_whole_blocks no_side 0) ∷ []
unfolding bytes_log AllRefused
uneven_refused c = by_run uneven c _ (not_whole (call c ∷ []) uneven _ (inr odd) (bytes_run embeds uneven (call c ∷ []))).0
  where
    odd : length (replicate {A = ℕ} 513 0) % block_size ≡ 0 → ⊥
    odd e = omega (arith, length-replicate {A = ℕ} 513 0)

pub a_accepted : molecule_verdict a ≡ Ok tt
unfolding molecule_verdict strand_verdict first refuse_if refuse_at_lowest choose some lowest_from lowest is_letter not_letter mate_outside not_mutual crosses
    crossed_at
a_accepted = refl

rechecked_length : (s : List ℕ) → length (rechecked s) ≡ length s
unfolding rechecked
rechecked_length s = length-sets s checksum_at (bytes32 (checksum_of s))

rechecked_first : (s : List ℕ) → nth (rechecked s) 0 ≡ nth s 0
unfolding rechecked
rechecked_first [] = refl
rechecked_first (x ∷ s) = refl

nine_length : length nine ≡ block_size
nine_length = rechecked_length (set (encode_molecule a) 0 9) ∙ length-set (encode_molecule a) 0 9 ∙ molecule_length a a_accepted

nine_first : nth nine 0 ≡ 9
nine_first = rechecked_first (set (encode_molecule a) 0 9) ∙ get_or-set_same (encode_molecule a) 0 9 0 (omega (arith, molecule_length a a_accepted))

-- By its kind: the first byte of a sound block is 0 or 1.
nine_unsound : sound_molecule nine ≡ false
nine_unsound = other_first nine (λ e. omega (arith, nine_first)) (λ e. omega (arith, nine_first))

zeros : List ℕ
zeros = replicate (block_size * 3) 0

one : List ℕ
one = put_block 2 nine zeros

two : List ℕ
two = put_block 1 nine one

zeros_length : length zeros ≡ block_size * 3
unfolding zeros
zeros_length = length-replicate {A = ℕ} (block_size * 3) 0

one_length : length one ≡ block_size * 3
unfolding one
one_length = put_length zeros 3 zeros_length 2 (omega arith) nine nine_length

two_length : length two ≡ block_size * 3
unfolding two
two_length = put_length one 3 one_length 1 (omega arith) nine nine_length

block_0 : block_of 0 two ≡ empty_block
unfolding two one zeros choose
block_0 =
    put_block_lem one 3 one_length 1 (omega arith) nine nine_length 0 (omega arith)
    ∙ put_block_lem zeros 3 zeros_length 2 (omega arith) nine nine_length 0 (omega arith)
    ∙ block_zero 3 0 (omega arith)

block_1 : block_of 1 two ≡ nine
unfolding two choose
block_1 = put_block_lem one 3 one_length 1 (omega arith) nine nine_length 1 (omega arith)

sound_0 : unsound_at two 0 ≡ false
unfolding unsound_at
sound_0 = ap (λ (b : List ℕ). not (sound_molecule b)) block_0 ∙ ap not empty_molecule

unsound_1 : unsound_at two 1 ≡ true
unfolding unsound_at
unsound_1 = ap (λ (b : List ℕ). not (sound_molecule b)) block_1 ∙ ap not nine_unsound

place : 1 ≡ lowest (block_count two) (unsound_at two)
place = sym (lowest_found (unsound_at two) (block_count two) 1 (lowest_all (unsound_at two) 1 below) (omega (arith, count_is two 3 two_length)) unsound_1)
  where
    below : (i : ℕ) → i < 1 → unsound_at two i ≡ false
    below i l = let z : i ≡ 0 = omega arith in ap (unsound_at two) z ∙ sound_0

buffers : buffers_verdict two (replicate block_size 0) ≡ refusal unsound_block no_side 1
buffers =
    sym (block_unsound two (replicate block_size 0) (whole_is 512 3 two two_length)
    (whole_is 64 1 (replicate block_size 0) (length-replicate {A = ℕ} block_size 0)) 1 place
    (omega (arith, count_is two 3 two_length)))

pub unsound_refused : (c : Call) (log : List Line) → Ran embeds unsound (call c ∷ []) log → log ≡ gave c (refused unsound_block no_side 1) ∷ []
unfolding refused_by
unsound_refused c = by_run unsound c _ (bytes_refused embeds unsound c _ (verdict c)).0
  where
    verdict : (c : Call) → bytes_verdict unsound c ≡ refusal unsound_block no_side 1
    verdict (add d q) = unfold bytes_verdict zeroed two one zeros in (sym (add_buffers_refused two (replicate block_size 0) d q _ buffers))
    verdict (remove d) = unfold bytes_verdict zeroed two one zeros in (sym (remove_buffers_refused two (replicate block_size 0) d _ buffers))
    verdict (query p work hits) = unfold bytes_verdict zeroed two one zeros in
        (sym (query_buffers_refused two (replicate block_size 0) p work (length hits) _ buffers))
    verdict (batch motifs work hits) = unfold bytes_verdict zeroed two one zeros in
        (sym (batch_buffers_refused two (replicate block_size 0) motifs work (length hits) _ buffers))
