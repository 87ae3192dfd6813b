-- Buffers of which one is not whole blocks: every call is refused by rule 10.
use Prim.Native.Nat.{ℕ, ◌+◌, ◌*◌}
use mathlib.Core.Path.{◌≡◌, sym}
use mathlib.Core.Logic.{inl, inr}
use mathlib.Core.Bool.{Bool, false, and-false}
use mathlib.Core.List.{List, [], ◌∷◌}
use lib.ListN.{length, length-set}
use Rattle.strand.specs.Strands.{Strand}
use Rattle.refusals.specs.Rules.{no_side, not_whole_blocks, refusal}
use Rattle.block.specs.Content.{block_size}
use Rattle.calls.specs.Buffers.{most_catalog_blocks, most_cache_blocks, are_whole, buffers_verdict}
use Rattle.calls.specs.Calls.{refused_by}
use Rattle.calls.proofs.ReadingLaws.{not_whole}
use Rattle.calls.proofs.JudgeLaws.{buffers_not_whole, add_buffers_refused, remove_buffers_refused, query_buffers_refused}
use Rattle.calls.proofs.BatchLaws.{batch_buffers_refused}
use Rattle.history.specs.Model.{Call, add, remove, query, batch, Event, call, alter}
use Rattle.history.specs.History.{Buffers, altered}
use Rattle.history.specs.Statements.{NotWhole, AllRefused}
use Rattle.history.proofs.Bytes.{bytes_verdict, bytes_log, bytes_refused}

whole_no : (β : Buffers) → NotWhole β → are_whole β.catalog β.cache ≡ false
unfolding are_whole
whole_no β (inl h) = rw (not_whole most_catalog_blocks β.catalog h)
whole_no β (inr h) = rw (not_whole most_cache_blocks β.cache h, and-false)

-- also after an alteration
still : (s i v : ℕ) (β : Buffers) → NotWhole β → NotWhole (altered β s i v)
unfolding altered
still s i v β (inl h) = inl h
still s i v β (inr h) = inr (rw (length-set β.cache (block_size * s + i) v) h)

buffers_refused : (β : Buffers) → NotWhole β → buffers_verdict β.catalog β.cache ≡ refusal not_whole_blocks no_side 0
buffers_refused β n = sym (buffers_not_whole β.catalog β.cache (whole_no β n))

call_refused : (β : Buffers) → NotWhole β → (c : Call) → bytes_verdict β c ≡ refusal not_whole_blocks no_side 0
unfolding bytes_verdict
call_refused β n (add d q) = sym (add_buffers_refused β.catalog β.cache d q _ (buffers_refused β n))
call_refused β n (remove d) = sym (remove_buffers_refused β.catalog β.cache d _ (buffers_refused β n))
call_refused β n (query p work hits) = sym (query_buffers_refused β.catalog β.cache p work (length hits) _ (buffers_refused β n))
call_refused β n (batch motifs work hits) = sym (batch_buffers_refused β.catalog β.cache motifs work (length hits) _ (buffers_refused β n))

pub all_refused : (embeds : Strand → Strand → Bool) (es : List Event) (β : Buffers) → NotWhole β → AllRefused (bytes_log embeds β es)
unfolding bytes_log AllRefused refused_by
all_refused embeds [] β n = tt
all_refused embeds (call c ∷ es) β n =
    let y = bytes_refused embeds β c _ (call_refused β n c) in
    (y.0, rw y.1 (all_refused embeds es β n))
all_refused embeds (alter s i v ∷ es) β n = all_refused embeds es (altered β s i v) (still s i v β n)
