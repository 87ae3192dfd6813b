-- The three demands on the library; `demands`, in proofs/Demands, proves them of the definitions that the contracts cite: x_verdict is the table's word on call
-- x (window has that of length), x_answer and x_outcome what x answers and leaves. Meets.antt says the same of the calls themselves, and alone has what no
-- definition gives: the places that show writes, and the work slices (1.10, 2.5). p, pm are the bases and mates of the motif P, q, qm those of the molecule Q;
-- in add and query q and p are whole strands, and a batch has its motifs as blocks of `motifs`. Blocks have their own statements (crate block), so have the
-- screen program (screening) and the examples (examples).
use Rattle.std.specs.Prelude.{ℕ, ◌≡◌, true, List, length as len, Ok, Err}
use Rattle.lists.specs.Vocabulary.{nth}
use Rattle.refusals.specs.Rules.{Refuses, RefusesBy, BatchNumbered, Keeps, TableSides}
use Rattle.refusals.specs.declared.Side.{Side}
use Rattle.letters.specs.Letters.{letters_match, ReadAlike}
use Rattle.letters.specs.Statements.{LetterSays, MatchSays}
use Rattle.strand.specs.Strands.{Strand, Inside, check_verdict, check_answer, CheckAccepts, CheckSays}
use Rattle.embedding.specs.Embedding.{EmbedsIn}
use Rattle.embedding.specs.Windows.{WindowsSay}
use Rattle.embedding.specs.Longest.{verify_verdict, verify_answer, VerifySays, VerifyAccepts, EmptyMotifVerified, embeds}
use Rattle.matcher.specs.Answers.{length_verdict, length_answer, show_verdict, show_answer, PrefixSays, WholeSays, LengthAccepts, ShowAccepts}
use Rattle.matcher.specs.Answers.{EmptyMotifMatched}
use Rattle.window.specs.Answers.{window_answer, WindowSays, EmptyMotifWindowed}
use Rattle.block.specs.Block.{block_count}
use Rattle.calls.specs.Calls.{add_verdict, add_outcome, remove_verdict, remove_outcome, query_verdict, query_outcome, AddAccepts, RemoveAccepts}
use Rattle.calls.specs.Calls.{AddSays, QueryAccepts}
use Rattle.calls.specs.Batch.{batch_verdict, batch_outcome}
use Rattle.calls.specs.BatchStatements.{BatchAccepts, BatchLeaves, IsQuery, SlotsShared, MotifsRefuse, BatchOrder}
use Rattle.history.specs.Model.{Event, Line}
use Rattle.history.specs.History.{zeroed, Ran, admitted, SomeRun, SameRefusals, Decides, RunTheorem}
use Rattle.history.specs.Statements.{EmptyMotifListsHeld, SpellingsHitAlike}

-- Demand 1, any input: whichever buffers a caller hands over, a call gives an answer or a numbered refusal, and a refusal changes no byte.
pub record AnyInput : Type 0 where
  -- 1.1 to 1.4: the call answers Err r exactly where its rules come to r, and r is a refusal of the table
  pub check : (bases mates : List ℕ) → Refuses (check_verdict bases mates) Err (check_answer bases mates)
  pub length : (p pm q qm : List ℕ) (work : ℕ) → Refuses (length_verdict p pm q qm work) Err (length_answer p pm q qm work)
  pub show : (p pm q qm : List ℕ) (places work : ℕ) → Refuses (show_verdict p pm q qm places work) Err (show_answer p pm q qm places work)
  pub verify : (p pm q qm v : List ℕ) → Refuses (verify_verdict p pm q qm v) Err (verify_answer p pm q qm v)
  -- 1.5 to 1.7: the same of add, remove and query; the reference model of demand 3 has the same rules
  pub add : (catalog cache : List ℕ) (d : ℕ) (q : Strand) → Refuses (add_verdict catalog cache d q) Err (add_outcome catalog cache d q).answer
  pub remove : (catalog cache : List ℕ) (d : ℕ) → Refuses (remove_verdict catalog cache d) Err (remove_outcome catalog cache d).answer
  pub query : (catalog cache : List ℕ) (p : Strand) (work : ℕ) (hits : List ℕ)
      → Refuses (query_verdict catalog cache p work (len hits)) Err (query_outcome embeds catalog cache p work hits).answer
  -- 1.8: a call is accepted exactly where no row of the table applies
  pub check_accepts : (bases mates : List ℕ) → CheckAccepts bases mates
  pub length_accepts : (p pm q qm : List ℕ) (work : ℕ) → LengthAccepts p pm q qm work
  pub show_accepts : (p pm q qm : List ℕ) (places work : ℕ) → ShowAccepts p pm q qm places work
  pub verify_accepts : (p pm q qm v : List ℕ) → VerifyAccepts p pm q qm v
  pub add_accepts : (catalog cache : List ℕ) (d : ℕ) (q : Strand) → AddAccepts catalog cache d q
  pub remove_accepts : (catalog cache : List ℕ) (d : ℕ) → RemoveAccepts catalog cache d
  pub query_accepts : (catalog cache : List ℕ) (p : Strand) (work room : ℕ) → QueryAccepts catalog cache p work room
  pub batch_accepts : (catalog cache motifs : List ℕ) (work room : ℕ) → BatchAccepts catalog cache motifs work room
  -- 1.9: a refusing add or remove leaves catalog and cache as they were, a refusing query or batch cache and hits (it only reads the catalog, and the motifs)
  pub add_keeps : (catalog cache : List ℕ) (d : ℕ) (q : Strand)
      → Keeps Err (add_outcome catalog cache d q).answer catalog cache (add_outcome catalog cache d q).catalog (add_outcome catalog cache d q).cache
  pub remove_keeps : (catalog cache : List ℕ) (d : ℕ)
      → Keeps Err (remove_outcome catalog cache d).answer catalog cache
      (remove_outcome catalog cache d).catalog (remove_outcome catalog cache d).cache
  pub query_keeps : (catalog cache : List ℕ) (p : Strand) (work : ℕ) (hits : List ℕ)
      → Keeps Err (query_outcome embeds catalog cache p work hits).answer cache hits
      (query_outcome embeds catalog cache p work hits).cache (query_outcome embeds catalog cache p work hits).hits
  pub batch_keeps : (catalog cache motifs : List ℕ) (work : ℕ) (hits : List ℕ)
      → Keeps Err (batch_outcome embeds catalog motifs work cache hits).answer.read cache hits
      (batch_outcome embeds catalog motifs work cache hits).cache (batch_outcome embeds catalog motifs work cache hits).hits
  -- 1.11: window refuses just what length refuses, with the same refusal; so `length_accepts` says when it is accepted
  pub window : (p pm q qm : List ℕ) (work : ℕ) → Refuses (length_verdict p pm q qm work) Err (window_answer p pm q qm work)
  -- 1.12: the same of batch; beside the refusals of the other calls it has two of its motif buffer: 15, and 3 with the place of a motif
  pub batch : (catalog cache motifs : List ℕ) (work : ℕ) (hits : List ℕ)
      → RefusesBy BatchNumbered (batch_verdict catalog cache motifs work (len hits)) Err
      (batch_outcome embeds catalog motifs work cache hits).answer.read
  -- which of them it is: the order of its rules, and the place in the motif buffer
  pub motifs_refuse : (motifs : List ℕ) → MotifsRefuse motifs
  pub batch_order : (catalog cache motifs : List ℕ) (work room : ℕ) → BatchOrder catalog cache motifs work room
  -- 1.13: whatever call refuses (window by the rules of length), the side of the refusal is one of the table's three
  pub check_sides : (bases mates : List ℕ) → TableSides (check_verdict bases mates)
  pub length_sides : (p pm q qm : List ℕ) (work : ℕ) → TableSides (length_verdict p pm q qm work)
  pub show_sides : (p pm q qm : List ℕ) (places work : ℕ) → TableSides (show_verdict p pm q qm places work)
  pub verify_sides : (p pm q qm v : List ℕ) → TableSides (verify_verdict p pm q qm v)
  pub add_sides : (catalog cache : List ℕ) (d : ℕ) (q : Strand) → TableSides (add_verdict catalog cache d q)
  pub remove_sides : (catalog cache : List ℕ) (d : ℕ) → TableSides (remove_verdict catalog cache d)
  pub query_sides : (catalog cache : List ℕ) (p : Strand) (work room : ℕ) → TableSides (query_verdict catalog cache p work room)
  pub batch_sides : (catalog cache motifs : List ℕ) (work room : ℕ) → TableSides (batch_verdict catalog cache motifs work room)

-- Demand 2, the right answer. (2.5, in Meets: the first L places that show leaves are an embedding of that prefix, and later ones keep their values.)
pub record RightAnswer : Type 0 where
  -- 2.1: check accepts a nested molecule and nothing else, and answers the number of its arcs and its depth
  pub check : (bases mates : List ℕ) → CheckSays bases mates (check_answer bases mates)
  -- 2.2: length and show answer the length of the longest closed prefix of P that embeds in Q, and the number of arcs and the depth of Q
  pub length : (p pm q qm : List ℕ) (work : ℕ) → PrefixSays (length_verdict p pm q qm work) p pm q qm (length_answer p pm q qm work)
  pub show : (p pm q qm : List ℕ) (places work : ℕ) → PrefixSays (show_verdict p pm q qm places work) p pm q qm (show_answer p pm q qm places work)
  -- 2.3: it is the length of P exactly when P embeds in Q
  pub whole : (p pm q qm : List ℕ) (work : ℕ) → WholeSays (length_verdict p pm q qm work) p pm q qm (length_answer p pm q qm work)
  -- 2.4: verify says yes exactly to embeddings of the whole P, and with yes and no the number of arcs and the depth of Q
  pub verify : (p pm q qm v : List ℕ) → VerifySays p pm q qm v (verify_answer p pm q qm v)
  -- 2.6: an accepted add answers the number of arcs and the depth of its molecule
  pub add : (catalog cache : List ℕ) (d : ℕ) (q : Strand) → AddSays catalog cache d q (add_outcome catalog cache d q).answer
  -- 2.7: window answers start and length of the tightest window of Q that carries an embedding of P, or none exactly when P does not embed in Q, and with both
  -- the number of arcs and the depth of Q
  pub window : (p pm q qm : List ℕ) (work : ℕ) → WindowSays (length_verdict p pm q qm work) p pm q qm (window_answer p pm q qm work)
  -- 2.8: what a window is, and that there is only one tightest
  pub windows : (p pm q qm : List ℕ) → Inside (nth pm) (len p) → WindowsSay letters_match p pm q qm
  -- 2.9: the whole answers for the motif with no bases. What check refuses of the molecule is refused, then 9 and 8 as ever; else length and show answer 0, and
  -- show leaves the places as they were; verify says yes; the tightest window has start 0 and length 0 (of the calls it follows from 2.2, 2.4, 2.5 and 2.7)
  pub empty_motif_matched : (q qm : List ℕ) (work : ℕ) → EmptyMotifMatched q qm work
  pub empty_motif_verified : (q qm v : List ℕ) → EmptyMotifVerified q qm v
  pub empty_motif_windowed : (q qm : List ℕ) (work : ℕ) → EmptyMotifWindowed q qm work
  -- 2.10: an accepted batch answers and leaves what single queries of its motifs do, in that order: each of them is accepted, the batch has its count, its
  -- searched number and its list, and the cache is as the last leaves it. The number read is that of the molecules that at least one of these queries
  -- would search. A batch of one motif is a query. The first motif of a slot finds there what the cache has; of two motifs in one slot, with no other of that
  -- slot between, the later searches nothing where it is the same motif, else all that is held
  pub batch : (catalog cache motifs : List ℕ) (work : ℕ) (hits : List ℕ) → batch_verdict catalog cache motifs work (len hits) ≡ Ok tt
      → BatchLeaves embeds catalog motifs work cache hits (batch_outcome embeds catalog motifs work cache hits)
  pub batch_of_one : (catalog cache motifs : List ℕ) (work : ℕ) (hits : List ℕ) → batch_verdict catalog cache motifs work (len hits) ≡ Ok tt
      → block_count motifs ≡ 1 → IsQuery embeds catalog motifs work cache hits (batch_outcome embeds catalog motifs work cache hits)
  pub batch_shares : (catalog cache motifs : List ℕ) (work : ℕ) (hits : List ℕ) → batch_verdict catalog cache motifs work (len hits) ≡ Ok tt
      → SlotsShared embeds catalog motifs work cache hits
  -- 2.11: what a letter is, and when two bases match; two spellings of a motif, and two of a molecule, get the same answers of check and of the direct calls
  pub letter : (side : Side) (b : ℕ) → LetterSays side b
  pub match : (x y : ℕ) → MatchSays x y
  pub check_respelled : (q q' qm : List ℕ) → ReadAlike q q' → check_answer q qm ≡ check_answer q' qm
  pub length_respelled : (p pm q qm p' q' : List ℕ) (work : ℕ) → ReadAlike p p' → ReadAlike q q' → length_answer p pm q qm work ≡ length_answer p' pm q' qm work
  pub show_respelled : (p pm q qm p' q' : List ℕ) (places work : ℕ) → ReadAlike p p' → ReadAlike q q'
      → show_answer p pm q qm places work ≡ show_answer p' pm q' qm places work
  pub verify_respelled : (p pm q qm p' q' v : List ℕ) → ReadAlike p p' → ReadAlike q q' → verify_answer p pm q qm v ≡ verify_answer p' pm q' qm v
  pub window_respelled : (p pm q qm p' q' : List ℕ) (work : ℕ) → ReadAlike p p' → ReadAlike q q' → window_answer p pm q qm work ≡ window_answer p' pm q' qm work

-- Demand 3, every history of add, remove, query and batch.
pub record EveryHistory : Type 0 where
  -- 3.1: `embeds`, the test of contracts and model, is true exactly where an embedding exists, for motifs and molecules that rules 1 to 7 let pass
  pub decides : Decides EmbedsIn embeds
  -- 3.2: from zeroed buffers, with at most one alteration in each cache block before the first accepted call and between one accepted call and the next,
  -- all that is compared is what the reference model says; and each accepted query, and each query of an accepted batch, lists just the numbers then held
  -- into whose molecules its motif embeds, rising
  pub runs : RunTheorem EmbedsIn embeds
  -- 3.3: from zeroed buffers, with any alterations, a run refuses just what the model refuses: "accepted" in 3.2 is one notion
  pub refusals : SameRefusals embeds
  -- 3.4: 3.2 and 3.3 are not empty: every list has a run (that the calls make its steps is `step`, in Meets)
  pub some_run : SomeRun embeds
  -- 3.5: in the runs of 3.2 each accepted query of the motif with no bases, by itself or in a batch, lists just the numbers then held
  pub empty_motif_lem : (B S : ℕ) (es : List Event) (log : List Line) → Ran embeds (zeroed B S) es log → admitted embeds B S es ≡ true → EmptyMotifListsHeld log
  -- 3.6: two queries of such runs, by themselves or in batches, whose motifs are two spellings, with the same molecules held in whichever spelling, list the
  -- same hits
  pub spellings : (B S B' S' : ℕ) (es es' : List Event) (log log' : List Line) → Ran embeds (zeroed B S) es log → admitted embeds B S es ≡ true
      → Ran embeds (zeroed B' S') es' log' → admitted embeds B' S' es' ≡ true → SpellingsHitAlike log log'

pub record Demands : Type 0 where
  pub any_input : AnyInput
  pub right_answer : RightAnswer
  pub every_history : EveryHistory
