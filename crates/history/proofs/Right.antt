-- Every query of the model's log is right, in the words of the demand.
use Rattle.std.specs.Prelude.{Ok, Err}
use Prim.Native.Nat.{ℕ, zero, suc, ◌+◌, ◌<◌, ◌≤◌}
use native.Mathlib.Omega.{arith}
use native.Mathlib.Decide.{dec_lt}
use mathlib.Core.Path.{◌≡◌, refl, sym, ap, ◌∙◌}
use mathlib.Core.Logic.{◌↔◌}
use mathlib.Core.Bool.{Bool, true}
use mathlib.Core.List.{List, [], ◌∷◌, ◌++◌}
use mathlib.Core.Option.{none as vacant, some as holds}
use lib.ListN.{length, length-append}
use Rattle.lists.specs.Vocabulary.{nth, select, tab, put_at}
use Rattle.lists.proofs.ListLaws.{never}
use Rattle.lists.proofs.Ranges.{Selected, selected}
use Rattle.strand.specs.Strands.{Strand}
use Rattle.refusals.specs.declared.Refusal.{Refusal}
use Rattle.refusals.specs.Rules.{by_verdict, Verdict}
use Rattle.refusals.proofs.RuleLaws.{by_accepted, by_refused}
use Rattle.block.specs.Block.{block_count}
use Rattle.calls.specs.Buffers.{motif_verdict, Holding}
use Rattle.calls.specs.Calls.{Found, found, found_all, refused_by}
use Rattle.calls.specs.Motifs.{motif_of, UsableMotifs}
use Rattle.calls.proofs.MotifLaws.{motif_verdict_lem}
use Rattle.history.specs.Model.{Call, add, remove, query, batch, Event, call, alter, Line, gave, State, start, model_verdict, embeds_at, hit_list}
use Rattle.history.specs.Model.{asked, asked_to, found_by, model_answer, model_next, model_result, model_after, model_alter, model_log}
use Rattle.history.specs.History.{holding_by, holding_after, holding_since, Ask, asks_from, asks_of, Stands, Among, RightHits, RightLog}
use Rattle.history.specs.History.{Decides}
use Rattle.history.specs.Statements.{QueriesRight, BatchesRight}
use Rattle.history.proofs.StateLaws.{StateOk, start_ok, query_passed, batch_passed, molecules_same, asked_molecules, asked_to_ok, after_ok, alter_ok}

-- A line of an accepted query stands in the log as a query.
pub query_stands : (log before after : List Line) (p : Strand) (work : ℕ) (slice : List ℕ) (count : ℕ) (hits : List ℕ) (searched : ℕ)
    → log ≡ before ++ (gave (query p work slice) (found count hits searched) ∷ after)
    → Stands log before (record { motif = p; count = count; hits = hits })
query_stands log before after p work slice count hits searched e =
    record {
      line = gave (query p work slice) (found count hits searched);
      after = after;
      here = e;
      front = [];
      back = [];
      among = unfold asks_of in refl;
    }

-- So each accepted query of a right log is right.
pub query_right : {Relation : Strand → Strand → Type 0} {embeds : Strand → Strand → Bool} {B S : ℕ} {es : List Event} {log : List Line}
    → RightLog Relation embeds B S es log → QueriesRight Relation log
query_right {log = log} r before after p work slice count hits searched e =
    r.right before _ (query_stands log before after p work slice count hits searched e)

-- The queries of a batch, by what each found

abbrev ask_of : List ℕ → ℕ → Found → Ask
ask_of motifs t x = record { motif = motif_of motifs t; count = x.count; hits = x.hits }

asks_join : (motifs : List ℕ) (t n : ℕ) (front back : List Found) → n ≡ t + length front
    → asks_from motifs t (front ++ back) ≡ asks_from motifs t front ++ asks_from motifs n back
unfolding asks_from
asks_join motifs t n [] back e = let i : t ≡ n = omega arith in rw i
asks_join motifs t n (x ∷ front) back e = ap (λ (l : List Ask). ask_of motifs t x ∷ l) (asks_join motifs (suc t) n front back (omega arith))

batch_stands : (log before after : List Line) (motifs : List ℕ) (work : ℕ) (slice : List ℕ) (each : List Found) (read : ℕ)
    → log ≡ before ++ (gave (batch motifs work slice) (found_all each read) ∷ after)
    → (front back : List Found) (x : Found) → each ≡ front ++ (x ∷ back) → Stands log before (ask_of motifs (length front) x)
batch_stands log before after motifs work slice each read e front back x h =
    record {
      line = gave (batch motifs work slice) (found_all each read);
      after = after;
      here = e;
      front = asks_from motifs 0 front;
      back = asks_from motifs (suc (length front)) back;
      among =
          unfold asks_of asks_from in (ap (asks_from motifs 0) h ∙ asks_join motifs 0 (length front) front (x ∷ back) (omega arith));
    }

tab_size : {A : Type 0} (f : ℕ → A) (n : ℕ) → length (tab n f) ≡ n
unfolding tab
tab_size f zero = refl
tab_size f (suc n) = length-append (tab n f) (f n ∷ []) ∙ omega (arith, tab_size f n)

-- A property of every query of a list

unfoldable Each : (Ask → Type 0) → List Ask → Type 0
Each P [] = Unit
Each P (a ∷ list) = P a × Each P list

module _ (P : Ask → Type 0) where
  each_at : (a : Ask) (front back : List Ask) → Each P (front ++ (a ∷ back)) → P a
  unfolding Each
  each_at a [] back h = h.0
  each_at a (b ∷ front) back h = each_at a front back h.1

  each_more : (front : List Ask) (a : Ask) → Each P front → P a → Each P (front ++ (a ∷ []))
  unfolding Each
  each_more [] a h k = (k, tt)
  each_more (b ∷ front) a h k = (h.0, each_more front a h.1 k)

  each_asked : (motifs : List ℕ) (f : ℕ → Found) (n : ℕ) → ((t : ℕ) → t < n → P (ask_of motifs t (f t))) → Each P (asks_from motifs 0 (tab n f))
  unfolding Each tab asks_from
  each_asked motifs f zero h = tt
  each_asked motifs f (suc n) h =
      rw (asks_join motifs 0 n (tab n f) (f n ∷ []) (omega (arith, tab_size f n)))
      (each_more (asks_from motifs 0 (tab n f)) (ask_of motifs n (f n)) (each_asked motifs f n (λ t l. h t (omega arith))) (h n (omega arith)))

  -- a refused call makes no query
  each_refused : (c : Call) (r : Refusal) → Each P (asks_of c (refused_by r))
  unfolding Each asks_of refused_by
  each_refused (add d q) r = tt
  each_refused (remove d) r = tt
  each_refused (query p work slice) r = tt
  each_refused (batch motifs work slice) r = tt

below_of : (B : ℕ) (x : Holding) (d : ℕ) (q : Strand) → x ≡ holds q → (B ≤ d → x ≡ vacant) → d < B
below_of B x d q e h =
    elim (dec_lt d B) [
      | yes l ↦ l
      | no l ↦ let v : x ≡ vacant = h (omega arith) in let z : ◌≡◌ {A = ℕ} 0 1 = cc in absurd (omega arith)
    ]

module _ (embeds : Strand → Strand → Bool) (Relation : Strand → Strand → Type 0) (B S : ℕ) where
  some_embeds : (p : Strand) (x : Holding) → embeds_at embeds B S p x ≡ true → (q : Strand) × (x ≡ holds q) × (embeds p q ≡ true)
  unfolding embeds_at
  some_embeds p vacant e = never e
  some_embeds p (holds q) e = (q, refl, e)

  embeds_some : (p : Strand) (x : Holding) (q : Strand) → x ≡ holds q → embeds p q ≡ true → embeds_at embeds B S p x ≡ true
  unfolding embeds_at
  embeds_some p x q e h = rw e h

  -- RightHits of a log that starts with these holdings
  record RightFrom (holdings : ℕ → Holding) (before : List Line) (a : Ask) : Type 0 where
    exact : (d : ℕ) → Among d a.hits ↔ ((q : Strand) × (holding_since d (holdings d) before ≡ holds q) × Relation a.motif q)
    rising : (i j : ℕ) → i < j → j < length a.hits → nth a.hits i < nth a.hits j
    counted : a.count ≡ length a.hits

  -- what a call does to the holdings
  holding_accepted : (σ : State) (d : ℕ) (c : Call) → holding_after d (σ.molecules d) c (model_answer embeds B S σ c) ≡ (model_next embeds B S σ c).molecules d
  unfolding holding_after holding_by model_answer model_next asked put_at
  holding_accepted σ d (add n q) = refl
  holding_accepted σ d (remove n) = refl
  holding_accepted σ d (query p work slice) = refl
  holding_accepted σ d (batch motifs work slice) =
      ap (λ (molecules : ℕ → Holding). molecules d) (sym (asked_molecules embeds B S σ motifs (block_count motifs)))

  holding_step : (σ : State) (d : ℕ) (c : Call) → holding_after d (σ.molecules d) c (model_result embeds B S σ c) ≡ (model_after embeds B S σ c).molecules d
  unfolding model_result model_after
  holding_step σ d c = go (model_verdict embeds B S σ c)
    where
      go : (v : Verdict) → holding_after d (σ.molecules d) c (by_verdict v refused_by (model_answer embeds B S σ c))
          ≡ (by_verdict v (λ r. σ) (model_next embeds B S σ c)).molecules d
      go (Ok u) = unfold by_verdict in (holding_accepted σ d c)
      go (Err r) = unfold by_verdict holding_after refused_by in refl

  right_after : (holdings holdings' : ℕ → Holding) (y : Line) (before : List Line) (a : Ask)
      → ((d : ℕ) → holding_after d (holdings d) y.of y.result ≡ holdings' d)
      → RightFrom holdings' before a → RightFrom holdings (y ∷ before) a
  unfolding holding_since
  right_after holdings holdings' y before a h r =
      record { exact = λ d. rw (h d) (r.exact d); rising = r.rising; counted = r.counted }

  module _ (decides : Decides Relation embeds) where
    -- an accepted query of a motif, now
    right_query : (σ : State) → StateOk B σ → (p : Strand) → motif_verdict p ≡ Ok tt
        → RightFrom σ.molecules []
        (record { motif = p; count = length (hit_list embeds B S σ p); hits = hit_list embeds B S σ p })
    unfolding hit_list holding_since Decides
    right_query σ ok p fit =
        let t : ℕ → Bool = λ d. embeds_at embeds B S p (σ.molecules d) in
        let s : Selected B t (select B t) = selected B t in
        record {
          exact = λ d. (
            λ m.
                let y = (s.each m.0 m.1).1 in
                let z = some_embeds p (σ.molecules d) (rw m.2 at y) in
                (z.0, z.1, (decides p z.0 fit (rw z.1 at (ok.holding_ok d))).0 z.2),
            λ m.
                let y : σ.molecules d ≡ holds m.0 = m.1 in
                let z : t d ≡ true = embeds_some p (σ.molecules d) m.0 y ((decides p m.0 fit (rw y at (ok.holding_ok d))).1 m.2) in
                s.has d (below_of B (σ.molecules d) d m.0 y (ok.above d)) z,
          );
          rising = s.rising;
          counted = refl;
        }

    -- query t of an accepted batch: those before it changed no molecule
    right_asked : (σ : State) → StateOk B σ → (motifs : List ℕ) → UsableMotifs motifs → (t : ℕ) → t < block_count motifs
        → RightFrom σ.molecules [] (ask_of motifs t (found_by embeds B S σ motifs t))
    unfolding found_by asked_to
    right_asked σ ok motifs u t l =
        rw (asked_molecules embeds B S σ motifs t)
        at (right_query (asked_to embeds B S σ motifs t) (asked_to_ok embeds B S σ motifs u ok t (omega arith)) (motif_of motifs t) (motif_verdict_lem motifs
        u t l))

    -- the queries of a call that is accepted now
    asks_accepted : (σ : State) → StateOk B σ → (c : Call) → model_verdict embeds B S σ c ≡ Ok tt
        → Each (RightFrom σ.molecules []) (asks_of c (model_answer embeds B S σ c))
    unfolding Each asks_of model_answer
    asks_accepted σ ok (add d q) e = tt
    asks_accepted σ ok (remove d) e = tt
    asks_accepted σ ok (query p work slice) e = (right_query σ ok p (query_passed embeds B S σ p work slice e), tt)
    asks_accepted σ ok (batch motifs work slice) e =
        each_asked _ motifs (found_by embeds B S σ motifs) (block_count motifs) (right_asked σ ok motifs (batch_passed embeds B S σ motifs work slice e))

    asks_right : (σ : State) → StateOk B σ → (c : Call) → Each (RightFrom σ.molecules []) (asks_of c (model_result embeds B S σ c))
    unfolding model_result
    asks_right σ ok c = go (model_verdict embeds B S σ c) refl
      where
        go : (v : Verdict) → model_verdict embeds B S σ c ≡ v → Each (RightFrom σ.molecules []) (asks_of c (model_result embeds B S σ c))
        go (Ok u) e = rw (by_accepted (model_verdict embeds B S σ c) refused_by (model_answer embeds B S σ c) e) (asks_accepted σ ok c e)
        go (Err r) e = rw (by_refused (model_verdict embeds B S σ c) refused_by (model_answer embeds B S σ c) r e) (each_refused _ c r)

    -- `before` is the log in front of the query's line from here
    right_log : (es : List Event) (σ : State) → StateOk B σ → (before after : List Line) (line : Line) (a : Ask) (front back : List Ask)
        → model_log embeds B S σ es ≡ before ++ (line ∷ after) → asks_of line.of line.result ≡ front ++ (a ∷ back)
        → RightFrom σ.molecules before a
    unfolding model_log
    right_log [] σ ok [] after line a front back e h = let z : ◌≡◌ {A = ℕ} 0 1 = cc in absurd (omega arith)
    right_log [] σ ok (y ∷ before) after line a front back e h = let z : ◌≡◌ {A = ℕ} 0 1 = cc in absurd (omega arith)
    right_log (alter s i v ∷ es) σ ok before after line a front back e h =
        rw (molecules_same embeds B S σ s i v)
        at (right_log es (model_alter embeds B S σ s i v) (alter_ok embeds B S σ ok s i v) before after line a front back e h)
    right_log (call c ∷ es) σ ok [] after line a front back e h =
        let l : line ≡ gave c (model_result embeds B S σ c) = cc in
        each_at _ a front back (rw (rw l at h) at (asks_right σ ok c))
    right_log (call c ∷ es) σ ok (y ∷ before) after line a front back e h =
        let l : y ≡ gave c (model_result embeds B S σ c) = cc in
        let t : model_log embeds B S (model_after embeds B S σ c) es ≡ before ++ (line ∷ after) = cc in
        right_after σ.molecules (model_after embeds B S σ c).molecules y before a (λ d. rw l (holding_step σ d c))
        (right_log es (model_after embeds B S σ c) (after_ok embeds B S σ ok c) before after line a front back t h)

    pub right_start : (es : List Event) (log before : List Line) (a : Ask) → log ≡ model_log embeds B S start es
        → Stands log before a → RightHits Relation before a
    unfolding start
    right_start es log before a same s =
        let r = right_log es start (start_ok B) before s.after s.line a s.front s.back (sym same ∙ s.here) s.among in
        record { exact = r.exact; rising = r.rising; counted = r.counted }

-- An accepted batch of the model's log has what each of its motifs found, and each of these queries is right

module _ (embeds : Strand → Strand → Bool) (B S : ℕ) where
  -- a line of the log came of its call in some state
  line_is : (es : List Event) (σ : State) (before after : List Line) (line : Line) → model_log embeds B S σ es ≡ before ++ (line ∷ after)
      → (τ : State) × (line.result ≡ model_result embeds B S τ line.of)
  unfolding model_log
  line_is [] σ [] after line e = let z : ◌≡◌ {A = ℕ} 0 1 = cc in absurd (omega arith)
  line_is [] σ (y ∷ before) after line e = let z : ◌≡◌ {A = ℕ} 0 1 = cc in absurd (omega arith)
  line_is (alter s i v ∷ es) σ before after line e = line_is es (model_alter embeds B S σ s i v) before after line e
  line_is (call c ∷ es) σ [] after line e = let l : line ≡ gave c (model_result embeds B S σ c) = cc in (σ, rw l refl)
  line_is (call c ∷ es) σ (y ∷ before) after line e =
      let t : model_log embeds B S (model_after embeds B S σ c) es ≡ before ++ (line ∷ after) = cc in
      line_is es (model_after embeds B S σ c) before after line t

  many_found : (σ : State) (motifs : List ℕ) (work : ℕ) (slice : List ℕ) (each : List Found) (read : ℕ)
      → found_all each read ≡ model_result embeds B S σ (batch motifs work slice) → length each ≡ block_count motifs
  unfolding model_result model_answer refused_by
  many_found σ motifs work slice each read e = go (model_verdict embeds B S σ (batch motifs work slice)) refl
    where
      go : (v : Verdict) → model_verdict embeds B S σ (batch motifs work slice) ≡ v → length each ≡ block_count motifs
      go (Ok u) a =
          let h : found_all each read ≡ model_answer embeds B S σ (batch motifs work slice) = e ∙ by_accepted _ refused_by _ a in
          let l : each ≡ tab (block_count motifs) (found_by embeds B S σ motifs) = cc in
          ap length l ∙ tab_size (found_by embeds B S σ motifs) (block_count motifs)
      go (Err r) a =
          let h : found_all each read ≡ refused_by r = e ∙ by_refused _ refused_by _ r a in
          let z : ◌≡◌ {A = ℕ} 0 1 = cc in
          absurd (omega arith)

pub batch_right : {Relation : Strand → Strand → Type 0} {embeds : Strand → Strand → Bool} {B S : ℕ} {es : List Event} {log : List Line}
    → RightLog Relation embeds B S es log → BatchesRight Relation log
batch_right {embeds = embeds} {B = B} {S = S} {es = es} {log = log} r before after motifs work slice each read e =
    let came = line_is embeds B S es start before after (gave (batch motifs work slice) (found_all each read)) (sym r.same ∙ e) in
    record {
      many = many_found embeds B S came.0 motifs work slice each read came.1;
      right = λ front back x h. r.right before _ (batch_stands log before after motifs work slice each read e front back x h);
    }
