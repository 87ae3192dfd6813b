-- Only the functions behind the call window need this file: what they ask, and what the search knows.
use Rattle.std.specs.Prelude.{ℕ, suc, ◌+◌, ◌≤◌, ◌<◌, ◌≡◌, true, ◌⊎◌, List, length, Option, Some, None}
use Rattle.lists.specs.Vocabulary.{nth}
use Rattle.refusals.specs.Rules.{work_size}
use Rattle.letters.specs.Letters.{letters_match}
use Rattle.strand.specs.Strands.{strand_of}
use Rattle.embedding.specs.Embedding.{letters_fit, EmbedsIn}
use Rattle.embedding.specs.Windows.{IsTightest}
use Rattle.walk.specs.Walk.{TablesFor, Carried}
use Rattle.window.specs.declared.search.Progress.{Progress}
use Rattle.window.specs.declared.search.Window.{Window}

-- What every walk of the search asks beside what `Strands` says of motif and molecule: the tables of the motif, and a work slice that is long enough.
pub record Ready (p pm tables q work : List ℕ) : Type 0 where
  pub made : TablesFor p pm (length q) tables
  pub room : work_size (length p) (length q) ≤ length work

-- P's first base may stand at i: its letter fits, and i begins an arc if that base does.
pub record MayBegin (p pm q qm : List ℕ) (i : ℕ) : Type 0 where
  pub letter : letters_fit p q 0 i ≡ true
  pub arc : 0 < nth pm 0 → i < nth qm i

-- It may stand at no base from i to before j.
pub record NoneBegins (p pm q qm : List ℕ) (i j : ℕ) : Type 0 where
  pub low : i ≤ j
  pub high : j ≤ length q
  pub none : (x : ℕ) → i ≤ x → x < j → MayBegin p pm q qm x → ⊥

-- The window from s to before e carries P, and none from s that ends before `low` does: with low = e, e is the least end of a window from s.
pub record EndsAt (p pm q qm : List ℕ) (s low e : ℕ) : Type 0 where
  pub here : Carried p pm q qm s e
  pub none : (x : ℕ) → x < low → Carried p pm q qm s x → ⊥

-- The window from s to before e carries P, and none to e that starts behind `last` does: with last = s, s is the last start of a window to e.
pub record StartsAt (p pm q qm : List ℕ) (s last e : ℕ) : Type 0 where
  pub here : Carried p pm q qm s e
  pub none : (x : ℕ) → last < x → Carried p pm q qm x e → ⊥

-- The window from s to before e is no better than that of `size` bases from `start`: not shorter, and if as long, then not earlier.
abbrev pub NoBetter : ℕ → ℕ → ℕ → ℕ → Type 0
NoBetter start size s e = (s + size ≤ e) × (e ≡ s + size → start ≤ s)

-- What the search in a molecule of n bases knows, R s e being that the window from s to before e carries P: the best window so far has `size` bases from
-- `start`, or `size` is more than n; ..
pub record Sought (R : ℕ → ℕ → Type 0) (n start size next low : ℕ) : Type 0 where
  pub best : size ≤ n → (start + size ≤ n) × R start (start + size)
  pub before : start ≤ next
  -- no window from `next` that ends before `low` carries P;
  pub clear : (e : ℕ) → e < low → R next e → ⊥
  -- and a window from before `next` that carries P is no better than the best, or its part from `next` on carries P too.
  pub past : (s e : ℕ) → s < next → e ≤ n → R s e → NoBetter start size s e ⊎ R next e

-- The best window so far, as start and size: where there is none, `size` is one more than the n bases of the molecule.
abbrev pub start_of : Option Window → ℕ
start_of None = 0
start_of (Some w) = w.start

abbrev pub limit_of : ℕ → Option Window → ℕ
limit_of n None = n + 1
limit_of n (Some w) = w.length

-- The same of a motif, a molecule and how far the search has come, with the bounds of its numbers.
pub record Seek (p pm q qm : List ℕ) (at : Progress) : Type 0 where
  pub sought : Sought (Carried p pm q qm) (length q) (start_of at.best) (limit_of (length q) at.best) at.next at.low
  pub best_in : (w : Window) → at.best ≡ Some w → w.length ≤ length q
  pub size_in : limit_of (length q) at.best ≤ suc (length q)
  pub next_in : at.next ≤ length q
  pub low_in : at.low ≤ length q + length p + 1
  pub reach_in : at.reach ≤ length q

-- The search went from `old` to `new`: the best window is the same, the next start is so late that a window from there which is shorter than the best may end
-- at `low`, and P, of m bases, has room from there to the new `low`.
pub record Advanced (n m : ℕ) (old new : Progress) : Type 0 where
  pub best : new.best ≡ old.best
  pub later : old.low + 1 ≤ new.next + limit_of n new.best
  pub up : old.low ≤ new.low
  pub room : new.next + m ≤ new.low

-- The search is over: the best window is the tightest, or there is none.
pub record Found (p pm q qm : List ℕ) (best : Option Window) : Type 0 where
  pub tightest : (w : Window) → best ≡ Some w → IsTightest letters_match p pm q qm w.start w.length
  pub none : best ≡ None → EmbedsIn (strand_of p pm) (strand_of q qm) → ⊥
