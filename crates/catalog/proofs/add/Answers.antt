-- `catalog::add` meets its contract.
-- A refusal of the judge is the answer, and no buffer is written. Else the writers leave every cache block cleaned and the molecule in
-- block d, and the fold is that of its mates, which are nested: that is `add_outcome`.
use native.Mathlib.Omega.{arith}
use mathlib.Core.Path.{sym, ap, ◌∙◌}
use Rattle.refusals.proofs.RuleLaws.{handed_on}
use Rattle.calls.specs.Calls.{effect}
use Rattle.calls.proofs.FactLaws as fact
use Rattle.strand.specs.Lent.{lent}
use Rattle.strand.proofs.VerdictLaws.{proper_mates}
use Rattle.calls.proofs.Claims as claim
use Rattle.calls.proofs.CallLaws as call
use Rattle.buffer.proofs.OutcomeLaws as outcome
use Rattle.catalog.proofs.add.Goals as goal

pub returns-in_err-judge_add : goal.returns-in_err-judge_add
returns-in_err-judge_add c =
    ap (λ r. effect r c.args.catalog.now c.args.cache.now) (handed_on _ c.from_residual.ensures.1)
    ∙ sym (claim.add_refused c.args.catalog.now c.args.cache.now c.args.d
    (lent c.args.molecule.now) _
    (sym c.judge_add.ensures ∙ c.in_err-judge_add.was))

pub fold_of-requires : goal.fold_of-requires
fold_of-requires c =
    let all = proper_mates (omega arith) (fact.add_facts c.args.catalog.now c.args.cache.now c.args.d
    (lent c.args.molecule.now) (sym c.judge_add.ensures ∙ c.in_ok-judge_add.was)).1 in record {
      nested = all.0;
      mates_len_bound = all.1;
    }

pub returns : goal.returns
returns c =
    let accepted = sym c.judge_add.ensures ∙ c.in_ok-judge_add.was in
    let f = fact.add_facts c.args.catalog.now c.args.cache.now c.args.d
    (lent c.args.molecule.now) accepted in
    call.add_done c.args.catalog.now c.args.cache.now c.args.d
    (lent c.args.molecule.now) c.fold_of.result c.put_molecule.new.buf
    c.clean_all.new.s accepted c.fold_of.ensures
    (outcome.molecule_put_there c.args.d c.args.molecule.now.bases.now c.args.molecule.now.mates.now c.args.catalog.now
    c.put_molecule.result c.put_molecule.new.buf f.0 f.1.small f.1.same
    c.put_molecule.ensures)
    c.clean_all.ensures
