-- `batch::answer_accepted` meets its contract: the maps that the search leaves tell what each query has to search and its hits.
use lib.ListN.{length}
use Rattle.calls.proofs.BatchLaws.{batch_facts}
use Rattle.batch.proofs.Telling as laws
use Rattle.batch.proofs.answer_accepted.Goals as goal

pub new-motifs-requires : goal.new-motifs-requires
new-motifs-requires c =
    (batch_facts c.args.catalog.now c.args.cache.now c.args.motifs.now (length c.args.work.now) (length c.args.hits.now) c.requires.0).1

pub find-x-requires : goal.find-x-requires
find-x-requires c =
    let f = batch_facts c.args.catalog.now c.args.cache.now c.args.motifs.now (length c.args.work.now) (length c.args.hits.now) c.requires.0 in
    rw c.new-motifs.ensures record { usable = f.0; work_of = record { room = f.3 }; sound = c.requires.1 }

pub answer_all-counts-requires : goal.answer_all-counts-requires
answer_all-counts-requires c =
    rw c.new-motifs.ensures (laws.batching c.args.catalog.now c.args.cache.now c.args.motifs.now (length c.args.work.now) c.args.hits.now
    c.requires.0 c.requires.1 (rw c.new-motifs.ensures at c.find-x.ensures))

pub returns : goal.returns
returns c =
    laws.batch_answered c.args.catalog.now c.args.cache.now c.args.motifs.now (length c.args.work.now) c.args.hits.now c.requires.0 c.requires.1
    (rw c.new-motifs.ensures at c.find-x.ensures) _ _ _ _
    (rw c.new-motifs.ensures at c.answer_all-counts.ensures.2)
    (rw (c.count.ensures, c.block_count.ensures, c.new-motifs.ensures) at c.count_all-searched.ensures)
    (rw c.new-motifs.ensures at c.answer_all-counts.ensures.0)
    (rw c.new-motifs.ensures at c.answer_all-counts.ensures.1)
