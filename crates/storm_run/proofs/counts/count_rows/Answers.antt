use Rattle.std.proofs.Common.{arith, rules}
use Rattle.party_ledgers.specs.Entries.{entry_of}
use Rattle.storm_run.proofs.CountsLemmas.{rows_more}
use Rattle.storm_run.proofs.counts.count_rows.Goals as goal

pub loop-index-preserved : goal.loop-index-preserved
loop-index-preserved c = record {
  sum = rows_more c.args.table.now c.loop-index.index c.loop-index.total (entry_of c.at.result) c.at.ensures.entry c.loop-index.invariant.sum;
  few = first_of (omega arith, search rules);
}
