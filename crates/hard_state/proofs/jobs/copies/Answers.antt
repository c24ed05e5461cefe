use Rattle.std.proofs.Common.{◌≡◌, ap, arith}
use Rattle.fuxi_terms.specs.Cluster.{JobRecord}
use Rattle.fuxi_terms.specs.Jobs.{KnownJob}
use Rattle.hard_state.specs.HardFiles.{known_job}
use Rattle.hard_state.proofs.IndexLemmas.{copied_more}
use Rattle.hard_state.proofs.jobs.copies.Goals as goal

pub loop-entry-preserved : goal.loop-entry-preserved
loop-entry-preserved c =
    let entry = c.entry-item.result in
    let same : ◌≡◌ {A = KnownJob} (record { job = c.in_ok-copy.field-0; ended = entry.ended }) (known_job entry) = ap {B = KnownJob} (λ (j : JobRecord). record { job = j; ended = entry.ended }) c.in_ok-copy.ensures in
    record {
      same = copied_more known_job c.args.jobs.now c.loop-entry.copies.items c.push.new.self.items c.loop-entry.entry-index entry _ c.loop-entry-test.true c.in_ok-push.ensures.items same c.entry-item.is c.loop-entry.invariant.same;
      room = omega (arith, c.loop-entry.invariant.room, c.push.ensures.capacity);
    }
