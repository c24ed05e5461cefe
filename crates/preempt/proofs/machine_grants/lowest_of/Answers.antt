use Rattle.std.proofs.Common.{◌<◌, [], get_or, set, take, ◌∙◌}
use Rattle.std.proofs.lemmas.List.{length-set}
use Rattle.preempt.specs.declared.entry.Entry.{Entry}
use Rattle.preempt.specs.Shelves.{IsLow}
use Rattle.preempt.proofs.ShelvesLemmas.{all_more_one, low_more, low_here}
use Rattle.preempt.proofs.machine_grants.lowest_of.Goals as goal

pub loop-e-preserved : goal.loop-e-preserved
loop-e-preserved c =
    let es = c.args.entries.now in
    let k = c.loop-e.e-index in
    let no_entry : Entry = record { app = record { 0 = 0 }; unit = record { 0 = 0 }; group = 0; priority = 0; count = 0; size = record { ref_ptr = (0, 0); now = record { q = [] } } } in
    let e = get_or es k no_entry in
    let long = c.loop-e.invariant.long in
    let inside : e.group < 32 = c.requires k no_entry c.loop-e-test.true in
    record {
      long = length-set c.loop-e.lowest e.group c.min.result ∙ long;
      low = all_more_one (IsLow (set c.loop-e.lowest e.group c.min.result)) es k no_entry c.loop-e-test.true
          (low_more c.loop-e.lowest e.group e.priority c.min.result long inside c.min.ensures (take k es) c.loop-e.invariant.low)
          (low_here c.loop-e.lowest e c.min.result long inside c.min.ensures);
    }
