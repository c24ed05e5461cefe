use Rattle.std.proofs.Common.{rules, ◌<◌, true, length, set, get_or, take, ◌∙◌, arith}
use Rattle.std.proofs.lemmas.List.{length-set}
use Rattle.preempt.specs.Walks.{HasItsPriority}
use Rattle.preempt.proofs.Priorities.{present_more, present_here}
use Rattle.preempt.proofs.Served.{no_entry}
use Rattle.preempt.proofs.ShelvesLemmas.{all_more_one}
use Rattle.preempt.proofs.walk.priorities_of.Goals as goal

pub loop-e-preserved : goal.loop-e-preserved
loop-e-preserved c =
    let es = c.args.units.now in
    let k = c.loop-e.e-index in
    let e = get_or es k no_entry in
    let present = c.loop-e.present in
    let long = c.loop-e.invariant.long in
    let inside : e.priority < length present = (let r : e.priority < 256 = search rules in omega (arith, long, r)) in
    record {
      long = length-set present e.priority true ∙ long;
      each = all_more_one (HasItsPriority (set present e.priority true)) es k no_entry c.loop-e-test.true
          (present_more present e.priority inside (take k es) c.loop-e.invariant.each)
          (present_here present e inside);
    }
