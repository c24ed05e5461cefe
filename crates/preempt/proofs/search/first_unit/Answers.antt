use Rattle.std.proofs.Common.{get_or, subst, arith}
use Rattle.std.proofs.lemmas.Bool.Decides.{nat_tests}
use Rattle.preempt.specs.Given.{pair_of}
use Rattle.preempt.specs.Search.{IsFound, pairs_on}
use Rattle.preempt.proofs.Served.{no_entry, of_priority_at, passed_unit, found_unit}
use Rattle.preempt.proofs.search.first_unit.Goals as goal

pub returns-in-Some : goal.returns-in-Some
returns-in-Some g c =
    let t = c.args.table.now in
    let es = c.args.waiting.now in
    let k = c.loop-e.e-index in
    let usable = g.P.Asking.usable c.args.placer.now in
    let f = c.if-e-priority.false in
    found_unit t usable c.args.priority es k no_entry c.in-Some.plan c.loop-e-test.true (of_priority_at t c.args.priority es k c.loop-e-test.true c.requires.entries (grind (arith, nat_tests, f)))
    (subst (IsFound t usable (pairs_on t usable (pair_of (get_or es k no_entry)))) c.in-Some.is c.in_ok-plan.ensures.found) c.loop-e.invariant.passed

pub loop-e-preserved : goal.loop-e-preserved
loop-e-preserved g c =
    let t = c.args.table.now in
    let es = c.args.waiting.now in
    let k = c.loop-e.e-index in
    let usable = g.P.Asking.usable c.args.placer.now in
    let f = c.if-e-priority.false in
    record {
      passed = passed_unit t usable c.args.priority es k no_entry c.loop-e-test.true (of_priority_at t c.args.priority es k c.loop-e-test.true c.requires.entries (grind (arith, nat_tests, f)))
          (subst (IsFound t usable (pairs_on t usable (pair_of (get_or es k no_entry)))) c.in-None.is c.in_ok-plan.ensures.found) c.loop-e.invariant.passed;
      kinds = c.in_ok-plan.ensures.kinds;
    }
