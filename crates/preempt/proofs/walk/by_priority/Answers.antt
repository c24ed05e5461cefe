use Rattle.std.proofs.Common.{◌≡◌, ◌∙◌, ap, arith}
use Rattle.preempt.specs.Walks.{entries_by_priority}
use Rattle.preempt.proofs.Priorities.{walk_without}
use Rattle.preempt.proofs.walk.by_priority.Goals as goal

pub loop-priority-preserved-then-not-present-priority : goal.loop-priority-preserved-then-not-present-priority
loop-priority-preserved-then-not-present-priority c = c.loop-priority.invariant ∙ walk_without c.priorities_of-present.result c.loop-priority.priority c.if-not-present-priority.true c.args.units.now c.priorities_of-present.ensures

pub returns : goal.returns
returns c =
    let end : c.loop-priority.priority ≡ 10 = let a = c.loop-priority.auto.priority-end in let b = c.loop-priority-test.false in omega (arith, a, b) in
    c.loop-priority.invariant ∙ ap (entries_by_priority c.args.units.now) end
