use Rattle.std.proofs.Common.{◌≡◌, ◌-◌, None, map, take, sym, subst, arith}
use Rattle.spec_roles.specs.Preemption.{first_plan_in, falling_priorities}
use Rattle.preempt.specs.Given.{board_at, pair_of}
use Rattle.preempt.specs.Search.{IsFound, pairs_at}
use Rattle.preempt.proofs.Priorities.{search_without}
use Rattle.preempt.proofs.Served.{down_to, passed_priority, found_priority}
use Rattle.preempt.proofs.search.first_of_all.Goals as goal

pub returns-in-Some : goal.returns-in-Some
returns-in-Some g c =
    let t = c.args.table.now in
    let usable = g.P.Asking.usable c.args.placer.now in
    let line = map pair_of c.args.waiting.now in
    let late = c.loop-late.late in
    let found = subst (IsFound t usable (pairs_at t usable (9 - late) line)) c.in-Some.is c.in_ok-plan.ensures in
    record { is = found_priority t usable line late c.in-Some.plan c.loop-late-test.true found c.loop-late.invariant; made = found.made }

pub loop-late-preserved : goal.loop-late-preserved
loop-late-preserved g c =
    let t = c.args.table.now in
    let usable = g.P.Asking.usable c.args.placer.now in
    let line = map pair_of c.args.waiting.now in
    let late = c.loop-late.late in
    let found = subst (IsFound t usable (pairs_at t usable (9 - late) line)) c.in-None.is c.in_ok-plan.ensures in
    passed_priority t usable line late c.loop-late-test.true found c.loop-late.invariant

pub loop-late-preserved-then-not-present-priority : goal.loop-late-preserved-then-not-present-priority
loop-late-preserved-then-not-present-priority g c =
    let t = c.args.table.now in
    let usable = g.P.Asking.usable c.args.placer.now in
    let late = c.loop-late.late in
    let waiting = c.args.waiting.now in
    let found = search_without c.priorities_of-present.result (9 - late) c.if-not-present-priority.true t usable waiting c.requires.entries c.priorities_of-present.ensures in
    passed_priority t usable (map pair_of waiting) late c.loop-late-test.true found c.loop-late.invariant

pub returns : goal.returns
returns g c =
    let t = c.args.table.now in
    let usable = g.P.Asking.usable c.args.placer.now in
    let line = map pair_of c.args.waiting.now in
    let end : c.loop-late.late ≡ 10 = let a = c.loop-late.auto.late-end in let b = c.loop-late-test.false in omega (arith, a, b) in
    record { is = sym (subst (λ n. first_plan_in (down_to t usable line (take n falling_priorities)) (board_at t usable) t.entries ≡ None) end c.loop-late.invariant); made = tt }
