use Rattle.std.proofs.Common.{◌<◌, length, ap, subst, arith}
use Rattle.preempt.proofs.MachineRoomsLemmas.{machine_beyond}
use Rattle.preempt.proofs.Served.{passed_none}
use Rattle.fuxi_terms.specs.Cluster.{ClusterRecord}
use Rattle.preempt.specs.Given.{pair_of}
use Rattle.preempt.specs.Search.{GoesOn}
use Rattle.preempt.proofs.search.first_within.Goals as goal

pub is_beyond-requires-clause-inside : goal.is_beyond-requires-clause-inside
is_beyond-requires-clause-inside g c =
    let same = ap (λ (x : ClusterRecord). length x.machines) c.cluster-cluster.ensures.cluster in
    let a = c.loop-number-test.true in
    let b = c.machines-number-end.ensures.number in
    let long = c.requires.rooms.long in
    omega (arith, a, b, same, long)

pub loop-number-preserved-then-is_beyond : goal.loop-number-preserved-then-is_beyond
loop-number-preserved-then-is_beyond g c =
    let t = c.args.table.now in
    let e = c.args.e.now in
    let n = c.loop-number.number in
    let same = ap (λ (x : ClusterRecord). length x.machines) c.cluster-cluster.ensures.cluster in
    let there : n < length t.cluster.machines = let a = c.loop-number-test.true in let b = c.machines-number-end.ensures.number in omega (arith, a, b, same) in
    passed_none t (g.P.Asking.usable c.args.placer.now) (pair_of e) n
    (machine_beyond t e c.requires.entry c.args.need.now c.requires.wanted c.args.rooms.now n c.requires.rooms there (c.is_beyond.ensures c.if-is_beyond.true))
    c.loop-number.invariant

pub plan_on-requires-clause-machine : goal.plan_on-requires-clause-machine
plan_on-requires-clause-machine g c =
    let same = ap (λ (x : ClusterRecord). length x.machines) c.cluster-cluster.ensures.cluster in
    let a = c.loop-number-test.true in
    let b = c.machines-number-end.ensures.number in
    omega (arith, a, b, same)

pub returns-in-Some : goal.returns-in-Some
returns-in-Some g c = subst (GoesOn c.args.table.now (g.P.Asking.usable c.args.placer.now) (pair_of c.args.e.now) c.loop-number.number) c.in-Some.is c.in_ok-plan.ensures c.loop-number.invariant

pub loop-number-preserved : goal.loop-number-preserved
loop-number-preserved g c = subst (GoesOn c.args.table.now (g.P.Asking.usable c.args.placer.now) (pair_of c.args.e.now) c.loop-number.number) c.in-None.is c.in_ok-plan.ensures c.loop-number.invariant
