use Rattle.std.proofs.Common.{◌≡◌, ℕ, List, length, sym, ap, subst, arith}
use Rattle.std.specs.Borrow.{Bor}
use Rattle.std.specs.List.{AllByRecursion}
use Rattle.fuxi_terms.specs.Tables.{spot}
use Rattle.preempt.specs.Shelves.{HasNothingOn}
use Rattle.fuxi_terms.proofs.MovesLemmas.{every}
use Rattle.preempt.proofs.Served.{passed_none}
use Rattle.preempt.proofs.ShelvesLemmas.{none_open, wanted_like}
use Rattle.fuxi_terms.specs.Cluster.{ClusterRecord}
use Rattle.preempt.specs.Given.{pair_of}
use Rattle.preempt.specs.Search.{GoesOn}
use Rattle.preempt.proofs.search.first_machine.Goals as goal

pub has_any_on-requires : goal.has_any_on-requires
has_any_on-requires g c = λ k d lt.
    let same = ap (λ (x : ClusterRecord). length x.machines) c.cluster-cluster.ensures.cluster in
    let a = c.loop-number-test.true in
    let b = c.machines-number-end.ensures.number in
    let wide_all = subst (AllByRecursion (λ (row : Bor (List ℕ)). length row.now ≡ length c.args.table.now.cluster.machines)) (sym c.deref.ensures.value) c.in_ok-rows.ensures.wide in
    let wide = every (λ (row : Bor (List ℕ)). length row.now ≡ length c.args.table.now.cluster.machines) c.deref.result.now k d lt wide_all in
    omega (arith, wide, a, b, same)

pub loop-number-preserved-then-not-has_any_on : goal.loop-number-preserved-then-not-has_any_on
loop-number-preserved-then-not-has_any_on g c =
    let t = c.args.table.now in
    let e = c.args.e.now in
    let n = c.loop-number.number in
    let s = spot e.app.0 e.unit.0 n in
    let nothing = subst (AllByRecursion (HasNothingOn n)) c.deref.ensures.value (c.has_any_on.ensures c.if-not-has_any_on.true) in
    passed_none t (g.P.Asking.usable c.args.placer.now) (pair_of e) n
    (none_open t c.args.stock.now.holders.now c.requires.stock.holders s (c.in_ok-rows.ensures.shut s (wanted_like t e.app.0 e.unit.0 n c.args.need.now c.requires.wanted) nothing))
    c.loop-number.invariant

pub plan_on-requires-clause-machine : goal.plan_on-requires-clause-machine
plan_on-requires-clause-machine g c =
    let same = ap (λ (x : ClusterRecord). length x.machines) c.cluster-cluster.ensures.cluster in
    let a = c.loop-number-test.true in
    let b = c.machines-number-end.ensures.number in
    omega (arith, a, b, same)

pub returns-in-Some : goal.returns-in-Some
returns-in-Some g c = subst (GoesOn c.args.table.now (g.P.Asking.usable c.args.placer.now) (pair_of c.args.e.now) c.loop-number.number) c.in-Some.is c.in_ok-plan.ensures c.loop-number.invariant

pub loop-number-preserved : goal.loop-number-preserved
loop-number-preserved g c = subst (GoesOn c.args.table.now (g.P.Asking.usable c.args.placer.now) (pair_of c.args.e.now) c.loop-number.number) c.in-None.is c.in_ok-plan.ensures c.loop-number.invariant
