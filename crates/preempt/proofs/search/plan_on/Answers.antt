use Rattle.std.proofs.Common.{◌≡◌, None, Some, sym, ◌∙◌, ap, subst}
use Rattle.std.specs.Prelude.{MatchOption, IfSome}
use Rattle.fuxi_terms.specs.Tables.{spot}
use Rattle.spec_roles.specs.Preemption.{victims_in}
use Rattle.preempt.specs.Given.{board_of, pair_of}
use Rattle.preempt.specs.Plans.{AreTakable, losers_of}
use Rattle.preempt.specs.Shelves.{IsWalked}
use Rattle.preempt.proofs.CountedAsWritten.{at_index}
use Rattle.preempt.proofs.Served.{passed_closed, passed_without, found_here}
use Rattle.preempt.proofs.search.plan_on.Goals as goal

pub returns-then-not-accepts : goal.returns-then-not-accepts
returns-then-not-accepts g c = λ passed. passed_closed c.args.table.now (g.P.Asking.usable c.args.placer.now) (pair_of c.args.e.now) c.args.machine.0 (sym c.accepts.ensures ∙ c.if-not-accepts.true) passed

pub machine_grants_of-shelf-requires-clause-entries : goal.machine_grants_of-shelf-requires-clause-entries
machine_grants_of-shelf-requires-clause-entries g c = subst (IsWalked c.args.table.now c.args.machine.0) (sym c.deref.ensures.value) c.in_ok-entries.ensures

pub victims_for-requires-clause-few : goal.victims_for-requires-clause-few
victims_for-requires-clause-few g c = c.machine_grants_of-shelf.ensures.shelf.few

pub victims_for-requires-clause-small : goal.victims_for-requires-clause-small
victims_for-requires-clause-small g c = λ k d lt. (at_index _ c.machine_grants_of-shelf.result.entries.now k d lt c.machine_grants_of-shelf.ensures.shelf.each).small

pub victims_for-requires-clause-long : goal.victims_for-requires-clause-long
victims_for-requires-clause-long g c = c.requires.stock.groups.long

pub returns-in-Some : goal.returns-in-Some
returns-in-Some g c = λ passed.
    let t = c.args.table.now in
    let e = c.args.e.now in
    let n = c.args.machine.0 in
    let sound = c.is_sound.ensures in
    let shelf = c.machine_grants_of-shelf.ensures.shelf in
    let vs = c.of-victims.result in
    let found : victims_in (board_of t) t.entries (spot e.app.0 e.unit.0 n) ≡ Some (losers_of n vs) =
    subst (λ o. MatchOption o (victims_in (board_of t) t.entries (spot e.app.0 e.unit.0 n) ≡ None) (λ xs. victims_in (board_of t) t.entries (spot e.app.0 e.unit.0 n) ≡ Some (losers_of n xs.items))) c.in-Some.is (c.in_ok-victims.ensures.found t n sound c.requires.stock.groups c.requires.entry c.requires.wanted shelf)
    ∙ ap (λ xs. Some (losers_of n xs)) (sym c.of-victims.ensures) in
    let takable : AreTakable t n vs =
    subst (AreTakable t n) (sym c.of-victims.ensures) (subst (λ o. IfSome o (λ xs. AreTakable t n xs.items)) c.in-Some.is (c.in_ok-victims.ensures.takable t n sound c.requires.stock.groups c.requires.entry c.requires.wanted shelf)) in
    found_here t (g.P.Asking.usable c.args.placer.now) (record { pick = record { app = e.app; unit = e.unit; machine = record { 0 = n } }; victims = vs }) sound c.requires.entry.unit c.requires.machine
    (sym c.accepts.ensures ∙ c.if-not-accepts.false) found takable passed

pub returns : goal.returns
returns g c = λ passed.
    let t = c.args.table.now in
    let e = c.args.e.now in
    let n = c.args.machine.0 in
    let none : victims_in (board_of t) t.entries (spot e.app.0 e.unit.0 n) ≡ None =
    subst (λ o. MatchOption o (victims_in (board_of t) t.entries (spot e.app.0 e.unit.0 n) ≡ None) (λ xs. victims_in (board_of t) t.entries (spot e.app.0 e.unit.0 n) ≡ Some (losers_of n xs.items))) c.in-None.is (c.in_ok-victims.ensures.found t n c.is_sound.ensures c.requires.stock.groups c.requires.entry c.requires.wanted c.machine_grants_of-shelf.ensures.shelf) in
    passed_without t (g.P.Asking.usable c.args.placer.now) (pair_of e) n (sym c.accepts.ensures ∙ c.if-not-accepts.false) none passed
