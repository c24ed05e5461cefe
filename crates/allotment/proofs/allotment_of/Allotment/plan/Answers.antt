use Rattle.std.proofs.Common.{◌≡◌, ◌<◌, Some, None, sym, subst}
use Rattle.std.specs.Prelude.{Option}
use Rattle.std.specs.Option.{option_map}
use Rattle.fuxi_terms.specs.Jobs.{unit_count}
use Rattle.fuxi_terms.specs.Tables.{held_on}
use Rattle.grant_table.specs.GrantTables.{as_known}
use Rattle.spec_roles.specs.Placing.{Board}
use Rattle.spec_roles.specs.Preemption.{plan_in}
use Rattle.place_pass.specs.Placers.{IsUpToDate, usable_in}
use Rattle.preempt.specs.declared.plan.Plan.{Plan}
use Rattle.preempt.specs.Plans.{IsBoardOf, plan_as}
use Rattle.allotment.specs.PlacingReads.{IsPlacing}
use Rattle.allotment.specs.Allotted.{AllotmentRecord}
use Rattle.allotment.proofs.PlanBoards.{line_admitted, planned, served_waits}
use Rattle.allotment.proofs.allotment_of.Allotment.plan.Goals as goal

pub find_from-requires-clause-line : goal.find_from-requires-clause-line
find_from-requires-clause-line g c =
    let t = c.self.inside.table in
    let s = c.self.inside.placer.seen in
    let up = subst (λ (x : AllotmentRecord). IsUpToDate x.placer.seen x.table) (sym c.self.view_is) c.requires in
    c.lines.ensures s.line (unit_count (as_known t.jobs)) (line_admitted t s up)

pub returns-clause-plan : goal.returns-clause-plan
returns-clause-plan g c k M allots =
    let t = c.self.inside.table in
    let p = c.self.inside.placer in
    planned t p.seen (Some c.in-Some.plan) (λ a. c.levels.ensures.units p t a c.self.invariant.level) (subst (λ (o : Option Plan). (B : Board) → IsBoardOf B t (usable_in p.seen) → option_map plan_as o ≡ plan_in B t.entries p.seen.line) c.in-Some.is c.in_ok-found.ensures.plan) k M
    (subst (λ (x : AllotmentRecord). IsPlacing x.table x.placer.seen k M) (sym c.self.view_is) allots.placing)

pub returns-in_default-clause-plan : goal.returns-in_default-clause-plan
returns-in_default-clause-plan g c k M allots =
    let t = c.self.inside.table in
    let p = c.self.inside.placer in
    planned t p.seen None (λ a. c.levels.ensures.units p t a c.self.invariant.level) (subst (λ (o : Option Plan). (B : Board) → IsBoardOf B t (usable_in p.seen) → option_map plan_as o ≡ plan_in B t.entries p.seen.line) c.in_default.is c.in_ok-found.ensures.plan) k M
    (subst (λ (x : AllotmentRecord). IsPlacing x.table x.placer.seen k M) (sym c.self.view_is) allots.placing)

pub returns-clause-few : goal.returns-clause-few
returns-clause-few g c =
    let t = c.self.inside.table in
    let s = c.self.inside.placer.seen in
    let p = c.in-Some.plan in
    let up = subst (λ (x : AllotmentRecord). IsUpToDate x.placer.seen x.table) (sym c.self.view_is) c.requires in
    let waits = served_waits c.planning.ensures.first t s p up (subst (λ (o : Option Plan). (B : Board) → IsBoardOf B t (usable_in s) → option_map plan_as o ≡ plan_in B t.entries s.line) c.in-Some.is c.in_ok-found.ensures.plan) in
    subst (λ (x : AllotmentRecord). held_on x.table.entries p.pick.app.0 p.pick.unit.0 p.pick.machine.0 < 100000) c.self.view_is (c.outstanding-outstanding.ensures.few p.pick.machine.0 (subst (λ n. 0 < n) (sym c.outstanding-outstanding.ensures.outstanding) waits))
