use Rattle.std.proofs.Common.{ℕ, ◌+◌, ◌≤◌, sym, subst, arith}
use Rattle.fuxi_terms.specs.Cluster.{has_at}
use Rattle.fuxi_terms.specs.Counts.{AreCounts}
use Rattle.fuxi_terms.specs.Jobs.{size_at}
use Rattle.fuxi_terms.specs.Keys.{spot_cmp}
use Rattle.fuxi_terms.specs.Limits.{greatest_count}
use Rattle.fuxi_terms.specs.Tables.{total_at, with_grant, Table}
use Rattle.spec_roles.specs.Masters.{Master}
use Rattle.spec_roles.specs.Placing.{line_up}
use Rattle.grant_table.specs.GrantTables.{TableRecord, as_known}
use Rattle.place_pass.specs.Best.{spot_of}
use Rattle.preempt.specs.Plans.{without_victims}
use Rattle.allotment.specs.Allotted.{AllotmentRecord, Allots}
use Rattle.allotment.proofs.ClearsLemmas.{touched_again, touched_still}
use Rattle.allotment.proofs.allotment_of.Allotment.carry_out.Goals as goal

pub add-requires-clause-room : goal.add-requires-clause-room
add-requires-clause-room c =
    let p = c.args.plan.now.pick in
    let room = subst (λ (t : TableRecord). (i : ℕ) → total_at (as_known t.jobs) p.machine.0 i t.entries + size_at (as_known t.jobs) p.app.0 p.unit.0 i ≤ has_at t.cluster p.machine.0 i) (sym c.in_ok-take_victims.ensures.table) c.requires.made.room in
    λ i. let le = room i in omega (arith, le)

pub returns-clause-stands : goal.returns-clause-stands
returns-clause-stands c k M allots =
    let p = c.args.plan.now.pick in
    let vs = c.args.plan.now.victims in
    let m = p.machine.0 in
    let here : AreCounts spot_cmp (λ s. greatest_count) c.args.self.now.table.entries = subst (λ (r : AllotmentRecord). AreCounts spot_cmp (λ s. greatest_count) r.table.entries) c.self.view_is c.is_sound.ensures.counts in
    let counts : AreCounts spot_cmp (λ s. greatest_count) M.table = subst (AreCounts spot_cmp (λ s. greatest_count)) allots.placing.entries here in
    let taken : Master = record M { table = without_victims M.table m vs } in
    let made : Master = record M { table = with_grant (without_victims M.table m vs) (spot_of p) } in
    let x = c.line_up.new.self in
    let up = c.line_up.ensures.stands k _ (c.in_ok-add.ensures.stands k taken (c.in_ok-take_victims.ensures.stands k M allots)) in
    subst (λ (es : Table). Allots x k (line_up (record M { table = with_grant es (spot_of p) }))) (c.taking.ensures.singly M.table m vs counts) (subst (Allots x k) (c.lines_alike.ensures made) up)

pub returns-clause-spots : goal.returns-clause-spots
returns-clause-spots c = touched_still c.args.self.now c.add.new.self c.line_up.new.self (touched_again c.args.self.now c.take_victims.new.self c.add.new.self c.in_ok-take_victims.ensures.touches c.in_ok-add.ensures.touches) c.line_up.ensures.table c.line_up.ensures.touched
