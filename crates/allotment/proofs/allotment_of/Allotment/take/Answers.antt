use Rattle.std.proofs.Common.{◌<◌, ◌-◌, length, map, sym, subst, ◌∙◌, ap, arith}
use Rattle.std.specs.Prelude.{T}
use Rattle.std.specs.FinMap.Entries.{is_sorted}
use Rattle.fuxi_terms.specs.Counts.{AreCounts, count}
use Rattle.fuxi_terms.specs.Jobs.{unit_count}
use Rattle.fuxi_terms.specs.Keys.{spot_cmp}
use Rattle.fuxi_terms.specs.Limits.{greatest_count}
use Rattle.fuxi_terms.specs.Tables.{spot}
use Rattle.grant_table.specs.GrantTables.{TableRecord, as_known, without_count}
use Rattle.place_pass.specs.Best.{spot_of}
use Rattle.allotment.specs.Allotted.{AllotmentRecord, Allots, allotment_record, told_at}
use Rattle.allotment.proofs.Fewer.{IsFewer, fewer_told, told_as}
use Rattle.allotment.proofs.OnlyTakesLemmas.{takes_some, none_fewer}
use Rattle.allotment.proofs.allotment_of.Allotment.take.Goals as goal
use Rattle.allotment.proofs.allotment_of.Allotment.take.Goals.{After-is_sound-2}

pub changed-requires-clause-cluster : goal.changed-requires-clause-cluster
changed-requires-clause-cluster c = c.levels.ensures.cluster c.self.inside.placer c.self.inside.table c.self.invariant.level ∙ sym (ap (λ (t : TableRecord). t.cluster) c.take.ensures)

pub changed-requires-clause-here : goal.changed-requires-clause-here
changed-requires-clause-here c =
    let there = subst (λ (x : AllotmentRecord). c.args.unit.0 < unit_count (as_known x.table.jobs) c.args.app.0) (sym c.self.view_is) c.requires.unit in
    subst (λ n. c.args.unit.0 < n) (sym (c.levels.ensures.units c.self.inside.placer c.self.inside.table c.args.app.0 c.self.invariant.level)) there

pub changed-requires-clause-there : goal.changed-requires-clause-there
changed-requires-clause-there c =
    let there = subst (λ (x : AllotmentRecord). c.args.unit.0 < unit_count (as_known x.table.jobs) c.args.app.0) (sym c.self.view_is) c.requires.unit in
    subst (λ (t : TableRecord). c.args.unit.0 < unit_count (as_known t.jobs) c.args.app.0) (sym c.take.ensures) there

pub changed-requires-clause-machine : goal.changed-requires-clause-machine
changed-requires-clause-machine c =
    let there = subst (λ (x : AllotmentRecord). c.args.machine.0 < length x.table.cluster.machines) (sym c.self.view_is) c.requires.machine in
    subst (λ (t : TableRecord). c.args.machine.0 < length t.cluster.machines) (sym c.take.ensures) there

pub invariant_of-self-2 : goal.invariant_of-self-2
invariant_of-self-2 c =
    let t = c.self.inside.table in
    let s = spot c.args.app.0 c.args.unit.0 c.args.machine.0 in
    record {
      level = c.changed.ensures.level t c.self.invariant.level (record { sound = c.self.invariant.sound; number = count spot_cmp t.entries s - c.args.count; is = c.take.ensures });
      sound = c.is_sound-2.ensures;
      learned = c.nothing-self-inside.ensures _ _ _;
    }

fewer : (c : After-is_sound-2) → IsFewer (spot c.args.app.0 c.args.unit.0 c.args.machine.0) c.args.count c.args.self.now (allotment_record c.take.new.self c.changed.new.self c.push.new.self.items)
fewer c =
    let x = c.args.self.now in
    let v = c.self.inside in
    let n = c.args.count in
    let s = spot c.args.app.0 c.args.unit.0 c.args.machine.0 in
    let sorted = subst (λ (r : AllotmentRecord). T (is_sorted spot_cmp r.table.entries)) c.self.view_is c.self.invariant.sound.counts.sorted in
    let told = told_as c.take.new.self v.placer c.changed.new.self v.touched.items c.push.new.self.items (record { app = c.args.app; unit = c.args.unit; machine = c.args.machine }) c.in_ok-push.ensures.items c.changed.ensures.seen c.changed.ensures.idle in
    let same = told ∙ ap (λ (t : TableRecord). told_at t v.placer.seen (map spot_of v.touched.items) s) c.take.ensures
    ∙ ap (λ (r : AllotmentRecord). told_at (record r.table { entries = without_count r.table.entries s n }) r.placer.seen r.touched s) c.self.view_is in
    subst (IsFewer s n x) (sym same) (fewer_told c.set_numbers.ensures.held x sorted c.requires.waits c.args.app.0 c.args.unit.0 c.args.machine.0 n)

pub returns-clause-stands : goal.returns-clause-stands
returns-clause-stands c = (fewer c).stands

pub returns-clause-waits : goal.returns-clause-waits
returns-clause-waits c = (fewer c).waits

pub returns-clause-touches : goal.returns-clause-touches
returns-clause-touches c = (fewer c).touches

pub returns-clause-table : goal.returns-clause-table
returns-clause-table c = (fewer c).table

pub returns-clause-takes : goal.returns-clause-takes
returns-clause-takes c = takes_some c.args.self.now _ (spot c.args.app.0 c.args.unit.0 c.args.machine.0) c.args.count (let z = c.if-count-eq0.false in omega (arith, z)) c.requires.held (fewer c).table

pub returns-then-count-eq0-clause-stands : goal.returns-then-count-eq0-clause-stands
returns-then-count-eq0-clause-stands c k M h =
    let x = c.args.self.now in
    let s = spot c.args.app.0 c.args.unit.0 c.args.machine.0 in
    let none = none_fewer x.table.entries s c.args.count (subst (λ (r : AllotmentRecord). AreCounts spot_cmp (λ s. greatest_count) r.table.entries) c.self.view_is c.self.invariant.sound.counts) c.if-count-eq0.true in
    let same = ap (λ es. without_count es s c.args.count) (sym h.placing.entries) ∙ none ∙ h.placing.entries in
    subst (λ es. Allots x k (record M { table = es })) (sym same) h

pub returns-then-count-eq0-clause-table : goal.returns-then-count-eq0-clause-table
returns-then-count-eq0-clause-table c =
    let x = c.args.self.now in
    let none = none_fewer x.table.entries (spot c.args.app.0 c.args.unit.0 c.args.machine.0) c.args.count (subst (λ (r : AllotmentRecord). AreCounts spot_cmp (λ s. greatest_count) r.table.entries) c.self.view_is c.self.invariant.sound.counts) c.if-count-eq0.true in
    ap (λ es. record x.table { entries = es }) (sym none)
