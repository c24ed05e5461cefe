use Rattle.std.proofs.Common.{ℕ, ◌+◌, ◌*◌, ◌≤◌, ◌<◌, length, map, sym, subst, ◌∙◌, ap}
use Rattle.std.specs.Prelude.{T}
use Rattle.std.specs.FinMap.Entries.{is_sorted}
use Rattle.fuxi_terms.specs.Cluster.{has_at}
use Rattle.fuxi_terms.specs.Counts.{count}
use Rattle.fuxi_terms.specs.Jobs.{size_at, unit_count}
use Rattle.fuxi_terms.specs.Keys.{spot_cmp}
use Rattle.fuxi_terms.specs.Tables.{total_at}
use Rattle.grant_table.specs.GrantTables.{TableRecord, as_known, with_count}
use Rattle.place_pass.specs.Best.{spot_of}
use Rattle.allotment.specs.Allotted.{AllotmentRecord, Adds, told_at}
use Rattle.allotment.proofs.AddsLemmas.{adds_told}
use Rattle.allotment.proofs.Fewer.{told_as}
use Rattle.allotment.proofs.allotment_of.Allotment.add.Goals as goal

pub add-requires-clause-room : goal.add-requires-clause-room
add-requires-clause-room c =
    let p = c.args.pick in
    subst (λ (x : AllotmentRecord). (i : ℕ) → total_at (as_known x.table.jobs) p.machine.0 i x.table.entries + c.args.count * size_at (as_known x.table.jobs) p.app.0 p.unit.0 i ≤ has_at x.table.cluster p.machine.0 i) (sym c.self.view_is) c.requires.room

pub changed-requires-clause-cluster : goal.changed-requires-clause-cluster
changed-requires-clause-cluster c = c.levels.ensures.cluster c.self.inside.placer c.self.inside.table c.self.invariant.level ∙ sym (ap (λ (t : TableRecord). t.cluster) c.add.ensures)

pub changed-requires-clause-here : goal.changed-requires-clause-here
changed-requires-clause-here c =
    let p = c.args.pick in
    let there = subst (λ (x : AllotmentRecord). p.unit.0 < unit_count (as_known x.table.jobs) p.app.0) (sym c.self.view_is) c.requires.unit in
    subst (λ n. p.unit.0 < n) (sym (c.levels.ensures.units c.self.inside.placer c.self.inside.table p.app.0 c.self.invariant.level)) there

pub changed-requires-clause-there : goal.changed-requires-clause-there
changed-requires-clause-there c =
    let p = c.args.pick in
    let there = subst (λ (x : AllotmentRecord). p.unit.0 < unit_count (as_known x.table.jobs) p.app.0) (sym c.self.view_is) c.requires.unit in
    subst (λ (t : TableRecord). p.unit.0 < unit_count (as_known t.jobs) p.app.0) (sym c.add.ensures) there

pub changed-requires-clause-machine : goal.changed-requires-clause-machine
changed-requires-clause-machine c =
    let there = subst (λ (x : AllotmentRecord). c.args.pick.machine.0 < length x.table.cluster.machines) (sym c.self.view_is) c.requires.machine in
    subst (λ (t : TableRecord). c.args.pick.machine.0 < length t.cluster.machines) (sym c.add.ensures) there

pub invariant_of-self-2 : goal.invariant_of-self-2
invariant_of-self-2 c =
    let t = c.self.inside.table in
    record {
      level = c.changed.ensures.level t c.self.invariant.level (record { sound = c.self.invariant.sound; number = count spot_cmp t.entries (spot_of c.args.pick) + c.args.count; is = c.add.ensures });
      sound = c.is_sound.ensures;
      learned = c.nothing-self-inside.ensures _ _ _;
    }

pub returns : goal.returns
returns c =
    let x = c.args.self.now in
    let v = c.self.inside in
    let n = c.args.count in
    let s = spot_of c.args.pick in
    let sorted = subst (λ (r : AllotmentRecord). T (is_sorted spot_cmp r.table.entries)) c.self.view_is c.self.invariant.sound.counts.sorted in
    let told = told_as c.add.new.self v.placer c.changed.new.self v.touched.items c.push.new.self.items c.args.pick c.in_ok-push.ensures.items c.changed.ensures.seen c.changed.ensures.idle in
    let same = told ∙ ap (λ (t : TableRecord). told_at t v.placer.seen (map spot_of v.touched.items) s) c.add.ensures
    ∙ ap (λ (r : AllotmentRecord). told_at (record r.table { entries = with_count r.table.entries s n }) r.placer.seen r.touched s) c.self.view_is in
    subst (Adds s n x) (sym same) (adds_told c.set_numbers.ensures.held x sorted c.requires.waits s.job s.unit s.machine n)
