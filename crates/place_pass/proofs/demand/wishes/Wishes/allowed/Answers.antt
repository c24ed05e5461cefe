use Rattle.std.proofs.Common.{◌≡◌, ℕ, ◌≤◌, length, sym, ◌∙◌, ap, arith}
use Rattle.fuxi_terms.specs.Cluster.{UnitRecord, limit_at}
use Rattle.fuxi_terms.specs.Vectors.{at_place}
use Rattle.fuxi_terms.specs.Jobs.{group_of}
use Rattle.fuxi_terms.specs.Tables.{usage_at}
use Rattle.grant_table.specs.GrantTables.{as_known}
use Rattle.place_pass.specs.Cells.{Cell}
use Rattle.place_pass.proofs.CellsMatchTable.{group_is, group_small, unit_is, limit_past}
use Rattle.place_pass.proofs.Rooms.{allowed_is}
use Rattle.place_pass.proofs.demand.wishes.Wishes.allowed.Goals as goal

pub used_by-requires : goal.used_by-requires
used_by-requires c =
    let t = c.args.table.now in
    let g = ap (λ (x : Cell). x.group) c.wish-wish.ensures.cell ∙ group_is c.args.self.now.cluster c.args.self.now.cells t c.requires.level c.args.self.now.opened c.wish-wish.ensures.sound c.args.app.0 c.args.unit.0 c.requires.unit in
    let s = group_small t.jobs c.cluster.ensures.sound.in_order c.args.app.0 in
    omega (arith, g, s)

pub returns : goal.returns
returns c =
    let t = c.args.table.now in
    let a = c.args.app.0 in
    let u = c.args.unit.0 in
    let g = ap (λ (x : Cell). x.group) c.wish-wish.ensures.cell ∙ group_is c.args.self.now.cluster c.args.self.now.cells t c.requires.level c.args.self.now.opened c.wish-wish.ensures.sound a u c.requires.unit in
    let is = ap (λ (x : Cell). x.unit.size) c.wish-wish.ensures.cell ∙ ap (λ (x : UnitRecord). x.size) (unit_is c.args.self.now.cluster c.args.self.now.cells t c.requires.level a u c.requires.unit) in
    let eight = (c.wish-wish.ensures.sound.unit a u c.requires.unit).size in
    let long = ap (λ (x : Cell). length x.unit.size) c.wish-wish.ensures.cell in
    let used : (i : ℕ) → at_place c.used_by.result.q i ≡ usage_at (as_known t.jobs) (group_of (as_known t.jobs) a) i t.entries = λ i. c.used_by.ensures.used i ∙ ap (λ g. usage_at (as_known t.jobs) g i t.entries) g in
    let limit : (i : ℕ) → at_place c.group_or_none-group.result.limit.q i ≡ limit_at t.cluster (group_of (as_known t.jobs) a) i = λ i. c.group_or_none-group.ensures i ∙ (λ j. limit_at (c.cluster.ensures.cluster j) (g j) i) in
    let beyond : (i : ℕ) → t.cluster.resources ≤ i → usage_at (as_known t.jobs) (group_of (as_known t.jobs) a) i t.entries ≡ 0 = λ i ge. ap (λ g. usage_at (as_known t.jobs) g i t.entries) (sym g) ∙ c.used_by.ensures.beyond i ge in
    c.allows.ensures ∙ allowed_is t a u c.wish-wish.result.now.size.q is (omega (arith, eight, long)) c.used_by.result.q c.group_or_none-group.result.limit.q used limit beyond (limit_past t.cluster c.cluster.ensures.sound.valid (group_of (as_known t.jobs) a))
