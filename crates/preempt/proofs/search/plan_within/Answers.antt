use Rattle.std.proofs.Common.{◌≡◌, Bool, true, false, None, refl, sym, ◌∙◌, ap, subst, arith}
use Rattle.fuxi_terms.specs.Cluster.{ClusterRecord, is_narrow}
use Rattle.fuxi_terms.specs.Jobs.{size_at}
use Rattle.grant_table.specs.GrantTables.{as_known}
use Rattle.preempt.specs.Given.{pair_of}
use Rattle.preempt.specs.MachineRooms.{AreRoomsFor}
use Rattle.preempt.specs.Search.{IsFound, pairs_on}
use Rattle.preempt.proofs.MachineRoomsLemmas.{kind_beyond, kind_for, rooms_for}
use Rattle.preempt.proofs.Served.{none_found, wide_found}
use Rattle.preempt.proofs.ShelvesLemmas.{resources_few}
use Rattle.preempt.proofs.search.plan_within.Goals as goal

pub is_within-requires : goal.is_within-requires
is_within-requires g c =
    let few = resources_few c.args.table.now.cluster c.cluster.ensures.sound.valid in
    let count = c.resources-resources.ensures.number ∙ ap (λ (x : ClusterRecord). x.resources) c.cluster.ensures.cluster in
    omega (arith, few, count)

pub returns-then-not-is_within : goal.returns-then-not-is_within
returns-then-not-is_within g c = by (is_narrow c.args.table.now.cluster (size_at (as_known c.args.table.now.jobs) c.args.e.now.app.0 c.args.e.now.unit.0)) refl
  where
    by : (b : Bool) → is_narrow c.args.table.now.cluster (size_at (as_known c.args.table.now.jobs) c.args.e.now.app.0 c.args.e.now.unit.0) ≡ b
        → IsFound c.args.table.now (g.P.Asking.usable c.args.placer.now) (pairs_on c.args.table.now (g.P.Asking.usable c.args.placer.now) (pair_of c.args.e.now)) None
    by false wide = wide_found c.args.table.now (g.P.Asking.usable c.args.placer.now) (pair_of c.args.e.now) wide
    by true narrow =
        let count = c.resources-resources.ensures.number ∙ ap (λ (x : ClusterRecord). x.resources) c.cluster.ensures.cluster in
        none_found c.args.table.now (g.P.Asking.usable c.args.placer.now) (pair_of c.args.e.now)
        (kind_beyond c.args.table.now c.args.e.now c.requires.entry c.args.rooms.now c.requires.rooms c.requires.kind narrow c.resources-resources.result count (sym c.is_within.ensures ∙ c.if-not-is_within.true))

pub returns-in-None : goal.returns-in-None
returns-in-None g c = wide_found c.args.table.now (g.P.Asking.usable c.args.placer.now) (pair_of c.args.e.now) c.in-None.ensures

pub first_within-requires-clause-rooms : goal.first_within-requires-clause-rooms
first_within-requires-clause-rooms g c =
    let t = c.args.table.now in
    let n = c.in-Some.need in
    let rooms = c.args.rooms.now in
    subst (AreRoomsFor t n) (sym c.deref.ensures.value) (rooms_for t n rooms c.requires.rooms (kind_for t c.args.e.now c.requires.entry n c.in-Some.ensures rooms c.requires.kind))
