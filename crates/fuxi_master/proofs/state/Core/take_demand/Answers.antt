use Rattle.std.proofs.Common.{Some, None, refl, subst}
use Rattle.grant_table.specs.GrantTables.{IsSound}
use Rattle.fuxi_master.specs.Seen.{core_of}
use Rattle.fuxi_master.proofs.DemandTaken.{slot_at, slot_there, asked_live, demand_changes}
use Rattle.fuxi_master.proofs.KnownJobs.{has_units}
use Rattle.fuxi_master.proofs.state.Core.take_demand.Goals as goal

pub unreachable-requires : goal.unreachable-requires
unreachable-requires c = slot_there (core_of c.args.self.now) c.requires.near.kept c.args.app.0 c.requires.known c.index.result.now c.index.ensures c.in_default.is

pub demanded-requires-clause-units : goal.demanded-requires-clause-units
demanded-requires-clause-units c =
    let x = core_of c.args.self.now in
    has_units x.allotment.table c.table-2.result.now c.table-2.ensures x.known.jobs c.requires.near.kept.jobs c.args.app.0 c.units-units.result c.requires.known c.units-units.ensures.known c.units-units.ensures.number

pub demanded-requires-clause-told : goal.demanded-requires-clause-told
demanded-requires-clause-told c =
    let x = core_of c.args.self.now in
    let at = slot_at x c.requires.near.kept c.args.app.0 c.requires.known c.index.result.now (Some c.in-Some.side) c.index.ensures c.in-Some.is in
    asked_live x c.args.app.0 c.args.fresh c.args.taken c.counts-live.result c.in-Some.side at c.counts-live.ensures c.args.change.now c.requires.asks

pub returns-clause-changes : goal.returns-clause-changes
returns-clause-changes c =
    let x = core_of c.args.self.now in
    let at = slot_at x c.requires.near.kept c.args.app.0 c.requires.known c.index.result.now (Some c.in-Some.side) c.index.ensures c.in-Some.is in
    let sound = subst IsSound c.table.ensures c.is_sound.ensures in
    demand_changes x c.requires.near sound c.args.app.0 c.args.fresh c.args.taken c.counts-live.result c.in-Some.side at c.requires.boots c.requires.known c.requires.told c.demanded.new.allotment c.in_ok-credited.credited.items c.in_ok-credited.ensures c.counts-live.ensures
    (record { reported = None; admitted = None; machines = c.new.result; job = Some c.args.app; credited = c.in_ok-credited.credited })
    (record { reported_is = refl; admitted_is = refl; job_is = refl; machines_are = c.new.ensures.items; credited_is = refl })
