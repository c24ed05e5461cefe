use Rattle.std.proofs.Common.{sym, ◌∙◌, subst}
use Rattle.failover.specs.Reported.{Reported}
use Rattle.spec_roles.specs.MasterRoles.{master_started}
use Rattle.fuxi_master.specs.Cores.{IsCore, IsWithin, StandsFor}
use Rattle.fuxi_master.proofs.StartedSides.{AreDownsStarted}
use Rattle.fuxi_master.proofs.Started.{no_jobs_first, first_core, started_alike, started_core, started_within}
use Rattle.fuxi_master.proofs.state.Core.start.Goals as goal

pub jobs_admitted-requires-clause-empty : goal.jobs_admitted-requires-clause-empty
jobs_admitted-requires-clause-empty c = no_jobs_first c.args.cluster.now c.in_ok-allotment.allotment c.in_ok-allotment.ensures.stands

pub returns-clause-core : goal.returns-clause-core
returns-clause-core c =
    let k = c.args.cluster.now in
    let agents = c.in_ok-agents.agents.items in
    let downs : AreDownsStarted c.args.epoch _ agents = record { wide = c.in_ok-agents.ensures.wide ∙ c.machines.ensures.number; each = c.in_ok-agents.ensures.each } in
    subst (λ (r : Reported). IsCore (record (first_core k c.args.epoch c.args.known c.in_ok-allotment-2.allotment agents c.in_ok-apps.apps.items) { reported = r })) (sym c.none.ensures)
    (started_core c.step_ends.ensures k c.machines.ensures.valid c.args.epoch c.args.known c.numbers_known-numbers.result c.numbers_known-numbers.ensures c.in_ok-allotment.allotment c.in_ok-allotment-2.allotment c.in_ok-allotment.ensures.stands c.in_ok-allotment-2.ensures agents downs c.in_ok-apps.apps.items c.in_ok-apps.ensures c.requires c.in_ok-allotment.ensures.touched)

pub returns-clause-within : goal.returns-clause-within
returns-clause-within c =
    let k = c.args.cluster.now in
    let agents = c.in_ok-agents.agents.items in
    let downs : AreDownsStarted c.args.epoch _ agents = record { wide = c.in_ok-agents.ensures.wide ∙ c.machines.ensures.number; each = c.in_ok-agents.ensures.each } in
    subst (λ (r : Reported). IsWithin 1 (record (first_core k c.args.epoch c.args.known c.in_ok-allotment-2.allotment agents c.in_ok-apps.apps.items) { reported = r })) (sym c.none.ensures)
    (started_within k c.args.epoch c.args.known c.numbers_known-numbers.result c.in_ok-allotment.allotment c.in_ok-allotment-2.allotment c.in_ok-allotment-2.ensures agents downs c.in_ok-apps.apps.items c.in_ok-apps.ensures c.in_ok-allotment.ensures.turns)

pub returns-clause-stands : goal.returns-clause-stands
returns-clause-stands c = λ h jobs bans.
    let k = c.args.cluster.now in
    let agents = c.in_ok-agents.agents.items in
    let downs : AreDownsStarted c.args.epoch _ agents = record { wide = c.in_ok-agents.ensures.wide ∙ c.machines.ensures.number; each = c.in_ok-agents.ensures.each } in
    subst (λ (r : Reported). StandsFor (record (first_core k c.args.epoch c.args.known c.in_ok-allotment-2.allotment agents c.in_ok-apps.apps.items) { reported = r }) (master_started k h c.args.epoch)) (sym c.none.ensures)
    (started_alike c.step_ends.ensures k c.machines.ensures.valid c.args.epoch c.args.known c.numbers_known-numbers.result c.numbers_known-numbers.ensures c.in_ok-allotment.allotment c.in_ok-allotment-2.allotment c.in_ok-allotment.ensures.stands c.in_ok-allotment-2.ensures agents downs c.in_ok-apps.apps.items c.in_ok-apps.ensures h jobs bans)
