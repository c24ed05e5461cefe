use Rattle.std.proofs.Common.{◌≡◌, sym, subst}
use Rattle.spec_roles.specs.MasterRoles.{master_resynced}
use Rattle.fuxi_master.specs.Cores.{CoreRecord, IsCore, IsWithin, StandsFor}
use Rattle.fuxi_master.specs.Seen.{core_of}
use Rattle.fuxi_master.proofs.ResyncsLemmas.{forgotten, core_forgotten, within_forgotten, stands_forgotten}
use Rattle.fuxi_master.proofs.state.Core.resync.Goals as goal

pub returns-clause-core : goal.returns-clause-core
returns-clause-core c =
    let x = core_of c.args.self.now in
    let same : forgotten x ≡ record x { agents = c.resync_agents.new.agents.items; apps = c.resync_apps.new.apps.items } = λ i. record x { agents = sym c.resync_agents.ensures i; apps = sym c.resync_apps.ensures i } in
    subst IsCore same (core_forgotten x c.requires)

pub returns-clause-within : goal.returns-clause-within
returns-clause-within c =
    let x = core_of c.args.self.now in
    let same : forgotten x ≡ record x { agents = c.resync_agents.new.agents.items; apps = c.resync_apps.new.apps.items } = λ i. record x { agents = sym c.resync_agents.ensures i; apps = sym c.resync_apps.ensures i } in
    λ n w. subst (IsWithin n) same (within_forgotten x n w)

pub returns-clause-stands : goal.returns-clause-stands
returns-clause-stands c =
    let x = core_of c.args.self.now in
    let same : forgotten x ≡ record x { agents = c.resync_agents.new.agents.items; apps = c.resync_apps.new.apps.items } = λ i. record x { agents = sym c.resync_agents.ensures i; apps = sym c.resync_apps.ensures i } in
    λ r h. subst (λ (y : CoreRecord). StandsFor y (master_resynced r)) same (stands_forgotten x c.requires.near.kept r h)
