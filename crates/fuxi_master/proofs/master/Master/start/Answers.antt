use Rattle.std.proofs.Common.{sym, ap, subst}
use Rattle.spec_roles.specs.MasterRoles.{master_started}
use Rattle.fuxi_master.specs.Cores.{StandsFor}
use Rattle.fuxi_master.specs.Seen.{core_of}
use Rattle.fuxi_master.specs.declared.state.Core.{Core}
use Rattle.fuxi_master.proofs.master.Master.start.Goals as goal

pub returns-clause-stands : goal.returns-clause-stands
returns-clause-stands c = subst (λ (k : Core). StandsFor (core_of k) (master_started c.args.cluster.now c.args.hard.now.value c.args.epoch)) (sym c.in_ok-core.ensures.ok)
    (c.in_ok-started.ensures.stands c.args.hard.now.value (sym (ap (λ k. k.jobs) c.in_ok-known.ensures)) (sym (ap (λ k. k.bans) c.in_ok-known.ensures)))
