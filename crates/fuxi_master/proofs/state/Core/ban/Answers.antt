use Rattle.std.proofs.Common.{sym, subst}
use Rattle.grant_table.specs.GrantTables.{IsSound}
use Rattle.hard_state.specs.Knowledge.{Knowledge}
use Rattle.spec_roles.specs.MasterSteps.{banned_in}
use Rattle.fuxi_master.specs.Commands.{changed_by}
use Rattle.fuxi_master.specs.Heard.{Changes}
use Rattle.fuxi_master.specs.Seen.{core_of}
use Rattle.fuxi_master.proofs.CommandsLemmas.{banned}
use Rattle.fuxi_master.proofs.state.Core.ban.Goals as goal

pub returns-clause-changes : goal.returns-clause-changes
returns-clause-changes c =
    let x = core_of c.args.self.now in
    let m = c.args.machine.0 in
    let z = c.close_machine.new.allotment in
    subst (λ (k : Knowledge). Changes c.news.result (changed_by (λ M. banned_in M m)) x (record x { known = k; allotment = z })) (sym c.ban.ensures)
    (banned x c.requires.core (subst IsSound c.table.ensures c.is_sound.ensures) c.news.result c.news.ensures m z c.in_ok-close_machine.ensures)
