use Rattle.std.proofs.Common.{sym, subst}
use Rattle.grant_table.specs.GrantTables.{IsSound}
use Rattle.hard_state.specs.Knowledge.{Knowledge}
use Rattle.fuxi_master.specs.Commands.{changed_by, unbanned_in}
use Rattle.fuxi_master.specs.Heard.{Changes}
use Rattle.fuxi_master.specs.Seen.{core_of}
use Rattle.fuxi_master.proofs.CommandsLemmas.{unbanned}
use Rattle.fuxi_master.proofs.state.Core.unban.Goals as goal

pub returns-clause-changes : goal.returns-clause-changes
returns-clause-changes c =
    let x = core_of c.args.self.now in
    let m = c.args.machine.0 in
    let z = c.open_machine.new.allotment in
    subst (λ (k : Knowledge). Changes c.news.result (changed_by (λ M. unbanned_in M m)) x (record x { known = k; allotment = z })) (sym c.unban.ensures)
    (unbanned x c.requires.core (subst IsSound c.table.ensures c.is_sound.ensures) c.news.result c.news.ensures m z c.open_machine.ensures)
