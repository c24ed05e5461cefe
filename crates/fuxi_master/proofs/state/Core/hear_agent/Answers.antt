use Rattle.std.proofs.Common.{◌<◌, length, refl, ◌∙◌, ap, arith}
use Rattle.std.proofs.lemmas.Option.{slice_get_read}
use Rattle.grant_table.specs.GrantTables.{TableRecord}
use Rattle.fuxi_master.specs.Seen.{core_of}
use Rattle.fuxi_master.proofs.AgentHeardAlike.{to_master}
use Rattle.fuxi_master.proofs.AgentHeard.{test_in, made_test, heard_core, heard_within, heard_alike, heard_due}
use Rattle.fuxi_master.proofs.state.Core.hear_agent.Goals as goal

pub returns : goal.returns
returns c =
    let x = core_of c.args.self.now in
    let m = c.args.packet.from.number in
    let old = c.index_mut-side.result.now in
    let new = c.hear_moved.new.self in
    let test = test_in x c.machine.result.now c.has.result c.banned.result in
    let n = c.requires.core.near.kept.agents in
    let machine = c.requires.machine in
    let lt : m < length x.agents = omega (arith, n, machine) in
    let at = slice_get_read x.agents (length x.agents) m old refl lt c.index_mut-side.ensures.value in
    let to = to_master c.args.packet c.requires.to c.requires.zero in
    let cluster = c.cluster.ensures.cluster ∙ ap (λ (t : TableRecord). t.cluster) c.table.ensures in
    let is = made_test x m c.machine.result.now c.cluster.result.now c.has.result c.banned.result cluster c.machine.ensures c.has.ensures c.banned.ensures.banned in
    let heard = c.in_ok-heard.ensures in
    record {
      core = heard_core x c.requires.core m old new c.args.packet c.in_ok-heard.heard test lt at heard.hears to heard.outgoing is;
      within = heard_within x c.requires.core m old new c.args.packet c.in_ok-heard.heard test lt at heard.hears to heard.outgoing is;
      hears = heard_alike x c.requires.core m old new c.args.packet c.in_ok-heard.heard test lt at heard.hears to heard.outgoing is c.is_due-due.result c.is_due-due.ensures;
      waits = heard_due x c.requires.core m old new c.args.packet c.in_ok-heard.heard test lt at heard.hears to heard.outgoing is c.is_due-due.result c.is_due-due.ensures;
    }
