use Rattle.std.proofs.Common.{rules, ◌≡◌, ◌≤◌, length, ◌∙◌, ap, subst, arith}
use Rattle.fuxi_terms.specs.Cluster.{ClusterRecord}
use Rattle.grant_table.specs.GrantTables.{TableRecord, IsSound}
use Rattle.fuxi_master.proofs.ClosedMachines.{closed_beyond, closed_there}
use Rattle.fuxi_master.proofs.commands.close_machine.Goals as goal

pub returns-then-machine-machines : goal.returns-then-machine-machines
returns-then-machine-machines c =
    let x = c.args.allotment.now in
    let n : c.machines-machines.result ≡ length x.table.cluster.machines = c.machines-machines.ensures.number ∙ ap (λ (k : ClusterRecord). length k.machines) (c.cluster.ensures.cluster ∙ ap (λ (t : TableRecord). t.cluster) c.table.ensures) in
    let ge : c.machines-machines.result ≤ c.args.machine.0 = search rules in
    closed_beyond c.args.machine.0 x (omega (arith, n, ge)) (subst IsSound c.table.ensures c.cluster.ensures.sound)

pub returns : goal.returns
returns c =
    let e = c.in_ok-clear_machine.ensures in
    let o = c.open.ensures in
    closed_there c.args.machine.0 c.args.allotment.now c.clear_machine.new.self c.open.new.self e.stands e.touches e.table o.stands o.table o.touched o.turns
