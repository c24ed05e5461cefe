use Rattle.std.proofs.Common.{rules, ◌≡◌, ◌≤◌, Bool, length, ◌∙◌, ap, subst, arith}
use Rattle.fuxi_terms.specs.Cluster.{ClusterRecord}
use Rattle.grant_table.specs.GrantTables.{TableRecord}
use Rattle.fuxi_master.proofs.ClosedMachines.{Opens, opened_beyond, opened_there}
use Rattle.fuxi_master.proofs.commands.open_machine.Goals as goal

pub returns-then-machine-machines : goal.returns-then-machine-machines
returns-then-machine-machines c =
    let x = c.args.allotment.now in
    let n : c.machines-machines.result ≡ length x.table.cluster.machines = c.machines-machines.ensures.number ∙ ap (λ (k : ClusterRecord). length k.machines) (c.cluster.ensures.cluster ∙ ap (λ (t : TableRecord). t.cluster) c.table.ensures) in
    let ge : c.machines-machines.result ≤ c.args.machine.0 = search rules in
    opened_beyond c.args.machine.0 x (omega (arith, n, ge)) c.args.reported.now.numbers

pub returns : goal.returns
returns c =
    let o = c.open.ensures in
    opened_there c.args.machine.0 c.args.reported.now.numbers c.args.allotment.now c.open.new.self
    (subst (λ (b : Bool). Opens c.args.machine.0 b c.args.allotment.now c.open.new.self) c.has.ensures o.stands) o.table o.touched o.turns
