use Rattle.std.proofs.Common.{None, subst, arith}
use Rattle.std.proofs.lemmas.Bool.Decides.{nat_tests}
use Rattle.fuxi_terms.specs.Cluster.{machine_of}
use Rattle.fuxi_terms.specs.Padded.{padded}
use Rattle.fuxi_io.specs.declared.status.Status.TheVariants.{OutOfMemory}
use Rattle.spec_roles.specs.Agents.{new_agent}
use Rattle.node_core.specs.Roles.{OfAgent}
use Rattle.node_parties.specs.AgentParties.{StandsAs}
use Rattle.fuxi_node.specs.NodeStarts.{agent_start}
use Rattle.fuxi_node.proofs.NodeInputsLemmas.{has_machine}
use Rattle.fuxi_node.proofs.InputEnds.{machine_placed}
use Rattle.fuxi_node.proofs.NodeStartsLemmas.{nothing_placed, nothing_taken, has_is}
use Rattle.fuxi_node.proofs.agents.run_agent.Goals as goal

pub returns-in-Ok-run_node-clause-ended : goal.returns-in-Ok-run_node-clause-ended
returns-in-Ok-run_node-clause-ended g c ready =
    let m = c.args.machine.0 in
    let stands = subst (λ q. StandsAs c.in-Ok.node (OfAgent (new_agent m q c.args.boot))) (has_is c.args.cluster.now m c.machine.result.now c.machine.ensures) c.in-Ok.ensures.stands in
    has_machine c.args.machine c.args.boot c.args.addr.now None None c.args.cluster.now c.args.lines.now.number (g.O.Sink.took c.args.out.now) _ c.in-Ok-run_node.status (g.S.Source.left c.run_node.new.source) (g.O.Sink.took c.run_node.new.out) (g.N.Door.faults c.args.door.now) (g.N.Door.faults c.run_node.new.door) (g.N.Door.told c.args.door.now) (g.N.Door.told c.run_node.new.door)
    (omega arith) (c.in-Ok-run_node.ensures.ended ready (OfAgent (new_agent m (padded (machine_of c.args.cluster.now m).has) c.args.boot)) stands)

pub returns-in-Err-clause-ended : goal.returns-in-Err-clause-ended
returns-in-Err-clause-ended g c ready =
    has_machine c.args.machine c.args.boot c.args.addr.now None None c.args.cluster.now c.args.lines.now.number (g.O.Sink.took c.args.out.now) _ OutOfMemory (g.S.Source.left c.args.source.now) (g.O.Sink.took c.args.out.now) (g.N.Door.faults c.args.door.now) (g.N.Door.faults c.args.door.now) (g.N.Door.told c.args.door.now) (g.N.Door.told c.args.door.now)
    (omega arith) (nothing_taken (λ q. Unit {0}) (λ q p. Unit {0}) (agent_start c.args.cluster.now c.args.machine.0 c.args.boot c.args.addr.now c.args.lines.now.number) c.args.lines.now.pending (g.S.Source.left c.args.source.now) (g.O.Sink.took c.args.out.now) (g.N.Door.faults c.args.door.now) (g.N.Door.told c.args.door.now) c.is_little_ahead.ensures tt)

pub returns-in-Ok-run_node-clause-places : goal.returns-in-Ok-run_node-clause-places
returns-in-Ok-run_node-clause-places g c ready =
    machine_placed c.args.machine c.args.boot c.args.lines.now.number c.args.cluster.now c.in-Ok-run_node.status (g.S.Source.left c.run_node.new.source) _ (grind (arith, nat_tests)) (c.in-Ok-run_node.ensures.places ready)

pub returns-in-Err-clause-places : goal.returns-in-Err-clause-places
returns-in-Err-clause-places g c ready =
    machine_placed c.args.machine c.args.boot c.args.lines.now.number c.args.cluster.now OutOfMemory (g.S.Source.left c.args.source.now) _ (grind (arith, nat_tests)) (nothing_placed c.args.lines.now.number _ (g.S.Source.left c.args.source.now))
