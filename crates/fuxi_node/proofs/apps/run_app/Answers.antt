use Rattle.spec_roles.specs.Apps.{new_app}
use Rattle.node_core.specs.Roles.{OfApp}
use Rattle.fuxi_node.specs.NodeStarts.{app_start}
use Rattle.fuxi_node.proofs.NodeStartsLemmas.{nothing_placed, nothing_taken}
use Rattle.fuxi_node.proofs.apps.run_app.Goals as goal

pub returns-in-Ok-run_node-clause-ended : goal.returns-in-Ok-run_node-clause-ended
returns-in-Ok-run_node-clause-ended g c ready = c.in-Ok-run_node.ensures.ended ready (OfApp (new_app c.args.app.0 c.args.units c.args.cluster.now c.args.boot)) c.in-Ok.ensures.stands

pub returns-in-Err-clause-ended : goal.returns-in-Err-clause-ended
returns-in-Err-clause-ended g c ready =
    nothing_taken (λ q. Unit {0}) (λ q p. Unit {0}) (app_start c.args.cluster.now c.args.app.0 c.args.units c.args.boot c.args.addr.now c.args.lines.now.number) c.args.lines.now.pending (g.S.Source.left c.args.source.now) (g.O.Sink.took c.args.out.now) (g.N.Door.faults c.args.door.now) (g.N.Door.told c.args.door.now) c.is_little_ahead.ensures tt

pub returns-in-Err-clause-places : goal.returns-in-Err-clause-places
returns-in-Err-clause-places g c ready = nothing_placed c.args.lines.now.number _ (g.S.Source.left c.args.source.now)
