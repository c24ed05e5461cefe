use Rattle.std.proofs.Common.{refl, rules}
use Rattle.std.proofs.lemmas.Result.{on_ok_weaker}
use Rattle.work_plan.proofs.SettlesLemmas.{peer_is_counted}
use Rattle.work_plan.proofs.peer.count_peer.Goals as goal

pub returns : goal.returns
returns c = on_ok_weaker c.settle_peer.result (λ s. peer_is_counted c.args.app.0 c.args.unit.0 c.args.count c.args.peer.now _ c.settle_peer.new.peer c.args.workers.now c.settle_peer.new.workers (search rules) c.requires.unit refl refl refl s) c.settle_peer.ensures
