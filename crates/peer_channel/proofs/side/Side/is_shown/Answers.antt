use Rattle.peer_channel.proofs.CoreSidesLemmas.{shown_already}
use Rattle.peer_channel.proofs.side.Side.is_shown.Goals as goal

pub returns : goal.returns
returns g c = shown_already _ _ _ _ _ c.args.self.now
