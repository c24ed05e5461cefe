use Rattle.std.proofs.Common.{◌∙◌, ◌+◌, ap}
use Rattle.peer_channel.specs.Parcels.{packet_of}
use Rattle.master_desk.proofs.DesksLemmas.{same_length}
use Rattle.master_desk.proofs.hear.head_of.Goals as goal

pub returns : goal.returns
returns c = ap (λ n. record { packet = packet_of c.args.packet.now; bytes = n }) (c.frame_length.ensures.body ∙ ap (λ n. 48 + n) (same_length c.args.packet.now.body))
