use Rattle.std.proofs.Common.{◌≡◌, map, take}
use Rattle.peer_channel.specs.Parcels.{parcel_is}
use Rattle.master_desk.specs.Desks.{sending_of, sent_as}
use Rattle.master_desk.proofs.hear.heads_of.Given as goal

abbrev pub invariant-loop-packet : goal.invariant-loop-packet
invariant-loop-packet l = record { heads : map sending_of l.heads ≡ map sent_as (map parcel_is (take l.packet-index l.packets-2)) }
