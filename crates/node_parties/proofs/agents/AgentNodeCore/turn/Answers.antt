use Rattle.std.proofs.Common.{rules}
use Rattle.std.proofs.lemmas.List.{length-map}
use Rattle.peer_channel.specs.Parcels.{parcel_is}
use Rattle.node_core.specs.Roles.{OfAgent, OfApp, OfMaster}
use Rattle.node_parties.proofs.agents.AgentNodeCore.turn.Goals as goal

pub returns-in-Ok-write_turn-clause-packets : goal.returns-in-Ok-write_turn-clause-packets
returns-in-Ok-write_turn-clause-packets c (OfAgent r) s = let l = length-map c.in-Ok.packets parcel_is in search (rules, l)
returns-in-Ok-write_turn-clause-packets c (OfApp r) s = elim s [ ]
returns-in-Ok-write_turn-clause-packets c (OfMaster h r) s = elim s [ ]
