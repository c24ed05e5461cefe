-- What a core answers, said of each party by itself that it stands for.
use Rattle.std.specs.Prelude.{◌≡◌, List, map}
use Rattle.party_ledgers.specs.declared.packets.Heard.{Heard}
use Rattle.party_ledgers.specs.declared.packets.Packet.{Packet}
use Rattle.peer_channel.specs.Parcels.{parcel_is}
use Rattle.spec_refinement.specs.SeenParties.{Role, HeardAlone, hears, turn}

-- it stands for what the party becomes, and tells what that heard
pub record Hears (now : Role → Type 0) (h : HeardAlone) (heard : Heard) : Type 0 where
  pub role : now h.role
  pub fresh : heard.fresh ≡ h.fresh
  pub says : heard.what ≡ h.what

abbrev pub HearsAlike : (Role → Type 0) → (Role → Type 0) → Packet → Heard → Type 0
HearsAlike was now packet heard = (r : Role) → was r → Hears now (hears r (parcel_is packet)) heard

-- it stands for the party still, and the packets are those that it sends by itself
pub record Sends (now : Role → Type 0) (r : Role) (packets : List Packet) : Type 0 where
  pub role : now r
  pub says : map parcel_is packets ≡ turn r

abbrev pub SendsAlike : (Role → Type 0) → (Role → Type 0) → List Packet → Type 0
SendsAlike was now packets = (r : Role) → was r → Sends now r packets
