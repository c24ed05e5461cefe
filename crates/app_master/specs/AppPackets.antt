-- What an application hears and sends.
use Rattle.std.specs.Prelude.{◌≡◌, ℕ, Bool, ◌&&◌, List, map}
use Rattle.spec_net.specs.Net.{same_id}
use Rattle.spec_net.specs.Channels.{app_id, is_master}
use Rattle.spec_roles.specs.Apps.{AppRole, app_hears_alone, app_turn}
use Rattle.schedule_unit.specs.declared.party.Party.{Party}
use Rattle.party_ledgers.specs.declared.packets.Packet.{Packet}
use Rattle.party_ledgers.specs.declared.packets.Heard.{Heard}
use Rattle.peer_channel.specs.Parcels.{party_of, parcel_is}
use Rattle.app_master.specs.AppCores.{AppCore, StandsFor}

-- what one party sends to another is for the application of this job, of a master
abbrev pub is_between : Party → Party → ℕ → Bool
is_between from to job = same_id (party_of to).id (app_id job) && is_master (party_of from).id

abbrev pub is_for : Packet → ℕ → Bool
is_for x job = is_between x.from x.to job

-- the application by itself hears the packet, and the new core stands for it then
pub record Hears (new : AppCore) (x : Packet) (heard : Heard) (r : AppRole) : Type 0 where
  pub role : StandsFor new (app_hears_alone r (parcel_is x)).role
  pub fresh : heard.fresh ≡ (app_hears_alone r (parcel_is x)).fresh
  pub says : heard.what ≡ (app_hears_alone r (parcel_is x)).what

abbrev pub HearsAlike : AppCore → Packet → AppCore × Heard → Type 0
HearsAlike old x after = (r : AppRole) → StandsFor old r → Hears after.0 x after.1 r

-- the packets are those that the application by itself sends
abbrev pub SendsAlike : AppCore → List Packet → Type 0
SendsAlike a packets = (r : AppRole) → StandsFor a r → map parcel_is packets ≡ app_turn r
