-- What is read of a master's ends of the channels.
use Rattle.std.specs.Prelude.{ℕ, List, Option, None, slice_get}
use Rattle.std.specs.Option.{unwrap_or, option_map}
use Rattle.delta_channel.specs.declared.receiver.Place.{Place}
use Rattle.schedule_unit.specs.declared.party.Role.{Role}
use Rattle.schedule_unit.specs.declared.party.Role.TheVariants.{Master as AsMaster, Agent as AsAgent, App as AsApp}
use Rattle.spec_net.specs.Sides.{Side}
use Rattle.ledger_updates.specs.AllShown.{Down, App}
use Rattle.fuxi_master.specs.Cores.{CoreRecord}

abbrev pub slot_at : List (Option App) → ℕ → Option App
slot_at slots a = unwrap_or (slice_get slots a) None

-- the place in the history of a peer, where there is an end of the channel with it
abbrev pub place_in : CoreRecord → Role → ℕ → Option Place
place_in x AsMaster n = None
place_in x AsAgent n = option_map (λ (d : Down). d.incoming.place) (slice_get x.agents n)
place_in x AsApp n = option_map (λ (d : App). d.incoming.place) (slot_at x.apps n)

-- the last index of what a peer is sent
abbrev pub last_in : CoreRecord → Role → ℕ → Option ℕ
last_in x AsMaster n = None
last_in x AsAgent n = option_map (λ (d : Down). d.outgoing.last) (slice_get x.agents n)
last_in x AsApp n = option_map (λ (d : App). d.outgoing.last) (slot_at x.apps n)

-- where a party by itself has come in the history of its peer
abbrev pub place_of : Side → Place
place_of e = record { inc = e.link.known; seq = e.link.seq }
