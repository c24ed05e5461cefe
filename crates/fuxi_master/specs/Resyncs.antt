-- Ends of channels of which nothing counts as acknowledged.
use Rattle.ledger_updates.specs.AllShown.{Down, App}

abbrev pub agent_forgotten : Down → Down
agent_forgotten d = record { outgoing = d.outgoing; incoming = d.incoming; acked = 0 }

abbrev pub app_forgotten : App → App
app_forgotten d = record { outgoing = d.outgoing; incoming = d.incoming; acked = 0 }
