-- What stands on a packet, whatever it holds.
use Rattle.party_ledgers.specs.declared.header.Header.{Header}
use Rattle.party_ledgers.specs.declared.packets.Packet.{Packet}

abbrev pub header_of : Packet → Header
header_of x = record { from = x.from; to = x.to; kind = x.kind; place = x.place }
