-- What the two ends of a channel and the written net say of the same packet, in one another's words.
use Rattle.std.specs.Prelude.{ℕ, Bool, true, false, nat_lt, if◌then◌else◌}
use Rattle.fuxi_terms.specs.declared.answers.What.{What}
use Rattle.fuxi_terms.specs.declared.answers.What.TheVariants.{Stale as SaysStale, NotMine as SaysNotMine, Old as SaysOld, Gap as SaysGap, Taken as SaysTaken}
use Rattle.delta_channel.specs.declared.receiver.Place.{Place}
use Rattle.delta_channel.specs.declared.receiver.Stamp.{Stamp}
use Rattle.delta_channel.specs.declared.receiver.Verdict.{Verdict}
use Rattle.delta_channel.specs.declared.receiver.Verdict.TheVariants.{Take, Old, Gap, NotMine, Stale}
use Rattle.full_sync.specs.Turns.{Mark, MarkFull, MarkDelta, MarkAck}
use Rattle.spec_net.specs.Net.{Link, Packet, Kind, Ack, Delta, Full}

-- the place in the peer's history to which a party has come
abbrev pub place_at : Link → Place
place_at l = record { inc = l.known; seq = l.seq }

-- the place after an incarnation was met that is greater than the known one: its first one
abbrev pub met_place : Place → ℕ → Place
met_place here inc = if nat_lt here.inc inc then record { inc = inc; seq = 0 } else here

-- the place that a packet names
abbrev pub place_of : Packet → Place
place_of x = record { inc = x.inc; seq = x.seq }

abbrev pub is_full : Kind → Bool
is_full Ack = false
is_full Delta = false
is_full Full = true

-- what a receiver reads of a packet
abbrev pub stamp_of : Packet → Stamp
stamp_of x = record { from = x.from.inc; to = x.to.inc; full = is_full x.kind; place = place_of x }

-- how a receiver's verdict is told
abbrev pub told_as : Verdict → What
told_as Take = SaysTaken
told_as Old = SaysOld
told_as Gap = SaysGap
told_as NotMine = SaysNotMine
told_as Stale = SaysStale

-- the mark of a packet
abbrev pub mark_at : Kind → Packet → Mark
mark_at Ack x = MarkAck (place_of x)
mark_at Delta x = MarkDelta x.seq
mark_at Full x = MarkFull x.seq

abbrev pub mark_as : Packet → Mark
mark_as x = mark_at x.kind x
