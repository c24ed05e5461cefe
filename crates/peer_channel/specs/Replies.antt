-- What a word that is kept in few bytes says.
use Rattle.fuxi_terms.specs.declared.answers.What.{What}
use Rattle.fuxi_terms.specs.declared.answers.What.TheVariants.{Stranger as SaysStranger, Stale as SaysStale, Ack as SaysAck, NotMine as SaysNotMine, Old as SaysOld, Gap as SaysGap, Taken as SaysTaken}
use Rattle.peer_channel.specs.declared.reply.Told.{Told}
use Rattle.peer_channel.specs.declared.reply.Told.TheVariants.{Stranger, Stale, Ack, NotMine, Old, Gap, Taken, Long}

abbrev pub what_of : Told → What
what_of Stranger = SaysStranger
what_of Stale = SaysStale
what_of Ack = SaysAck
what_of NotMine = SaysNotMine
what_of Old = SaysOld
what_of Gap = SaysGap
what_of Taken = SaysTaken
what_of (Long what) = what.value
