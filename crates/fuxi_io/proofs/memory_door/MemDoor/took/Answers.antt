use Rattle.std.proofs.Common.{◌≡◌, reverse, ◌∷◌, ap, sym, ◌∙◌, rules, arith}
use Rattle.std.proofs.lemmas.List.{length-reverse}
use Rattle.fuxi_io.specs.MemoryDoors.{talks_of}
use Rattle.fuxi_io.specs.Doors.{took_by}
use Rattle.fuxi_io.proofs.ConnectionsTook.{took_none}
use Rattle.fuxi_io.proofs.memory_door.MemDoor.took.Goals as goal

pub returns-then-connection-len : goal.returns-then-connection-len
returns-then-connection-len c =
    let s = c.self.inside in
    let cs = s.last ∷ reverse s.past.items in
    let talks : c.args.self.now.told.talks ≡ talks_of s.took.items cs = search rules in
    sym (ap (λ l. took_by l c.args.connection) talks ∙ took_none s.took.items cs c.args.connection (grind (arith, c.if-connection-len.true, c.len.ensures, length-reverse s.past.items)))
