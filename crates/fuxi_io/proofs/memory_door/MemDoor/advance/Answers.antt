use Rattle.std.proofs.Common.{◌≡◌, false, nat_eq, take, reverse, arith}
use Rattle.std.proofs.lemmas.Bool.Decides.{nat_tests}
use Rattle.fuxi_io.proofs.MemoryReads.{read_more}
use Rattle.fuxi_io.proofs.memory_door.MemDoor.advance.Goals as goal

pub returns-else-n-eq0 : goal.returns-else-n-eq0
returns-else-n-eq0 c =
    let s = c.self.inside in
    let more : nat_eq c.args.n 0 ≡ false = grind (arith, nat_tests, c.if-n-eq0.false) in
    rw (← c.self.view_is) (read_more s.handed s.accepts (take s.addr_len s.addr) s.knocks s.took.items s.last (reverse s.past.items) c.args.n c.after_read-self-inside.result c.after_read-self-inside.ensures more s.begun _ s.room s.places s.fails.items s.calls s.faults)
