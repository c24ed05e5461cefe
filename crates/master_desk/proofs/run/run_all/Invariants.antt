use Rattle.std.proofs.Common.{Some}
use Rattle.master_desk.proofs.run.run_all.Given as goal

abbrev pub ghosts-run_named : goal.ghosts-run_named
ghosts-run_named g a = record { sessions = a.book.sessions; opening = Some a.book.opening }
