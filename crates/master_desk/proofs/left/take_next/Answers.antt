use Rattle.master_desk.proofs.BooksLemmas.{one_entered}
use Rattle.master_desk.proofs.left.take_next.Goals as goal

pub returns-in-Ok-enter-clause-one : goal.returns-in-Ok-enter-clause-one
returns-in-Ok-enter-clause-one c = one_entered c.args.session c.args.book.now c.enter.new.self c.in-Ok-enter.ensures.entered
