use Rattle.std.proofs.Common.{[], Some, sym, subst}
use Rattle.master_desk.proofs.BooksLemmas.{new_is, none_counted}
use Rattle.master_desk.specs.CallOrders.{IsSessions}
use Rattle.master_desk.specs.Books.{Counts, IsBook}
use Rattle.master_desk.proofs.book.Book.start.Goals as goal

pub invariant_of-result : goal.invariant_of-result
invariant_of-result c = (
  subst (λ j. IsBook (record { sessions = c.of.result.value; opening = c.of-opening.result.value; journal = j; master = Some c.args.master })) (sym c.new.ensures.items)
      (subst (λ m. IsBook (record { sessions = c.of.result.value; opening = m; journal = []; master = Some c.args.master })) (sym c.of-opening.ensures) (new_is c.of.result.value c.args.master (subst IsSessions (sym c.of.ensures) c.len-few.ensures.sound))),
  subst (λ j. Counts c.in-Ok.taken.items j) (sym c.new.ensures.items) (subst (λ t. Counts t []) (sym c.in-Ok.ensures) none_counted),
)
