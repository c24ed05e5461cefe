use Rattle.std.proofs.Common.{◌≡◌, ◌-◌, length, true}
use Rattle.std.specs.Prelude.{is_some}
use Rattle.master_desk.specs.CallOrders.{calls_of, times}
use Rattle.master_desk.specs.Books.{Grows, SameDesk, order_in}
use Rattle.master_desk.proofs.left.take_session.Given as goal

abbrev pub invariant-loop-alloc : goal.invariant-loop-alloc
invariant-loop-alloc l = record {
  here : is_some l.book.master ≡ true;
  same : SameDesk l.fn.book l.book;
  grows : Grows l.fn.book l.book;
}

abbrev pub decreases-loop-alloc : goal.decreases-loop-alloc
decreases-loop-alloc l = length (calls_of l.sessions l.session) - times l.session (order_in l.book.journal)
