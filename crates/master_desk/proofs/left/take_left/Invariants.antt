use Rattle.std.proofs.Common.{◌≡◌, ◌<◌, ℕ, length, true}
use Rattle.std.specs.Prelude.{is_some}
use Rattle.master_desk.specs.CallOrders.{calls_of, times}
use Rattle.master_desk.specs.Books.{Grows, SameDesk, order_in}
use Rattle.master_desk.proofs.left.take_left.Given as goal

abbrev pub invariant-loop-session : goal.invariant-loop-session
invariant-loop-session l = record {
  here : is_some l.book.master ≡ true;
  same : SameDesk l.fn.book l.book;
  grows : Grows l.fn.book l.book;
  whole : (c : ℕ) → c < l.session → times c (order_in l.book.journal) ≡ length (calls_of l.sessions c);
}
