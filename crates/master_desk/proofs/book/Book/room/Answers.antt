use Rattle.std.proofs.Common.{◌≡◌, ◌<◌, true, subst}
use Rattle.std.specs.Prelude.{◌^◌, is_some}
use Rattle.master_desk.specs.Books.{BookRecord, HasRoom}
use Rattle.master_desk.proofs.BooksLemmas.{room_is}
use Rattle.master_desk.proofs.book.Book.room.Goals as goal

pub returns : goal.returns
returns c = subst (λ (x : BookRecord). is_some x.master ≡ true → x.opening.steps < 2 ^ 49 → HasRoom x.master) c.self.view_is (λ here small. room_is c.self.inside.taken.items _ c.self.invariant.0 c.self.invariant.1 here small) c.requires.here c.requires.steps
