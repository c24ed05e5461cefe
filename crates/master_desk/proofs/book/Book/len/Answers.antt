use Rattle.std.proofs.Common.{rules}
use Rattle.master_desk.proofs.BooksLemmas.{few_entries}
use Rattle.master_desk.proofs.book.Book.len.Goals as goal

pub overflow_cast-result : goal.overflow_cast-result
overflow_cast-result c = let few = few_entries c.self.inside.taken.items _ c.self.invariant.0 c.self.invariant.1 in search (rules, few)

pub returns-clause-few : goal.returns-clause-few
returns-clause-few c = let few = few_entries c.self.inside.taken.items _ c.self.invariant.0 c.self.invariant.1 in search (rules, few)
