use Rattle.std.proofs.Common.{◌≡◌, ◌+◌, ◌*◌, ◌++◌, length}
use Rattle.std.specs.List.{All, flat_map}
use Rattle.ledger_law.proofs.forms.read_entries.Given as goal

abbrev pub invariant-loop : goal.invariant-loop
invariant-loop g l = record {
  read : flat_map g.F.EntryForm.form l.entries.items ++ l.left ≡ l.fn.bytes;
  long : length l.left + l.counter * g.F.EntryForm.WIDTH ≡ l.fn.n * g.F.EntryForm.WIDTH;
  count : length l.entries.items ≡ l.counter;
  entries : All g.F.EntryForm.is_entry l.entries.items;
}
