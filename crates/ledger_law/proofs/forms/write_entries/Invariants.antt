use Rattle.std.proofs.Common.{◌≡◌, ◌+◌, ◌-◌, ◌*◌, ◌≤◌, ◌++◌, length, drop, vec_len, vec_capacity}
use Rattle.std.specs.List.{flat_map}
use Rattle.ledger_law.proofs.forms.write_entries.Given as goal

abbrev pub invariant-loop-entry : goal.invariant-loop-entry
invariant-loop-entry g l = record {
  room : vec_len l.out + (length l.entries - l.entry-index) * g.F.EntryForm.WIDTH ≤ vec_capacity l.out;
  written : l.out.items ++ flat_map g.F.EntryForm.form (drop l.entry-index l.entries) ≡ l.fn.out.items ++ flat_map g.F.EntryForm.form l.entries;
}
