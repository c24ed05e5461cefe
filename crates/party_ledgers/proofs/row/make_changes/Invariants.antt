use Rattle.std.proofs.Common.{◌≡◌, ◌+◌, ◌-◌, ◌≤◌, length, drop, vec_len, vec_capacity}
use Rattle.fuxi_terms.specs.Rows.{IsRow, patched_row}
use Rattle.party_ledgers.proofs.row.make_changes.Given as goal

abbrev pub invariant-loop-key : goal.invariant-loop-key
invariant-loop-key l = record {
  row : IsRow l.entries.items;
  room : vec_len l.entries + (length l.changes - l.key-index) ≤ vec_capacity l.entries;
  made : patched_row l.entries.items (drop l.key-index l.changes) ≡ patched_row l.fn.entries.items l.changes;
}
