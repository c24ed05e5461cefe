use Rattle.std.proofs.Common.{◌≡◌, ◌+◌, ◌-◌, ◌≤◌, length, drop, vec_len, vec_capacity}
use Rattle.fuxi_terms.specs.Keys.{key_cmp}
use Rattle.fuxi_terms.specs.Counts.{AreCounts, change_all}
use Rattle.fuxi_terms.specs.declared.answers.LedgerFault.TheVariants.{Below, TooGreat}
use Rattle.ledger_law.proofs.tally.make_changes.Given as goal

abbrev pub invariant-loop-key : goal.invariant-loop-key
invariant-loop-key g l = record {
  counts : AreCounts key_cmp g.S.Shape.greatest_of l.entries.items;
  room : vec_len l.entries + (length l.changes - l.key-index) ≤ vec_capacity l.entries;
  made : change_all key_cmp Below TooGreat g.S.Shape.greatest_of l.entries.items (drop l.key-index l.changes) ≡ change_all key_cmp Below TooGreat g.S.Shape.greatest_of l.fn.entries.items l.changes;
}
