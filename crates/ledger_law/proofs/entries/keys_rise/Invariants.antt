use Rattle.std.proofs.Common.{◌≡◌, ◌-◌, drop}
use Rattle.std.specs.FinMap.Entries.{is_sorted}
use Rattle.ledger_law.proofs.entries.keys_rise.Given as goal

abbrev pub invariant-loop-i : goal.invariant-loop-i
invariant-loop-i g l = is_sorted g.K.Ord.cmp (drop (l.i - 1) l.entries) ≡ is_sorted g.K.Ord.cmp l.entries
