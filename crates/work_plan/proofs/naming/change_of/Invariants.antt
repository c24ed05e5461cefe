use Rattle.std.proofs.Common.{◌≡◌, drop}
use Rattle.fuxi_terms.specs.Keys.{key_cmp}
use Rattle.fuxi_terms.proofs.MovesLemmas.{IsMovesTo}
use Rattle.work_plan.proofs.naming.change_of.Given as goal

abbrev pub invariant-loop-key : goal.invariant-loop-key
invariant-loop-key l = record {
  head : l.change.head ≡ l.names.head;
  moves : IsMovesTo key_cmp l.names.entries l.numbers (drop l.key-index l.numbers) l.change.entries;
}
