use Rattle.std.proofs.Common.{◌≡◌, drop}
use Rattle.fuxi_terms.specs.Keys.{key_cmp}
use Rattle.fuxi_terms.specs.Tallies.{staying}
use Rattle.fuxi_terms.specs.TallyKeys.{credited_what}
use Rattle.fuxi_terms.proofs.MovesLemmas.{IsMovesTo}
use Rattle.ledger_updates.proofs.job_grants.grants_change.Given as goal

abbrev pub invariant-loop-key : goal.invariant-loop-key
invariant-loop-key l = record {
  head : l.change.head ≡ l.boot;
  moves : IsMovesTo key_cmp (staying credited_what l.grants l.boot) l.numbers (drop l.key-index l.numbers) l.change.entries;
}
