use Rattle.std.proofs.Common.{◌≡◌, ℕ, ◌<◌, true, false, nat_lt}
use Rattle.spec_roles.specs.Masters.{out_of}
use Rattle.spec_roles.specs.Placing.{has_pair}
use Rattle.place_pass.specs.Cells.{asks_in}
use Rattle.place_pass.proofs.line.waiting.turnover_of.Given as goal

abbrev pub invariant-loop-number : goal.invariant-loop-number
invariant-loop-number l = record {
  begins : l.begins ≡ false → (u : ℕ) → u < l.number → nat_lt 0 (out_of (asks_in l.wishes.cells) l.table.entries l.app.0 u) ≡ true → has_pair (l.app.0, u) l.line.pairs ≡ true;
  ends : l.ends ≡ false → (u : ℕ) → u < l.number → has_pair (l.app.0, u) l.line.pairs ≡ true → nat_lt 0 (out_of (asks_in l.wishes.cells) l.table.entries l.app.0 u) ≡ true;
}
