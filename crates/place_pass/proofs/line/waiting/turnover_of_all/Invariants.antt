use Rattle.std.proofs.Common.{◌≡◌, ℕ, ◌<◌, true, false, nat_lt, [], length, get_or}
use Rattle.spec_roles.specs.Masters.{out_of}
use Rattle.spec_roles.specs.Placing.{has_pair}
use Rattle.place_pass.specs.Cells.{asks_in}
use Rattle.place_pass.proofs.line.waiting.turnover_of_all.Given as goal

abbrev pub invariant-loop-number : goal.invariant-loop-number
invariant-loop-number l = record {
  begins : l.begins ≡ false → (a u : ℕ) → a < l.number → get_or l.calm a false ≡ false → u < length (get_or l.wishes.cells a []) → nat_lt 0 (out_of (asks_in l.wishes.cells) l.table.entries a u) ≡ true → has_pair (a, u) l.line.pairs ≡ true;
  ends : l.ends ≡ false → (a u : ℕ) → a < l.number → get_or l.calm a false ≡ false → u < length (get_or l.wishes.cells a []) → has_pair (a, u) l.line.pairs ≡ true → nat_lt 0 (out_of (asks_in l.wishes.cells) l.table.entries a u) ≡ true;
}
