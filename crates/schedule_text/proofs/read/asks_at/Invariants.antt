use Rattle.std.proofs.Common.{◌≡◌, ℕ, ◌+◌, true, List, length, Ok, Bor, map, drop, ◌++◌}
use Rattle.std.specs.List.{sum_by, list_all}
use Rattle.fuxi_terms.specs.Counts.{then_do}
use Rattle.schedule_text.specs.ReadEvents.{units_of, asks_at, is_unit}
use Rattle.schedule_text.proofs.read.asks_at.Given as goal

abbrev pub invariant-loop-unit : goal.invariant-loop-unit
invariant-loop-unit l = let units = map (λ (u : Bor (List (Bor (List ℕ)))). map (λ (w : Bor (List ℕ)). w.now) u.now) l.unit-items in record {
  along : asks_at l.first (units_of (map (λ w. w.now) l.words)) ≡ then_do (asks_at l.place (drop l.unit-index units)) (λ asks. Ok (l.asks ++ asks));
  room : l.place + sum_by (λ u. length u + 1) (drop l.unit-index units) ≡ l.first + length l.words + 1;
  some : list_all is_unit (drop l.unit-index units) ≡ true;
}
