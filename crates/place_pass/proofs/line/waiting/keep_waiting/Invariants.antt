use Rattle.std.proofs.Common.{◌≡◌, ◌≤◌, nat_lt, filter, length, take, drop}
use Rattle.fuxi_terms.specs.Keys.{Pair}
use Rattle.spec_roles.specs.Masters.{out_of}
use Rattle.place_pass.specs.Cells.{asks_in}
use Rattle.place_pass.specs.PlacerTrees.{HoldsLine, AllStand}
use Rattle.place_pass.specs.WaitingLines.{AreSameUnits}
use Rattle.place_pass.proofs.KeptInOrder.{walked}
use Rattle.place_pass.proofs.line.waiting.keep_waiting.Given as goal

abbrev pub invariant-loop-place : goal.invariant-loop-place
invariant-loop-place l = record {
  kept : l.kept ≤ l.place;
  long : length l.line.pairs ≡ length l.initial.line.pairs;
  front : take l.kept l.line.pairs ≡ filter (λ (p : Pair). nat_lt 0 (out_of (asks_in l.wishes.cells) l.table.entries p.0 p.1)) (take l.place l.initial.line.pairs);
  back : drop l.place l.line.pairs ≡ drop l.place l.initial.line.pairs;
  units : AreSameUnits l.initial.line.units l.line.units;
  holds : HoldsLine l.wishes.cluster l.wishes.cells (walked (λ p. nat_lt 0 (out_of (asks_in l.wishes.cells) l.table.entries p.0 p.1)) l.place l.initial.line.pairs) l.turn_of.items l.tree;
  stands : AllStand l.wishes.cluster l.wishes.cells l.table.entries l.initial.line.pairs l.initial.tree → AllStand l.wishes.cluster l.wishes.cells l.table.entries (walked (λ p. nat_lt 0 (out_of (asks_in l.wishes.cells) l.table.entries p.0 p.1)) l.place l.initial.line.pairs) l.tree;
}
