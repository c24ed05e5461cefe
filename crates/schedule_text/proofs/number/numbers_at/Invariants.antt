use Rattle.std.proofs.Common.{◌≡◌, ℕ, ◌+◌, ◌<◌, Ok, map, length, take, drop, get_or, ◌++◌}
use Rattle.fuxi_terms.specs.Counts.{then_do}
use Rattle.schedule_text.specs.PlaceNumbers.{numbers_at}
use Rattle.schedule_text.proofs.number.numbers_at.Given as goal

abbrev pub invariant-loop-index : goal.invariant-loop-index
invariant-loop-index g l = record {
  room : length l.numbers ≡ 4;
  along : numbers_at g.P.NumberPlace.within l.places l.first 0 (map (λ w. w.now) l.words) ≡ then_do (numbers_at g.P.NumberPlace.within (drop l.index l.places) (l.first + l.index) l.before (drop l.index (map (λ w. w.now) l.words))) (λ ns. Ok (take l.index l.numbers ++ ns));
  narrow : (i : ℕ) → i < l.index → g.P.NumberPlace.narrow (get_or l.places i g.P.NumberPlace.other) (get_or l.numbers i 0);
}
