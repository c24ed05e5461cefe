use Rattle.std.proofs.Common.{◌≡◌, ℕ, ◌+◌, List, [], ◌∷◌, codes, length, map, drop, get_or, Bor, sym, ◌∙◌, ap, arith}
use Rattle.std.proofs.lemmas.List.{length-map}
use Rattle.std.proofs.lemmas.List.Sums.{sum_by-cons}
use Rattle.std.specs.Str.{bytes_eq}
use Rattle.std.specs.List.{sum_by}
use Rattle.schedule_text.specs.ReadEvents.{units_of, asks_at, is_unit}
use Rattle.schedule_text.proofs.Pieces.{parts_counted}
use Rattle.schedule_text.proofs.Walks.{then_ok, behind_at, asks_step, asks_fault, first_passes}
use Rattle.schedule_text.proofs.read.asks_at.Goals as goal

-- a unit as it is read
abbrev seen : Bor (List (Bor (List ℕ))) → List (List ℕ)
seen u = map (λ (w : Bor (List ℕ)). w.now) u.now

-- the unit at the loop's index, and what is behind it
pub loop-unit-init : goal.loop-unit-init
loop-unit-init c =
    let all : map seen c.deref-unit-items.result.now ≡ units_of (map (λ w. w.now) c.args.words.now) = ap (map seen) c.deref-unit-items.ensures.value ∙ c.in_ok-units.ensures in
    record {
      along = rw (all, c.new-asks.ensures) (sym (then_ok (asks_at c.args.first (units_of (map (λ (w : Bor (List ℕ)). w.now) c.args.words.now)))));
      room = let e = parts_counted (λ w. bytes_eq w (codes "/")) (map (λ (w : Bor (List ℕ)). w.now) c.args.words.now) in
          let n = length-map c.args.words.now (λ (w : Bor (List ℕ)). w.now) in
          rw (all, e, n) (omega arith);
      some = rw all c.requires.units;
    }

pub ask_at-requires-clause-unit : goal.ask_at-requires-clause-unit
ask_at-requires-clause-unit c =
    let unit = get_or c.deref-unit-items.result.now c.loop-unit.unit-index (record { ref_ptr = (0, 0); now = [] }) in
    let here = rw (behind_at seen c.deref-unit-items.result.now c.loop-unit.unit-index (record { ref_ptr = (0, 0); now = [] }) c.loop-unit-test.true) at c.loop-unit.invariant.some in
    (first_passes is_unit (seen unit) (drop (c.loop-unit.unit-index + 1) (map seen c.deref-unit-items.result.now)) here).0

pub returns-in-Err-clause-fault : goal.returns-in-Err-clause-fault
returns-in-Err-clause-fault c =
    let unit = get_or c.deref-unit-items.result.now c.loop-unit.unit-index (record { ref_ptr = (0, 0); now = [] }) in
    asks_fault (seen unit) (drop (c.loop-unit.unit-index + 1) (map seen c.deref-unit-items.result.now)) c.loop-unit.place c.in-Err.fault c.loop-unit.asks _ c.in-Err.ensures.fault
    (rw (behind_at seen c.deref-unit-items.result.now c.loop-unit.unit-index (record { ref_ptr = (0, 0); now = [] }) c.loop-unit-test.true) at c.loop-unit.invariant.along)

pub loop-unit-preserved : goal.loop-unit-preserved
loop-unit-preserved c =
    let unit = get_or c.deref-unit-items.result.now c.loop-unit.unit-index (record { ref_ptr = (0, 0); now = [] }) in
    let rest = drop (c.loop-unit.unit-index + 1) (map seen c.deref-unit-items.result.now) in
    let behind = behind_at seen c.deref-unit-items.result.now c.loop-unit.unit-index (record { ref_ptr = (0, 0); now = [] }) c.loop-unit-test.true in
    let long = length-map unit.now (λ (w : Bor (List ℕ)). w.now) in
    record {
      along = rw c.in-Ok-push.ensures (rw long at (asks_step (seen unit) rest c.loop-unit.place c.in-Ok.ask c.loop-unit.asks _ c.in-Ok.ensures.ok (rw behind at c.loop-unit.invariant.along)));
      room = let room : c.loop-unit.place + sum_by (λ u. length u + 1) (seen unit ∷ rest) ≡ c.args.first + length c.args.words.now + 1 = rw behind at c.loop-unit.invariant.room in
          let sum = sum_by-cons (λ u. length u + 1) (seen unit) rest in
          omega (arith, room, sum, long);
      some = (first_passes is_unit (seen unit) rest (rw behind at c.loop-unit.invariant.some)).1;
    }
