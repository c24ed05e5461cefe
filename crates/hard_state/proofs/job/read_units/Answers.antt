use Rattle.std.proofs.Common.{◌≡◌, [], ◌∷◌, ◌++◌, ◌+◌, ◌-◌, length, take, drop, map, ap, ◌∙◌, arith, length-drop}
use Rattle.std.proofs.lemmas.List.{map-append, take_rest}
use Rattle.hard_state.specs.UnitRecords.{unit_of}
use Rattle.hard_state.specs.RecordBodies.{unit_size, units_in}
use Rattle.hard_state.proofs.Front.{bytes_left, unit_more}
use Rattle.hard_state.proofs.job.read_units.Goals as goal

pub loop-number-preserved : goal.loop-number-preserved
loop-number-preserved c =
    let v = c.args.version in
    let n = c.args.units in
    let i = c.loop-number.number in
    let rest = c.loop-number.rest.now in
    let size = c.unit_size.result in
    let asks = c.loop-number.asks in
    let ask = c.in_ok-read_unit.field-0 in
    let behind : take (length rest - size) (drop size rest) ≡ drop (unit_size v) rest = take_rest rest size ∙ ap (λ k. drop k rest) c.unit_size.ensures in
    record {
      long = ap length behind ∙ omega (arith, length-drop (unit_size v) rest, c.loop-number.invariant.long, bytes_left (unit_size v) n i c.loop-number-test.true);
      read =
          ap (λ l. map unit_of c.push.new.self ++ units_in v (n - (i + 1)) l) behind
          ∙ unit_more v n i c.args.bytes.now rest (map unit_of asks) (map unit_of c.push.new.self) (unit_of ask) c.loop-number-test.true
          (ap (map unit_of) c.in_ok-push.ensures ∙ map-append unit_of asks (ask ∷ [])) c.in_ok-read_unit.ensures c.loop-number.invariant.read;
    }
