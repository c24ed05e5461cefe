use Rattle.std.proofs.Common.{◌≡◌, ◌<◌, ℕ, false, nat_lt, get_or, refl, sym, ◌∙◌, ap, subst, arith, inl, inr}
use Rattle.std.specs.Prelude.{◌||◌}
use Rattle.std.proofs.lemmas.Bool.{cases_eq}
use Rattle.fuxi_terms.specs.Tables.{held_in}
use Rattle.fuxi_terms.specs.TallyKeys.{rack_key}
use Rattle.locality_tree.specs.Trees.{unit_at, unit_number, place_count, rack_place}
use Rattle.place_pass.specs.Cells.{Cell, asks_in}
use Rattle.place_pass.specs.PlacerTrees.{is_unmet_in}
use Rattle.place_pass.proofs.PlainLemmas.{stands_unasked}
use Rattle.place_pass.proofs.PlacerTreesLemmas.{restood_self, restood_then, marked, marked_here, marked_apart, marked_waits, racks_long}
use Rattle.place_pass.proofs.line.standing.mark_racks.Goals as goal

pub loop-number-init : goal.loop-number-init
loop-number-init c = record {
  restood = restood_self (unit_number c.args.entry.now.app.0 c.args.entry.now.unit.0) c.args.tree.now;
  waits = c.requires.waits;
  racks = λ r lt. absurd (omega (arith, lt));
  rest = λ place _. refl;
}

pub asks_or_stands_within-requires-clause-waits : goal.asks_or_stands_within-requires-clause-waits
asks_or_stands_within-requires-clause-waits c = c.loop-number.invariant.waits.entry

-- a rack for which it does not ask, and in which it does not stand, is passed
pub loop-number-preserved-then-not-asks_or_stands_within : goal.loop-number-preserved-then-not-asks_or_stands_within
loop-number-preserved-then-not-asks_or_stands_within c =
    let w = c.args.wishes.now in
    let e = c.args.entry.now in
    let n = c.loop-number.number in
    let t = c.loop-number.tree in
    let i = c.loop-number.invariant in
    let asked = asks_in w.cells e.app.0 (rack_key e.unit.0 n) in
    let there = get_or (unit_at t e.app.0 e.unit.0).stands (rack_place t.racks n) false in
    let neither : (nat_lt 0 asked || there) ≡ false = ap (λ (x : Cell). nat_lt 0 (get_or x.racks n 0) || there) (sym c.wish-wish.ensures.cell) ∙ sym c.asks_or_stands_within.ensures ∙ c.if-not-asks_or_stands_within.true in
    record {
      restood = i.restood;
      waits = i.waits;
      racks = λ r lt. elim (cases_eq r n) as (λ _. get_or (unit_at t e.app.0 e.unit.0).stands (rack_place t.racks r) false ≡ is_unmet_in w.cluster w.cells c.args.table.now.entries e.app.0 e.unit.0 r) [
        | inl q ↦ subst (λ j. get_or (unit_at t e.app.0 e.unit.0).stands (rack_place t.racks j) false ≡ is_unmet_in w.cluster w.cells c.args.table.now.entries e.app.0 e.unit.0 j) (sym q)
            (stands_unasked asked (held_in w.cluster c.args.table.now.entries e.app.0 e.unit.0 n) there neither)
        | inr d ↦ i.racks r (omega (arith, lt, d))
      ];
      rest = i.rest;
    }

pub mark_rack-requires-clause-waits : goal.mark_rack-requires-clause-waits
mark_rack-requires-clause-waits c = c.loop-number.invariant.waits.entry

pub loop-number-preserved : goal.loop-number-preserved
loop-number-preserved c =
    let w = c.args.wishes.now in
    let a = c.args.entry.now.app.0 in
    let u = c.args.entry.now.unit.0 in
    let t = c.loop-number.tree in
    let t' = c.mark_rack.new.self in
    let i = c.loop-number.invariant in
    let place : ℕ = rack_place t.racks c.loop-number.number in
    let test = c.loop-number-test.true in
    let long = racks_long w.cluster t i.waits.racks in
    let within : place < place_count t.racks = omega (arith, test) in
    let m = marked w.cluster t t' c.args.entry.now place c.is_unmet_in-unmet.result i.waits c.mark_rack.ensures in
    let apart = marked_apart w.cluster t t' c.args.entry.now place c.is_unmet_in-unmet.result i.waits c.mark_rack.ensures within in
    record {
      restood = restood_then (unit_number a u) c.args.tree.now t t' i.restood m;
      waits = marked_waits w.cluster t t' c.args.entry.now place c.is_unmet_in-unmet.result i.waits c.mark_rack.ensures;
      racks = λ r lt. (λ j. get_or (unit_at t' a u).stands (rack_place (m.racks j) r) false) ∙ elim (cases_eq r c.loop-number.number) as (λ _. get_or (unit_at t' a u).stands (rack_place t.racks r) false ≡ is_unmet_in w.cluster w.cells c.args.table.now.entries a u r) [
        | inl q ↦ subst (λ j. get_or (unit_at t' a u).stands (rack_place t.racks j) false ≡ is_unmet_in w.cluster w.cells c.args.table.now.entries a u j) (sym q)
            (marked_here w.cluster t t' c.args.entry.now place c.is_unmet_in-unmet.result i.waits c.mark_rack.ensures within place refl ∙ c.is_unmet_in-unmet.ensures)
        | inr d ↦ apart (rack_place t.racks r) (omega (arith, d)) ∙ i.racks r (omega (arith, lt, d))
      ];
      rest = λ q lt. apart q (omega (arith, lt, long)) ∙ i.rest q lt;
    }

pub returns-clause-racks : goal.returns-clause-racks
returns-clause-racks c r lt = let end = c.loop-number-test.false in c.loop-number.invariant.racks r (omega (arith, lt, end))
