use Rattle.std.proofs.Common.{◌≡◌, ◌<◌, false, nat_lt, length, get_or, refl, sym, ◌∙◌, ap, subst, arith, inl, inr}
use Rattle.std.specs.Prelude.{◌||◌}
use Rattle.std.proofs.lemmas.Bool.{cases_eq}
use Rattle.fuxi_terms.specs.Cluster.{ClusterRecord}
use Rattle.fuxi_terms.specs.Tables.{held_on}
use Rattle.fuxi_terms.specs.TallyKeys.{near_key}
use Rattle.locality_tree.specs.Trees.{unit_at, unit_number, place_count}
use Rattle.place_pass.specs.Cells.{Cell, asks_in}
use Rattle.place_pass.specs.PlacerTrees.{is_unmet_on}
use Rattle.place_pass.proofs.PlainLemmas.{stands_unasked}
use Rattle.place_pass.proofs.PlacerTreesLemmas.{restood_self, restood_then, marked, marked_here, marked_apart, marked_waits, racks_long}
use Rattle.place_pass.proofs.line.standing.mark_machines.Goals as goal

pub loop-number-init : goal.loop-number-init
loop-number-init c = record {
  restood = restood_self (unit_number c.args.entry.now.app.0 c.args.entry.now.unit.0) c.args.tree.now;
  waits = c.requires.waits;
  near = λ m lt. absurd (omega (arith, lt));
  rest = λ place _. refl;
}

pub asks_or_stands_on-requires-clause-waits : goal.asks_or_stands_on-requires-clause-waits
asks_or_stands_on-requires-clause-waits c = c.loop-number.invariant.waits.entry

pub asks_or_stands_on-requires-clause-machine : goal.asks_or_stands_on-requires-clause-machine
asks_or_stands_on-requires-clause-machine c =
    let t = c.loop-number-test.true in
    let e = c.machines-number-end.ensures.number in
    let k = ap (λ (x : ClusterRecord). length x.machines) c.cluster.ensures.cluster in
    let l = racks_long c.args.wishes.now.cluster c.loop-number.tree c.loop-number.invariant.waits.racks in
    omega (arith, t, e, k, l)

pub asks_or_stands_on-requires-clause-near : goal.asks_or_stands_on-requires-clause-near
asks_or_stands_on-requires-clause-near c =
    let t = c.loop-number-test.true in
    let e = c.machines-number-end.ensures.number in
    let k = ap (λ (x : ClusterRecord). length x.machines) c.cluster.ensures.cluster in
    let w = (c.wish-wish.ensures.sound.unit c.args.entry.now.app.0 c.args.entry.now.unit.0 c.requires.here).near in
    let n = ap (λ (x : Cell). length x.near) c.wish-wish.ensures.cell in
    omega (arith, t, e, k, w, n)

-- a machine for which it does not ask, and on which it does not stand, is passed
pub loop-number-preserved-then-not-asks_or_stands_on : goal.loop-number-preserved-then-not-asks_or_stands_on
loop-number-preserved-then-not-asks_or_stands_on c =
    let w = c.args.wishes.now in
    let a = c.args.entry.now.app.0 in
    let u = c.args.entry.now.unit.0 in
    let n = c.loop-number.number in
    let t = c.loop-number.tree in
    let asked = asks_in w.cells a (near_key u n) in
    let there = get_or (unit_at t a u).stands n false in
    let neither : (nat_lt 0 asked || there) ≡ false = ap (λ (x : Cell). nat_lt 0 (get_or x.near n 0) || there) (sym c.wish-wish.ensures.cell) ∙ sym c.asks_or_stands_on.ensures ∙ c.if-not-asks_or_stands_on.true in
    record {
      restood = c.loop-number.invariant.restood;
      waits = c.loop-number.invariant.waits;
      near = λ m lt. elim (cases_eq m n) as (λ _. get_or (unit_at t a u).stands m false ≡ is_unmet_on w.cells c.args.table.now.entries a u m) [
        | inl q ↦ subst (λ j. get_or (unit_at t a u).stands j false ≡ is_unmet_on w.cells c.args.table.now.entries a u j) (sym q) (stands_unasked asked (held_on c.args.table.now.entries a u n) there neither)
        | inr d ↦ c.loop-number.invariant.near m (omega (arith, lt, d))
      ];
      rest = c.loop-number.invariant.rest;
    }

pub is_unmet_on-unmet-requires-clause-machine : goal.is_unmet_on-unmet-requires-clause-machine
is_unmet_on-unmet-requires-clause-machine c =
    let t = c.loop-number-test.true in
    let e = c.machines-number-end.ensures.number in
    let k = ap (λ (x : ClusterRecord). length x.machines) c.cluster.ensures.cluster in
    omega (arith, t, e, k)

pub mark_machine-requires-clause-waits : goal.mark_machine-requires-clause-waits
mark_machine-requires-clause-waits c = c.loop-number.invariant.waits.entry

pub mark_machine-requires-clause-machine : goal.mark_machine-requires-clause-machine
mark_machine-requires-clause-machine c =
    let t = c.loop-number-test.true in
    let e = c.machines-number-end.ensures.number in
    let k = ap (λ (x : ClusterRecord). length x.machines) c.cluster.ensures.cluster in
    let l = racks_long c.args.wishes.now.cluster c.loop-number.tree c.loop-number.invariant.waits.racks in
    omega (arith, t, e, k, l)

pub loop-number-preserved : goal.loop-number-preserved
loop-number-preserved c =
    let cl = c.args.wishes.now.cluster in
    let e = c.args.entry.now in
    let n = c.loop-number.number in
    let t = c.loop-number.tree in
    let t' = c.mark_machine.new.self in
    let unmet = c.is_unmet_on-unmet.result in
    let i = c.loop-number.invariant in
    let test = c.loop-number-test.true in
    let end = c.machines-number-end.ensures.number in
    let k = ap (λ (x : ClusterRecord). length x.machines) c.cluster.ensures.cluster in
    let l = racks_long cl t i.waits.racks in
    let within : n < place_count t.racks = omega (arith, test, end, k, l) in
    record {
      restood = restood_then (unit_number e.app.0 e.unit.0) c.args.tree.now t t' i.restood (marked cl t t' e n unmet i.waits c.mark_machine.ensures);
      waits = marked_waits cl t t' e n unmet i.waits c.mark_machine.ensures;
      near = λ m lt. elim (cases_eq m n) as (λ _. get_or (unit_at t' e.app.0 e.unit.0).stands m false ≡ is_unmet_on c.args.wishes.now.cells c.args.table.now.entries e.app.0 e.unit.0 m) [
        | inl q ↦ subst (λ j. get_or (unit_at t' e.app.0 e.unit.0).stands j false ≡ is_unmet_on c.args.wishes.now.cells c.args.table.now.entries e.app.0 e.unit.0 j) (sym q) (marked_here cl t t' e n unmet i.waits c.mark_machine.ensures within n refl ∙ c.is_unmet_on-unmet.ensures)
        | inr d ↦ marked_apart cl t t' e n unmet i.waits c.mark_machine.ensures within m d ∙ i.near m (omega (arith, lt, d))
      ];
      rest = λ place ge. marked_apart cl t t' e n unmet i.waits c.mark_machine.ensures within place (omega (arith, ge, test, end, k)) ∙ i.rest place ge;
    }

pub returns-clause-near : goal.returns-clause-near
returns-clause-near c m lt =
    let end = c.loop-number-test.false in
    let e = c.machines-number-end.ensures.number in
    let k = ap (λ (x : ClusterRecord). length x.machines) c.cluster.ensures.cluster in
    c.loop-number.invariant.near m (omega (arith, lt, end, e, k))
