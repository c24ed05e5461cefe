use Rattle.std.proofs.Common.{◌≡◌, ◌<◌, true, false, cond, [], length, get_or, sym, ◌∙◌, ap, subst, arith, inl, inr}
use Rattle.std.proofs.lemmas.Bool.{cases_lt}
use Rattle.fuxi_terms.specs.Cluster.{ClusterRecord}
use Rattle.place_pass.specs.Cells.{Cell, cell_at, ones_in}
use Rattle.place_pass.proofs.Places.{counted_at, counted_past}
use Rattle.locality_tree.specs.PlaceSets.{in_set}
use Rattle.place_pass.proofs.demand.wishes.Wishes.avoids_any.Goals as goal

pub loop-number-preserved-then-not-may_differ : goal.loop-number-preserved-then-not-may_differ
loop-number-preserved-then-not-may_differ c = record {
  avoided = λ u n lt differs. elim (cases_lt u c.loop-number.number) [
    | inl l ↦ c.loop-number.invariant.avoided u n l differs
    | inr ge ↦ let same : c.loop-number.number ≡ u = omega (arith, lt, ge) in
        let e : true ≡ false = sym differs ∙ ap (λ v. get_or c.args.differing.now v true) (sym same) ∙ sym c.may_differ.ensures ∙ c.if-not-may_differ.true in cc
  ];
}

pub loop-number-preserved : goal.loop-number-preserved
loop-number-preserved c = record {
  avoided = λ u n lt differs. elim (cases_lt u c.loop-number.number) [
    | inl l ↦ c.loop-number.invariant.avoided u n l differs
    | inr ge ↦
        let same : c.loop-number.number ≡ u = omega (arith, lt, ge) in
        let there : c.loop-number.number < length (get_or c.args.self.now.cells c.args.app.0 []) = omega (arith, same, let t = c.loop-number-test.true in t, let e = c.units-number-end.ensures.number in e) in
        let near = (c.wish.ensures.sound.unit c.args.app.0 c.loop-number.number there).near in
        let long = ap (λ (x : Cell). length x.near) c.wish.ensures.cell in
        let k = ap (λ (x : ClusterRecord). length x.machines) c.cluster.ensures.cluster in
        let m = c.machines-machines.ensures.number in
        let first = c.if-next-machines.false in
        let all = length c.wish.result.now.near.items in
        let s = c.wish.result.now.avoided in
        let read : get_or (ones_in all s) n 0 ≡ 0 = elim (cases_lt n all) [
          | inl l ↦ counted_at (λ i. cond (in_set s i) 1 0) all n l ∙ ap (λ b. cond b 1 0) (c.next.ensures.between n (omega arith) (omega (arith, l, near, long, k, m, first)))
          | inr le ↦ counted_past (λ i. cond (in_set s i) 1 0) all n le
        ] in
        subst (λ v. get_or (cell_at c.args.self.now.cells c.args.app.0 v).avoided n 0 ≡ 0) same (ap (λ (x : Cell). get_or x.avoided n 0) (sym c.wish.ensures.cell) ∙ read)
  ];
}

pub returns : goal.returns
returns c e u n lt differs = let t = c.loop-number-test.false in let units = c.units-number-end.ensures.number in c.loop-number.invariant.avoided u n (omega (arith, lt, t, units)) differs
