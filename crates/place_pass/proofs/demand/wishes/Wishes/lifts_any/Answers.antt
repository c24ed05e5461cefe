use Rattle.std.proofs.Common.{◌≡◌, ◌<◌, true, false, [], length, get_or, refl, ap, subst, arith, inl, inr}
use Rattle.std.proofs.lemmas.Bool.{cases_lt}
use Rattle.fuxi_terms.specs.Counts.{count}
use Rattle.fuxi_terms.specs.Keys.{key_cmp}
use Rattle.fuxi_terms.specs.TallyKeys.{avoid_key}
use Rattle.place_pass.specs.Cells.{AvoidsStill, cell_at}
use Rattle.place_pass.proofs.AskedTheSame.{still_same}
use Rattle.place_pass.proofs.demand.wishes.Wishes.lifts_any.Goals as goal

pub returns-then-not-avoids_any : goal.returns-then-not-avoids_any
returns-then-not-avoids_any c e m l u lt was = elim (get_or c.args.differing.now u true) as (λ b. get_or c.args.differing.now u true ≡ b → 0 < count key_cmp c.args.demand.now.entries (avoid_key u m)) [
  | true ↦ λ differs. let z = c.avoids_any.ensures c.if-not-avoids_any.true u m lt differs in absurd (omega (arith, z, was))
  | false ↦ λ alike. still_same c.args.self.now.cluster c.args.demand.now.entries u m (cell_at c.args.self.now.cells c.args.app.0 u) l (c.requires u lt alike) was
] refl

pub loop-number-preserved : goal.loop-number-preserved
loop-number-preserved c = record {
  still = λ m lt. elim (cases_lt m c.loop-number.number) [
    | inl l ↦ c.loop-number.invariant.still m l
    | inr ge ↦ let same : c.loop-number.number ≡ m = omega (arith, lt, ge) in
        subst (AvoidsStill c.args.demand.now.entries (get_or c.args.self.now.cells c.args.app.0 [])) same (c.lifts.ensures.none c.if-lifts.false)
  ];
}

pub returns : goal.returns
returns c e m l =
    let t = c.loop-number-test.false in
    let machines = c.machines-number-end.ensures.number in
    let same : length c.cluster.result.now.machines ≡ length c.args.self.now.cluster.machines = ap (λ (k : _). length k.machines) c.cluster.ensures.cluster in
    c.loop-number.invariant.still m (omega (arith, l, t, machines, same))
