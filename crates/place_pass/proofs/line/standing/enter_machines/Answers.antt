use Rattle.std.proofs.Common.{◌≡◌, ◌<◌, false, nat_lt, length, get_or, refl, sym, ◌∙◌, ap, subst, arith, inl, inr}
use Rattle.std.specs.Prelude.{◌||◌}
use Rattle.std.proofs.lemmas.Bool.{cases_eq, cases_lt}
use Rattle.std.proofs.lemmas.Grind.{get_or_default_zero}
use Rattle.fuxi_terms.specs.Cluster.{ClusterRecord}
use Rattle.fuxi_terms.specs.Tables.{held_on}
use Rattle.fuxi_terms.specs.TallyKeys.{near_key}
use Rattle.locality_tree.specs.Trees.{unit_at, unit_number, place_count}
use Rattle.place_pass.specs.Cells.{Cell, asks_in}
use Rattle.place_pass.specs.PlacerTrees.{is_unmet_on}
use Rattle.place_pass.proofs.PlainLemmas.{stands_unasked}
use Rattle.place_pass.proofs.PlacerTreesLemmas.{restood_then, marked, marked_here, marked_apart, marked_waits, racks_long}
use Rattle.place_pass.proofs.line.standing.enter_machines.Goals as goal

pub enter_on-requires-clause-outside : goal.enter_on-requires-clause-outside
enter_on-requires-clause-outside c =
    let i = c.loop-number.invariant in
    let test = c.loop-number-test.true in
    let end = c.machines-machines.ensures.number in
    let k = ap (λ (x : ClusterRecord). length x.machines) c.cluster.ensures.cluster in
    i.ahead c.loop-number.number (omega arith) ∙ c.requires.nowhere c.loop-number.number (omega (arith, test, end, k))

pub loop-number-preserved : goal.loop-number-preserved
loop-number-preserved c =
    let w = c.args.wishes.now in
    let es = c.args.table.now.entries in
    let e = c.args.entry.now in
    let n = c.loop-number.number in
    let t = c.loop-number.tree in
    let t' = c.enter_on.new.tree in
    let near = c.wish.result.now.near.items in
    let unmet = nat_lt (get_or c.counts-held.result.now n 0) c.index.result.now in
    let unmet_is : unmet ≡ is_unmet_on w.cells es e.app.0 e.unit.0 n =
    ap (λ h. nat_lt h c.index.result.now) (c.counts-held.ensures.is n) ∙ ap (nat_lt (held_on es e.app.0 e.unit.0 n)) (c.index.ensures ∙ get_or_default_zero near n c.index.result.now (let wide = (c.wish.ensures.sound.unit e.app.0 e.unit.0 c.requires.here).near in let long = ap (λ (x : Cell). length x.near) c.wish.ensures.cell in let lt = c.loop-number-test.true in let m = c.machines-machines.ensures.number in let same = ap (λ (x : ClusterRecord). length x.machines) c.cluster.ensures.cluster in omega (arith, wide, long, lt, m, same))) ∙ ap (λ (x : Cell). nat_lt (held_on es e.app.0 e.unit.0 n) (get_or x.near n 0)) c.wish.ensures.cell in
    let i = c.loop-number.invariant in
    let test = c.loop-number-test.true in
    let end = c.machines-machines.ensures.number in
    let k = ap (λ (x : ClusterRecord). length x.machines) c.cluster.ensures.cluster in
    let l = racks_long w.cluster t i.waits.racks in
    let next = c.first_some-number-in-loop-number.ensures in
    let least = next.least in
    let last = next.inside in
    let within : n < place_count t.racks = omega (arith, test, end, k, l) in
    let apart = marked_apart w.cluster t t' e n unmet i.waits c.enter_on.ensures within in
    record {
      inside = last;
      restood = restood_then (unit_number e.app.0 e.unit.0) c.args.tree.now t t' i.restood (marked w.cluster t t' e n unmet i.waits c.enter_on.ensures);
      waits = marked_waits w.cluster t t' e n unmet i.waits c.enter_on.ensures;
      near = λ m lt. elim (cases_eq m n) as (λ _. get_or (unit_at t' e.app.0 e.unit.0).stands m false ≡ is_unmet_on w.cells es e.app.0 e.unit.0 m) [
        | inl q ↦ subst (λ j. get_or (unit_at t' e.app.0 e.unit.0).stands j false ≡ is_unmet_on w.cells es e.app.0 e.unit.0 j) (sym q) (marked_here w.cluster t t' e n unmet i.waits c.enter_on.ensures within n refl ∙ unmet_is)
        | inr d ↦ apart m d ∙ elim (cases_lt m n) as (λ _. get_or (unit_at t e.app.0 e.unit.0).stands m false ≡ is_unmet_on w.cells es e.app.0 e.unit.0 m) [
          | inl less ↦ i.near m less
          | inr ge ↦
              let asked = asks_in w.cells e.app.0 (near_key e.unit.0 m) in
              let none : asked ≡ 0 = ap (λ (x : Cell). get_or x.near m 0) (sym c.wish.ensures.cell) ∙ ap (λ ns. get_or ns m 0) (sym c.deref-in-loop-number.ensures.value) ∙ next.passed m (omega (arith, ge, d)) lt in
              let stands = i.ahead m (omega (arith, ge)) ∙ c.requires.nowhere m (omega (arith, lt, last, end, k)) in
              stands_unasked asked (held_on es e.app.0 e.unit.0 m) (get_or (unit_at t e.app.0 e.unit.0).stands m false) (λ j. nat_lt 0 (none j) || stands j)
        ]
      ];
      ahead = λ place ge. apart place (omega (arith, ge, least)) ∙ i.ahead place (omega (arith, ge, least));
    }
