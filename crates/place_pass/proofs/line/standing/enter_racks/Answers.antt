use Rattle.std.proofs.Common.{◌≡◌, ℕ, ◌<◌, false, nat_lt, get_or, refl, sym, ◌∙◌, ap, subst, arith, inl, inr}
use Rattle.std.specs.Prelude.{◌||◌}
use Rattle.std.proofs.lemmas.Bool.{cases_eq, cases_lt}
use Rattle.fuxi_terms.specs.Tables.{held_in}
use Rattle.fuxi_terms.specs.TallyKeys.{rack_key}
use Rattle.locality_tree.specs.Trees.{unit_at, unit_number, place_count, rack_place}
use Rattle.place_pass.specs.Cells.{Cell, asks_in}
use Rattle.place_pass.specs.PlacerTrees.{is_unmet_in}
use Rattle.place_pass.proofs.PlainLemmas.{stands_unasked}
use Rattle.place_pass.proofs.PlacerTreesLemmas.{restood_then, marked, marked_here, marked_apart, marked_waits, racks_long}
use Rattle.place_pass.proofs.line.standing.enter_racks.Goals as goal

pub enter_within-requires-clause-outside : goal.enter_within-requires-clause-outside
enter_within-requires-clause-outside c = let test = c.loop-number-test.true in c.loop-number.invariant.ahead c.loop-number.number (omega arith) (omega (arith, test))

pub loop-number-preserved : goal.loop-number-preserved
loop-number-preserved c =
    let w = c.args.wishes.now in
    let es = c.args.table.now.entries in
    let a = c.args.entry.now.app.0 in
    let u = c.args.entry.now.unit.0 in
    let n = c.loop-number.number in
    let t = c.loop-number.tree in
    let t' = c.enter_within.new.tree in
    let unmet = c.is_unmet_in-unmet.result in
    let i = c.loop-number.invariant in
    let place : ℕ = rack_place t.racks n in
    let test = c.loop-number-test.true in
    let long = racks_long w.cluster t i.waits.racks in
    let next = c.first_some-number-in-loop-number.ensures in
    let least = next.least in
    let last = next.inside in
    let within : place < place_count t.racks = omega (arith, test) in
    let m = marked w.cluster t t' c.args.entry.now place unmet i.waits c.enter_within.ensures in
    let apart = marked_apart w.cluster t t' c.args.entry.now place unmet i.waits c.enter_within.ensures within in
    record {
      inside = last;
      restood = restood_then (unit_number a u) c.args.tree.now t t' i.restood m;
      waits = marked_waits w.cluster t t' c.args.entry.now place unmet i.waits c.enter_within.ensures;
      racks = λ r lt. (λ j. get_or (unit_at t' a u).stands (rack_place (m.racks j) r) false) ∙ elim (cases_eq r n) as (λ _. get_or (unit_at t' a u).stands (rack_place t.racks r) false ≡ is_unmet_in w.cluster w.cells es a u r) [
        | inl q ↦ subst (λ j. get_or (unit_at t' a u).stands (rack_place t.racks j) false ≡ is_unmet_in w.cluster w.cells es a u j) (sym q)
            (marked_here w.cluster t t' c.args.entry.now place unmet i.waits c.enter_within.ensures within place refl ∙ c.is_unmet_in-unmet.ensures)
        | inr d ↦ apart (rack_place t.racks r) (omega (arith, d)) ∙ elim (cases_lt r n) as (λ _. get_or (unit_at t a u).stands (rack_place t.racks r) false ≡ is_unmet_in w.cluster w.cells es a u r) [
          | inl less ↦ i.racks r less
          | inr ge ↦
              let asked = asks_in w.cells a (rack_key u r) in
              let none : asked ≡ 0 = ap (λ (x : Cell). get_or x.racks r 0) (sym c.wish-wish.ensures.cell) ∙ next.passed r (omega (arith, ge, d)) lt in
              let stands = i.ahead r (omega (arith, ge)) (omega (arith, lt, last)) in
              stands_unasked asked (held_in w.cluster es a u r) (get_or (unit_at t a u).stands (rack_place t.racks r) false) (λ j. nat_lt 0 (none j) || stands j)
        ]
      ];
      ahead = λ r ge lt. (λ j. get_or (unit_at t' a u).stands (rack_place (m.racks j) r) false) ∙ apart (rack_place t.racks r) (omega (arith, ge, least)) ∙ i.ahead r (omega (arith, ge, least)) lt;
      rest = λ q lt. apart q (omega (arith, lt, long)) ∙ i.rest q lt;
    }
