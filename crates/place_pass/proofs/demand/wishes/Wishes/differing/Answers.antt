use Rattle.std.proofs.Common.{◌≡◌, ◌<◌, true, false, not, length, length-set, get_or, set, sym, ◌∙◌, subst, arith, inl, inr}
use Rattle.std.proofs.lemmas.Bool.{cases_eq}
use Rattle.std.proofs.lemmas.List.{get_or-set_same, get_or-set_other}
use Rattle.fuxi_terms.proofs.Booleans.{not_false}
use Rattle.place_pass.specs.Cells.{Cell, WishesRecord, cell_at, taken}
use Rattle.place_pass.proofs.demand.wishes.Wishes.differing.Goals as goal

pub loop-number-preserved : goal.loop-number-preserved
loop-number-preserved c =
    let w = c.args.self.now in
    let a = c.args.app.0 in
    let es = c.args.demand.now.entries in
    let i = c.loop-number.invariant in
    let n = c.loop-number.number in
    let long = i.long in
    let t = c.loop-number-test.true in let few = c.units-number-end.ensures.few in
    let there : n < length c.loop-number.differing = omega (arith, long, t, few) in
    record {
      long = length-set c.loop-number.differing n (not c.asks_the_same-same.result) ∙ i.long;
      same = λ u lt f. elim (cases_eq u n) as (λ _. taken w.cluster es u (cell_at w.cells a u) ≡ cell_at w.cells a u) [
        | inl q ↦
            let differs = c.loop-number.differing in
            let equal = c.asks_the_same-same.result in
            let at : get_or (set differs n (not equal)) n true ≡ false = subst (λ j. get_or (set differs n (not equal)) j true ≡ false) q f in
            let alike : equal ≡ true = not_false equal (sym (get_or-set_same differs n (not equal) true there) ∙ at) in
            let here : taken c.self.inside.cluster es n (cell_at w.cells a n) ≡ cell_at w.cells a n = subst (λ (x : Cell). taken c.self.inside.cluster es n x ≡ x) c.wish-wish.ensures.cell (c.asks_the_same-same.ensures alike) in
            subst (λ j. taken w.cluster es j (cell_at w.cells a j) ≡ cell_at w.cells a j) (sym q)
            (subst (λ (v : WishesRecord). taken v.cluster es n (cell_at w.cells a n) ≡ cell_at w.cells a n) c.self.view_is here)
        | inr d ↦ i.same u lt (sym (get_or-set_other c.loop-number.differing n u (not c.asks_the_same-same.result) true d) ∙ f)
      ];
    }
