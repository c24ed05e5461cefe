use Rattle.std.proofs.Common.{◌≡◌, ◌≢◌, ℕ, ◌<◌, true, false, cond, nat_eq, List, length, get_or, set, map, refl, sym, ◌∙◌, ap, subst, arith, inl, inr, length-set, rules}
use Rattle.std.specs.Prelude.{◌||◌}
use Rattle.std.proofs.lemmas.List.{ext_get_or, get_or_read, length-map, map-set, get_or-map}
use Rattle.std.proofs.lemmas.Bool.{cases_eq}
use Rattle.std.proofs.lemmas.Bool.Decides.{nat_tests}
use Rattle.place_pass.specs.declared.demand.wishes.Wish.{Wish}
use Rattle.place_pass.specs.Cells.{Cell, cell_of, cells_in, no_cell, taken, taken_all, any_more, asks_more}
use Rattle.fuxi_terms.proofs.Booleans.{number_is, or_false}
use Rattle.place_pass.proofs.AskedTheSame.{same_no_more}
use Rattle.place_pass.proofs.IdleKept.{any_last}
use Rattle.place_pass.proofs.CellsLemmas.{length-taken_all, get_or-taken_all}
use Rattle.place_pass.proofs.demand.wishes.take_over.Goals as goal
use Rattle.fuxi_terms.proofs.IndexedLists.{one_set}

-- the unit is as it was
read_at : (old now : List Wish) (n : ℕ) (x : Wish) → n < length now → x ≡ get_or now n x → get_or (map cell_of now) n no_cell ≡ get_or (map cell_of old) n no_cell → cell_of x ≡ get_or (map cell_of old) n no_cell
read_at old now n x lt e left = sym (get_or-map cell_of now n x no_cell lt ∙ ap cell_of (sym e)) ∙ left

read_is : (c : goal.After-index_mut-wish) → cell_of c.index_mut-wish.result.now ≡ get_or (cells_in c.args.units.now) c.loop-number.number no_cell
read_is c =
    let long = c.loop-number.invariant.long in
    let lt = c.loop-number-test.true in
    let end = c.len-number-end.ensures in
    read_at c.args.units.now.items c.loop-number.units.items c.loop-number.number c.index_mut-wish.result.now (omega (arith, long, lt, end)) c.index_mut-wish.ensures.value (c.loop-number.invariant.left c.loop-number.number (omega arith))

there_is : (c : goal.After-index_mut-wish) → c.loop-number.number < length c.args.units.now.items
there_is c = let lt = c.loop-number-test.true in let end = c.len-number-end.ensures in omega (arith, lt, end)

pub take_one-one-requires : goal.take_one-one-requires
take_one-one-requires c = ap (λ (x : Cell). length x.near) (read_is c) ∙ c.requires.near c.loop-number.number (there_is c)

-- the demand asks the same of the unit
pub loop-number-preserved-then-not-differing-number : goal.loop-number-preserved-then-not-differing-number
loop-number-preserved-then-not-differing-number c =
    let n = c.loop-number.number in
    let i = c.loop-number.invariant in
    let k = c.args.cluster.now in
    let es = c.args.demand.now.entries in
    let old = cells_in c.args.units.now in
    let lt = c.loop-number-test.true in
    let end = c.len-number-end.ensures in
    let there : n < length c.args.units.now.items = omega (arith, lt, end) in
    let few = c.requires.few in
    let eight : length c.args.differing.now ≡ 8 = search rules in
    let same = c.requires.same n there (sym (get_or_read c.args.differing.now n false (omega (arith, there, few, eight)) (sym c.if-not-differing-number.true) true)) in
    let none : asks_more k es n (get_or old n no_cell) ≡ false = same_no_more k es n (get_or old n no_cell) same in
    record {
      long = i.long;
      more = i.more ∙ sym (any_last (λ u. asks_more k es u (get_or old u no_cell)) n ∙ ap (λ b. any_more k es old n || b) none ∙ or_false (any_more k es old n));
      done = λ j l. elim (cases_eq j n) as (λ _. get_or (cells_in c.loop-number.units) j no_cell ≡ taken k es j (get_or old j no_cell)) [
        | inl q ↦ subst (λ m. get_or (cells_in c.loop-number.units) m no_cell ≡ taken k es m (get_or old m no_cell)) (sym q) (i.left n (omega arith) ∙ sym same)
        | inr d ↦ i.done j (omega (arith, l, d))
      ];
      left = λ j l. i.left j (omega (arith, l));
    }

pub loop-number-preserved : goal.loop-number-preserved
loop-number-preserved c =
    let n = c.loop-number.number in
    let old = c.args.units.now.items in
    let now = c.loop-number.units.items in
    let k = c.take_one-one.new.wish in
    let long = c.loop-number.invariant.long in
    let lt = c.loop-number-test.true in
    let end = c.len-number-end.ensures in
    let in_now : n < length now = omega (arith, long, lt, end) in
    let maps = length-map now cell_of in
    let there : n < length (cells_in c.loop-number.units) = omega (arith, in_now, maps) in
    let read = read_at c.args.units.now.items now n c.index_mut-wish.result.now in_now c.index_mut-wish.ensures.value (c.loop-number.invariant.left n (omega arith)) in
    let new : cell_of k ≡ taken c.args.cluster.now c.args.demand.now.entries n (get_or (cells_in c.args.units.now) n no_cell) = c.take_one-one.ensures.cell ∙ ap (taken c.args.cluster.now c.args.demand.now.entries n) read in
    let at : (i : ℕ) → get_or (map cell_of (set now n k)) i no_cell ≡ cond (nat_eq n i) (cell_of k) (get_or (cells_in c.loop-number.units) i no_cell) = λ i. ap (λ xs. get_or xs i no_cell) (map-set cell_of now n k) ∙ one_set (cells_in c.loop-number.units) n i (cell_of k) no_cell there in
    record {
      long = length-set now n k ∙ long;
      more = (λ i. c.loop-number.invariant.more i || (c.take_one-one.ensures.more ∙ ap (asks_more c.args.cluster.now c.args.demand.now.entries n) read) i) ∙ sym (any_last (λ u. asks_more c.args.cluster.now c.args.demand.now.entries u (get_or (cells_in c.args.units.now) u no_cell)) n);
      done = λ i l. at i ∙ elim (nat_eq n i) as (λ t. nat_eq n i ≡ t → cond t (cell_of k) (get_or (cells_in c.loop-number.units) i no_cell) ≡ taken c.args.cluster.now c.args.demand.now.entries i (get_or (cells_in c.args.units.now) i no_cell)) [
        | true ↦ λ t. subst (λ z. cell_of k ≡ taken c.args.cluster.now c.args.demand.now.entries z (get_or (cells_in c.args.units.now) z no_cell)) (number_is n i t) new
        | false ↦ λ f. let d : n ≢ i = grind (arith, nat_tests) in c.loop-number.invariant.done i (omega (arith, l, d))
      ] refl;
      left = λ i l. at i ∙ elim (nat_eq n i) as (λ t. nat_eq n i ≡ t → cond t (cell_of k) (get_or (cells_in c.loop-number.units) i no_cell) ≡ get_or (cells_in c.args.units.now) i no_cell) [
        | true ↦ λ t. let same = number_is n i t in absurd (omega (arith, same, l))
        | false ↦ λ f. c.loop-number.invariant.left i (omega (arith, l))
      ] refl;
    }

pub returns-clause-cells : goal.returns-clause-cells
returns-clause-cells c =
    let long = c.loop-number.invariant.long in
    let end = c.len-number-end.ensures in
    let stop = c.loop-number-test.false in
    let maps = length-map c.loop-number.units.items cell_of in
    let maps_old = length-map c.args.units.now.items cell_of in
    let all = length-taken_all c.args.cluster.now c.args.demand.now.entries 0 (cells_in c.args.units.now) in
    ext_get_or no_cell (cells_in c.loop-number.units) (taken_all c.args.cluster.now c.args.demand.now.entries 0 (cells_in c.args.units.now)) (omega (arith, long, maps, maps_old, all))
    (λ i lt.
    c.loop-number.invariant.done i (omega (arith, lt, maps, long, end, stop))
    ∙ sym (get_or-taken_all c.args.cluster.now c.args.demand.now.entries 0 i i (cells_in c.args.units.now) (omega arith) (omega (arith, lt, maps, long, maps_old))))
