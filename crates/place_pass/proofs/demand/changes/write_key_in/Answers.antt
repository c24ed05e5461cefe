use Rattle.std.proofs.Common.{◌≡◌, ◌<◌, ℕ, List, length, get_or, set, map, sym, ◌∙◌, ap, subst, arith}
use Rattle.std.proofs.lemmas.List.{map-set, length-map, get_or-map, get_or-set_same, get_or-set_other}
use Rattle.std.proofs.Common.{length-set}
use Rattle.place_pass.specs.declared.demand.wishes.Wish.{Wish}
use Rattle.place_pass.specs.Cells.{Cell, cell_of, cells_in, no_cell, asks_at}
use Rattle.place_pass.specs.DemandScopes.{IsWritten, asked_by, is_more_at}
use Rattle.place_pass.proofs.demand.changes.write_key_in.Goals as goal

read_at : (units : List Wish) (u : ℕ) (x : Wish) → u < length units → x ≡ get_or units u x → cell_of x ≡ get_or (map cell_of units) u no_cell
read_at units u x lt e = sym (get_or-map cell_of units u x no_cell lt ∙ ap cell_of (sym e))

there : (c : goal.After-index_mut-wish) → c.args.key.now.unit < length c.args.units.now.items
there c = let lt = c.if-number-len.false in let n = c.len.ensures in omega (arith, lt, n)

read_is : (c : goal.After-index_mut-wish) → cell_of c.index_mut-wish.result.now ≡ get_or (cells_in c.args.units.now) c.args.key.now.unit no_cell
read_is c = read_at c.args.units.now.items c.args.key.now.unit c.index_mut-wish.result.now (there c) c.index_mut-wish.ensures.value

pub write_key-requires : goal.write_key-requires
write_key-requires c = ap (λ (x : Cell). length x.near) (read_is c) ∙ c.requires c.args.key.now.unit (there c)

pub returns-clause-cells : goal.returns-clause-cells
returns-clause-cells c =
    let units = c.args.units.now.items in
    let u = c.args.key.now.unit in
    let k = c.write_key.new.wish in
    let k' = c.args.cluster.now in
    let es = c.args.demand.now.entries in
    let long = length-map units cell_of in
    let there : u < length units = let t = c.if-number-len.false in let n = c.len.ensures in omega (arith, t, n) in
    let lt : u < length (map cell_of units) = omega (arith, there, long) in
    let read = read_at units u c.index_mut-wish.result.now there c.index_mut-wish.ensures.value in
    let is : map cell_of (set units u k) ≡ set (map cell_of units) u (cell_of k) = map-set cell_of units u k in
    record {
      long = ap length is ∙ length-set (map cell_of units) u (cell_of k);
      here = λ _. subst (IsWritten k' es c.args.key.now (get_or (map cell_of units) u no_cell)) (sym (ap (λ xs. get_or xs u no_cell) is ∙ get_or-set_same (map cell_of units) u (cell_of k) no_cell lt))
          (subst (λ y. IsWritten k' es c.args.key.now y (cell_of k)) read c.write_key.ensures.cell);
      others = λ v d. ap (λ xs. get_or xs v no_cell) is ∙ get_or-set_other (map cell_of units) u v (cell_of k) no_cell d;
    }

pub returns-clause-more : goal.returns-clause-more
returns-clause-more c lt = c.write_key.ensures.more ∙ ap (λ y. is_more_at c.args.key.now (asks_at y c.args.key.now) (asked_by c.args.cluster.now c.args.demand.now.entries c.args.key.now)) (read_at c.args.units.now.items c.args.key.now.unit c.index_mut-wish.result.now lt c.index_mut-wish.ensures.value)
