-- Cells by job and unit: what is read after one is written.
use Rattle.std.proofs.Common.{◌≡◌, ℕ, ◌+◌, ◌<◌, zero, suc, take, drop, replicate, ◌∷◌, ◌++◌, true, false, cond, nat_eq, List, [], length, get_or, set, map, refl, sym, ◌∙◌, ap, subst, arith, length-set}
use Rattle.std.specs.Prelude.{◌&&◌}
use Rattle.std.specs.Global.{Vec}
use Rattle.std.proofs.lemmas.List.{get_or-set_other, get_or-map, map-set, length-map, length-drop, length-take, get_or-drop, get_or-take, get_or_default, drop-set-lt, drop-set-add, take-set-le, drop-replicate, take-replicate, map-append}
use Rattle.std.proofs.Math.Seq.{take-set-lt}
use Rattle.grant_table.specs.declared.holding.Holding.{Holding}
use Rattle.grant_table.specs.Nested.{count_at}
use Rattle.grant_table.specs.GrantTables.{Cell, cell_of, cells_in, cells_of, cell_at, with_cell, no_cell, counts_in, rows_of}
use Rattle.fuxi_terms.proofs.Booleans.{number_is}
use Rattle.fuxi_terms.proofs.IndexedLists.{one_set, slot_within, mapped_at}

-- one written place in a list of lists
pub two_set : {X : Type 0} (xs : List (List X)) (a u b v : ℕ) (y d : X) → a < length xs → u < length (get_or xs a []) → get_or (get_or (set xs a (set (get_or xs a []) u y)) b []) v d ≡ cond (nat_eq a b && nat_eq u v) y (get_or (get_or xs b []) v d)
two_set xs a u b v y d la lu = ap (λ z. get_or z v d) (one_set xs a b (set (get_or xs a []) u y) [] la)
    ∙ elim (nat_eq a b) as (λ t. nat_eq a b ≡ t → get_or (cond t (set (get_or xs a []) u y) (get_or xs b [])) v d ≡ cond (t && nat_eq u v) y (get_or (get_or xs b []) v d)) [
      | true ↦ λ t. one_set (get_or xs a []) u v y d lu ∙ ap (λ z. cond (nat_eq u v) y (get_or (get_or xs z []) v d)) (number_is a b t)
      | false ↦ λ f. refl
    ] refl

pub lengths_set : {X : Type 0} (xs : List (List X)) (a u b : ℕ) (y : X) → a < length xs → length (get_or (set xs a (set (get_or xs a []) u y)) b []) ≡ length (get_or xs b [])
lengths_set xs a u b y la = ap length (one_set xs a b (set (get_or xs a []) u y) [] la)
    ∙ elim (nat_eq a b) as (λ t. nat_eq a b ≡ t → length (cond t (set (get_or xs a []) u y) (get_or xs b [])) ≡ length (get_or xs b [])) [
      | true ↦ λ t. length-set (get_or xs a []) u y ∙ ap (λ z. length (get_or xs z [])) (number_is a b t)
      | false ↦ λ f. refl
    ] refl

-- the counts of a cell are those of the rows
pub row_of_cell : (cells : List (List Cell)) (a u : ℕ) → get_or (get_or (rows_of cells) a []) u [] ≡ (cell_at cells a u).counts
row_of_cell cells a u = ap (λ z. get_or z u []) (mapped_at counts_in cells a [] [] refl) ∙ mapped_at (λ (x : Cell). x.counts) (get_or cells a []) u no_cell [] refl

pub count_of_cell : (cells : List (List Cell)) (a u m : ℕ) → count_at (rows_of cells) a u m ≡ get_or (cell_at cells a u).counts m 0
count_of_cell cells a u m = ap (λ z. get_or z m 0) (row_of_cell cells a u)

pub row_written : (cells : List (List Cell)) (a u : ℕ) (x : Cell) → rows_of (with_cell cells a u x) ≡ set (rows_of cells) a (set (get_or (rows_of cells) a []) u x.counts)
row_written cells a u x =
    map-set counts_in cells a (set (get_or cells a []) u x) ∙ ap (λ z. set (rows_of cells) a z) (map-set (λ (x : Cell). x.counts) (get_or cells a []) u x ∙ ap (λ z. set z u x.counts) (sym (mapped_at counts_in cells a [] [] refl)))

-- what the program reads
pub units_of_slot : (slots : List (Vec Holding)) (a : ℕ) (v : Vec Holding) → a < length slots → v ≡ get_or slots a v → get_or (cells_of slots) a [] ≡ cells_in v
units_of_slot slots a v lt e = get_or-map cells_in slots a v [] lt ∙ ap cells_in (sym e)

pub slot_there : (slots : List (Vec Holding)) (a u : ℕ) → u < length (get_or (cells_of slots) a []) → a < length slots
slot_there slots a u lt = let l = slot_within (cells_of slots) a u lt in let n = length-map slots cells_in in omega (arith, l, n)

pub unit_there : (slots : List (Vec Holding)) (a u : ℕ) (v : Vec Holding) → a < length slots → v ≡ get_or slots a v → u < length (get_or (cells_of slots) a []) → u < length v.items
unit_there slots a u v la e lt = subst (λ n. u < n) (ap length (units_of_slot slots a v la e) ∙ length-map v.items cell_of) lt

pub cell_read : (slots : List (Vec Holding)) (a u : ℕ) (v : Vec Holding) (h : Holding) → a < length slots → v ≡ get_or slots a v → u < length v.items → h ≡ get_or v.items u h → cell_at (cells_of slots) a u ≡ cell_of h
cell_read slots a u v h la e lu f = ap (λ xs. get_or xs u no_cell) (units_of_slot slots a v la e) ∙ get_or-map cell_of v.items u h no_cell lu ∙ ap cell_of (sym f)

pub cell_found : (slots : List (Vec Holding)) (a u : ℕ) (v : Vec Holding) (h : Holding) → u < length (get_or (cells_of slots) a []) → v ≡ get_or slots a v → h ≡ get_or v.items u h → cell_at (cells_of slots) a u ≡ cell_of h
cell_found slots a u v h there row unit = let la = slot_there slots a u there in cell_read slots a u v h la row (unit_there slots a u v la row there) unit

pub cell_written : (slots : List (Vec Holding)) (a u : ℕ) (v w : Vec Holding) (k : Holding) → a < length slots → v ≡ get_or slots a v → w.items ≡ set v.items u k → cells_of (set slots a w) ≡ with_cell (cells_of slots) a u (cell_of k)
cell_written slots a u v w k la e is =
    map-set cells_in slots a w ∙ ap (λ x. set (cells_of slots) a x) (ap (map cell_of) is ∙ map-set cell_of v.items u k ∙ ap (λ xs. set xs u (cell_of k)) (sym (units_of_slot slots a v la e)))

-- a cell that the program changes in its place
pub cell_changed : (slots : List (Vec Holding)) (a u : ℕ) (v w : Vec Holding) (h k : Holding) (f : Cell → Cell) → u < length (get_or (cells_of slots) a []) → v ≡ get_or slots a v → h ≡ get_or v.items u h → w.items ≡ set v.items u k → cell_of k ≡ f (cell_of h)
    → cells_of (set slots a w) ≡ with_cell (cells_of slots) a u (f (cell_at (cells_of slots) a u))
cell_changed slots a u v w h k f there row unit is new =
    cell_written slots a u v w k (slot_there slots a u there) row is ∙ ap (with_cell (cells_of slots) a u) (new ∙ ap f (sym (cell_found slots a u v h there row unit)))

-- ---- the places of a unit's numbers: those of the 64 racks, then those of the machines
pub place_there : (ns : List ℕ) (m : ℕ) → m < length (drop 64 ns) → 64 + m < length ns
place_there ns m lt = let d = length-drop 64 ns in omega (arith, d, lt)

pub rack_within : (ns : List ℕ) (r : ℕ) → r < length (take 64 ns) → (r < 64) × (r < length ns)
rack_within ns r lt = let l = length-take 64 ns in grind (arith, l, lt)

pub count_read : (ns : List ℕ) (m n : ℕ) → m < length (drop 64 ns) → n ≡ get_or ns (64 + m) n → n ≡ get_or (drop 64 ns) m 0
count_read ns m n lt e = e ∙ get_or_default ns (64 + m) n 0 (place_there ns m lt) ∙ sym (get_or-drop 64 ns m 0)

-- a rack's number, also after one of a machine is written
pub rack_read : (ns : List ℕ) (r n : ℕ) → r < length (take 64 ns) → n ≡ get_or ns r n → n ≡ get_or (take 64 ns) r 0
rack_read ns r n lt e = let w = rack_within ns r lt in e ∙ get_or_default ns r n 0 w.1 ∙ sym (get_or-take 64 ns r 0 w.0)

pub rack_after : (ns : List ℕ) (m r x n : ℕ) → r < length (take 64 ns) → n ≡ get_or (set ns (64 + m) x) r n → n ≡ get_or (take 64 ns) r 0
rack_after ns m r x n lt e = rack_read ns r n lt (e ∙ get_or-set_other ns (64 + m) r x n (λ s. let w = (rack_within ns r lt).0 in absurd (omega (arith, s, w))))

pub counts_written : (ns : List ℕ) (m r x y : ℕ) → r < length (take 64 ns) → drop 64 (set (set ns (64 + m) x) r y) ≡ set (drop 64 ns) m x
counts_written ns m r x y lt = drop-set-lt 64 (set ns (64 + m) x) r y (rack_within ns r lt).0 ∙ drop-set-add 64 ns m x

pub racks_written : (ns : List ℕ) (m r x y : ℕ) → r < length (take 64 ns) → take 64 (set (set ns (64 + m) x) r y) ≡ set (take 64 ns) r y
racks_written ns m r x y lt = take-set-lt 64 (set ns (64 + m) x) r y (rack_within ns r lt).0 ∙ ap (λ xs. set xs r y) (take-set-le 64 ns (64 + m) x (omega arith))

-- of a unit that has nothing
pub fresh_counts : (ns : List ℕ) (m : ℕ) → ns ≡ replicate (64 + m) 0 → drop 64 ns ≡ replicate m 0
fresh_counts ns m e = ap (drop 64) e ∙ drop-replicate 64 (64 + m) 0 ∙ ap (λ n. replicate n 0) (omega arith)

pub fresh_racks : (ns : List ℕ) (m : ℕ) → ns ≡ replicate (64 + m) 0 → take 64 ns ≡ replicate 64 0
fresh_racks ns m e = ap (take 64) e ∙ take-replicate 64 (64 + m) 0 (omega arith)

-- ---- an empty place more
more_place : (xs : List (List Cell)) (a : ℕ) → get_or (xs ++ [] ∷ []) a [] ≡ get_or xs a []
more_place [] zero = refl
more_place [] (suc a) = refl
more_place (x ∷ xs) zero = refl
more_place (x ∷ xs) (suc a) = more_place xs a

pub slot_more : (slots : List (Vec Holding)) (v : Vec Holding) → v.items ≡ [] → (a : ℕ) → get_or (cells_of (slots ++ v ∷ [])) a [] ≡ get_or (cells_of slots) a []
slot_more slots v e a = ap (λ xs. get_or xs a []) (map-append cells_in slots (v ∷ [])) ∙ ap (λ hs. get_or (cells_of slots ++ map cell_of hs ∷ []) a []) e ∙ more_place (cells_of slots) a
