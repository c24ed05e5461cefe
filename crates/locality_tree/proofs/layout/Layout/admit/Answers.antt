use Rattle.std.proofs.Common.{◌≡◌, ◌+◌, ◌-◌, ◌*◌, ◌≤◌, ℕ, List, [], length, map, get_or, replicate, refl, sym, ap, ◌∙◌, arith}
use Rattle.std.proofs.lemmas.List.{length-map, length-append, length-replicate}
use Rattle.std.proofs.lemmas.Nat.{mul-le}
use Rattle.locality_tree.specs.declared.layout.Layout.{Layout}
use Rattle.locality_tree.specs.declared.layout.UnitSlots.{UnitSlots}
use Rattle.locality_tree.specs.Trees.{all_units}
use Rattle.locality_tree.specs.Layouts.{Places, slots_of, numbers_of, sets_of, with_places, AreKeptIn, IsGrown}
use Rattle.locality_tree.proofs.AdmitsLemmas.{admits, admits_none}
use Rattle.locality_tree.proofs.NumbersLemmas.{seen_count, seen_width}
use Rattle.locality_tree.proofs.UnitsLemmas.{none_beyond}
use Rattle.locality_tree.proofs.VacantLemmas.{units_are, vacant_listed}
use Rattle.locality_tree.proofs.TreesLemmas.{if_err}
use Rattle.locality_tree.proofs.layout.Layout.admit.Goals as goal

pub overflow_add-first : goal.overflow_add-first
overflow_add-first c = let inside = c.requires.inside in let all = units_are in omega (arith, inside, all)

-- so many numbers are listed as there are units
listed_most : (units : List UnitSlots) (rows : Places ℕ) → numbers_of units ≡ rows → length rows ≡ all_units → length units ≤ all_units
listed_most units rows same all =
    let a = length-append (map (λ u. u.numbers.items) units) (replicate {A = List ℕ} (all_units - length units) []) in
    let m = length-map units (λ u. u.numbers.items) in
    let s = ap length same in
    omega (arith, a, m, s, all)

-- the places of all units that are listed are few
small : (l : Layout) → AreKeptIn l → (units : List UnitSlots) → IsGrown l.slots.items units → length (slots_of l) ≡ all_units → (listed places : ℕ) → listed ≡ length units → places ≡ length l.queues.items → listed * places ≤ 2048 * 384
small l kept units grown all listed places same is =
    let few = listed_most units (numbers_of l.slots.items) grown.numbers (sym (seen_count l.pool (sets_of l.slots.items) (numbers_of l.slots.items)) ∙ all) in
    let most = units_are in
    let wide = kept.few in
    mul-le listed places 2048 384 (omega (arith, few, most, same)) (omega (arith, wide, is))

pub overflow_mul-need : goal.overflow_mul-need
overflow_mul-need c =
    let less = small c.args.self.now c.requires.kept c.grow.new.slots.items c.grow.ensures.grown c.requires.all c.len.result c.len-places.result (omega arith) (omega arith) in
    omega (arith, less)

pub overflow_add-need : goal.overflow_add-need
overflow_add-need c =
    let less = small c.args.self.now c.requires.kept c.grow.new.slots.items c.grow.ensures.grown c.requires.all c.len.result c.len-places.result (omega arith) (omega arith) in
    let wide = c.requires.kept.few in
    omega (arith, less, wide)

-- after each refusal
pub returns-in_err-grow-clause-err : goal.returns-in_err-grow-clause-err
returns-in_err-grow-clause-err c =
    let l = c.args.self.now in
    if_err c.from_residual.result (admits_none c.standing_lists.ensures.stays l c.requires.kept c.args.first l.pool c.grow.new.slots c.args.units c.grow.ensures.grown (record { values = λ s. refl; generations = λ n. refl }) (omega arith) c.requires.all c.requires.inside)

pub returns-in_err-rows-clause-err : goal.returns-in_err-rows-clause-err
returns-in_err-rows-clause-err c =
    let l = c.args.self.now in
    if_err c.from_residual-in_err-rows.result (admits_none c.standing_lists.ensures.stays l c.requires.kept c.args.first l.pool c.grow.new.slots c.args.units c.grow.ensures.grown (record { values = λ s. refl; generations = λ n. refl }) (omega arith) c.requires.all c.requires.inside)

pub returns-in_err-make_room-clause-err : goal.returns-in_err-make_room-clause-err
returns-in_err-make_room-clause-err c =
    if_err c.from_residual-in_err-make_room.result (admits_none c.standing_lists.ensures.stays c.args.self.now c.requires.kept c.args.first c.make_room.new.pool c.grow.new.slots c.args.units c.grow.ensures.grown c.make_room.ensures.same c.make_room.ensures.no_less c.requires.all c.requires.inside)

pub returns-clause-ok : goal.returns-clause-ok
returns-clause-ok c =
    let l = c.args.self.now in
    let places : ℕ = c.len-places.result in
    let places_are : places ≡ length l.queues.items = omega arith in
    let rows = c.in_ok-rows.rows.items in
    let count : length rows ≡ c.args.units = sym (length-map rows (λ v. v.items)) ∙ ap length c.in_ok-rows.ensures ∙ length-replicate c.args.units (replicate places 0) in
    let numbers : Places ℕ = numbers_of c.grow.new.slots.items in
    let put : numbers_of c.put_numbers.new.slots.items ≡ with_places 0 numbers c.args.first (length l.queues.items) c.args.units = c.put_numbers.ensures.numbers places (c.in_ok-rows.ensures ∙ ap (λ (n : ℕ). replicate n (replicate places 0)) (sym count))
    ∙ ap (λ (n : ℕ). with_places 0 numbers c.args.first places n) count ∙ ap (λ (k : ℕ). with_places 0 numbers c.args.first k c.args.units) places_are in
    let inside = c.requires.inside in
    let all = c.requires.all in
    let news = c.grow.new.slots.items in
    let long : c.args.first + c.args.units ≤ length (slots_of l) = omega (arith, inside, all) in
    let none : (n : ℕ) → length news ≤ n → length (get_or (slots_of l) n []) ≡ 0 = λ n h.
    seen_width l.pool (sets_of l.slots.items) (numbers_of l.slots.items) n ∙ ap (λ (s : Places ℕ). length (get_or s n [])) (sym c.grow.ensures.grown.numbers) ∙ none_beyond news n h in
    let vacant = vacant_listed (slots_of l) c.args.first (length l.queues.items) c.args.units (length news) c.requires.kept.full none long c.in_ok-grow.ensures.ok in
    let room = c.in_ok-make_room.ensures.room in
    let need : c.len.result * places ≡ length news * length l.queues.items = ap (λ (k : ℕ). k * places) (omega arith) ∙ ap (λ (k : ℕ). length news * k) places_are in
    admits c.standing_lists.ensures.stays l c.requires.kept c.args.first c.make_room.new.pool c.put_numbers.new.slots news c.args.units c.grow.ensures.grown c.make_room.ensures.same put c.put_numbers.ensures.sets long c.requires.new (omega (arith, need, room, vacant))
