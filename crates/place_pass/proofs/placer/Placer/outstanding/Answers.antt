use Rattle.std.proofs.Common.{◌≡◌, ℕ, ◌+◌, ◌<◌, ◌≤◌, Bool, true, false, cond, [], length, get_or, sym, subst, arith}
use Rattle.std.specs.Prelude.{◌&&◌, nat_eq}
use Rattle.fuxi_terms.specs.Tables.{spot, held, held_on}
use Rattle.fuxi_terms.proofs.Booleans.{and_true, nat_itself}
use Rattle.place_pass.specs.Placers.{PlacerRecord, IsLevelWith, units_seen}
use Rattle.place_pass.proofs.CellsMatchTable.{count_is}
use Rattle.place_pass.proofs.placer.Placer.outstanding.Goals as goal

pub outstanding-requires-clause-there : goal.outstanding-requires-clause-there
unfolding IsLevelWith
outstanding-requires-clause-there c =
    let p = c.args.self.now in
    let units = count_is p.seen.cluster p.seen.cells c.args.table.now c.requires.level.level c.args.app.0 in
    let there = c.requires.unit in
    omega (arith, units, there)

is_part : (b : Bool) (x y n : ℕ) → b ≡ true → x + cond b n 0 ≡ y + cond b 0 0 → n ≤ y
is_part true x y n t e = omega (arith, e)
is_part false x y n t e = cc

-- what a unit has on a machine is a part of what it has, and a unit that has less than it wants has fewer than the greatest count
pub returns-clause-few : goal.returns-clause-few
returns-clause-few c m some =
    let w = c.self.inside.wishes in
    let es = c.args.table.now.entries in
    let a = c.args.app.0 in
    let u = c.args.unit.0 in
    let there : u < length (get_or w.cells a []) = subst (λ (p : PlacerRecord). u < units_seen p.seen a) (sym c.self.view_is) c.requires.unit in
    let want = (c.wish-wish.ensures.sound.unit a u there).want in
    let here : (nat_eq a a && nat_eq u u) ≡ true = and_true (nat_eq a a) (nat_eq u u) (nat_itself a) (nat_itself u) in
    let rest = c.set_numbers.ensures.held es (spot a u m) 0 a u c.is_sound.ensures.counts.sorted in
    let part = is_part (nat_eq a a && nat_eq u u) _ (held es a u) (held_on es a u m) here rest in
    let out = c.outstanding.ensures in
    omega (arith, some, want, part, out)
