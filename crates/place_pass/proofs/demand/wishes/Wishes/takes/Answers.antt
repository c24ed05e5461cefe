use Rattle.std.proofs.Common.{◌≡◌, Bool, true, false, not, nat_lt, get_or, refl, sym, ◌∙◌, ap, arith}
use Rattle.std.specs.Prelude.{◌&&◌}
use Rattle.std.proofs.lemmas.Bool.Decides.{nat_tests}
use Rattle.fuxi_terms.specs.Jobs.{size_at, most_of}
use Rattle.fuxi_terms.proofs.Booleans.{and_false}
use Rattle.spec_roles.specs.Placing.{accepts_in, has_room_in}
use Rattle.grant_table.specs.GrantTables.{as_known}
use Rattle.fuxi_terms.specs.Tables.{held_on}
use Rattle.place_pass.specs.Cells.{cell_at}
use Rattle.place_pass.specs.Placers.{board_over, is_open_to}
use Rattle.place_pass.proofs.CellsMatchTable.{most_is}
use Rattle.place_pass.proofs.demand.wishes.Wishes.takes.Goals as goal

pub returns-then-not-has_room : goal.returns-then-not-has_room
returns-then-not-has_room c =
    let accepts = accepts_in (board_over c.args.self.now.cells c.args.self.now.opened c.args.table.now) c.args.table.now.entries c.args.app.0 c.args.unit.0 c.args.machine.0 in
    sym (ap (λ r. accepts && r) (sym (c.has_room.ensures c.args.machine.0 c.requires.free) ∙ c.if-not-has_room.true) ∙ and_false accepts)

pub returns-then-avoids : goal.returns-then-avoids
returns-then-avoids c =
    let t = c.args.table.now in
    let a = c.args.app.0 in let u = c.args.unit.0 in let m = c.args.machine.0 in
    let test : nat_lt 0 (get_or (cell_at c.args.self.now.cells a u).avoided m 0) ≡ true = sym c.avoids.ensures ∙ c.if-avoids.true in
    none (get_or c.args.self.now.opened m false) (nat_lt 0 (get_or (cell_at c.args.self.now.cells a u).avoided m 0)) (nat_lt (held_on t.entries a u m) (most_of (as_known t.jobs) a u)) (has_room_in t.cluster (size_at (as_known t.jobs)) t.entries a u m) test
  where
    none : (o b n r : Bool) → b ≡ true → false ≡ (((o && not b) && n) && r)
    none true true n r e = refl
    none false true n r e = refl
    none o false n r e = cc

pub returns-then-held_on-wish : goal.returns-then-held_on-wish
returns-then-held_on-wish c =
    let t = c.args.table.now in
    let a = c.args.app.0 in let u = c.args.unit.0 in let m = c.args.machine.0 in
    let most = most_is c.args.self.now.cluster c.args.self.now.cells t c.requires.level c.wish.result.now a u c.requires.unit c.wish.ensures.cell in
    let h = c.held_on.ensures in
    let le = c.if-held_on-wish.true in
    let full : nat_lt (held_on t.entries a u m) (most_of (as_known t.jobs) a u) ≡ false = grind (arith, nat_tests, most, h, le) in
    never (is_open_to c.args.self.now.cells c.args.self.now.opened a u m) (nat_lt (held_on t.entries a u m) (most_of (as_known t.jobs) a u)) (has_room_in t.cluster (size_at (as_known t.jobs)) t.entries a u m) full
  where
    never : (o n r : Bool) → n ≡ false → false ≡ ((o && n) && r)
    never true false r e = refl
    never false false r e = refl
    never o true r e = cc

pub returns : goal.returns
returns c =
    let t = c.args.table.now in
    let a = c.args.app.0 in let u = c.args.unit.0 in let m = c.args.machine.0 in
    let most = most_is c.args.self.now.cluster c.args.self.now.cells t c.requires.level c.wish.result.now a u c.requires.unit c.wish.ensures.cell in
    let h = c.held_on.ensures in
    let lt = c.if-held_on-wish.false in
    let fewer : nat_lt (held_on t.entries a u m) (most_of (as_known t.jobs) a u) ≡ true = grind (arith, nat_tests, most, h, lt) in
    let test : nat_lt 0 (get_or (cell_at c.args.self.now.cells a u).avoided m 0) ≡ false = sym c.avoids.ensures ∙ c.if-avoids.false in
    let room : has_room_in t.cluster (size_at (as_known t.jobs)) t.entries a u m ≡ true = sym (c.has_room.ensures m c.requires.free) ∙ c.if-not-has_room.false in
    c.is_open.ensures ∙ all (get_or c.args.self.now.opened m false) (nat_lt 0 (get_or (cell_at c.args.self.now.cells a u).avoided m 0)) (nat_lt (held_on t.entries a u m) (most_of (as_known t.jobs) a u)) (has_room_in t.cluster (size_at (as_known t.jobs)) t.entries a u m) test fewer room
  where
    all : (o b n r : Bool) → b ≡ false → n ≡ true → r ≡ true → o ≡ (((o && not b) && n) && r)
    all true false true true e f g = refl
    all false false true true e f g = refl
    all o true n r e f g = cc
    all o false false r e f g = cc
    all o false true false e f g = cc
