use Rattle.std.proofs.Common.{length, ◌∙◌, ap, arith}
use Rattle.fuxi_terms.specs.Cluster.{UnitRecord}
use Rattle.place_pass.specs.Cells.{Cell}
use Rattle.place_pass.proofs.CellsMatchTable.{unit_is, has_past}
use Rattle.place_pass.proofs.Rooms.{room_fits}
use Rattle.place_pass.proofs.demand.wishes.Wishes.has_room.Goals as goal

pub returns : goal.returns
returns c m free =
    let t = c.args.table.now in
    let a = c.args.app.0 in let u = c.args.unit.0 in
    let is = ap (λ (x : Cell). x.unit.size) c.wish-wish.ensures.cell ∙ ap (λ (x : UnitRecord). x.size) (unit_is c.args.self.now.cluster c.args.self.now.cells t c.requires.level a u c.requires.unit) in
    let eight = (c.wish-wish.ensures.sound.unit a u c.requires.unit).size in
    let long = ap (λ (x : Cell). length x.unit.size) c.wish-wish.ensures.cell in
    c.fits.ensures ∙ room_fits t a u c.wish-wish.result.now.size.q is (omega (arith, eight, long)) m c.args.free.now.q (has_past t.cluster c.is_sound.ensures.valid m) free.is free.within
