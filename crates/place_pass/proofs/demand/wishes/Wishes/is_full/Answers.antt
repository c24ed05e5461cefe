use Rattle.std.proofs.Common.{sym, ◌∙◌, ap, arith}
use Rattle.fuxi_terms.specs.Cluster.{UnitRecord}
use Rattle.place_pass.specs.Cells.{cell_at}
use Rattle.place_pass.proofs.CellsMatchTable.{unit_is, has_past}
use Rattle.place_pass.proofs.Rooms.{room_fits}
use Rattle.place_pass.proofs.demand.wishes.Wishes.is_full.Goals as goal

pub returns : goal.returns
returns c e m a u free lt =
    let w = c.args.self.now in
    let t = c.args.table.now in
    let is = ap (λ (x : UnitRecord). x.size) (unit_is w.cluster w.cells t c.requires.level a u lt) in
    let eight = (c.are_sound.ensures.unit a u lt).size in
    sym (room_fits t a u (cell_at w.cells a u).unit.size is (omega (arith, eight)) m c.args.free.now.q (has_past t.cluster c.is_sound.ensures.valid m) free.is free.within) ∙ c.none_fits.ensures e a u lt
