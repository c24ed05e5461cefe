-- The least of many, one at a time: what a search holds on its way.
use Rattle.std.specs.Prelude.{◌<◌, length, List, []}
use Rattle.std.specs.List.{AllByRecursion}
use Rattle.std.proofs.Common.{get_or}
use Rattle.place_pass.specs.Cells.{Cell}
use Rattle.fuxi_terms.specs.Keys.{Spot, Pair}
use Rattle.fuxi_terms.specs.Tables.{spot}
use Rattle.grant_table.specs.declared.asking.Pick.{Pick}

abbrev pub spot_of : Pick → Spot
spot_of p = spot p.app.0 p.unit.0 p.machine.0

-- each pair of a line is an admitted unit
abbrev pub AreAdmitted : List (List Cell) → List Pair → Type 0
AreAdmitted cells line = AllByRecursion (λ (p : Pair). p.1 < length (get_or cells p.0 [])) line
