use Rattle.std.proofs.Common.{◌≡◌, ◌-◌, ◌∷◌, [], ◌∙◌, ap}
use Rattle.fuxi_terms.specs.Cluster.{UnitRecord}
use Rattle.fuxi_terms.specs.Jobs.{priority_of}
use Rattle.grant_table.specs.GrantTables.{as_known}
use Rattle.place_pass.specs.Cells.{Cell}
use Rattle.place_pass.proofs.CellsMatchTable.{unit_is}
use Rattle.place_pass.proofs.search.look.rank_of_unit.Goals as goal

pub returns : goal.returns
returns c =
    let w = c.args.input.now.wishes.now in
    let t = c.args.input.now.table.now in
    let a = c.args.app.0 in let u = c.args.unit.0 in
    let late : c.saturating_sub-late.result ≡ 9 - priority_of (as_known t.jobs) a u = c.saturating_sub-late.ensures ∙ ap (λ k. 9 - k) (ap (λ (x : Cell). x.unit.priority) c.wish.ensures.cell ∙ ap (λ (x : UnitRecord). x.priority) (unit_is w.cluster w.cells t c.requires.ready.level a u c.requires.unit)) in
    λ i. late i ∷ c.level-level.ensures i ∷ c.turn_of_unit-turn.ensures i ∷ []
