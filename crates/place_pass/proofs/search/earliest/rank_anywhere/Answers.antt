use Rattle.std.proofs.Common.{◌≡◌, ℕ, ◌-◌, true, List, [], ◌∷◌, Some, ◌∙◌, ap, subst}
use Rattle.fuxi_terms.specs.Cluster.{UnitRecord}
use Rattle.fuxi_terms.specs.Jobs.{priority_of}
use Rattle.grant_table.specs.GrantTables.{as_known}
use Rattle.spec_roles.specs.Masters.{level_of}
use Rattle.place_pass.specs.Cells.{Cell, asks_in}
use Rattle.place_pass.specs.Bounds.{is_bound}
use Rattle.place_pass.proofs.BoundsLemmas.{bound_worse}
use Rattle.place_pass.proofs.CellsMatchTable.{unit_is}
use Rattle.place_pass.proofs.CandidatesLemmas.{self_bound}
use Rattle.place_pass.proofs.search.earliest.rank_anywhere.Goals as goal

pub returns : goal.returns
returns c m =
    let w = c.args.input.now.wishes.now in
    let t = c.args.input.now.table.now in
    let a = c.args.app.0 in let u = c.args.unit.0 in
    let n = c.saturating_sub-late.result in
    let v = c.least_level-level.result in
    let turn = c.turn_of_unit-turn.result in
    let level = level_of t.cluster (asks_in w.cells) t.entries a u m in
    let late : n ≡ 9 - priority_of (as_known t.jobs) a u = c.saturating_sub-late.ensures ∙ ap (λ k. 9 - k) (ap (λ (x : Cell). x.unit.priority) c.wish.ensures.cell ∙ ap (λ (x : UnitRecord). x.priority) (unit_is w.cluster w.cells t c.requires.ready.level a u c.requires.unit)) in
    let here : is_bound (Some (n ∷ v ∷ turn ∷ [])) (n ∷ level ∷ turn ∷ []) ≡ true =
    bound_worse (Some (n ∷ v ∷ turn ∷ [])) n v level turn (c.least_level-level.ensures t.cluster t.entries m) (self_bound (n ∷ v ∷ turn ∷ [])) in
    subst (λ (r : List ℕ). is_bound (Some (n ∷ v ∷ turn ∷ [])) r ≡ true) (λ i. late i ∷ level ∷ c.turn_of_unit-turn.ensures i ∷ []) here
