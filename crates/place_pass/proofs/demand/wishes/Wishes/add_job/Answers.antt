use Rattle.std.proofs.Common.{◌≡◌, ◌<◌, ℕ, List, true, length, get_or, set, sym, ◌∙◌, subst, arith}
use Rattle.std.proofs.lemmas.List.{length-map}
use Rattle.fuxi_terms.specs.Vectors.{fits}
use Rattle.place_pass.specs.Cells.{Cell, WishesRecord, AreWishes, AreAbove, no_cell, cells_in, all_cells, fresh_cell, fresh_cells}
use Rattle.place_pass.proofs.CellsLemmas.{wishes_set, fresh_wishes, above_set, above_lower}
use Rattle.place_pass.proofs.SlotsLemmas.{all_set}
use Rattle.fuxi_terms.proofs.ValidJobs.{job_small, units_few}
use Rattle.place_pass.proofs.ValidJobs.{sizes_eight}
use Rattle.place_pass.proofs.demand.wishes.Wishes.add_job.Goals as goal

pub reach-requires-clause-number : goal.reach-requires-clause-number
reach-requires-clause-number c =
    let small = job_small c.args.job.now c.app-app.ensures.valid in
    omega (arith, small, c.app-app.ensures.number)

pub invariant_of-self : goal.invariant_of-self
invariant_of-self c =
    let v = c.self.inside in
    let j = c.args.job.now in
    let is : cells_in c.args.units ≡ fresh_cells j.group (length v.cluster.machines) j.units = subst (λ (w : WishesRecord). cells_in c.args.units ≡ fresh_cells j.group (length w.cluster.machines) j.units) (sym c.self.view_is) c.requires in
    let small = job_small j c.app-app.ensures.valid in
    let few = units_few j c.app-app.ensures.valid in
    let places = c.self.invariant.0.places in
    let long = length-map j.units (fresh_cell j.group (length v.cluster.machines)) in
    let set_is : all_cells (set c.reach.new.slots.items c.app-app.result.0 c.args.units) ≡ set (all_cells v.slots.items) j.number (fresh_cells j.group (length v.cluster.machines) j.units) = all_set c.reach.new.slots.items c.app-app.result.0 c.args.units c.reach.ensures.there ∙ (λ i. set (c.reach.ensures.same i) (c.app-app.ensures.number i) (is i)) in
    let wishes = wishes_set v.cluster (all_cells v.slots.items) v.opened.items j.number (fresh_cells j.group (length v.cluster.machines) j.units) c.self.invariant.0 (omega (arith, small, places)) (omega (arith, few, long)) (fresh_wishes v.cluster j.group j.units (sizes_eight j c.app-app.ensures.valid)) in
    let lower = above_lower v.least.q c.least_of-self-inside.result.q (all_cells v.slots.items) c.least_of-self-inside.ensures.known c.self.invariant.1 in
    let fresh = subst (λ (xs : List Cell). (u : ℕ) → u < length xs → fits c.least_of-self-inside.result.q (get_or xs u no_cell).unit.size ≡ true) is c.least_of-self-inside.ensures.above in
    let above = above_set c.least_of-self-inside.result.q (all_cells v.slots.items) j.number (fresh_cells j.group (length v.cluster.machines) j.units) lower (omega (arith, small, places)) fresh in
    (subst (λ x. AreWishes v.cluster x v.opened.items) (sym set_is) wishes, subst (AreAbove c.least_of-self-inside.result.q) (sym set_is) above, c.reach.ensures.room)

pub returns : goal.returns
returns c =
    let v = c.self.inside in
    let j = c.args.job.now in
    let is : cells_in c.args.units ≡ fresh_cells j.group (length v.cluster.machines) j.units = subst (λ (w : WishesRecord). cells_in c.args.units ≡ fresh_cells j.group (length w.cluster.machines) j.units) (sym c.self.view_is) c.requires in
    let set_is : all_cells (set c.reach.new.slots.items c.app-app.result.0 c.args.units) ≡ set (all_cells v.slots.items) j.number (fresh_cells j.group (length v.cluster.machines) j.units) = all_set c.reach.new.slots.items c.app-app.result.0 c.args.units c.reach.ensures.there ∙ (λ i. set (c.reach.ensures.same i) (c.app-app.ensures.number i) (is i)) in
    subst (λ (w : WishesRecord). record { cluster = v.cluster; cells = all_cells (set c.reach.new.slots.items c.app-app.result.0 c.args.units); opened = v.opened.items } ≡ record w { cells = set w.cells j.number (fresh_cells j.group (length w.cluster.machines) j.units) }) c.self.view_is
    (λ i. record { cluster = v.cluster; cells = set_is i; opened = v.opened.items })
