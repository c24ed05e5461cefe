use Rattle.std.proofs.Common.{◌≡◌, [], ◌∷◌, ◌++◌, map, take, drop, sym, ◌∙◌, ap, rules}
use Rattle.std.proofs.lemmas.List.{map-append}
use Rattle.fuxi_terms.specs.Cluster.{UnitRecord}
use Rattle.fuxi_terms.proofs.Lists.{take_last}
use Rattle.schedule_unit.specs.Units.{unit_record}
use Rattle.grant_table.specs.GrantTables.{cell_of, fresh_cell}
use Rattle.grant_table.proofs.Cells.{fresh_counts, fresh_racks}
use Rattle.grant_table.proofs.holding.fresh_units.Goals as goal

pub loop-number-preserved : goal.loop-number-preserved
loop-number-preserved c =
    let none = c.in_ok-numbers.ensures.items_if_clones_equal (λ y e. search rules) in
    let zeros = fresh_counts c.in_ok-numbers.numbers.items c.args.machines none in
    let racks = fresh_racks c.in_ok-numbers.numbers.items c.args.machines none in
    let u : UnitRecord = unit_record c.unit-unit.result.now in
    let fresh : fresh_cell c.args.job.now.group c.args.machines u ≡ record { size = c.unit-unit.result.now.size.q; group = c.group-group.result.0; most = c.unit-unit.result.now.most; held = 0; counts = drop 64 c.in_ok-numbers.numbers.items; racks = take 64 c.in_ok-numbers.numbers.items } =
    λ i. record { size = u.size; group = sym c.group-group.ensures.number i; most = u.most; held = 0; counts = sym zeros i; racks = sym racks i } in
    ap (map cell_of) c.in_ok-push.ensures.items ∙ map-append cell_of c.loop-number.units.items _
    ∙ (λ i. c.loop-number.invariant i ++ sym fresh i ∷ [])
    ∙ sym (ap (map (fresh_cell c.args.job.now.group c.args.machines)) (take_last c.args.job.now.units c.loop-number.number _ c.unit-unit.ensures.found) ∙ map-append (fresh_cell c.args.job.now.group c.args.machines) (take c.loop-number.number c.args.job.now.units) _)
