use Rattle.std.proofs.Common.{◌≡◌, [], ◌∷◌, ◌++◌, map, take, length, replicate, sym, ◌∙◌, ap, rules}
use Rattle.std.proofs.lemmas.List.{length-replicate, map-append}
use Rattle.fuxi_terms.specs.Cluster.{UnitRecord}
use Rattle.fuxi_terms.proofs.Lists.{take_last}
use Rattle.schedule_unit.specs.Units.{unit_record}
use Rattle.place_pass.specs.Cells.{cell_of, fresh_cell, ones_in}
use Rattle.place_pass.proofs.CellsLemmas.{ones_none}
use Rattle.place_pass.proofs.demand.wishes.fresh_units.Goals as goal

pub loop-number-preserved : goal.loop-number-preserved
loop-number-preserved c =
    let u : UnitRecord = unit_record c.unit-unit.result.now in
    let near : c.in_ok-near.near.items ≡ replicate c.args.machines 0 = c.in_ok-near.ensures.items_if_clones_equal (λ y e. search rules) in
    let long : length c.in_ok-near.near.items ≡ c.args.machines = ap length near ∙ length-replicate c.args.machines 0 in
    let avoided : ones_in (length c.in_ok-near.near.items) c.new.result ≡ replicate c.args.machines 0 = ap (λ n. ones_in n c.new.result) long ∙ ones_none c.args.machines c.new.result c.new.ensures in
    let fresh : fresh_cell c.args.job.now.group c.args.machines u ≡ record { unit = u; group = c.group-group.result.0; want = 0; near = c.in_ok-near.near.items; racks = replicate 64 0; avoided = ones_in (length c.in_ok-near.near.items) c.new.result } =
    λ i. record { unit = u; group = sym c.group-group.ensures.number i; want = 0; near = sym near i; racks = replicate 64 0; avoided = sym avoided i } in
    ap (map cell_of) c.in_ok-push.ensures.items ∙ map-append cell_of c.loop-number.units.items _
    ∙ (λ i. c.loop-number.invariant i ++ sym fresh i ∷ [])
    ∙ sym (ap (map (fresh_cell c.args.job.now.group c.args.machines)) (take_last c.args.job.now.units c.loop-number.number _ c.unit-unit.ensures.found) ∙ map-append (fresh_cell c.args.job.now.group c.args.machines) (take c.loop-number.number c.args.job.now.units) _)
