use Rattle.std.proofs.Common.{◌≡◌, List, length, sym, ◌∙◌, ap, subst, rules}
use Rattle.std.specs.Prelude.{IsTrue}
use Rattle.fuxi_terms.specs.Cluster.{ClusterRecord, JobRecord, is_valid_cluster}
use Rattle.grant_table.specs.GrantTables.{cells_of, loads_of, IsLevel}
use Rattle.grant_table.proofs.StartTotals.{none_in, no_load, loads_long, empty_level}
use Rattle.grant_table.proofs.table.GrantTable.start.Goals as goal

pub invariant_of-result : goal.invariant_of-result
invariant_of-result c =
    let cluster : c.in_ok-copy.field-0 ≡ c.args.cluster.now = c.in_ok-copy.ensures in
    let used = c.in_ok-from_elem.ensures.items_if_clones_equal (λ y e. search rules) in
    let usages = c.in_ok-from_elem-2.ensures.items_if_clones_equal (λ y e. search rules) in
    let none = c.new.ensures.items in
    let level = empty_level c.in_ok-copy.field-0 (cells_of c.in_ok-with_capacity.field-0.items) (loads_of c.in_ok-from_elem.field-0.items) (loads_of c.in_ok-from_elem-2.field-0.items)
    (subst (λ (x : ClusterRecord). IsTrue (is_valid_cluster x)) (sym cluster) c.machines-machines.ensures.valid) (ap cells_of c.in_ok-with_capacity.ensures.items)
    (loads_long _ c.machines-machines.result c.zero.result used ∙ c.machines-machines.ensures.number ∙ ap (λ (x : ClusterRecord). length x.machines) (sym cluster)) (no_load _ c.machines-machines.result c.zero.result used c.zero.ensures)
    (loads_long _ 32 c.zero-2.result usages) (no_load _ 32 c.zero-2.result usages c.zero-2.ensures) in
    subst (λ (js : List JobRecord). IsLevel c.in_ok-copy.field-0 js (cells_of c.in_ok-with_capacity.field-0.items) (loads_of c.in_ok-from_elem.field-0.items) (loads_of c.in_ok-from_elem-2.field-0.items)) (sym none) level

pub returns : goal.returns
returns c = λ i. record { cluster = c.in_ok-copy.ensures i; jobs = c.new.ensures.items i; entries = none_in (cells_of c.in_ok-with_capacity.field-0.items) (ap cells_of c.in_ok-with_capacity.ensures.items) i }
