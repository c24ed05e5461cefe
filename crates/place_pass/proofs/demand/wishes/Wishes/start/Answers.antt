use Rattle.std.proofs.Common.{length, sym, ◌∙◌, ap, rules, arith}
use Rattle.std.proofs.lemmas.List.{length-replicate}
use Rattle.std.specs.Prelude.{Bool, false}
use Rattle.fuxi_terms.specs.Cluster.{ClusterRecord}
use Rattle.place_pass.specs.Cells.{all_cells}
use Rattle.place_pass.proofs.CellsLemmas.{no_wishes, none_above}
use Rattle.place_pass.proofs.SlotsLemmas.{all_start}
use Rattle.place_pass.proofs.demand.wishes.Wishes.start.Goals as goal

pub invariant_of-result : goal.invariant_of-result
invariant_of-result c =
    let shut = c.in_ok-from_elem.ensures.items_if_clones_equal (λ y e. search rules) in
    let none = all_start c.in_ok-with_capacity.field-0.items c.in_ok-with_capacity.ensures.items in (
      no_wishes c.in_ok-copy.field-0 (all_cells c.in_ok-with_capacity.field-0.items) c.in_ok-from_elem.field-0.items none
          (ap length shut ∙ length-replicate {A = Bool} c.machines-machines.result false ∙ c.machines-machines.ensures.number ∙ ap (λ (x : ClusterRecord). length x.machines) (sym c.in_ok-copy.ensures)),
      none_above _ (all_cells c.in_ok-with_capacity.field-0.items) none,
      omega (arith, c.in_ok-with_capacity.ensures.capacity),
    )
