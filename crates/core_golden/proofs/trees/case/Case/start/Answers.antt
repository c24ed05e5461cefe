use Rattle.std.proofs.Common.{[], ℕ, List, sym, subst}
use Rattle.core_golden.specs.Cases.{IsCase}
use Rattle.core_golden.proofs.CasesLemmas.{case_started}
use Rattle.locality_tree.specs.Trees.{TreeRecord}
use Rattle.core_golden.proofs.trees.case.Case.start.Goals as goal

pub invariant_of-result : goal.invariant_of-result
invariant_of-result c =
    subst (λ (ps : List ℕ). IsCase c.in_ok-start-in-Ok.field-0 c.machines.result ps) (sym c.new.ensures.items)
    (subst (λ (t : TreeRecord). IsCase t c.machines.result []) (sym c.in_ok-start-in-Ok.ensures) (case_started c.in-Ok.cluster c.machines.result c.machines.ensures.number))
