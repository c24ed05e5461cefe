use Rattle.std.proofs.Common.{ℕ, List, ap, ◌∙◌, arith}
use Rattle.core_golden.specs.Cases.{entry_of}
use Rattle.core_golden.proofs.CasesLemmas.{may_wait_as, waits_marked}
use Rattle.core_golden.proofs.trees.case.Case.near.Goals as goal

pub refresh-requires-clause-entry : goal.refresh-requires-clause-entry
refresh-requires-clause-entry c = may_wait_as c.self.inside.tree c.self.inside.machines c.self.inside.priorities.items c.args.index c.entry_of-entry.result c.self.invariant (omega arith) (c.entry_of-entry.ensures ∙ ap (λ (xs : List ℕ). entry_of xs c.args.index) c.deref.ensures.value)

pub invariant_of-self : goal.invariant_of-self
invariant_of-self c =
    let is = c.entry_of-entry.ensures ∙ ap (λ (xs : List ℕ). entry_of xs c.args.index) c.deref.ensures.value in
    waits_marked c.self.inside.tree c.refresh.new.self c.mark_machine.new.self c.self.inside.machines c.self.inside.priorities.items c.args.index c.entry_of-entry.result _ c.args.unmet c.self.invariant (omega arith) is c.refresh.ensures c.mark_machine.ensures
