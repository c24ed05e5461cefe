use Rattle.std.proofs.Common.{◌≡◌, ◌<◌, ◌++◌, ◌∷◌, [], ℕ, List, length, sym, ap, subst, ◌∙◌, arith}
use Rattle.core_golden.specs.Cases.{IsCase}
use Rattle.core_golden.proofs.CasesLemmas.{case_admitted}
use Rattle.locality_tree.specs.Trees.{TreeRecord}
use Rattle.core_golden.proofs.trees.case.Case.admit.Goals as goal

pub invariant_of-self-2 : goal.invariant_of-self-2
invariant_of-self-2 c =
    let ps = c.self.inside.priorities.items in
    let less : length ps < 256 = omega arith in
    let number : c.in-Some.job.number ≡ length ps = let n = c.app.ensures.number in omega (arith, n) in
    let one : length c.in-Some.job.units ≡ 1 = let n = c.units.ensures.number in omega (arith, n) in
    let all = c.push_reserved.ensures.items ∙ ap (λ (xs : List ℕ). xs ++ c.args.priority ∷ []) c.in_ok-reserve.ensures.items in
    subst (λ (xs : List ℕ). IsCase c.admit.new.self c.self.inside.machines xs) (sym all)
    (subst (λ (t : TreeRecord). IsCase t c.self.inside.machines (ps ++ c.args.priority ∷ [])) (sym c.in_ok-admit.ensures.ok) (case_admitted c.self.inside.tree c.self.inside.machines ps c.args.priority c.in-Some.job c.self.invariant less number one))
