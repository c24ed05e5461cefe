use Rattle.std.proofs.Common.{◌≡◌, inl, inr, [], ◌∷◌, ◌++◌, length, get_or, sym, ◌∙◌, ap, subst, arith, length-append}
use Rattle.std.proofs.Math.ListN.{get_or-append}
use Rattle.std.proofs.Math.Seq.{get_or-append_seam}
use Rattle.std.proofs.lemmas.Bool.{cases_lt}
use Rattle.preempt.specs.Given.{IsGroup, no_group}
use Rattle.preempt.proofs.machine_grants.groups_of.Goals as goal

pub loop-number-preserved : goal.loop-number-preserved
loop-number-preserved c =
    let t = c.args.table.now in
    let before = c.loop-number.groups.items in
    let after = c.push.new.self.items in
    let here = c.group_use.result in
    let number = c.loop-number.number in
    let pushed : after ≡ before ++ here ∷ [] = c.in_ok-push.ensures.items in
    let long = c.loop-number.invariant.long in
    record {
      long = let a = ap length pushed ∙ length-append before (here ∷ []) in omega (arith, a, long);
      each = λ g lt. elim (cases_lt g number) [
        | inl less ↦
            let same = ap (λ xs. get_or xs g no_group) pushed ∙ get_or-append before (here ∷ []) no_group g (omega (arith, less, long)) in
            subst (IsGroup t g) (sym same) (c.loop-number.invariant.each g less)
        | inr ge ↦
            let place : length before ≡ g = omega (arith, ge, lt, long) in
            let own : number ≡ g = omega (arith, ge, lt) in
            let same : get_or after g no_group ≡ here = ap (λ xs. get_or xs g no_group) pushed ∙ ap (λ k. get_or (before ++ here ∷ []) k no_group) (sym place) ∙ get_or-append_seam before here [] no_group in
            subst (IsGroup t g) (sym same) (subst (λ k. IsGroup t k here) own c.group_use.ensures)
      ];
    }
