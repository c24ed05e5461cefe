use Rattle.std.proofs.Common.{◌≡◌, List, sym, ◌∙◌, subst, arith, ◌⊎◌}
use Rattle.std.specs.Option.{option_map}
use Rattle.std.proofs.lemmas.Bool.Decides.{nat_tests}
use Rattle.place_pass.specs.Bounds.{MarkRecord, rank_of, mark_at, bounded_mark}
use Rattle.place_pass.specs.Candidates.{IsRaised}
use Rattle.place_pass.proofs.PassedMachines.{at_one, raised_or_same}
use Rattle.place_pass.proofs.marks.Marks.bound_from.Goals as goal

pub bound_one-requires : goal.bound_one-requires
bound_one-requires c =
    let long = c.loop-machine.invariant.long in
    let test = c.loop-machine-test.true in
    let end = c.len-machine-end.ensures.number in
    omega (arith, test, end, long)

pub loop-machine-preserved : goal.loop-machine-preserved
loop-machine-preserved c =
    let i = c.loop-machine.invariant in
    let n = c.loop-machine.machine in
    let bound = option_map rank_of c.args.bound in
    let turns = c.args.turns in
    let limit = c.args.limit in
    let first : List MarkRecord = c.args.self.now in
    let before : List MarkRecord = c.loop-machine.self in
    let after : List MarkRecord = c.bound_one.new.self in
    let here : IsRaised limit bound turns n (mark_at first n) (mark_at after n) = subst (λ (k : MarkRecord). IsRaised limit bound turns n k (mark_at after n)) (i.left n (omega arith)) c.bound_one.ensures.here in
    let others = c.bound_one.ensures.others in
    record {
      long = c.bound_one.ensures.long ∙ i.long;
      left = λ m le. others m (grind (arith, nat_tests, le)) ∙ i.left m (omega (arith, le));
      raised = λ m ge lt. at_one n m (λ z. IsRaised limit bound turns z (mark_at first z) (mark_at after z)) here (λ apart. subst (IsRaised limit bound turns m (mark_at first m)) (sym (others m apart)) (i.raised m ge (grind (arith, nat_tests, apart, lt))));
      others = λ m. at_one n m (λ z. (mark_at after z ≡ mark_at first z) ⊎ (mark_at after z ≡ bounded_mark bound turns (mark_at first z))) (raised_or_same limit turns n bound (mark_at first n) (mark_at after n) here)
          (λ apart. subst (λ (k : MarkRecord). (k ≡ mark_at first m) ⊎ (k ≡ bounded_mark bound turns (mark_at first m))) (sym (others m apart)) (i.others m));
    }
