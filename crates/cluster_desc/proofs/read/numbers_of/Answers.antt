use Rattle.std.proofs.Common.{ℕ, List, Result, IfErr, ap, subst, ◌∙◌}
use Rattle.serde_json.specs.View.{items_view}
use Rattle.cluster_desc.specs.declared.fault.ClusterFault.{ClusterFault}
use Rattle.cluster_desc.specs.declared.fault.ClusterFault.TheVariants.{WrongKind}
use Rattle.cluster_desc.specs.Faults.{◌>>=◌, IsFault, given}
use Rattle.cluster_desc.specs.ClusterLine.{each, numbers_of, whole_number}
use Rattle.cluster_desc.proofs.read.numbers_of.Goals as goal

pub returns-clause-fault : goal.returns-clause-fault
unfolding numbers_of
returns-clause-fault c =
    let s = ap (λ vs. each (λ (i : ℕ). whole_number c.args.key) 0 (items_view vs)) c.deref.ensures.value in
    let e = ap (λ o. given o (WrongKind c.args.key) >>= λ ds. each (λ (i : ℕ). whole_number c.args.key) 0 ds) c.in-Some.ensures in
    subst (λ (r : Result (List ℕ) ClusterFault). IfErr c.whole_numbers.result (IsFault r)) (s ∙ e) c.whole_numbers.ensures.fault
