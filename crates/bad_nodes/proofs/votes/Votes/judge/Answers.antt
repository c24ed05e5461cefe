use Rattle.std.proofs.Common.{rules, Bool, List, ℕ, map, nat_cmp, is_lt, sym, subst, take, ap, ◌∙◌, IsSortedBy, IsPermutation}
use Rattle.std.specs.Ordering.{ordering_then}
use Rattle.std.proofs.lemmas.List.{take-map}
use Rattle.std.proofs.lemmas.List.Sorted.{IsPermutation-map}
use Rattle.std.proofs.lemmas.Fn.{always_returns_same}
use Rattle.schedule_unit.specs.declared.party.MachineNo.{MachineNo}
use Rattle.spec_roles.specs.Votes.{votes_of}
use Rattle.bad_nodes.specs.Ranks.{number_of}
use Rattle.bad_nodes.proofs.OneOrder.{not_behind, sorted_order}
use Rattle.bad_nodes.proofs.votes.Votes.judge.Goals as goal

pub returns : goal.returns
returns c =
    let v = c.args.self.now in
    let items : List MachineNo = c.sort_unstable_by_key.new.self.items in
    let lt : MachineNo → MachineNo → Bool = λ x y. is_lt (ordering_then (nat_cmp (votes_of v y.0) (votes_of v x.0)) (nat_cmp x.0 y.0)) in
    let sorted : IsSortedBy lt items = c.sort_unstable_by_key.ensures.sorted (λ m. (record { 0 = votes_of v m.0 }, m.0)) (always_returns_same _ _ _ (λ a r q k. search rules)) in
    let order = sorted_order v lt (λ m n h. not_behind v m.0 n.0 h) items sorted in
    let moved = subst (λ (ns : List ℕ). IsPermutation ns (map number_of items)) c.in_ok-machines.ensures (IsPermutation-map number_of c.in_ok-machines.machines.items items c.sort_unstable_by_key.ensures.permutation) in
    ap (map number_of) c.truncate.ensures.items
    ∙ sym (take-map number_of c.left.result items)
    ∙ ap (λ k. take k (map number_of items)) c.left.ensures.left
    ∙ sym (c.judges.ensures.sorted v c.args.least c.args.percent (map number_of items) c.left.ensures.within moved order)
