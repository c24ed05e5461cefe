use Rattle.std.proofs.Common.{sym, ◌∙◌}
use Rattle.locality_tree.proofs.PathsLemmas.{live_of, in_of, tail_behind, near_step, rack_step, cluster_step, end_step, goes_on}
use Rattle.locality_tree.proofs.path.Path.next.Goals as goal

pub priority_at-near-requires : goal.priority_at-near-requires
priority_at-near-requires c = live_of c.standing_lists.ensures.entries _ _ _ _ c.requires.leads.at_near

pub priority_at-rack-requires : goal.priority_at-rack-requires
priority_at-rack-requires c = live_of c.standing_lists.ensures.entries _ _ _ _ c.requires.leads.at_rack

pub priority_at-cluster-requires : goal.priority_at-cluster-requires
priority_at-cluster-requires c = live_of c.standing_lists.ensures.entries _ _ _ _ c.requires.leads.at_cluster

pub take-behind-requires : goal.take-behind-requires
take-behind-requires c = in_of c.standing_lists.ensures.entries _ _ _ _ c.in-Some.slot c.requires.leads.at_near c.in-Some.is

pub returns-then-leads-clause-gives : goal.returns-then-leads-clause-gives
returns-then-leads-clause-gives c = λ pairs leads.
    near_step c.standing_lists.ensures.entries c.orders.ensures.parts c.args.self.now pairs leads c.in-Some.slot c.take-behind.result.0 c.take-behind.result.1 c.in-Some.is c.take-behind.ensures.entry c.take-behind.ensures.behind
    (rw (← c.priority_at-near.ensures, ← c.priority_at-rack.ensures, ← c.priority_at-cluster.ensures) (sym c.leads.ensures ∙ c.if-leads.true))

pub returns-then-leads-clause-goes_on : goal.returns-then-leads-clause-goes_on
returns-then-leads-clause-goes_on c = goes_on _ c.requires.pairs _ (returns-then-leads-clause-gives c c.requires.pairs c.requires.leads)

pub take-behind-requires-then-leads-2 : goal.take-behind-requires-then-leads-2
take-behind-requires-then-leads-2 c = in_of c.standing_lists.ensures.entries _ _ _ _ c.in-Some-at_rack.slot c.requires.leads.at_rack c.in-Some-at_rack.is

pub skip-self-requires-clause-from : goal.skip-self-requires-clause-from
skip-self-requires-clause-from c = tail_behind c.standing_lists.ensures.entries _ _ _ _ c.in-Some-at_rack.slot _ c.requires.leads.at_rack c.in-Some-at_rack.is c.take-behind-then-leads-2.ensures.behind

pub returns-then-leads-2-clause-gives : goal.returns-then-leads-2-clause-gives
returns-then-leads-2-clause-gives c = λ pairs leads.
    rack_step c.standing_lists.ensures.entries c.orders.ensures.parts c.args.self.now pairs leads c.in-Some-at_rack.slot c.take-behind-then-leads-2.result.0 c.take-behind-then-leads-2.result.1 c.skip-self.result c.in-Some-at_rack.is c.take-behind-then-leads-2.ensures.entry c.take-behind-then-leads-2.ensures.behind c.skip-self.ensures
    (rw (← c.priority_at-near.ensures, ← c.priority_at-rack.ensures, ← c.priority_at-cluster.ensures) (sym c.leads.ensures ∙ c.if-leads.false))
    (rw (← c.priority_at-rack.ensures, ← c.priority_at-cluster.ensures) (sym c.leads-2.ensures ∙ c.if-leads-2.true))

pub returns-then-leads-2-clause-goes_on : goal.returns-then-leads-2-clause-goes_on
returns-then-leads-2-clause-goes_on c = goes_on _ c.requires.pairs _ (returns-then-leads-2-clause-gives c c.requires.pairs c.requires.leads)

pub returns-in-None-at_cluster-clause-gives : goal.returns-in-None-at_cluster-clause-gives
returns-in-None-at_cluster-clause-gives c = λ pairs leads.
    end_step c.standing_lists.ensures.entries c.orders.ensures.parts c.args.self.now pairs leads c.in-None-at_cluster.is
    (rw (← c.priority_at-near.ensures, ← c.priority_at-rack.ensures, ← c.priority_at-cluster.ensures) (sym c.leads.ensures ∙ c.if-leads.false))
    (rw (← c.priority_at-rack.ensures, ← c.priority_at-cluster.ensures) (sym c.leads-2.ensures ∙ c.if-leads-2.false))

pub returns-in-None-at_cluster-clause-goes_on : goal.returns-in-None-at_cluster-clause-goes_on
returns-in-None-at_cluster-clause-goes_on c = goes_on _ c.requires.pairs _ (returns-in-None-at_cluster-clause-gives c c.requires.pairs c.requires.leads)

pub take-behind-requires-2 : goal.take-behind-requires-2
take-behind-requires-2 c = in_of c.standing_lists.ensures.entries _ _ _ _ c.in-Some-at_cluster.slot c.requires.leads.at_cluster c.in-Some-at_cluster.is

pub skip-self-requires-2-clause-from : goal.skip-self-requires-2-clause-from
skip-self-requires-2-clause-from c = tail_behind c.standing_lists.ensures.entries _ _ _ _ c.in-Some-at_cluster.slot _ c.requires.leads.at_cluster c.in-Some-at_cluster.is c.take-behind-2.ensures.behind

pub returns-clause-gives : goal.returns-clause-gives
returns-clause-gives c = λ pairs leads.
    cluster_step c.standing_lists.ensures.entries c.orders.ensures.parts c.args.self.now pairs leads c.in-Some-at_cluster.slot c.take-behind-2.result.0 c.take-behind-2.result.1 c.skip-self-2.result c.in-Some-at_cluster.is c.take-behind-2.ensures.entry c.take-behind-2.ensures.behind c.skip-self-2.ensures
    (rw (← c.priority_at-near.ensures, ← c.priority_at-rack.ensures, ← c.priority_at-cluster.ensures) (sym c.leads.ensures ∙ c.if-leads.false))
    (rw (← c.priority_at-rack.ensures, ← c.priority_at-cluster.ensures) (sym c.leads-2.ensures ∙ c.if-leads-2.false))

pub returns-clause-goes_on : goal.returns-clause-goes_on
returns-clause-goes_on c = goes_on _ c.requires.pairs _ (returns-clause-gives c c.requires.pairs c.requires.leads)
