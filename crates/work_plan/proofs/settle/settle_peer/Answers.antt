use Rattle.std.proofs.Common.{refl, subst}
use Rattle.fuxi_terms.specs.Counts.{AreCounts}
use Rattle.fuxi_terms.specs.Keys.{key_cmp}
use Rattle.fuxi_terms.specs.Tallies.{TallyRecord}
use Rattle.work_plan.specs.Ends.{Sets, names_set}
use Rattle.work_plan.specs.PlanKeys.{greatest_named}
use Rattle.work_plan.specs.Settles.{SettlesUnits}
use Rattle.work_plan.proofs.SettlesLemmas.{peer_is_settled}
use Rattle.work_plan.proofs.settle.settle_peer.Goals as goal

pub returns : goal.returns
returns c =
    let laws = c.workers_run_as_planned.ensures in
    let old = c.args.peer.now in
    peer_is_settled (record { distinct = laws.distinct; wanted = laws.wanted; many = laws.many; stays = laws.stays }) c.plans_name_once.ensures c.args.app.0 c.args.first c.args.last old _ c.args.workers.now c.settle_units.new.workers c.in_ok-numbers.numbers.items
    (subst (λ (t : TallyRecord). SettlesUnits c.args.app.0 t old.counts c.args.first c.args.last c.args.workers.now c.settle_units.new.workers c.in_ok-numbers.numbers.items) c.force_of-plan.ensures c.in_ok-numbers.ensures)
    (subst (λ ns. Sets (names_set old.ends.outgoing.present ns) old.ends c.set_names.new.ends) c.deref.ensures.value c.in_ok-set_names.ensures.sets) refl refl
    (subst (λ (t : TallyRecord). AreCounts key_cmp greatest_named t.entries) c.force_of-plan.ensures c.entries-names.ensures.counts)
    (subst (λ (t : TallyRecord). AreCounts key_cmp greatest_named t.entries) c.sent.ensures c.entries-sent.ensures.counts)
