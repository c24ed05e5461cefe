use Rattle.std.proofs.Common.{◌≡◌, ◌<◌, length, map, sym, ◌∙◌, ap, subst, rules}
use Rattle.std.specs.List.{AllByRecursion, flat_map}
use Rattle.fuxi_terms.specs.Cluster.{ClusterRecord}
use Rattle.fuxi_terms.specs.Lists.{below}
use Rattle.spec_world.specs.Outputs.{Reported}
use Rattle.party_text.specs.MasterLines.{reported_lines}
use Rattle.schedule_text.specs.PrintedLines.{line_text}
use Rattle.spec_refinement.proofs.ShowsLemmas.{shows_same}
use Rattle.party_text.proofs.Walks.{listed_below}
use Rattle.party_text.proofs.master.write_reports.Goals as goal

pub returns-clause-ok : goal.returns-clause-ok
returns-clause-ok c =
    let n = c.loop-number.number in
    let e = c.epoch-epoch.result in
    let numbers = c.reported-reported.result.now.numbers in
    let all : n ≡ c.machines-machines.result = search rules in
    let size : c.machines-machines.result ≡ length c.args.master.now.core.allotment.table.cluster.machines = c.machines-machines.ensures.number ∙ ap (λ (x : ClusterRecord). length x.machines) (c.cluster.ensures.cluster ∙ ap (λ t. t.cluster) c.table.ensures.table) in
    let within = subst (λ k. AllByRecursion (λ m. m < k) numbers) (sym (all ∙ size)) c.reported-reported.ensures.below in
    λ r stands.
    let epoch = c.epoch-epoch.ensures.stands r stands in
    let reported = c.reported-reported.ensures.stands r stands in
    shows_same line_text (flat_map (reported_lines e numbers) (below n)) (map (Reported r.state.epoch) r.state.reported) c.args.out.now.items c.loop-number.out.items
    (listed_below (Reported e) n numbers c.reported-reported.ensures.rising within ∙ (λ i. map (Reported (epoch i)) (reported i))) c.loop-number.invariant.shows
