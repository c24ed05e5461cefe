use Rattle.std.proofs.Common.{◌≡◌, sym, ◌∙◌, ap}
use Rattle.std.specs.List.{sum_by}
use Rattle.fuxi_terms.specs.Jobs.{unit_count}
use Rattle.fuxi_terms.specs.Lists.{below}
use Rattle.fuxi_terms.specs.Tables.{held}
use Rattle.spec_refinement.specs.SeenWorlds.{master_seen}
use Rattle.storm_run.proofs.CountsLemmas.{granted_there}
use Rattle.storm_run.proofs.counts.granted.Goals as goal

pub returns-in-Some : goal.returns-in-Some
returns-in-Some c = λ w good stands.
    let a = c.args.app.0 in
    let core = c.in-Some.master.now.core in
    granted_there c.parties_run.ensures.masters w c.args.running.now.masters c.fence.result a c.count_grants.result c.in-Some.master.now stands.masters c.in-Some.ensures.core (c.fence.ensures w stands)
    (λ M s.
    let table = c.table.ensures.stands (master_seen w M) s in
    let units : unit_count core.known.jobs a ≡ unit_count M.jobs a = ap (λ js. unit_count js a) (sym s.stands.jobs) in
    c.count_grants.ensures ∙ (λ i. sum_by (held (table i) a) (below ((c.table.ensures.units a ∙ units) i))))
