-- The end of a step of a core, and of the master that it stands for.
use Rattle.std.proofs.Common.{◌≡◌, ℕ, Bool, List, [], length, Some, refl, sym, ◌∙◌, ap}
use Rattle.std.specs.Prelude.{◌||◌}
use Rattle.std.specs.List.{list_all}
use Rattle.std.specs.Option.{unwrap_or}
use Rattle.std.specs.Ordering.{nat_cmp}
use Rattle.std.specs.FinMap.Entries.{find}
use Rattle.fuxi_terms.specs.Cluster.{ClusterRecord}
use Rattle.fuxi_terms.specs.declared.Key.{Key}
use Rattle.fuxi_terms.specs.Lists.{below}
use Rattle.fuxi_terms.specs.Keys.{Spot}
use Rattle.fuxi_terms.specs.Numbers.{has_number}
use Rattle.failover.specs.Reported.{are_all_in}
use Rattle.spec_roles.specs.Masters.{Master}
use Rattle.spec_roles.specs.Placing.{line_up, first_placeable}
use Rattle.spec_roles.specs.Settling.{IsFirst}
use Rattle.spec_roles.specs.MasterSteps.{phased, ready, is_all_reported}
use Rattle.spec_roles.specs.MasterRoles.{MasterRole}
use Rattle.allotment.specs.Allotted.{AllotmentRecord, Allots}
use Rattle.ledger_updates.specs.AllShown.{App}
use Rattle.fuxi_master.specs.Cores.{CoreRecord, StandsWith}
use Rattle.fuxi_master.specs.StepEnds.{IsReadied}
use Rattle.fuxi_master.proofs.AllotsAlike.{allots_alike}
use Rattle.fuxi_master.proofs.Readied.{serving_same, serving_tidy}

-- the phase, the line and settling
pub stands_readied : ((c : ClusterRecord) (M : Master) (s : Spot) → first_placeable c M ≡ Some s → IsFirst c M s)
    → (x : CoreRecord) (s : Bool) (z : AllotmentRecord) → IsReadied s x.allotment z → s ≡ (x.serving || are_all_in x.reported) → x.reported.size ≡ length x.allotment.table.cluster.machines
    → (credited : ℕ → App → List (Key × ℕ)) (r : MasterRole) → StandsWith credited x r
    → StandsWith credited (record x { serving = s; allotment = z }) (record { cluster = r.cluster; state = ready r.cluster r.state; sides = r.sides })
stands_readied first x s z done is size credited r h =
    let c = r.cluster in
    let M = r.state in
    let L = line_up (phased c M) in
    let same = serving_same c L in
    let n : x.reported.size ≡ length c.machines = size ∙ ap (λ (k : ClusterRecord). length k.machines) h.cluster in
    let all : is_all_reported c M ≡ are_all_in x.reported = (λ i. list_all (λ m. has_number m (h.reported i)) (below (sym n i))) in
    let serves : (M.serving || is_all_reported c M) ≡ s = (λ i. h.serving i || all i) ∙ sym is in
    let allots : Allots x.allotment c (phased c M) = allots_alike x.allotment c M (phased c M) h.allots (record { numbers = refl; jobs = λ a. refl; table = refl; demands = λ a. refl; usable = λ m. refl; line = refl }) in
    record {
      cluster = ap (λ t. t.cluster) done.table ∙ h.cluster;
      epoch = same.epoch ∙ h.epoch;
      jobs = same.jobs ∙ h.jobs;
      bans = same.bans ∙ h.bans;
      serving = same.serving ∙ serves;
      reported = same.reported ∙ h.reported;
      allots = done.stands c (phased c M) allots serves;
      tidy = serving_tidy first c L h.tidy;
      agents = h.agents;
      apps = h.apps;
      credited = λ a d e. ap (λ cs. unwrap_or (find nat_cmp a cs) []) same.credited ∙ h.credited a d e;
      unheard = h.unheard;
      uncredited = λ a e. ap (λ cs. unwrap_or (find nat_cmp a cs) []) same.credited ∙ h.uncredited a e;
    }
