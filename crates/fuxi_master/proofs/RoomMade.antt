-- Room is made for a unit that waits.
use Rattle.std.proofs.Common.{◌≡◌, ◌+◌, ◌≤◌, Bool, true, false, Some, None, refl, sym, ap, ◌∙◌}
use Rattle.fuxi_terms.specs.Cluster.{ClusterRecord}
use Rattle.spec_roles.specs.Masters.{Master}
use Rattle.spec_roles.specs.MasterRoles.{MasterRole}
use Rattle.spec_roles.specs.Placing.{line_up}
use Rattle.spec_roles.specs.Preemption.{Plan, plan_of, preempted}
use Rattle.grant_table.specs.GrantTables.{IsSound}
use Rattle.place_pass.specs.Placers.{IsUpToDate}
use Rattle.allotment.specs.SettlingRuns.{AreTouched}
use Rattle.allotment.specs.Allotted.{AllotmentRecord, Allots, AllWait}
use Rattle.ledger_updates.specs.declared.grants.StepChanges.{StepChanges}
use Rattle.ledger_updates.specs.AllShown.{with_reported, credited_after}
use Rattle.fuxi_master.specs.Cores.{CoreRecord, IsCore, StandsFor}
use Rattle.fuxi_master.specs.Commands.{IsPreempted, CarriesOut, RoomIsMade, Preempts}
use Rattle.fuxi_master.specs.Heard.{AreStepChanges}
use Rattle.fuxi_master.specs.Steps.{IsMid}
use Rattle.fuxi_master.proofs.Readied.{lined_again}
use Rattle.fuxi_master.proofs.StepEndsLemmas.{lined_as}
use Rattle.fuxi_master.proofs.CommandsLemmas.{credits_of, nothing_credited}
use Rattle.fuxi_master.proofs.NotYetShown.{same_jobs, mid_by, credited_same, within_soon}
use Rattle.fuxi_master.proofs.UnreportedBare.{served_reported, preempted_tidy}
use Rattle.fuxi_master.proofs.Told.{stands_told}

-- the plan is carried out
pub room_made : (x y : AllotmentRecord) (p : Plan) → ((c : ClusterRecord) (M : Master) → Allots x c M → plan_of c M ≡ Some p) → ((c : ClusterRecord) (M : Master) → Allots x c M → Allots y c (line_up (preempted M p)))
    → AllWait y → IsUpToDate y.placer.seen y.table → AreTouched x.table.entries y.table.entries x.touched y.touched → y.table ≡ record x.table { entries = y.table.entries } → y.placer.seen.turns ≤ x.placer.seen.turns + 2048 → IsPreempted true x y
room_made x y p planned carried waits up spots table turns = record {
  alike = λ c M h. record { plan = p; planned = planned c M h; stands = carried c M h };
  none = λ e. absurd (let f : true ≡ false = e in cc);
  waits = waits;
  up = up;
  spots = spots;
  table = table;
  turns = turns;
}

module _ (x : CoreRecord) (core : IsCore x) (sound : IsSound x.allotment.table) (z : AllotmentRecord) where
  made_mid : IsPreempted true x.allotment z → (news : StepChanges) → AreStepChanges None None news → IsMid (record x { allotment = z }) news
  made_mid made news is = mid_by x core.near sound z made.spots made.table x.known x.serving x.reported news core.boots (λ a _. refl) (same_jobs x.known.jobs) (credits_of news is)
      (ap (λ o. with_reported o x.reported.numbers) (sym is.reported_is)) refl core.near.kept.rising core.near.kept.below

  made_room : IsPreempted true x.allotment z → (news : StepChanges) → AreStepChanges None None news → (r : MasterRole) → StandsFor x r → RoomIsMade news (record x { allotment = z }) r
  made_room made news is r h =
      let c = r.cluster in
      let M = r.state in
      let carried : CarriesOut x.allotment z c M = made.alike c M h.stands.allots in
      let p = carried.plan in
      record {
        plan = p;
        planned = carried.planned;
        stands = stands_told (credited_after news) x z x.known x.serving x.reported r h (line_up (preempted M p)) (ap (λ t. t.cluster) made.table)
            (record { epoch = refl; jobs = h.stands.jobs; bans = h.stands.bans; serving_is = h.stands.serving; reported_is = h.stands.reported }) (λ b. refl) carried.stands
            (λ s unreported. preempted_tidy M p (served_reported c M p carried.planned) h.stands.tidy s unreported)
            (λ b d e. h.stands.credited b d e ∙ sym (credited_same news b d (core.boots.known b d e refl) (nothing_credited news is b))) h.stands.uncredited;
        lined = lined_again (line_up (preempted M p)) (lined_as z c (line_up (preempted M p)) made.up carried.stands);
      }

  pub preempts : (found : Bool) → IsPreempted found x.allotment z → Preempts found x (record x { allotment = z })
  preempts false made = (ap (λ (a : AllotmentRecord). record x { allotment = a }) (made.none refl), λ r h. made.alike r.cluster r.state h.stands.allots)
  preempts true made = λ news is. record {
    mid = made_mid made news is;
    made = made_room made news is;
    within = λ n w. within_soon n x (record x { allotment = z }) refl refl made.turns w;
  }
