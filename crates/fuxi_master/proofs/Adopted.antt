-- A core that adopts a report.
use Rattle.std.proofs.Common.{◌≡◌, ℕ, ◌+◌, ◌<◌, ◌≤◌, Bool, true, cond, not, nat_eq, nat_lt, List, [], length, Some, None, slice_get, refl, sym, ◌∙◌, ap, subst}
use Rattle.std.specs.Prelude.{◌&&◌}
use Rattle.std.specs.List.{AllByRecursion}
use Rattle.fuxi_terms.specs.Cluster.{ClusterRecord}
use Rattle.fuxi_terms.specs.Keys.{RowKey, key_cmp}
use Rattle.fuxi_terms.specs.TallyKeys.{credited_what, greatest_grant}
use Rattle.fuxi_terms.specs.declared.Key.{Key}
use Rattle.fuxi_terms.specs.NumbersSet.{AreNumbers}
use Rattle.fuxi_terms.specs.Numbers.{has_number, with_number}
use Rattle.schedule_unit.specs.declared.party.MachineNo.{MachineNo}
use Rattle.grant_table.specs.GrantTables.{IsSound}
use Rattle.failover.specs.KeptReports.{kept_of}
use Rattle.failover.specs.Reported.{Reported}
use Rattle.allotment.specs.SettlingRuns.{AreTouched}
use Rattle.spec_net.specs.Ledgers.{Ledger}
use Rattle.spec_net.specs.Channels.{agent_id}
use Rattle.fuxi_terms.specs.Jobs.{unit_count}
use Rattle.place_pass.specs.Placers.{IsUpToDate}
use Rattle.spec_roles.specs.Masters.{Master, out}
use Rattle.spec_roles.specs.MasterSteps.{adopted}
use Rattle.spec_roles.specs.Placing.{line_up, has_pair}
use Rattle.spec_roles.specs.MasterRoles.{MasterRole}
use Rattle.peer_channel.specs.Bodies.{report_of}
use Rattle.allotment.specs.Allotted.{AllotmentRecord, Allots, rows_put}
use Rattle.ledger_updates.specs.declared.grants.StepChanges.{StepChanges}
use Rattle.ledger_updates.specs.AllShown.{Down, credited_after, is_job, with_reported}
use Rattle.fuxi_master.specs.Cores.{CoreRecord, IsCore, StandsFor}
use Rattle.fuxi_master.specs.Heard.{AreStepChanges, Changes, adopting, adopting_role}
use Rattle.fuxi_master.specs.Steps.{StandsMid}
use Rattle.fuxi_master.proofs.ReportAdopted.{put_adopted, opened_now}
use Rattle.fuxi_master.proofs.StepEndsLemmas.{lined_as}
use Rattle.fuxi_master.proofs.Readied.{lined_again}
use Rattle.fuxi_master.proofs.NotYetShown.{mid_by, same_jobs, credited_same, within_soon}
use Rattle.fuxi_terms.proofs.NumbersLemmas.{with_rises, with_all}
use Rattle.fuxi_master.proofs.UnreportedBare.{adopting_tidy}
use Rattle.fuxi_master.proofs.Told.{stands_told}

-- the table and the placer after a report entered them, and the machine was opened
pub record IsEntered (m : ℕ) (usable : Bool) (kept : List (RowKey × ℕ)) (x y z : AllotmentRecord) : Type 0 where
  pub entered : (c : ClusterRecord) (M : Master) → Allots x c M → Allots y c (line_up (record M { table = rows_put m kept M.table }))
  pub opened : (c : ClusterRecord) (M : Master) (reported bans : List ℕ) → Allots y c M
      → ((n : ℕ) → (has_number n reported && not (has_number n bans)) ≡ cond (nat_eq m n) usable (has_number n M.reported && not (has_number n M.bans)))
      → Allots z c (record M { reported = reported; bans = bans })
  pub spots : AreTouched x.table.entries z.table.entries x.touched z.touched
  pub table : z.table ≡ record x.table { entries = z.table.entries }
  pub turns : z.placer.seen.turns ≤ x.placer.seen.turns + 2048

module _ (x : CoreRecord) (core : IsCore x) (sound : IsSound x.allotment.table) (machine : MachineNo) (lt : machine.0 < length x.allotment.table.cluster.machines) (d : Down) (at : slice_get x.agents machine.0 ≡ Some d)
    (kept : List (RowKey × ℕ)) (kept_is : kept ≡ kept_of x.known machine.0 d.incoming.received.table) (y z : AllotmentRecord) (done : IsEntered machine.0 (not (has_number machine.0 x.known.bans)) kept x.allotment y z)
    (news : StepChanges) (is : AreStepChanges (Some machine) None news) where
  abbrev m : ℕ
  m = machine.0

  abbrev reported : Reported
  reported = record x.reported { numbers = with_number m x.reported.numbers }

  abbrev after : CoreRecord
  after = record x { reported = reported; allotment = z }

  rows_are : (r : MasterRole) → StandsFor x r → rows_put m kept r.state.table ≡ cond (has_number m r.state.bans) r.state.table (adopted r.state.jobs m (r.sides (agent_id m)).got.rows r.state.table)
  rows_are r h =
      let M = r.state in
      let got : (r.sides (agent_id m)).got ≡ report_of d.incoming.received = (h.stands.agents m d at).got in
      ap (λ k. rows_put m k M.table) kept_is ∙ put_adopted x.known m d.incoming.received.table M.table
      ∙ (λ i. cond (has_number m (sym h.stands.bans i)) M.table (adopted (sym h.stands.jobs i) m (ap (λ (l : Ledger). l.rows) (sym got) i) M.table))

  -- its line is up to date
  pub adopted_lined : IsUpToDate y.placer.seen y.table → (r : MasterRole) → StandsFor x r → line_up (adopting_role m r).state ≡ (adopting_role m r).state
  adopted_lined up r h =
      let M = r.state in
      let lined : (a u : ℕ) → has_pair (a, u) (line_up (record M { table = rows_put m kept M.table })).line ≡ (nat_lt u (unit_count M.jobs a) && nat_lt 0 (out (record M { table = rows_put m kept M.table }) a u)) =
      lined_as y r.cluster (line_up (record M { table = rows_put m kept M.table })) up (done.entered r.cluster M h.stands.allots) in
      lined_again (adopting_role m r).state (subst (λ t. (a u : ℕ) → has_pair (a, u) (line_up (record M { table = t })).line ≡ (nat_lt u (unit_count M.jobs a) && nat_lt 0 (out (record M { table = t }) a u))) (rows_are r h) lined)

  stands : (r : MasterRole) → StandsFor x r → StandsMid news after (adopting_role m r)
  stands r h =
      let c = r.cluster in
      let M = r.state in
      let table = rows_are r h in
      let entered = done.entered c M h.stands.allots in
      let opened = done.opened c (line_up (record M { table = rows_put m kept M.table })) (with_number m M.reported) M.bans entered
      (λ n. opened_now m M.reported M.bans n ∙ ap (λ bs. cond (nat_eq m n) (not (has_number m bs)) (has_number n M.reported && not (has_number n M.bans))) h.stands.bans) in
      let N : Master = line_up (adopting M m (r.sides (agent_id m)).got) in
      stands_told (credited_after news) x z x.known x.serving reported r h N (ap (λ t. t.cluster) done.table)
      (record { epoch = refl; jobs = h.stands.jobs; bans = h.stands.bans; serving_is = h.stands.serving; reported_is = ap (with_number m) h.stands.reported })
      (λ b. refl)
      (subst (λ t. Allots z c (record (line_up (record M { table = t })) { reported = with_number m M.reported; bans = M.bans })) table opened)
      (adopting_tidy M m (r.sides (agent_id m)).got.rows h.stands.tidy)
      (λ b e there. h.stands.credited b e there ∙ sym (credited_same news b e (core.boots.known b e there refl) (ap (λ o. cond (is_job o b) news.credited.items []) is.job_is)))
      (λ b unknown. h.stands.uncredited b unknown)

  pub adopted_changes : Changes news (adopting_role m) x after
  adopted_changes = record {
    mid = mid_by x core.near sound z done.spots done.table x.known x.serving reported news core.boots (λ a _. refl) (same_jobs x.known.jobs)
        (record {
          numbers = subst (AreNumbers key_cmp greatest_grant) (sym is.credited_is) (record { sorted = tt; within = tt });
          kinds = subst (AllByRecursion (λ (e : Key × ℕ). nat_eq e.0.what credited_what ≡ true)) (sym is.credited_is) tt;
          admitted = is.admitted_is;
          machines = is.machines_are;
        })
        (ap (λ o. with_reported o x.reported.numbers) (sym is.reported_is)) refl
        (with_rises m x.reported.numbers core.near.kept.rising)
        (with_all (λ k. k < length x.allotment.table.cluster.machines) m x.reported.numbers lt core.near.kept.below);
    stands = stands;
    within = λ n w. within_soon n x after refl refl done.turns w;
  }
