-- A step that changes nothing but a side ends with nothing to do.
use Rattle.std.proofs.Common.{◌≡◌, ℕ, Bool, true, false, cond, not, nat_eq, List, [], ◌∷◌, ◌++◌, Some, slice_get, refl, sym, ◌∙◌, ap, subst}
use Rattle.std.specs.Prelude.{◌&&◌}
use Rattle.fuxi_terms.specs.Cluster.{ClusterRecord}
use Rattle.fuxi_terms.specs.Jobs.{is_known}
use Rattle.fuxi_terms.specs.Keys.{key_cmp, row_cmp}
use Rattle.fuxi_terms.specs.Counts.{is_same}
use Rattle.fuxi_terms.proofs.Booleans.{and_true, nat_itself}
use Rattle.fuxi_terms.proofs.KeyOrders.{key_total, row_key_total}
use Rattle.fuxi_terms.proofs.SameEntries.{same_itself}
use Rattle.spec_net.specs.Net.{Id}
use Rattle.spec_net.specs.Ledgers.{Ledger, same_ledger, row_ledger, tally_ledger}
use Rattle.spec_net.specs.Channels.{agent_id, app_id}
use Rattle.spec_net.specs.Sides.{Side, shown, appended}
use Rattle.spec_roles.specs.Masters.{Master, credited_of}
use Rattle.spec_roles.specs.MasterSteps.{ready, talks, projected}
use Rattle.spec_roles.specs.MasterRoles.{MasterRole, publish_alone, offers_alone, side_after, ends_alone}
use Rattle.grant_table.specs.GrantTables.{as_known}
use Rattle.ledger_updates.specs.Projections.{row_of, grant_entries}
use Rattle.ledger_updates.specs.AllShown.{Down, App}
use Rattle.allotment.specs.Allotted.{Allots}
use Rattle.fuxi_master.specs.Cores.{CoreRecord, IsCore, IsDown, IsApp, IsTidy, StandsFor}
use Rattle.fuxi_master.proofs.Projected.{rows_alike}

-- a ledger that is shown already is not appended
same_as_itself : (l : Ledger) → same_ledger l l ≡ true
same_as_itself l = and_true (nat_eq l.head l.head) (is_same row_cmp l.rows l.rows && is_same key_cmp l.entries l.entries) (nat_itself l.head)
    (and_true (is_same row_cmp l.rows l.rows) (is_same key_cmp l.entries l.entries) (same_itself row_key_total l.rows) (same_itself key_total l.entries))

not_due : (e : Side) (l : Ledger) → shown e ≡ l → appended false l e ≡ e
not_due e l is = ap (λ b. cond (not b) (record { link = e.link; got = e.got; sent = e.sent ++ l ∷ [] }) e) (ap (λ y. same_ledger y l) is ∙ same_as_itself l)

module _ (law : (c : ClusterRecord) (sides : Id → Side) (M : Master) (even_if_equal : List Id) (q : Id) → publish_alone sides (offers_alone c sides M even_if_equal) q ≡ side_after c sides M even_if_equal q)
    (x : CoreRecord) (core : IsCore x) (r : MasterRole) (h : StandsFor x r) where
  abbrev c : ClusterRecord
  c = r.cluster

  abbrev M : Master
  M = r.state

  chosen : (b : Bool) (e : Side) (l : Ledger) → shown e ≡ l → cond b (appended false l e) e ≡ e
  chosen true e l is = not_due e l is
  chosen false e l is = refl

  ended_at : (q : Id) → publish_alone r.sides (offers_alone c r.sides (ready c M) []) q ≡ cond (talks c M q) (appended false (projected M q (r.sides q).link.known) (r.sides q)) (r.sides q)
  ended_at q = law c r.sides (ready c M) [] q ∙ ap (λ N. cond (talks c N q) (appended false (projected N q (r.sides q).link.known) (r.sides q)) (r.sides q)) h.ready

  agent_same : (m : ℕ) (d : Down) → slice_get x.agents m ≡ Some d → publish_alone r.sides (offers_alone c r.sides (ready c M) []) (agent_id m) ≡ r.sides (agent_id m)
  agent_same m d at = ended_at (agent_id m) ∙ chosen (talks c M (agent_id m)) (r.sides (agent_id m)) (row_ledger (row_of M.jobs m M.table))
      ((h.stands.agents m d at).shown ∙ ap row_ledger (core.near.rows m d at ∙ rows_alike (as_known x.allotment.table.jobs) M.jobs (λ a. h.stands.allots.placing.jobs a) m x.allotment.table.entries ∙ ap (row_of M.jobs m) h.stands.allots.placing.entries))

  app_same : (a : ℕ) (d : App) → slice_get x.apps a ≡ Some (Some d) → publish_alone r.sides (offers_alone c r.sides (ready c M) []) (app_id a) ≡ r.sides (app_id a)
  app_same a d at =
      let side = h.stands.apps a d at in
      ended_at (app_id a) ∙ chosen (talks c M (app_id a)) (r.sides (app_id a)) (projected M (app_id a) (r.sides (app_id a)).link.known)
      (side.shown ∙ (λ i. tally_ledger ((core.boots.known a d at refl ∙ ap (λ p. p.inc) side.place) i) ((core.near.grants a d at ∙ (λ j. grant_entries a (sym h.stands.reported j) (h.stands.allots.placing.entries j) (sym (h.stands.credited a d at) j))) i)))

  pub quiet_ends : StandsFor x (ends_alone c r.sides M [])
  quiet_ends = record {
    stands = record {
      cluster = h.stands.cluster;
      epoch = ap (λ (N : Master). N.epoch) h.ready ∙ h.stands.epoch;
      jobs = ap (λ (N : Master). N.jobs) h.ready ∙ h.stands.jobs;
      bans = ap (λ (N : Master). N.bans) h.ready ∙ h.stands.bans;
      serving = ap (λ (N : Master). N.serving) h.ready ∙ h.stands.serving;
      reported = ap (λ (N : Master). N.reported) h.ready ∙ h.stands.reported;
      allots = subst (Allots x.allotment c) (sym h.ready) h.stands.allots;
      tidy = subst IsTidy (sym h.ready) h.stands.tidy;
      agents = λ m d at. subst (IsDown d x.epoch) (sym (agent_same m d at)) (h.stands.agents m d at);
      apps = λ a d at. subst (IsApp d x.epoch) (sym (app_same a d at)) (h.stands.apps a d at);
      credited = λ a d at. ap (λ N. credited_of N a) h.ready ∙ h.stands.credited a d at;
      unheard = λ a e. ended_at (app_id a) ∙ ap (λ b. cond b (appended false (projected M (app_id a) (r.sides (app_id a)).link.known) (r.sides (app_id a))) (r.sides (app_id a))) (ap (λ js. is_known js a) h.stands.jobs ∙ e) ∙ h.stands.unheard a e;
      uncredited = λ a e. ap (λ N. credited_of N a) h.ready ∙ h.stands.uncredited a e;
    };
    ready = ap (ready c) h.ready;
  }
