-- Each peer is shown what it should hold, and the core stands for the master that has published.
use Rattle.std.proofs.Common.{◌≡◌, ℕ, ◌+◌, ◌<◌, ◌≤◌, true, false, cond, nat_lt, List, [], length, Option, Some, None, slice_get, refl, sym, ◌∙◌, ap, subst, arith}
use Rattle.std.specs.Prelude.{◌&&◌, ◌||◌, is_some}
use Rattle.std.specs.List.{AllByRecursion}
use Rattle.std.proofs.lemmas.Bool.Decides.{nat_tests}
use Rattle.std.proofs.lemmas.Option.{slice_get_within}
use Rattle.fuxi_terms.specs.Cluster.{ClusterRecord}
use Rattle.fuxi_terms.specs.Jobs.{is_known}
use Rattle.fuxi_terms.proofs.Lists.{all_at}
use Rattle.spec_net.specs.Net.{Id}
use Rattle.spec_net.specs.Ledgers.{row_ledger, tally_ledger}
use Rattle.spec_net.specs.Channels.{agent_id, app_id}
use Rattle.spec_net.specs.Sides.{Side, appended}
use Rattle.spec_roles.specs.Masters.{Master}
use Rattle.spec_roles.specs.MasterSteps.{talks, projected, is_one_of}
use Rattle.spec_roles.specs.MasterRoles.{MasterRole, publish_alone, offers_alone, side_after}
use Rattle.peer_channel.specs.Bodies.{tally_of}
use Rattle.grant_table.specs.GrantTables.{as_known}
use Rattle.ledger_updates.specs.Projections.{row_of, grant_entries}
use Rattle.ledger_updates.specs.declared.grants.StepChanges.{StepChanges}
use Rattle.ledger_updates.specs.AllShown.{Down, App, ShowsRows, ShowsAllGrants, IsShownAnew, ShowsJob, is_job, credited_in, grants_after}
use Rattle.fuxi_master.specs.Cores.{CoreRecord, IsKept, IsDown, IsApp, StandsWith, shown_credited}
use Rattle.fuxi_master.specs.StepEnds.{IsPublished}
use Rattle.fuxi_master.specs.Steps.{IsMid, StandsMid, forced_by}
use Rattle.fuxi_master.proofs.Indexed.{other_at, all_from}
use Rattle.fuxi_master.proofs.Projected.{rows_alike, agent_forced, app_forced}

LawEnds : Type 0
LawEnds = (c : ClusterRecord) (sides : Id → Side) (M : Master) (even_if_equal : List Id) (q : Id) → publish_alone sides (offers_alone c sides M even_if_equal) q ≡ side_after c sides M even_if_equal q

module _ (x : CoreRecord) (news : StepChanges) (mid : IsMid x news) (agents : List Down) (apps : List (Option App))
    (rows : ShowsRows x.allotment.table news.reported x.agents agents) (grants : ShowsAllGrants x.allotment.table news x.reported.numbers x.apps apps) where
  abbrev after : CoreRecord
  after = record x { allotment = record x.allotment { touched = [] }; agents = agents; apps = apps }

  -- the slot of an application that is there now was that of one
  pub record WasApp (a : ℕ) (e : App) : Type 0 where
    pub old : App
    pub there : slice_get x.apps a ≡ Some (Some old)
    pub anew : IsShownAnew x.allotment.table news x.reported.numbers a old apps
    pub is : anew.new ≡ e

  was_app : (a : ℕ) (e : App) → slice_get apps a ≡ Some (Some e) → WasApp a e
  was_app a e now =
      let at = other_at x.apps apps a (Some e) grants.wide now in
      by at.item at.there
    where
      by : (o : Option App) → slice_get x.apps a ≡ Some o → WasApp a e
      by None there = absurd (let none : Some None ≡ Some (Some e) = sym (grants.none a there) ∙ now in cc)
      by (Some d) there =
          let anew = grants.some a d there in
          record { old = d; there = there; anew = anew; is = (let same : Some (Some anew.new) ≡ Some (Some e) = sym anew.there ∙ now in cc) }

  kept_after : IsKept after
  kept_after = record {
    epoch = mid.kept.epoch;
    numbers = mid.kept.numbers;
    jobs = mid.kept.jobs;
    agents = rows.wide ∙ mid.kept.agents;
    apps = λ a e. let lt = mid.kept.apps a e in let wide = grants.wide in omega (arith, lt, wide);
    slots = λ a o now. slot a o now (other_at x.apps apps a o grants.wide now).item (other_at x.apps apps a o grants.wide now).there;
    size = mid.kept.size;
    rising = mid.kept.rising;
    below = mid.kept.below;
    agents_own = all_from (λ (d : Down). d.outgoing.own ≡ x.epoch) agents (λ m d now.
        let at = other_at x.agents agents m d rows.wide now in
        (rows.each m at.item d at.there now).own ∙ all_at (λ (d : Down). d.outgoing.own ≡ x.epoch) x.agents m at.item mid.kept.agents_own at.there);
    apps_own = λ a d now.
        let was = was_app a d now in
        ap (λ (e : App). e.outgoing.own) (sym was.is) ∙ was.anew.shows.shows.own ∙ mid.kept.apps_own a was.old was.there;
  }
    where
      slot : (a : ℕ) (o : Option App) → slice_get apps a ≡ Some o → (p : Option App) → slice_get x.apps a ≡ Some p → is_some o ≡ is_known x.known.jobs a
      slot a o now None there = ap is_some (let same : Some None ≡ Some o = sym (grants.none a there) ∙ now in let is : o ≡ None = cc in is) ∙ mid.kept.slots a None there
      slot a o now (Some d) there =
          let anew = grants.some a d there in
          ap is_some (let same : Some (Some anew.new) ≡ Some o = sym anew.there ∙ now in let is : o ≡ Some anew.new = cc in is) ∙ mid.kept.slots a (Some d) there

  rows_after : (m : ℕ) (d : Down) → slice_get agents m ≡ Some d → d.outgoing.present ≡ row_of (as_known x.allotment.table.jobs) m x.allotment.table.entries
  rows_after m d now = let at = other_at x.agents agents m d rows.wide now in (rows.each m at.item d at.there now).present

  boots_after : (a : ℕ) (d : App) → slice_get apps a ≡ Some (Some d) → d.outgoing.present.head ≡ d.incoming.place.inc
  boots_after a d now =
      let was = was_app a d now in
      let shows = was.anew.shows.shows in
      ap (λ (e : App). e.outgoing.present.head) (sym was.is) ∙ ap (λ t. t.head) shows.present ∙ sym (ap (λ (e : App). e.incoming.place.inc) shows.rest) ∙ ap (λ (e : App). e.incoming.place.inc) was.is

  grants_after_it : (a : ℕ) (d : App) → slice_get apps a ≡ Some (Some d) → ShowsJob a x.reported.numbers x.allotment.table.entries d.outgoing.present
  grants_after_it a d now =
      let was = was_app a d now in
      let shows = was.anew.shows in
      subst (λ (e : App). e.outgoing.present.entries ≡ grant_entries a x.reported.numbers x.allotment.table.entries (credited_in e.outgoing.present.entries)) was.is
      (ap (λ t. t.entries) shows.shows.present ∙ ap (grant_entries a x.reported.numbers x.allotment.table.entries) (sym shows.credited))

  agents_within : (n : ℕ) → AllByRecursion (λ (d : Down). d.outgoing.last ≤ n) x.agents → AllByRecursion (λ (d : Down). d.outgoing.last ≤ n + 1) agents
  agents_within n h = all_from (λ (d : Down). d.outgoing.last ≤ n + 1) agents (λ m d now.
      let at = other_at x.agents agents m d rows.wide now in
      let more = (rows.each m at.item d at.there now).last in
      let le = all_at (λ (d : Down). d.outgoing.last ≤ n) x.agents m at.item h at.there in
      omega (arith, more, le))

  apps_within : (n : ℕ) → ((a : ℕ) (d : App) → slice_get x.apps a ≡ Some (Some d) → d.outgoing.last ≤ n) → (a : ℕ) (d : App) → slice_get apps a ≡ Some (Some d) → d.outgoing.last ≤ n + 1
  apps_within n h a d now =
      let was = was_app a d now in
      let more = was.anew.shows.shows.last in
      let le = h a was.old was.there in
      subst (λ (e : App). e.outgoing.last ≤ n + 1) was.is (omega (arith, more, le))

  module _ (law : LawEnds) (r : MasterRole) (h : StandsMid news x r) where
    abbrev c : ClusterRecord
    c = r.cluster

    abbrev M : Master
    M = r.state

    abbrev sides : Id → Side
    sides = publish_alone r.sides (offers_alone c r.sides M (forced_by news))

    sides_are : (q : Id) → sides q ≡ side_after c r.sides M (forced_by news) q
    unfolding LawEnds
    sides_are q = law c r.sides M (forced_by news) q

    agent_talks : (m : ℕ) → m < length x.agents → talks c M (agent_id m) ≡ true
    agent_talks m lt =
        let n : length x.agents ≡ length c.machines = mid.kept.agents ∙ ap (λ (k : ClusterRecord). length k.machines) h.cluster in
        let there : nat_lt m (length c.machines) ≡ true = grind (arith, nat_tests, lt, n) in
        ap (λ b. b || (false && is_known M.jobs m)) there

    row_is : (m : ℕ) → row_of (as_known x.allotment.table.jobs) m x.allotment.table.entries ≡ row_of M.jobs m M.table
    row_is m =
        rows_alike (as_known x.allotment.table.jobs) M.jobs (λ a. h.allots.placing.jobs a) m x.allotment.table.entries
        ∙ ap (row_of M.jobs m) h.allots.placing.entries

    agent_stands : (m : ℕ) (d : Down) → slice_get agents m ≡ Some d → IsDown d x.epoch (sides (agent_id m))
    agent_stands m d now =
        let at = other_at x.agents agents m d rows.wide now in
        let lt = slice_get_within x.agents m at.item at.there in
        let shown = (rows.each m at.item d at.there now).side x.epoch (r.sides (agent_id m)) (h.agents m at.item at.there) in
        subst (IsDown d x.epoch) (sym (sides_are (agent_id m) ∙ ap (λ b. cond b (appended (is_one_of (agent_id m) (forced_by news)) (projected M (agent_id m) (r.sides (agent_id m)).link.known) (r.sides (agent_id m))) (r.sides (agent_id m))) (agent_talks m lt)
        ∙ (λ i. appended (agent_forced news m i) (row_ledger (sym (row_is m) i)) (r.sides (agent_id m))))) shown

    app_talks : (a : ℕ) (d : App) → slice_get x.apps a ≡ Some (Some d) → talks c M (app_id a) ≡ true
    app_talks a d there = ap (λ js. is_known js a) h.jobs ∙ sym (mid.kept.slots a (Some d) there)

    app_ledger : (a : ℕ) (d : App) → slice_get x.apps a ≡ Some (Some d) → projected M (app_id a) (r.sides (app_id a)).link.known ≡ tally_of (grants_after x.allotment.table news x.reported.numbers a d)
    app_ledger a d there =
        let place = (h.apps a d there).place in
        λ i. tally_ledger (sym (ap (λ p. p.inc) place) i) (grant_entries a (h.reported i) (sym h.allots.placing.entries i) (h.credited a d there i))

    app_stands : (a : ℕ) (e : App) → slice_get apps a ≡ Some (Some e) → IsApp e x.epoch (sides (app_id a))
    app_stands a e now =
        let was = was_app a e now in
        let shown = was.anew.shows.shows.side x.epoch (r.sides (app_id a)) (h.apps a was.old was.there) in
        subst (IsApp e x.epoch) (sym (sides_are (app_id a) ∙ ap (λ b. cond b (appended (is_one_of (app_id a) (forced_by news)) (projected M (app_id a) (r.sides (app_id a)).link.known) (r.sides (app_id a))) (r.sides (app_id a))) (app_talks a was.old was.there)
        ∙ (λ i. appended (app_forced news a i) (app_ledger a was.old was.there i) (r.sides (app_id a)))))
        (subst (λ (d : App). IsApp d x.epoch (appended (is_job news.admitted a) (tally_of (grants_after x.allotment.table news x.reported.numbers a was.old)) (r.sides (app_id a)))) was.is shown)

    published_stands : StandsWith shown_credited after (record { cluster = c; state = M; sides = sides })
    published_stands = record {
      cluster = h.cluster;
      epoch = h.epoch;
      jobs = h.jobs;
      bans = h.bans;
      serving = h.serving;
      reported = h.reported;
      allots = record { placing = h.allots.placing };
      tidy = h.tidy;
      agents = agent_stands;
      apps = app_stands;
      credited = λ a e now.
          let was = was_app a e now in
          h.credited a was.old was.there ∙ sym was.anew.shows.credited ∙ ap (λ (d : App). credited_in d.outgoing.present.entries) was.is;
      unheard = λ a e. sides_are (app_id a) ∙ ap (λ b. cond b (appended (is_one_of (app_id a) (forced_by news)) (projected M (app_id a) (r.sides (app_id a)).link.known) (r.sides (app_id a))) (r.sides (app_id a))) (ap (λ js. is_known js a) h.jobs ∙ e) ∙ h.unheard a e;
      uncredited = h.uncredited;
    }

  pub published : ((c : ClusterRecord) (sides : Id → Side) (M : Master) (even_if_equal : List Id) (q : Id) → publish_alone sides (offers_alone c sides M even_if_equal) q ≡ side_after c sides M even_if_equal q) → IsPublished news x after
  unfolding LawEnds
  published law = record {
    kept = kept_after;
    rows = rows_after;
    boots = boots_after;
    grants = grants_after_it;
    agents = agents_within;
    apps = apps_within;
    stands = λ r h. published_stands law r h;
    rest = refl;
  }
