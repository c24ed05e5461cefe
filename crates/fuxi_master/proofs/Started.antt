-- A master that starts: its core is in order, and stands for the master by itself that starts.
use Rattle.std.proofs.Common.{◌≡◌, ℕ, zero, suc, ◌-◌, ◌<◌, ◌≤◌, Bool, true, false, cond, not, nat_lt, List, [], ◌∷◌, ◌++◌, length, map, Option, Some, slice_get, refl, sym, ◌∙◌, ap, subst, arith}
use Rattle.std.specs.Prelude.{◌&&◌, ◌||◌, IsTrue}
use Rattle.std.specs.List.{list_all}
use Rattle.std.proofs.lemmas.Bool.Decides.{nat_tests}
use Rattle.fuxi_terms.specs.Cluster.{ClusterRecord, is_between, is_valid_cluster}
use Rattle.fuxi_terms.specs.Jobs.{KnownJob, is_known, job_numbers, unit_count}
use Rattle.fuxi_terms.specs.Limits.{most_machines, most_resources}
use Rattle.fuxi_terms.specs.Lists.{below}
use Rattle.fuxi_terms.specs.Numbers.{has_number}
use Rattle.fuxi_terms.specs.Tables.{held}
use Rattle.fuxi_terms.specs.Tallies.{TallyRecord}
use Rattle.fuxi_terms.proofs.Alls.{all_more}
use Rattle.fuxi_terms.proofs.Booleans.{both_true, and_false, eq_turned}
use Rattle.fuxi_terms.proofs.Lists.{all_at}
use Rattle.hard_state.specs.Knowledge.{Knowledge}
use Rattle.spec_net.specs.Net.{Id}
use Rattle.spec_net.specs.Ledgers.{row_ledger, tally_ledger}
use Rattle.spec_net.specs.Channels.{agent_id, app_id}
use Rattle.spec_net.specs.Sides.{Side, new_side, appended}
use Rattle.spec_roles.specs.HardState.{HardState}
use Rattle.spec_roles.specs.Masters.{Master, out}
use Rattle.spec_roles.specs.MasterSteps.{ready, settled_if_serving, is_one_of, talks}
use Rattle.spec_roles.specs.MasterRoles.{MasterRole, publish_alone, offers_alone, side_after, ends_alone, master_started}
use Rattle.spec_roles.specs.Placing.{has_pair, line_up}
use Rattle.grant_table.specs.GrantTables.{as_known}
use Rattle.allotment.specs.PlacingReads.{record_of}
use Rattle.allotment.specs.Allotted.{AllotmentRecord, Allots}
use Rattle.place_pass.specs.Placers.{IsUpToDate}
use Rattle.ledger_updates.specs.Projections.{row_of, grant_entries}
use Rattle.ledger_updates.specs.AllShown.{Down, App, ShowsJob, credited_in}
use Rattle.fuxi_master.specs.Cores.{CoreRecord, IsKept, IsCore, IsDown, IsApp, IsWithin, StandsFor}
use Rattle.fuxi_master.specs.MasterStarts.{IsDownStarted, AreAppsStarted, AreAdmitted, side_started}
use Rattle.fuxi_master.proofs.AllotsAlike.{allots_alike}
use Rattle.fuxi_master.proofs.Readied.{lined_again, listed}
use Rattle.fuxi_master.proofs.StartedJobs.{all_records, same_numbers, no_jobs}
use Rattle.fuxi_master.proofs.StartedSides.{AreDownsStarted}
use Rattle.fuxi_master.proofs.ToldAsHeardLemmas.{told_first}

-- ---- no machine is reported, and there is one
pub some_machine : (c : ClusterRecord) → IsTrue (is_valid_cluster c) → 0 < length c.machines
some_machine c valid =
    let b = (both_true (is_between 1 most_resources c.resources) _ valid).1 in
    let n = (both_true (is_between 1 most_machines (length c.machines)) _ b).0 in
    let m = (both_true (not (nat_lt (length c.machines) 1)) (not (nat_lt most_machines (length c.machines))) n).0 in
    grind (arith, nat_tests, m)

last_missing : (xs : List ℕ) (n : ℕ) → list_all (λ m. has_number m []) (xs ++ n ∷ []) ≡ false
last_missing [] n = refl
last_missing (x ∷ xs) n = refl

none_reported : (n : ℕ) → 0 < n → list_all (λ m. has_number m []) (below n) ≡ false
none_reported zero lt = absurd (omega (arith, lt))
none_reported (suc n) lt = last_missing (below n) n

-- ---- nothing is asked
none_out : (w h : ℕ) → w ≡ 0 → nat_lt 0 (w - h) ≡ false
none_out w h e = let z : w - h ≡ 0 = omega (arith, e) in ap (nat_lt 0) z

-- ---- whom a start forces
agent_unforced : (ns : List ℕ) (m : ℕ) → is_one_of (agent_id m) (map app_id ns) ≡ false
agent_unforced [] m = refl
agent_unforced (n ∷ ns) m = agent_unforced ns m

app_forced : (ns : List ℕ) (a : ℕ) → is_one_of (app_id a) (map app_id ns) ≡ has_number a ns
app_forced [] a = refl
app_forced (n ∷ ns) a = λ i. eq_turned n a i || app_forced ns a i

-- an empty row is shown already
unchanged : (b : Bool) → cond b (appended false (row_ledger []) new_side) new_side ≡ new_side
unchanged true = refl
unchanged false = refl

-- ---- a master that starts with these jobs and bans
abbrev first_master : ℕ → List KnownJob → List ℕ → Master
first_master epoch jobs bans = record { epoch = epoch; jobs = jobs; bans = bans; serving = false; reported = []; table = []; demands = []; credited = []; line = [] }

abbrev first_role : ClusterRecord → ℕ → List KnownJob → List ℕ → MasterRole
first_role c epoch jobs bans = ends_alone c (λ q. new_side) (first_master epoch jobs bans) (map app_id (job_numbers jobs))

-- a core that knows no peer
abbrev pub first_core : ClusterRecord → ℕ → Knowledge → AllotmentRecord → List Down → List (Option App) → CoreRecord
first_core c epoch known y agents apps = record { epoch = epoch; known = known; serving = false; reported = record { size = length c.machines; numbers = [] }; allotment = y; agents = agents; apps = apps }

pub no_jobs_first : (c : ClusterRecord) (x : AllotmentRecord) → ((M : Master) → M.jobs ≡ [] → M.table ≡ [] → M.demands ≡ [] → M.line ≡ [] → M.reported ≡ [] → Allots x c M) → x.table.jobs ≡ []
no_jobs_first c x starts = no_jobs x.table.jobs (starts (first_master 0 [] []) refl refl refl refl refl).placing.numbers

module _ (law : (c : ClusterRecord) (sides : Id → Side) (M : Master) (even_if_equal : List Id) (q : Id) → publish_alone sides (offers_alone c sides M even_if_equal) q ≡ side_after c sides M even_if_equal q)
    (c : ClusterRecord) (valid : IsTrue (is_valid_cluster c)) (epoch : ℕ) (known : Knowledge) (numbers : ℕ) (below_numbers : (a : ℕ) → is_known known.jobs a ≡ true → a < numbers) (x y : AllotmentRecord)
    (starts : (M : Master) → M.jobs ≡ [] → M.table ≡ [] → M.demands ≡ [] → M.line ≡ [] → M.reported ≡ [] → Allots x c M) (admitted : AreAdmitted known.jobs numbers x y)
    (agents : List Down) (downs : AreDownsStarted epoch (length c.machines) agents) (apps : List (Option App)) (slots : AreAppsStarted epoch known.jobs numbers apps) where
  abbrev core : CoreRecord
  core = first_core c epoch known y agents apps

  abbrev N : Master
  N = first_master epoch known.jobs known.bans

  records : (a : ℕ) → record_of (as_known y.table.jobs) a ≡ record_of known.jobs a
  records = all_records known.jobs numbers x y below_numbers admitted

  allots : Allots y c N
  allots =
      let L : Master = first_master epoch [] known.bans in
      allots_alike y c (record L { jobs = as_known y.table.jobs }) N (admitted.stands c L (starts L refl refl refl refl refl) refl)
      (record { numbers = sym (same_numbers (as_known y.table.jobs) known.jobs records); jobs = λ a. sym (records a); table = refl; demands = λ _. refl; usable = λ _. refl; line = refl })

  up : IsUpToDate y.placer.seen y.table
  up a u =
      let none = none_out _ (held y.table.entries a u) (allots.placing.wants a u) in
      ap (has_pair (a, u)) allots.placing.line ∙ sym (ap (λ b. nat_lt u (unit_count (as_known y.table.jobs) a) && b) none ∙ and_false (nat_lt u (unit_count (as_known y.table.jobs) a)))

  no_line : (a u : ℕ) → has_pair (a, u) N.line ≡ (nat_lt u (unit_count N.jobs a) && nat_lt 0 (out N a u))
  no_line a u = sym (ap (λ b. nat_lt u (unit_count known.jobs a) && b) (none_out 0 (held [] a u) refl) ∙ and_false (nat_lt u (unit_count known.jobs a)))

  ready_same : ready c N ≡ N
  ready_same =
      ap {A = Bool} (λ b. settled_if_serving c (line_up (record N { serving = b }))) (none_reported (length c.machines) (some_machine c valid))
      ∙ ap (settled_if_serving c) (lined_again N no_line)

  abbrev even_if_equal : List Id
  even_if_equal = map app_id (job_numbers known.jobs)

  abbrev sides : Id → Side
  sides = publish_alone (λ q. new_side) (offers_alone c (λ q. new_side) (ready c N) even_if_equal)

  sides_are : (q : Id) → sides q ≡ side_after c (λ q. new_side) N even_if_equal q
  sides_are q = law c (λ q. new_side) (ready c N) even_if_equal q ∙ ap (λ M. side_after c (λ q. new_side) M even_if_equal q) ready_same

  agent_side : (m : ℕ) → sides (agent_id m) ≡ new_side
  agent_side m =
      sides_are (agent_id m)
      ∙ ap (λ b. cond (talks c N (agent_id m)) (appended b (row_ledger []) new_side) new_side) (agent_unforced (job_numbers known.jobs) m)
      ∙ unchanged (talks c N (agent_id m))

  app_side : (a : ℕ) → is_known known.jobs a ≡ true → sides (app_id a) ≡ side_started
  app_side a e =
      let named : is_one_of (app_id a) even_if_equal ≡ true = app_forced (job_numbers known.jobs) a ∙ listed known.jobs a ∙ e in
      sides_are (app_id a) ∙ (λ i. cond (e i) (appended (named i) (tally_ledger 0 []) new_side) new_side)

  stranger_side : (a : ℕ) → is_known known.jobs a ≡ false → sides (app_id a) ≡ new_side
  stranger_side a e = sides_are (app_id a) ∙ ap (λ b. cond b (appended (is_one_of (app_id a) even_if_equal) (tally_ledger 0 []) new_side) new_side) e

  stands_first : StandsFor core (record { cluster = c; state = N; sides = sides })
  stands_first = record {
    stands = record {
      cluster = allots.placing.cluster;
      epoch = refl;
      jobs = refl;
      bans = refl;
      serving = refl;
      reported = refl;
      allots = allots;
      tidy = λ s e. refl;
      agents = λ m d at. subst (IsDown d epoch) (sym (agent_side m)) (all_at (IsDownStarted epoch) agents m d downs.each at).stands;
      apps = λ a d at. subst (IsApp d epoch) (sym (app_side a (sym (slots.slots_are a (Some d) at)))) (slots.each a d at).stands;
      credited = λ a d at. sym (ap (λ (t : TallyRecord). credited_in t.entries) (slots.each a d at).present);
      unheard = stranger_side;
      uncredited = λ a e. refl;
    };
    ready = ready_same;
  }

  pub started_stands : StandsFor core (first_role c epoch known.jobs known.bans)
  started_stands = subst (λ (M : Master). StandsFor core (record { cluster = c; state = M; sides = sides })) (sym ready_same) stands_first

  pub started_alike : (h : HardState) → h.jobs ≡ known.jobs → h.bans ≡ known.bans → StandsFor core (master_started c h epoch)
  started_alike h jobs bans = subst (StandsFor core) (λ i. first_role c epoch (sym jobs i) (sym bans i)) started_stands

  module _ (positive : 0 < epoch) (touched : x.touched ≡ []) where
    machines_same : length y.table.cluster.machines ≡ length c.machines
    machines_same = ap (λ (k : ClusterRecord). length k.machines) allots.placing.cluster

    kept_first : IsKept core
    kept_first = record {
      epoch = positive;
      numbers = same_numbers (as_known y.table.jobs) known.jobs records;
      jobs = records;
      agents = downs.wide ∙ sym machines_same;
      apps = λ a e. let lt = below_numbers a e in let wide = slots.wide in omega (arith, lt, wide);
      slots = slots.slots_are;
      size = sym machines_same;
      rising = tt;
      below = tt;
      agents_own = all_more (IsDownStarted epoch) (λ (d : Down). d.outgoing.own ≡ epoch) (λ d h. h.own) agents downs.each;
      apps_own = λ a d e. (slots.each a d e).own;
    }

    rows_first : (m : ℕ) (d : Down) → slice_get agents m ≡ Some d → d.outgoing.present ≡ row_of (as_known y.table.jobs) m y.table.entries
    rows_first m d e = (all_at (IsDownStarted epoch) agents m d downs.each e).present ∙ sym (ap (row_of (as_known y.table.jobs) m) allots.placing.entries)

    grants_first : (a : ℕ) (d : App) → slice_get apps a ≡ Some (Some d) → ShowsJob a [] y.table.entries d.outgoing.present
    grants_first a d e = subst (ShowsJob a [] y.table.entries) (sym (slots.each a d e).present) (sym (ap (λ es. grant_entries a [] es []) allots.placing.entries))

    pub started_core : IsCore core
    started_core = record {
      near = record {
        kept = kept_first;
        waits = admitted.waits;
        up = up;
        touched = ap (λ (r : AllotmentRecord). r.touched) admitted.rest ∙ touched;
        rows = rows_first;
        grants = grants_first;
        role = first_role c epoch known.jobs known.bans;
        stands = started_stands;
      };
      boots = record {
        known = λ a d e _. ap (λ (t : TallyRecord). t.head) (slots.each a d e).present ∙ sym (slots.each a d e).place;
        unknown = λ a d e t. cc;
      };
      told = told_first c (first_master epoch known.jobs known.bans) (map app_id (job_numbers known.jobs)) positive refl;
    }

pub started_within : (c : ClusterRecord) (epoch : ℕ) (known : Knowledge) (numbers : ℕ) (x y : AllotmentRecord) → AreAdmitted known.jobs numbers x y → (agents : List Down) → AreDownsStarted epoch (length c.machines) agents
    → (apps : List (Option App)) → AreAppsStarted epoch known.jobs numbers apps → x.placer.seen.turns ≡ 0 → IsWithin 1 (first_core c epoch known y agents apps)
started_within c epoch known numbers x y admitted agents downs apps slots turns = record {
  agents = all_more (IsDownStarted epoch) (λ (d : Down). d.outgoing.last ≤ 1) (λ d h. let l = h.last in omega (arith, l)) agents downs.each;
  apps = λ a d e. let l = (slots.each a d e).last in omega (arith, l);
  turns = let t : y.placer.seen.turns ≡ 0 = admitted.turns ∙ turns in omega (arith, t);
}
