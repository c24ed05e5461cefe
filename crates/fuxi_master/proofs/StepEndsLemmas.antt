-- A step ends: the core is in order, and stands for the master that has ended it.
use Rattle.std.proofs.Common.{◌≡◌, ℕ, ◌+◌, ◌-◌, ◌<◌, ◌≤◌, ◌^◌, Bool, true, false, nat_lt, List, [], length, Option, Some, slice_get, refl, sym, ◌∙◌, ap, subst, arith}
use Rattle.std.specs.Prelude.{◌&&◌}
use Rattle.std.specs.List.{AllByRecursion}
use Rattle.std.proofs.lemmas.Bool.Decides.{nat_tests}
use Rattle.fuxi_terms.specs.Cluster.{ClusterRecord, has_machine}
use Rattle.fuxi_terms.specs.Keys.{Spot}
use Rattle.fuxi_terms.specs.Jobs.{unit_count, job_numbers}
use Rattle.fuxi_terms.specs.Numbers.{has_number}
use Rattle.fuxi_terms.specs.Tables.{held, Table}
use Rattle.fuxi_terms.specs.Limits.{most_steps}
use Rattle.fuxi_terms.proofs.Alls.{all_more}
use Rattle.grant_table.specs.GrantTables.{TableRecord, as_known}
use Rattle.spec_roles.specs.Masters.{Master, out}
use Rattle.spec_roles.specs.Placing.{has_pair, settled, first_placeable}
use Rattle.spec_roles.specs.Settling.{NothingPlaceable, Picks, IsFirst}
use Rattle.spec_roles.specs.MasterSteps.{ready}
use Rattle.spec_roles.specs.MasterRoles.{MasterRole, ends_alone}
use Rattle.place_pass.specs.Placers.{IsUpToDate}
use Rattle.allotment.specs.Allotted.{AllotmentRecord, Allots, AllWait}
use Rattle.allotment.specs.PlacingReads.{has_spot, record_of}
use Rattle.ledger_updates.specs.Projections.{row_of}
use Rattle.ledger_updates.specs.declared.grants.StepChanges.{StepChanges}
use Rattle.ledger_updates.specs.AllShown.{Down, App, IsBefore, credited_after}
use Rattle.fuxi_master.specs.Cores.{CoreRecord, IsKept, IsCore, IsWithin, IsWithinSoon, StandsWith, StandsFor}
use Rattle.fuxi_master.specs.StepEnds.{IsCoreReadied, IsPublished}
use Rattle.fuxi_master.specs.Steps.{IsMid, HasRole, StandsMid, forced_by}
use Rattle.fuxi_terms.proofs.NumbersLemmas.{among}
use Rattle.fuxi_master.proofs.Projected.{units_alike}
use Rattle.fuxi_master.proofs.Readied.{ready_again}
use Rattle.fuxi_master.proofs.ToldAsHeardLemmas.{told_ends}

module _ (x y : CoreRecord) (news : StepChanges) (readied : IsCoreReadied x y) where
  z_table : y.allotment.table ≡ record x.allotment.table { entries = y.allotment.table.entries }
  z_table = readied.allotment.table

  before_readied : (before : Table) → IsBefore x.allotment.table x.allotment.touched before → IsBefore y.allotment.table y.allotment.touched before
  before_readied before b = record {
    counts = b.counts;
    admitted = subst (λ (t : TableRecord). AllByRecursion (λ e. (e.0.unit < unit_count (as_known t.jobs) e.0.job) × (e.0.machine < length t.cluster.machines)) before) (sym z_table) b.admitted;
    others = λ s off. readied.allotment.spots.others s off ∙ b.others s (by s (has_spot s x.allotment.touched) refl off);
  }
    where
      by : (s : Spot) (t : Bool) → has_spot s x.allotment.touched ≡ t → has_spot s y.allotment.touched ≡ false → has_spot s x.allotment.touched ≡ false
      by s true e off = absurd (let f : true ≡ false = sym (readied.allotment.spots.kept s e) ∙ off in cc)
      by s false e off = e

  agents_same : y.agents ≡ x.agents
  agents_same = ap (λ (c : CoreRecord). c.agents) readied.rest

  apps_same : y.apps ≡ x.apps
  apps_same = ap (λ (c : CoreRecord). c.apps) readied.rest

  reported_same : y.reported ≡ x.reported
  reported_same = ap (λ (c : CoreRecord). c.reported) readied.rest

  with_rest : (P : CoreRecord → Type 0) → P (record x { serving = y.serving; allotment = y.allotment }) → P y
  with_rest P p = subst P (sym readied.rest) p

  pub mid_readied : IsMid x news → IsMid y news
  mid_readied mid = with_rest (λ c. IsMid c news) (record {
    kept = record {
      epoch = mid.kept.epoch;
      numbers = ap (λ (t : TableRecord). job_numbers (as_known t.jobs)) z_table ∙ mid.kept.numbers;
      jobs = λ a. ap (λ (t : TableRecord). record_of (as_known t.jobs) a) z_table ∙ mid.kept.jobs a;
      agents = mid.kept.agents ∙ sym (ap (λ (t : TableRecord). length t.cluster.machines) z_table);
      apps = mid.kept.apps;
      slots = mid.kept.slots;
      size = mid.kept.size ∙ sym (ap (λ (t : TableRecord). length t.cluster.machines) z_table);
      rising = mid.kept.rising;
      below = subst (λ (t : TableRecord). AllByRecursion (λ m. m < length t.cluster.machines) x.reported.numbers) (sym z_table) mid.kept.below;
      agents_own = mid.kept.agents_own;
      apps_own = mid.kept.apps_own;
    };
    rows = record {
      before = mid.rows.before;
      is = before_readied mid.rows.before mid.rows.is;
      rows = λ m d e. mid.rows.rows m d e ∙ ap (λ (t : TableRecord). row_of (as_known t.jobs) m mid.rows.before) (sym z_table);
    };
    grants = record {
      before = mid.grants.before;
      is = before_readied mid.grants.before mid.grants.is;
      reported = mid.grants.reported;
      is_now = mid.grants.is_now;
      rising = mid.grants.rising;
      below = mid.grants.below;
      each = mid.grants.each;
      new = mid.grants.new;
      machines = mid.grants.machines;
      nothing = mid.grants.nothing;
      boots = mid.grants.boots;
    };
    numbers = mid.numbers;
    kinds = mid.kinds;
    rising = mid.rising;
    below = mid.below;
  })

  -- no index is beyond what can be posted
  pub agents_room : (n : ℕ) → IsWithinSoon n x → n ≤ most_steps → AllByRecursion (λ (d : Down). d.outgoing.last < 2 ^ 62) y.agents
  agents_room n w few = all_more (λ (d : Down). d.outgoing.last ≤ n) (λ (d : Down). d.outgoing.last < 2 ^ 62) (λ d le. omega (arith, le, few)) y.agents (subst (AllByRecursion (λ (d : Down). d.outgoing.last ≤ n)) (sym agents_same) w.agents)

  pub apps_room : (n : ℕ) → IsWithinSoon n x → n ≤ most_steps → (a : ℕ) (d : App) → slice_get y.apps a ≡ Some (Some d) → d.outgoing.last < 2 ^ 62
  apps_room n w few a d e = let le = w.apps a d (subst (λ (os : List (Option App)). slice_get os a ≡ Some (Some d)) apps_same e) in omega (arith, le, few)

-- reported machines are the cluster's
pub machines_there : (x : CoreRecord) → IsKept x → (credits : ℕ → App → List _) (r : MasterRole) → StandsWith credits x r → (m : ℕ) → has_number m r.state.reported ≡ true → has_machine r.cluster m ≡ true
machines_there x kept credits r h m e =
    let lt = among (λ k. k < length x.allotment.table.cluster.machines) m x.reported.numbers kept.below (ap (has_number m) (sym h.reported) ∙ e) in
    let n : length x.allotment.table.cluster.machines ≡ length r.cluster.machines = ap (λ (k : ClusterRecord). length k.machines) h.cluster in
    grind (arith, nat_tests, lt, n)

-- the line of a placer that is up to date is that of the master
pub lined_as : (z : AllotmentRecord) (c : ClusterRecord) (M : Master) → IsUpToDate z.placer.seen z.table → Allots z c M → (a u : ℕ) → has_pair (a, u) M.line ≡ (nat_lt u (unit_count M.jobs a) && nat_lt 0 (out M a u))
lined_as z c M up h a u =
    ap (has_pair (a, u)) (sym h.placing.line) ∙ up a u
    ∙ (λ i. nat_lt u (length (units_alike (as_known z.table.jobs) M.jobs h.placing.jobs a i)) && nat_lt 0 (h.placing.wants a u i - held (h.placing.entries i) a u))

module _ (first : (c : ClusterRecord) (M : Master) (s : Spot) → first_placeable c M ≡ Some s → IsFirst c M s)
    (ends : (c : ClusterRecord) (M : Master) → NothingPlaceable c (settled c M))
    (runs : (c : ClusterRecord) (picks : List Spot) (M N : Master) → Picks c M picks N → N ≡ settled c M)
    (x y v : CoreRecord) (news : StepChanges) (mid : IsMid x news) (readied : IsCoreReadied x y) (shown : IsPublished news y v) where
  pub ended_stands : (r : MasterRole) → StandsMid news x r → StandsFor v (ends_alone r.cluster r.sides r.state (forced_by news))
  ended_stands r h =
      let c = r.cluster in
      let M = r.state in
      let s1 = readied.stands (credited_after news) r h in
      record {
        stands = shown.stands (record { cluster = c; state = ready c M; sides = r.sides }) s1;
        ready = ready_again first ends runs c M (machines_there x mid.kept (credited_after news) r h) (lined_as y.allotment c (ready c M) readied.allotment.up s1.allots);
      }

  allotment_is : v.allotment ≡ record y.allotment { touched = [] }
  allotment_is = ap (λ (c : CoreRecord). c.allotment) shown.rest

  pub ended_core : HasRole news x → IsCore v
  ended_core has = record {
    near = record {
      kept = shown.kept;
      waits = subst AllWait (sym allotment_is) (record { each = readied.allotment.waits.each });
      up = subst (λ (a : AllotmentRecord). IsUpToDate a.placer.seen a.table) (sym allotment_is) readied.allotment.up;
      touched = ap (λ (a : AllotmentRecord). a.touched) allotment_is;
      rows = shown.rows;
      grants = shown.grants;
      role = ends_alone has.role.cluster has.role.sides has.role.state (forced_by news);
      stands = ended_stands has.role has.stands;
    };
    boots = record { known = λ a d e _. shown.boots a d e; unknown = λ a d e t. cc };
    told = told_ends (λ _. false) has.role (forced_by news) has.told;
  }

  pub ended_within : (n : ℕ) → IsWithinSoon n x → IsWithin (n + 1) v
  ended_within n w = record {
    agents = shown.agents n (subst (AllByRecursion (λ (d : Down). d.outgoing.last ≤ n)) (sym (agents_same x y news readied)) w.agents);
    apps = shown.apps n (λ a d e. w.apps a d (subst (λ (os : List (Option App)). slice_get os a ≡ Some (Some d)) (apps_same x y news readied) e));
    turns =
        let t = w.turns in
        let r = readied.allotment.turns in
        let s : v.allotment.placer.seen.turns ≡ y.allotment.placer.seen.turns = ap (λ (a : AllotmentRecord). a.placer.seen.turns) allotment_is in
        omega (arith, t, r, s);
  }
