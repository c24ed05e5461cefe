-- A job is admitted: its application is shown nothing yet.
use Rattle.std.proofs.Common.{◌≡◌, ℕ, zero, suc, ◌+◌, ◌-◌, ◌<◌, ◌≤◌, Bool, true, false, cond, nat_eq, T, List, [], ◌∷◌, ◌++◌, length, map, set, Option, Some, None, slice_get, refl, sym, ◌∙◌, ap, subst, arith}
use Rattle.std.specs.Prelude.{is_some, replicate}
use Rattle.std.specs.List.{AllByRecursion}
use Rattle.std.specs.Option.{option_map}
use Rattle.std.specs.Ordering.{nat_cmp}
use Rattle.std.specs.FinMap.Entries.{is_sorted}
use Rattle.std.proofs.lemmas.List.{append_assoc, length-append, length-replicate, replicate-append-replicate}
use Rattle.fuxi_terms.specs.Cluster.{ClusterRecord, JobRecord, UnitRecord}
use Rattle.fuxi_terms.specs.Counts.{count}
use Rattle.fuxi_terms.specs.Jobs.{KnownJob, is_known, job_numbers, units_of, unit_count}
use Rattle.fuxi_terms.specs.Keys.{Spot, spot_cmp, key_cmp}
use Rattle.fuxi_terms.specs.Limits.{most_machines}
use Rattle.fuxi_terms.specs.Tallies.{empty_tally}
use Rattle.fuxi_terms.specs.TallyKeys.{greatest_grant, credited_what}
use Rattle.fuxi_terms.proofs.Alls.{all_more, all_map}
use Rattle.fuxi_terms.proofs.Booleans.{number_is, nat_itself}
use Rattle.schedule_unit.specs.declared.party.MachineNo.{MachineNo}
use Rattle.full_sync.specs.Turns.{new_endpoint}
use Rattle.spec_net.specs.Channels.{app_id}
use Rattle.spec_net.specs.Sides.{new_side}
use Rattle.spec_roles.specs.HardState.{with_job}
use Rattle.spec_roles.specs.Masters.{Master, credited_of}
use Rattle.spec_roles.specs.MasterRoles.{MasterRole}
use Rattle.spec_roles.specs.MasterSteps.{count_entries}
use Rattle.grant_table.specs.GrantTables.{TableRecord, as_known, with_admitted, IsSound}
use Rattle.allotment.specs.PlacingReads.{record_of}
use Rattle.allotment.specs.Allotted.{AllotmentRecord, Allots}
use Rattle.ledger_updates.specs.Projections.{row_of}
use Rattle.fuxi_terms.specs.NumbersSet.{numbers_set, AreNumbers}
use Rattle.ledger_updates.specs.declared.grants.StepChanges.{StepChanges}
use Rattle.ledger_updates.specs.AllShown.{App, IsBefore, ShowsJob, with_reported, is_job, credited_after}
use Rattle.fuxi_master.specs.Cores.{CoreRecord, IsKept, IsCore, IsApp, StandsFor, IsWithin, IsWithinSoon}
use Rattle.fuxi_master.specs.Commands.{changed_by, admitting, with_slots}
use Rattle.fuxi_master.specs.Heard.{Changes}
use Rattle.fuxi_master.specs.Steps.{IsMid, StandsMid}
use Rattle.fuxi_master.proofs.Indexed.{each_set, length_set}
use Rattle.fuxi_master.proofs.KnownJobs.{behind_known, behind_other, behind_there, unknown_before, known_units, rows_more, no_counts}
use Rattle.fuxi_master.proofs.NotYetShown.{credited_same, machines_few}
use Rattle.fuxi_master.proofs.Projected.{known_alike, units_at}

-- news of a job that is admitted: the machines that are reported, and nothing credited
pub record IsAdmission (a : ℕ) (reported : List ℕ) (news : StepChanges) : Type 0 where
  pub reported_is : news.reported ≡ None
  pub admitted_is : news.admitted ≡ Some (record { 0 = a })
  pub job_is : news.job ≡ None
  pub credited_is : news.credited.items ≡ []
  pub machines_are : map (λ (m : MachineNo). m.0) news.machines.items ≡ reported

paired : (ms : List MachineNo) → map {B = ℕ × ℕ} (λ (m : MachineNo). (m.0, 0)) ms ≡ map {B = ℕ × ℕ} (λ (k : ℕ). (k, 0)) (map (λ (m : MachineNo). m.0) ms)
paired [] = refl
paired (m ∷ ms) = ap (λ es. (m.0, 0) ∷ es) (paired ms)

-- slots up to a number
pub slots_wide : (n : ℕ) (slots : List (Option App)) → n ≤ length (with_slots n slots)
slots_wide n slots =
    let a = length-append slots (replicate (n - length slots) None) in
    let r = length-replicate {A = Option App} (n - length slots) None in
    omega (arith, a, r)

slots_more : (n : ℕ) (slots : List (Option App)) → length slots ≤ length (with_slots n slots)
slots_more n slots = let a = length-append slots (replicate (n - length slots) None) in omega (arith, a)

-- an empty one more
pub one_slot : (slots now after : List (Option App)) (n : ℕ) → now ≡ slots ++ replicate n None → after ≡ now ++ None ∷ [] → after ≡ slots ++ replicate (n + 1) None
one_slot slots now after n so_far new =
    new ∙ ap (λ os. os ++ None ∷ []) so_far ∙ append_assoc slots (replicate n None) (replicate 1 None) ∙ ap (λ os. slots ++ os) (replicate-append-replicate {A = Option App} n 1 None)

-- what holds of each slot that was there, and of an empty one beyond
each_slot : (Q : ℕ → Option App → Type 0) (slots : List (Option App)) (more : ℕ) → ((a : ℕ) (o : Option App) → slice_get slots a ≡ Some o → Q a o) → ((a : ℕ) → length slots ≤ a → Q a None)
    → (a : ℕ) (o : Option App) → slice_get (slots ++ replicate more None) a ≡ Some o → Q a o
each_slot Q [] zero old new a o e = cc
each_slot Q [] (suc more) old new zero o e = let same : None ≡ o = cc in subst (Q 0) same (new 0 (omega arith))
each_slot Q [] (suc more) old new (suc a) o e = each_slot (λ k. Q (suc k)) [] more (λ k p f. cc) (λ k le. new (suc k) (omega arith)) a o e
each_slot Q (p ∷ slots) more old new zero o e = old 0 o e
each_slot Q (p ∷ slots) more old new (suc a) o e = each_slot (λ k. Q (suc k)) slots more (λ k p f. old (suc k) p f) (λ k le. new (suc k) (omega (arith, le))) a o e

-- with this allotment, and with this end of the channel with a new application
abbrev pub admitted_at : CoreRecord → ℕ → AllotmentRecord → App → CoreRecord
admitted_at x a z d = record x { allotment = z; apps = set (with_slots (a + 1) x.apps) a (Some d) }

module _ (x : CoreRecord) (core : IsCore x) (sound : IsSound x.allotment.table) (j : JobRecord) (unknown : is_known x.known.jobs j.number ≡ false) (z : AllotmentRecord)
    (stands : (c : ClusterRecord) (M : Master) → Allots x.allotment c M → Allots z c (record M { jobs = with_job j M.jobs })) (table : z.table ≡ record x.allotment.table { jobs = with_admitted j x.allotment.table.jobs })
    (touched : z.touched ≡ x.allotment.touched) (turns : z.placer.seen.turns ≡ x.allotment.placer.seen.turns) (d : App) (d_is : d ≡ new_endpoint empty_tally empty_tally x.epoch) (side : IsApp d x.epoch new_side) where
  abbrev kept : IsKept x
  kept = core.near.kept

  abbrev old_jobs : List KnownJob
  old_jobs = as_known x.allotment.table.jobs

  abbrev new_jobs : List KnownJob
  new_jobs = as_known z.table.jobs

  abbrev wider : List (Option App)
  wider = with_slots (j.number + 1) x.apps

  abbrev slots : List (Option App)
  slots = set wider j.number (Some d)

  abbrev pub admitted_core : CoreRecord
  admitted_core = record x { known = record x.known { jobs = with_job j x.known.jobs }; allotment = z; apps = slots }

  -- the jobs of the table are those that are known
  numbers_same : job_numbers new_jobs ≡ job_numbers (with_job j x.known.jobs)
  numbers_same = (stands core.near.role.cluster core.near.role.state core.near.stands.stands.allots).placing.numbers ∙ ap (λ js. job_numbers (with_job j js)) core.near.stands.stands.jobs

  records_same : (a : ℕ) → record_of new_jobs a ≡ record_of (with_job j x.known.jobs) a
  records_same a = (stands core.near.role.cluster core.near.role.state core.near.stands.stands.allots).placing.jobs a ∙ ap (λ js. record_of (with_job j js) a) core.near.stands.stands.jobs

  was_known : (a u : ℕ) → u < unit_count old_jobs a → is_known x.known.jobs a ≡ true
  was_known a u lt = sym (known_alike old_jobs x.known.jobs a (kept.jobs a)) ∙ known_units old_jobs a u lt

  units_kept : (a u : ℕ) → u < unit_count old_jobs a → units_of new_jobs a ≡ units_of old_jobs a
  units_kept a u lt = units_at new_jobs old_jobs a (records_same a ∙ ap (option_map (λ (k : KnownJob). k.job)) (behind_known j x.known.jobs a (was_known a u lt)) ∙ sym (kept.jobs a))

  machines_same : length z.table.cluster.machines ≡ length x.allotment.table.cluster.machines
  machines_same = ap (λ (t : TableRecord). length t.cluster.machines) table

  -- its grants are those from before
  abbrev Admitted : List KnownJob → ℕ → Spot × ℕ → Type 0
  Admitted jobs machines e = (e.0.unit < unit_count jobs e.0.job) × (e.0.machine < machines)

  admitted_still : AllByRecursion (Admitted new_jobs (length z.table.cluster.machines)) x.allotment.table.entries
  admitted_still = all_more (Admitted old_jobs (length x.allotment.table.cluster.machines)) (Admitted new_jobs (length z.table.cluster.machines))
      (λ e h.
      let unit = h.0 in
      let machine = h.1 in
      let m = machines_same in
      let n : unit_count new_jobs e.0.job ≡ unit_count old_jobs e.0.job = ap (λ (us : List UnitRecord). length us) (units_kept e.0.job e.0.unit h.0) in
      (omega (arith, unit, n), omega (arith, machine, m)))
      x.allotment.table.entries sound.admitted

  before : IsBefore z.table z.touched x.allotment.table.entries
  before = record { counts = sound.counts; admitted = admitted_still; others = λ s off. ap (λ (t : TableRecord). count spot_cmp t.entries s) table }

  rows_same : (m : ℕ) → row_of old_jobs m x.allotment.table.entries ≡ row_of new_jobs m x.allotment.table.entries
  rows_same m = rows_more old_jobs new_jobs m x.allotment.table.entries
      (all_more (Admitted old_jobs (length x.allotment.table.cluster.machines)) (λ (e : Spot × ℕ). units_of old_jobs e.0.job ≡ units_of new_jobs e.0.job) (λ e h. sym (units_kept e.0.job e.0.unit h.0)) x.allotment.table.entries sound.admitted)

  no_grants : count_entries j.number x.allotment.table.entries ≡ []
  no_grants = no_counts j.number x.allotment.table.entries
      (all_more (Admitted old_jobs (length x.allotment.table.cluster.machines)) (λ (e : Spot × ℕ). nat_eq e.0.job j.number ≡ false)
      (λ e h. other e.0.job e.0.unit h.0 (nat_eq e.0.job j.number) refl) x.allotment.table.entries sound.admitted)
    where
      other : (a u : ℕ) → u < unit_count old_jobs a → (t : Bool) → nat_eq a j.number ≡ t → t ≡ false
      other a u lt true e = absurd (let f : true ≡ false = sym (was_known a u lt) ∙ ap (is_known x.known.jobs) (number_is a j.number e) ∙ unknown in cc)
      other a u lt false e = refl

  -- the slots of the others are as before
  here : j.number < length wider
  here = let l = slots_wide (j.number + 1) x.apps in omega (arith, l)

  pub each_app : (Q : ℕ → App → Type 0) → Q j.number d → ((a : ℕ) (e : App) → nat_eq j.number a ≡ false → slice_get x.apps a ≡ Some (Some e) → Q a e) → (a : ℕ) (e : App) → slice_get slots a ≡ Some (Some e) → Q a e
  each_app Q new others a e at = each_set {A = Option App} (λ k o. (e : App) → o ≡ Some e → Q k e) wider j.number (Some d) here
      (λ e q. let same : d ≡ e = cc in subst (Q j.number) same new)
      (λ k o off there e q. was k o there e off q) a (Some e) at e refl
    where
      was : (k : ℕ) (o : Option App) → slice_get wider k ≡ Some o → (e : App) → nat_eq j.number k ≡ false → o ≡ Some e → Q k e
      was = each_slot (λ k o. (e : App) → nat_eq j.number k ≡ false → o ≡ Some e → Q k e) x.apps (j.number + 1 - length x.apps)
          (λ k o there e off q. others k e off (there ∙ ap (λ (p : Option App). Some p) q)) (λ k le e off q. cc)

  -- there is no known job beyond the slots
  beyond : (a : ℕ) → length x.apps ≤ a → false ≡ is_known x.known.jobs a
  beyond a le = by (is_known x.known.jobs a) refl
    where
      by : (b : Bool) → is_known x.known.jobs a ≡ b → false ≡ b
      by true e = absurd (let lt = kept.apps a e in omega (arith, lt, le))
      by false e = refl

  slots_there : (a : ℕ) → is_known (with_job j x.known.jobs) a ≡ true → a < length slots
  slots_there a e = by (nat_eq j.number a) refl
    where
      wide : length slots ≡ length wider
      wide = length_set wider j.number (Some d)

      by : (b : Bool) → nat_eq j.number a ≡ b → a < length slots
      by true t = let same = number_is j.number a t in omega (arith, here, wide, same)
      by false off =
          let lt = kept.apps a (sym (ap is_some (behind_other j x.known.jobs a off)) ∙ e) in
          let more = slots_more (j.number + 1) x.apps in
          omega (arith, lt, more, wide)

  admitted_kept : IsKept admitted_core
  admitted_kept = record {
    epoch = kept.epoch;
    numbers = numbers_same;
    jobs = records_same;
    agents = kept.agents ∙ sym machines_same;
    apps = slots_there;
    slots = each_set {A = Option App} (λ a o. is_some o ≡ is_known (with_job j x.known.jobs) a) wider j.number (Some d) here (sym (behind_there j x.known.jobs))
        (λ a o off at. each_slot (λ k p. is_some p ≡ is_known x.known.jobs k) x.apps (j.number + 1 - length x.apps) kept.slots beyond a o at ∙ sym (ap is_some (behind_other j x.known.jobs a off)));
    size = kept.size ∙ sym machines_same;
    rising = kept.rising;
    below = subst (λ n. AllByRecursion (λ m. m < n) x.reported.numbers) (sym machines_same) kept.below;
    agents_own = kept.agents_own;
    apps_own = each_app (λ a e. e.outgoing.own ≡ x.epoch) (ap (λ (e : App). e.outgoing.own) d_is) (λ a e off at. kept.apps_own a e at);
  }

  few : AllByRecursion (λ m. m < most_machines) x.reported.numbers
  few = let n = machines_few x.allotment.table sound in all_more (λ m. m < length x.allotment.table.cluster.machines) (λ m. m < most_machines) (λ m lt. omega (arith, lt, n)) x.reported.numbers kept.below

  module _ (news : StepChanges) (is : IsAdmission j.number x.reported.numbers news) where
    named : (a : ℕ) → is_job news.admitted a ≡ nat_eq j.number a
    named a = ap (λ o. is_job o a) is.admitted_is

    none : (a : ℕ) → cond (is_job news.job a) news.credited.items [] ≡ []
    none a = ap (λ o. cond (is_job o a) news.credited.items []) is.job_is

    admitted_mid : IsMid admitted_core news
    admitted_mid = record {
      kept = admitted_kept;
      rows = record { before = x.allotment.table.entries; is = before; rows = λ m e at. core.near.rows m e at ∙ rows_same m };
      grants = record {
        before = x.allotment.table.entries;
        is = before;
        reported = x.reported.numbers;
        is_now = ap (λ o. with_reported o x.reported.numbers) (sym is.reported_is);
        rising = kept.rising;
        below = few;
        each = each_app (λ a e. is_job news.admitted a ≡ false → ShowsJob a x.reported.numbers x.allotment.table.entries e.outgoing.present)
            (λ f. absurd (let t : true ≡ false = sym (nat_itself j.number) ∙ sym (named j.number) ∙ f in cc)) (λ a e off at _. core.near.grants a e at);
        new = each_app (λ a e. is_job news.admitted a ≡ true → e.outgoing.present.entries ≡ [])
            (λ _. ap (λ (e : App). e.outgoing.present.entries) d_is) (λ a e off at t. absurd (let f : true ≡ false = sym t ∙ named a ∙ off in cc));
        machines = λ a t. is.machines_are;
        nothing = λ a t. subst (λ b. count_entries b x.allotment.table.entries ≡ []) (number_is j.number a (sym (named a) ∙ t)) no_grants;
        boots = each_app (λ a e. is_job news.admitted a ≡ false → is_job news.job a ≡ false → e.outgoing.present.head ≡ e.incoming.place.inc)
            (λ f _. absurd (let t : true ≡ false = sym (nat_itself j.number) ∙ sym (named j.number) ∙ f in cc)) (λ a e off at _ _. core.boots.known a e at refl);
      };
      numbers = subst (AreNumbers key_cmp greatest_grant) (sym is.credited_is) (record { sorted = tt; within = tt });
      kinds = subst (AllByRecursion (λ e. nat_eq e.0.what credited_what ≡ true)) (sym is.credited_is) tt;
      rising = subst (λ (es : List (ℕ × ℕ)). T (is_sorted {X = ℕ} nat_cmp es)) (sym (paired news.machines.items ∙ ap (map {B = ℕ × ℕ} (λ (k : ℕ). (k, 0))) is.machines_are)) kept.rising;
      below = all_map (λ k. k < most_machines) (λ (m : MachineNo). m.0) news.machines.items (subst (AllByRecursion (λ k. k < most_machines)) (sym is.machines_are) few);
    }

    admitted_stands : (r : MasterRole) → StandsFor x r → StandsMid news admitted_core (changed_by (admitting j) r)
    admitted_stands r h = record {
      cluster = ap (λ (t : TableRecord). t.cluster) table ∙ h.stands.cluster;
      epoch = h.stands.epoch;
      jobs = ap (with_job j) h.stands.jobs;
      bans = h.stands.bans;
      serving = h.stands.serving;
      reported = h.stands.reported;
      allots = stands r.cluster r.state h.stands.allots;
      tidy = h.stands.tidy;
      agents = h.stands.agents;
      apps = each_app (λ a e. IsApp e x.epoch (r.sides (app_id a))) (subst (IsApp d x.epoch) (sym (h.stands.unheard j.number unknown)) side) (λ a e off at. h.stands.apps a e at);
      credited = each_app (λ a e. credited_of r.state a ≡ credited_after news a e)
          (h.stands.uncredited j.number unknown ∙ sym (ap (credited_after news j.number) d_is ∙ ap (λ ns. numbers_set key_cmp [] ns) (none j.number)))
          (λ a e off at. h.stands.credited a e at ∙ sym (credited_same news a e (core.boots.known a e at refl) (none a)));
      unheard = λ a e. h.stands.unheard a (unknown_before j x.known.jobs a e);
      uncredited = λ a e. h.stands.uncredited a (unknown_before j x.known.jobs a e);
    }

    admitted_within : (n : ℕ) → IsWithin n x → IsWithinSoon n admitted_core
    admitted_within n w = record {
      agents = w.agents;
      apps = each_app (λ a e. e.outgoing.last ≤ n) (let l : d.outgoing.last ≡ 0 = ap (λ (e : App). e.outgoing.last) d_is in omega (arith, l)) (λ a e off at. w.apps a e at);
      turns = let t = w.turns in omega (arith, t, turns);
    }

    pub job_admitted : Changes news (changed_by (admitting j)) x admitted_core
    job_admitted = record { mid = admitted_mid; stands = admitted_stands; within = admitted_within }
