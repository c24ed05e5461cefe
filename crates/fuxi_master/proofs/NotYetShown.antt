-- A step changes the table, what is known, the phase or the machines that are reported, and no peer is shown it yet.
use Rattle.std.proofs.Common.{◌≡◌, ℕ, ◌+◌, ◌<◌, ◌≤◌, Bool, true, false, cond, not, nat_eq, nat_lt, T, List, [], length, map, Some, None, slice_get, refl, sym, ◌∙◌, ap, subst, arith}
use Rattle.std.specs.List.{AllByRecursion}
use Rattle.std.specs.Ordering.{nat_cmp}
use Rattle.std.specs.FinMap.Entries.{is_sorted}
use Rattle.std.proofs.lemmas.Bool.Decides.{nat_tests}
use Rattle.fuxi_terms.specs.Jobs.{KnownJob, is_known, job_numbers, unit_count}
use Rattle.fuxi_terms.specs.Keys.{key_cmp}
use Rattle.fuxi_terms.specs.Limits.{most_machines, most_resources}
use Rattle.fuxi_terms.specs.Cluster.{is_between}
use Rattle.fuxi_terms.proofs.Booleans.{both_true}
use Rattle.fuxi_terms.specs.TallyKeys.{greatest_grant, credited_what}
use Rattle.fuxi_terms.proofs.Alls.{all_more}
use Rattle.schedule_unit.specs.declared.party.MachineNo.{MachineNo}
use Rattle.grant_table.specs.GrantTables.{TableRecord, as_known, IsSound}
use Rattle.hard_state.specs.Knowledge.{Knowledge}
use Rattle.failover.specs.Reported.{Reported}
use Rattle.allotment.specs.PlacingReads.{record_of}
use Rattle.allotment.specs.SettlingRuns.{AreTouched}
use Rattle.allotment.specs.Allotted.{AllotmentRecord}
use Rattle.ledger_updates.specs.Projections.{row_of}
use Rattle.fuxi_terms.specs.NumbersSet.{numbers_set, AreNumbers}
use Rattle.ledger_updates.specs.declared.grants.StepChanges.{StepChanges}
use Rattle.ledger_updates.specs.AllShown.{Down, App, IsBefore, is_job, with_reported, credited_in, credited_after}
use Rattle.fuxi_master.specs.Cores.{CoreRecord, HasBoots, IsKept, IsNear, IsWithin, IsWithinSoon, shown_credited}
use Rattle.fuxi_master.specs.Steps.{IsMid}

-- a cluster has at most 256 machines
pub machines_few : (t : TableRecord) → IsSound t → length t.cluster.machines ≤ most_machines
machines_few t s =
    let b = (both_true (is_between 1 most_resources t.cluster.resources) _ s.valid).1 in
    let n = (both_true (is_between 1 most_machines (length t.cluster.machines)) _ b).0 in
    let m = (both_true (not (nat_lt (length t.cluster.machines) 1)) (not (nat_lt most_machines (length t.cluster.machines))) n).1 in
    grind (arith, nat_tests, m)

-- the job that is admitted is none
pub none_admitted : (news : StepChanges) (a : ℕ) → news.admitted ≡ None → is_job news.admitted a ≡ false
none_admitted news a e = ap (λ o. is_job o a) e

-- jobs that are known alike: of the same numbers, with the same records
pub record KnowsAlike (j k : List KnownJob) : Type 0 where
  pub numbers : job_numbers k ≡ job_numbers j
  pub records : (a : ℕ) → record_of k a ≡ record_of j a
  pub known : (a : ℕ) → is_known k a ≡ is_known j a

pub same_jobs : (j : List KnownJob) → KnowsAlike j j
same_jobs j = record { numbers = refl; records = λ a. refl; known = λ a. refl }

-- what is credited by the news is in order
pub record AreCredits (news : StepChanges) : Type 0 where
  pub numbers : AreNumbers key_cmp greatest_grant news.credited.items
  pub kinds : AllByRecursion (λ e. nat_eq e.0.what credited_what ≡ true) news.credited.items
  pub admitted : news.admitted ≡ None
  pub machines : news.machines.items ≡ []

module _ (x : CoreRecord) (near : IsNear x) (sound : IsSound x.allotment.table) (z : AllotmentRecord) (spots : AreTouched x.allotment.table.entries z.table.entries x.allotment.touched z.touched) (table : z.table ≡ record x.allotment.table { entries = z.table.entries }) where
  before : IsBefore z.table z.touched x.allotment.table.entries
  before = record {
    counts = sound.counts;
    admitted = subst (λ (t : TableRecord). AllByRecursion (λ e. (e.0.unit < unit_count (as_known t.jobs) e.0.job) × (e.0.machine < length t.cluster.machines)) x.allotment.table.entries) (sym table) sound.admitted;
    others = λ s off. spots.others s off;
  }

  module _ (known : Knowledge) (serving : Bool) (reported : Reported) (news : StepChanges) {new : ℕ → Bool} (boots : HasBoots new x) (old : (a : ℕ) → is_job news.job a ≡ false → new a ≡ false) (jobs : KnowsAlike x.known.jobs known.jobs) (credits : AreCredits news)
      (now : reported.numbers ≡ with_reported news.reported x.reported.numbers) (size : reported.size ≡ x.reported.size)
      (rising : T (is_sorted {X = ℕ} nat_cmp (map (λ (m : ℕ). (m, 0)) reported.numbers))) (below : AllByRecursion (λ m. m < length x.allotment.table.cluster.machines) reported.numbers) where
    abbrev moved : CoreRecord
    moved = record x { known = known; serving = serving; reported = reported; allotment = z }

    moved_kept : IsKept moved
    moved_kept = record {
      epoch = near.kept.epoch;
      numbers = ap (λ t. job_numbers (as_known t.jobs)) table ∙ near.kept.numbers ∙ sym jobs.numbers;
      jobs = λ a. ap (λ t. record_of (as_known t.jobs) a) table ∙ near.kept.jobs a ∙ sym (jobs.records a);
      agents = near.kept.agents ∙ sym (ap (λ t. length t.cluster.machines) table);
      apps = λ a e. near.kept.apps a (sym (jobs.known a) ∙ e);
      slots = λ a o e. near.kept.slots a o e ∙ sym (jobs.known a);
      size = size ∙ near.kept.size ∙ sym (ap (λ t. length t.cluster.machines) table);
      rising = rising;
      below = subst (λ (t : TableRecord). AllByRecursion (λ m. m < length t.cluster.machines) reported.numbers) (sym table) below;
      agents_own = near.kept.agents_own;
      apps_own = near.kept.apps_own;
    }

    few_machines : length x.allotment.table.cluster.machines ≤ most_machines
    few_machines = machines_few x.allotment.table sound

    pub mid_by : IsMid moved news
    mid_by = record {
      kept = moved_kept;
      rows = record {
        before = x.allotment.table.entries;
        is = before;
        rows = λ m d e. near.rows m d e ∙ ap (λ (t : TableRecord). row_of (as_known t.jobs) m x.allotment.table.entries) (sym table);
      };
      grants = record {
        before = x.allotment.table.entries;
        is = before;
        reported = x.reported.numbers;
        is_now = now;
        rising = rising;
        below = all_more (λ m. m < length x.allotment.table.cluster.machines) (λ m. m < most_machines) (λ m lt. let le = few_machines in omega (arith, lt, le)) reported.numbers below;
        each = λ a d e _. near.grants a d e;
        new = λ a d e is. absurd (let f : true ≡ false = sym is ∙ none_admitted news a credits.admitted in cc);
        machines = λ a is. absurd (let f : true ≡ false = sym is ∙ none_admitted news a credits.admitted in cc);
        nothing = λ a is. absurd (let f : true ≡ false = sym is ∙ none_admitted news a credits.admitted in cc);
        boots = λ a d e _ off. boots.known a d e (old a off);
      };
      numbers = credits.numbers;
      kinds = credits.kinds;
      rising = subst (λ (ms : List MachineNo). T (is_sorted {X = ℕ} nat_cmp (map (λ (m : MachineNo). (m.0, 0)) ms))) (sym credits.machines) tt;
      below = subst (λ (ms : List MachineNo). AllByRecursion (λ (m : MachineNo). m.0 < most_machines) ms) (sym credits.machines) tt;
    }

-- what is credited is what was shown, where the boot is the same and nothing new is credited
pub credited_same : (news : StepChanges) (a : ℕ) (d : App) → d.outgoing.present.head ≡ d.incoming.place.inc → cond (is_job news.job a) news.credited.items [] ≡ [] → credited_after news a d ≡ shown_credited a d
credited_same news a d boot none =
    let same : nat_eq d.incoming.place.inc d.outgoing.present.head ≡ true = grind (arith, nat_tests, boot) in
    (λ i. numbers_set key_cmp (cond (same i) (credited_in d.outgoing.present.entries) []) (none i))

-- the bounds of a core stay while nothing is shown and the line is not brought up to date
pub within_soon : (n : ℕ) (x y : CoreRecord) → y.agents ≡ x.agents → y.apps ≡ x.apps → y.allotment.placer.seen.turns ≤ x.allotment.placer.seen.turns + 2048 → IsWithin n x → IsWithinSoon n y
within_soon n x y agents apps turns w = record {
  agents = subst (AllByRecursion (λ (d : Down). d.outgoing.last ≤ n)) (sym agents) w.agents;
  apps = λ a d e. w.apps a d (subst (λ os. slice_get os a ≡ Some (Some d)) apps e);
  turns = let t = w.turns in omega (arith, turns, t);
}
