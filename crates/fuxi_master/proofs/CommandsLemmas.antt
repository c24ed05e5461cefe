-- A command changes the state of a master, and no peer is shown it yet.
use Rattle.std.proofs.Common.{◌≡◌, ℕ, ◌<◌, Bool, true, cond, not, nat_eq, List, [], length, None, refl, sym, ◌∙◌, ap, subst, arith}
use Rattle.std.specs.List.{AllByRecursion}
use Rattle.std.specs.Option.{unwrap_or}
use Rattle.std.specs.Ordering.{nat_cmp}
use Rattle.std.specs.FinMap.Entries.{find, where_key, put}
use Rattle.fuxi_terms.specs.Cluster.{ClusterRecord}
use Rattle.fuxi_terms.specs.declared.Key.{Key}
use Rattle.fuxi_terms.specs.Keys.{Spot, spot_cmp, key_cmp}
use Rattle.fuxi_terms.specs.Jobs.{KnownJob, job_numbers}
use Rattle.fuxi_terms.specs.Numbers.{has_number, with_number, without_number}
use Rattle.fuxi_terms.specs.TallyKeys.{greatest_grant, credited_what}
use Rattle.spec_roles.specs.HardState.{with_ended}
use Rattle.spec_roles.specs.Masters.{Master}
use Rattle.spec_roles.specs.MasterRoles.{MasterRole}
use Rattle.spec_roles.specs.MasterSteps.{banned_in, ended_in, counted}
use Rattle.spec_net.specs.Ledgers.{nothing, tally_ledger}
use Rattle.grant_table.specs.GrantTables.{TableRecord, IsSound}
use Rattle.hard_state.specs.Knowledge.{Knowledge}
use Rattle.allotment.specs.PlacingReads.{record_of}
use Rattle.allotment.specs.Allotted.{AllotmentRecord, Allots, Touches}
use Rattle.fuxi_terms.specs.NumbersSet.{AreNumbers}
use Rattle.ledger_updates.specs.declared.grants.StepChanges.{StepChanges}
use Rattle.ledger_updates.specs.AllShown.{with_reported, is_job, credited_after}
use Rattle.fuxi_master.specs.Cores.{CoreRecord, IsCore, IsTidy, StandsFor}
use Rattle.fuxi_master.specs.Heard.{Changes, AreStepChanges}
use Rattle.fuxi_master.specs.Commands.{changed_by, beginning, unbanned_in, IsClosed, IsOpened}
use Rattle.fuxi_master.proofs.AllotsAlike.{allots_alike}
use Rattle.fuxi_master.proofs.ClosedMachines.{without_is, untouched, still_touches}
use Rattle.fuxi_master.proofs.Projected.{known_alike}
use Rattle.fuxi_master.proofs.NotYetShown.{KnowsAlike, same_jobs, AreCredits, mid_by, credited_same, within_soon}
use Rattle.fuxi_terms.proofs.NumbersLemmas.{among, with_is}
use Rattle.fuxi_master.proofs.UnreportedBare.{where_none}
use Rattle.fuxi_master.proofs.Told.{IsTold, stands_told}

pub credits_of : (news : StepChanges) → AreStepChanges None None news → AreCredits news
credits_of news is = record {
  numbers = subst (AreNumbers key_cmp greatest_grant) (sym is.credited_is) (record { sorted = tt; within = tt });
  kinds = subst (AllByRecursion (λ e. nat_eq e.0.what credited_what ≡ true)) (sym is.credited_is) tt;
  admitted = is.admitted_is;
  machines = is.machines_are;
}

pub nothing_credited : (news : StepChanges) → AreStepChanges None None news → (a : ℕ) → cond (is_job news.job a) news.credited.items [] ≡ []
nothing_credited news is a = ap (λ o. cond (is_job o a) news.credited.items []) is.job_is

-- a machine that is reported is one of the cluster's
reported_there : (x : CoreRecord) → IsCore x → (r : MasterRole) → StandsFor x r → (m : ℕ) → has_number m r.state.reported ≡ true → m < length r.cluster.machines
reported_there x core r h m e =
    let lt = among (λ k. k < length x.allotment.table.cluster.machines) m x.reported.numbers core.near.kept.below (ap (has_number m) (sym h.stands.reported) ∙ e) in
    let n : length x.allotment.table.cluster.machines ≡ length r.cluster.machines = ap (λ (k : ClusterRecord). length k.machines) h.stands.cluster in
    omega (arith, lt, n)

module _ (x : CoreRecord) (core : IsCore x) (sound : IsSound x.allotment.table) (news : StepChanges) (is : AreStepChanges None None news) where
  -- what a command makes of the table, of what is known and of the phase
  pub commanded : (z : AllotmentRecord) → Touches x.allotment z → z.table ≡ record x.allotment.table { entries = z.table.entries } → (known : Knowledge) (serving : Bool) → KnowsAlike x.known.jobs known.jobs → (f : Master → Master)
      → ((r : MasterRole) → StandsFor x r → IsTold known serving x.reported r.state (f r.state)) → ((r : MasterRole) → StandsFor x r → Allots z r.cluster (f r.state)) → ((M : Master) → IsTidy M → IsTidy (f M)) → ((M : Master) → (f M).credited ≡ M.credited)
      → Changes news (changed_by f) x (record x { known = known; serving = serving; allotment = z })
  commanded z touches table known serving jobs f told allots tidy credited = record {
    mid = mid_by x core.near sound z touches.spots table known serving x.reported news core.boots (λ a _. refl) jobs (credits_of news is) (ap (λ o. with_reported o x.reported.numbers) (sym is.reported_is)) refl core.near.kept.rising core.near.kept.below;
    stands = λ r h. stands_told (credited_after news) x z known serving x.reported r h (f r.state) (ap (λ (t : TableRecord). t.cluster) table) (told r h) jobs.known (allots r h) (tidy r.state h.stands.tidy)
        (λ b d e. ap (λ cs. unwrap_or (find nat_cmp b cs) []) (credited r.state) ∙ h.stands.credited b d e ∙ sym (credited_same news b d (core.boots.known b d e refl) (nothing_credited news is b)))
        (λ b e. ap (λ cs. unwrap_or (find nat_cmp b cs) []) (credited r.state) ∙ h.stands.uncredited b e);
    within = λ n w. within_soon n x (record x { known = known; serving = serving; allotment = z }) refl refl (let t = touches.turns in omega (arith, t)) w;
  }

  pub begun : Changes news (changed_by beginning) x (record x { serving = true })
  begun = commanded x.allotment (untouched x.allotment) refl x.known true (same_jobs x.known.jobs) beginning
      (λ r h. record { epoch = refl; jobs = h.stands.jobs; bans = h.stands.bans; serving_is = refl; reported_is = h.stands.reported })
      (λ r h. allots_alike x.allotment r.cluster r.state (beginning r.state) h.stands.allots (record { numbers = refl; jobs = λ a. refl; table = refl; demands = λ a. refl; usable = λ m. refl; line = refl }))
      (λ M tidy. tidy)
      (λ M. refl)

  pub banned : (m : ℕ) (z : AllotmentRecord) → IsClosed m x.allotment z → Changes news (changed_by (λ M. banned_in M m)) x (record x { known = record x.known { bans = with_number m x.known.bans }; allotment = z })
  banned m z closed = commanded z closed.touches (closed.table ∙ ap (λ es. record x.allotment.table { entries = es }) (sym (ap (λ (t : TableRecord). t.entries) closed.table)))
      (record x.known { bans = with_number m x.known.bans }) x.serving (same_jobs x.known.jobs) (λ M. banned_in M m)
      (λ r h. record { epoch = refl; jobs = h.stands.jobs; bans = ap (with_number m) h.stands.bans; serving_is = h.stands.serving; reported_is = h.stands.reported })
      (λ r h. closed.stands r.cluster r.state (with_number m r.state.bans) h.stands.allots (reported_there x core r h m) (λ n. with_is n m r.state.bans))
      (λ M tidy s unreported. where_none (λ s. not (nat_eq s.machine m)) M.table s (tidy s unreported))
      (λ M. refl)

  pub unbanned : (m : ℕ) (z : AllotmentRecord) → IsOpened m x.reported.numbers x.allotment z → Changes news (changed_by (λ M. unbanned_in M m)) x (record x { known = record x.known { bans = without_number m x.known.bans }; allotment = z })
  unbanned m z opened = commanded z opened.touches (opened.table ∙ ap (λ es. record x.allotment.table { entries = es }) (sym (ap (λ (t : TableRecord). t.entries) opened.table)))
      (record x.known { bans = without_number m x.known.bans }) x.serving (same_jobs x.known.jobs) (λ M. unbanned_in M m)
      (λ r h. record { epoch = refl; jobs = h.stands.jobs; bans = ap (without_number m) h.stands.bans; serving_is = h.stands.serving; reported_is = h.stands.reported })
      (λ r h. opened.stands r.cluster r.state (without_number m r.state.bans) h.stands.allots h.stands.reported (reported_there x core r h m) (λ n. without_is n m r.state.bans))
      (λ M tidy. tidy)
      (λ M. refl)

  -- the grants of the job are gone, and its demand is the empty one
  pub job_ended : (a : ℕ) (y z : AllotmentRecord) → ((c : ClusterRecord) (M : Master) → Allots x.allotment c M → Allots y c (record M { table = where_key spot_cmp (λ s. not (nat_eq s.job a)) M.table })) → Touches x.allotment y
      → y.table ≡ record x.allotment.table { entries = where_key spot_cmp (λ s. not (nat_eq s.job a)) x.allotment.table.entries } → (es : List (Key × ℕ)) → es ≡ []
      → ((c : ClusterRecord) (M : Master) (head : ℕ) → Allots y c M → Allots z c (record M { demands = put nat_cmp a (counted c M.jobs a (tally_ledger head es)) M.demands })) → z.table ≡ y.table → z.touched ≡ y.touched → z.placer.seen.turns ≡ y.placer.seen.turns
      → ((a : ℕ) (xs : List KnownJob) → job_numbers (with_ended a xs) ≡ job_numbers xs) → ((a : ℕ) (xs : List KnownJob) (b : ℕ) → record_of (with_ended a xs) b ≡ record_of xs b)
      → ((x : AllotmentRecord) (c : ClusterRecord) (M : Master) (a : ℕ) → Allots x c M → Allots x c (record M { jobs = with_ended a M.jobs }))
      → Changes news (changed_by (λ M. ended_in M a)) x (record x { known = record x.known { jobs = with_ended a x.known.jobs }; allotment = z })
  job_ended a y z cleared touches table es none asked same_table same_touched same_turns numbers records ends =
      let p : Spot → Bool = λ s. not (nat_eq s.job a) in
      let left : z.table ≡ record x.allotment.table { entries = where_key spot_cmp p x.allotment.table.entries } = same_table ∙ table in
      commanded z (still_touches x.allotment y z touches same_table same_touched same_turns) (left ∙ ap (λ es. record x.allotment.table { entries = es }) (sym (ap (λ (t : TableRecord). t.entries) left)))
      (record x.known { jobs = with_ended a x.known.jobs }) x.serving (record { numbers = numbers a x.known.jobs; records = records a x.known.jobs; known = λ b. known_alike (with_ended a x.known.jobs) x.known.jobs b (records a x.known.jobs b) }) (λ M. ended_in M a)
      (λ r h. record { epoch = refl; jobs = ap (with_ended a) h.stands.jobs; bans = h.stands.bans; serving_is = h.stands.serving; reported_is = h.stands.reported })
      (λ r h.
      let c = r.cluster in
      let M = r.state in
      let N : Master = record M { table = where_key spot_cmp p M.table } in
      ends z c (record N { demands = put nat_cmp a nothing M.demands }) a
      (subst (λ fs. Allots z c (record N { demands = put nat_cmp a (counted c M.jobs a (tally_ledger 0 fs)) M.demands })) none (asked c N 0 (cleared c M h.stands.allots))))
      (λ M tidy s unreported. where_none p M.table s (tidy s unreported))
      (λ M. refl)
