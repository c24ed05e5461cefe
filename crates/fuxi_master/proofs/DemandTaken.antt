-- What came of an application changes its demand and what is credited to it.
use Rattle.std.proofs.Common.{◌≡◌, ℕ, ◌<◌, Bool, true, false, cond, not, nat_eq, List, [], length, get_or, Option, Some, None, slice_get, refl, sym, ◌∙◌, ap, subst, arith}
use Rattle.std.specs.Prelude.{◌&&◌, ◌||◌, is_some, IfSome}
use Rattle.std.specs.List.{AllByRecursion}
use Rattle.std.specs.Option.{unwrap_or, option_map}
use Rattle.std.specs.Ordering.{nat_cmp}
use Rattle.std.specs.FinMap.Entries.{put}
use Rattle.std.proofs.lemmas.Bool.Decides.{nat_tests}
use Rattle.std.proofs.lemmas.Option.{slice_get_read, IfSome_then}
use Rattle.fuxi_terms.specs.Cluster.{ClusterRecord}
use Rattle.fuxi_terms.specs.declared.Key.{Key}
use Rattle.fuxi_terms.specs.Counts.{count}
use Rattle.fuxi_terms.specs.Tallies.{ChangeRecord}
use Rattle.fuxi_terms.specs.Jobs.{KnownJob, job_of, is_known, is_live, has_ended, unit_count, job_numbers}
use Rattle.fuxi_terms.specs.Numbers.{has_number}
use Rattle.fuxi_terms.specs.Keys.{key_cmp, spot_cmp}
use Rattle.fuxi_terms.specs.TallyKeys.{credited_key, credited_what, greatest_grant}
use Rattle.fuxi_terms.proofs.Booleans.{both_true, nat_itself, number_is, and_false, or_false}
use Rattle.spec_net.specs.Ledgers.{Ledger, nothing, tally_ledger}
use Rattle.spec_net.specs.Channels.{app_id}
use Rattle.spec_roles.specs.Masters.{Master, demand_of, credited_of}
use Rattle.spec_roles.specs.MasterSteps.{counted, credit, raise_credited, take_demand, meet_app, told_of}
use Rattle.spec_roles.specs.MasterRoles.{MasterRole}
use Rattle.grant_table.specs.GrantTables.{as_known, IsSound}
use Rattle.allotment.specs.PlacingReads.{record_of}
use Rattle.allotment.specs.Allotted.{AllotmentRecord, Allots, newly_credited}
use Rattle.fuxi_terms.specs.NumbersSet.{numbers_set, AreNumbers}
use Rattle.ledger_updates.specs.declared.grants.StepChanges.{StepChanges}
use Rattle.ledger_updates.specs.AllShown.{App, is_job, with_reported, credited_in, credited_after}
use Rattle.schedule_unit.specs.declared.party.AppNo.{AppNo}
use Rattle.fuxi_master.specs.Cores.{CoreRecord, IsKept, IsNear, IsTidy, HasBoots, StandsFor}
use Rattle.fuxi_master.specs.Heard.{IsDemanded, IsCredit, Changes, ChangesAsked, demanding}
use Rattle.fuxi_master.specs.Steps.{StandsMid}
use Rattle.fuxi_master.specs.ToldAsHeard.{ToldButAt}
use Rattle.fuxi_master.proofs.AllotsAlike.{allots_alike}
use Rattle.fuxi_master.proofs.NewlyCredited.{raised_as, all_given, credited_shown}
use Rattle.fuxi_master.proofs.NotYetShown.{credited_same, mid_by, same_jobs, within_soon}
use Rattle.fuxi_master.proofs.Projected.{units_alike}
use Rattle.fuxi_master.proofs.UnreportedBare.{credit_none}
use Rattle.fuxi_master.proofs.Told.{put_at, stands_told}

-- a known job lives until it has ended
pub live_is : (jobs : List KnownJob) (a : ℕ) → is_known jobs a ≡ true → is_live jobs a ≡ not (has_ended jobs a)
live_is jobs a known = by (job_of jobs a) known
  where
    by : (o : Option KnownJob) → is_some o ≡ true → unwrap_or (option_map (λ (j : KnownJob). not j.ended) o) false ≡ not (unwrap_or (option_map (λ (j : KnownJob). j.ended) o) false)
    by (Some j) e = refl
    by None e = cc

-- what a master keeps of its peers' packets
pub record SameParts (M N : Master) : Type 0 where
  pub epoch : N.epoch ≡ M.epoch
  pub jobs : N.jobs ≡ M.jobs
  pub bans : N.bans ≡ M.bans
  pub serving : N.serving ≡ M.serving
  pub reported : N.reported ≡ M.reported

-- a new boot: what is known of it is forgotten
pub met_parts : (fresh : Bool) (M : Master) (a : ℕ) → SameParts M (meet_app fresh M a)
met_parts true M a = record { epoch = refl; jobs = refl; bans = refl; serving = refl; reported = refl }
met_parts false M a = record { epoch = refl; jobs = refl; bans = refl; serving = refl; reported = refl }

met_table : (fresh : Bool) (M : Master) (a : ℕ) → (meet_app fresh M a).table ≡ M.table
met_table true M a = refl
met_table false M a = refl

met_line : (fresh : Bool) (M : Master) (a : ℕ) → (meet_app fresh M a).line ≡ M.line
met_line true M a = refl
met_line false M a = refl

pub credited_met : (fresh : Bool) (M : Master) (a b : ℕ) → credited_of (meet_app fresh M a) b ≡ cond (fresh && nat_eq a b) [] (credited_of M b)
credited_met true M a b = put_at a b [] [] M.credited
credited_met false M a b = refl

pub demand_met : (fresh : Bool) (M : Master) (a b : ℕ) → demand_of (meet_app fresh M a) b ≡ cond (fresh && nat_eq a b) nothing (demand_of M b)
demand_met true M a b = put_at a b nothing nothing M.demands
demand_met false M a b = refl

-- another job asks and is credited as before
pub demand_stays : (fresh : Bool) (M : Master) (a b : ℕ) → nat_eq a b ≡ false → demand_of (meet_app fresh M a) b ≡ demand_of M b
demand_stays fresh M a b off = demand_met fresh M a b ∙ ap (λ t. cond (fresh && t) nothing (demand_of M b)) off ∙ ap (λ t. cond t nothing (demand_of M b)) (and_false fresh)

pub credits_stay : (fresh : Bool) (M : Master) (a b : ℕ) → nat_eq a b ≡ false → credited_of (meet_app fresh M a) b ≡ credited_of M b
credits_stay fresh M a b off = credited_met fresh M a b ∙ ap (λ t. cond (fresh && t) [] (credited_of M b)) off ∙ ap (λ t. cond t [] (credited_of M b)) (and_false fresh)

-- an application beside the one of which something came is not new
not_new : (fresh : Bool) (a b : ℕ) → nat_eq a b ≡ false → (fresh && nat_eq b a) ≡ false
not_new true a b off = grind (arith, nat_tests, off)
not_new false a b off = refl

module _ (x : CoreRecord) (near : IsNear x) (a : ℕ) (fresh taken live : Bool) (d : App) (at : slice_get x.apps a ≡ Some (Some d)) (boots : HasBoots (λ b. fresh && nat_eq b a) x)
    (known : is_known x.known.jobs a ≡ true) (told : (fresh || taken) ≡ true) (z : AllotmentRecord) (numbers : List (Key × ℕ)) (done : IsDemanded a fresh live d x.allotment z numbers)
    (live_when : live ≡ (taken && (nat_eq d.incoming.received.head x.epoch && not (has_ended x.known.jobs a))))
    (news : StepChanges) (is : IsCredit (record { 0 = a }) numbers news) (r : MasterRole) (h : StandsFor x r) where
  abbrev c : ClusterRecord
  c = r.cluster

  abbrev M : Master
  M = r.state

  abbrev es : List (Key × ℕ)
  es = d.incoming.received.entries

  abbrev D : Ledger
  D = counted c M.jobs a (tally_ledger d.incoming.received.head es)

  abbrev given : List (Key × ℕ)
  given = cond fresh [] d.outgoing.present.entries

  -- what was credited before, once a new boot has lost it
  abbrev kept : List (Key × ℕ)
  kept = cond (nat_eq d.incoming.place.inc d.outgoing.present.head) (credited_in d.outgoing.present.entries) []

  abbrev met : Master
  met = meet_app fresh M a

  other : (b : ℕ) (e : App) → nat_eq a b ≡ false → slice_get x.apps b ≡ Some (Some e) → credited_after news b e ≡ credited_of M b
  other b e off there =
      credited_same news b e (boots.known b e there (not_new fresh a b off)) (ap (λ (o : Option AppNo). cond (is_job o b) news.credited.items []) is.job_is ∙ ap (λ t. cond t news.credited.items []) off) ∙ sym (h.stands.credited b e there)

  mine : credited_after news a d ≡ numbers_set key_cmp kept numbers
  mine = ap (numbers_set key_cmp kept) (ap (λ (o : Option AppNo). cond (is_job o a) news.credited.items []) is.job_is ∙ ap (λ t. cond t news.credited.items []) (nat_itself a) ∙ is.credited_is)

  newer : fresh ≡ true → d.outgoing.present.head < d.incoming.place.inc
  newer e = boots.unknown a d at (ap (λ f. f && nat_eq a a) e ∙ nat_itself a)

  same_boot : fresh ≡ false → d.outgoing.present.head ≡ d.incoming.place.inc
  same_boot e = boots.known a d at (ap (λ f. f && nat_eq a a) e)

  kept_is : credited_of met a ≡ kept
  kept_is = credited_met fresh M a a ∙ ap (λ t. cond (fresh && t) [] (credited_of M a)) (nat_itself a) ∙ by fresh refl
    where
      by : (f : Bool) → fresh ≡ f → cond (f && true) [] (credited_of M a) ≡ kept
      by true e = let lt = newer e in let off : nat_eq d.incoming.place.inc d.outgoing.present.head ≡ false = grind (arith, nat_tests, lt) in ap (λ t. cond t (credited_in d.outgoing.present.entries) []) (sym off)
      by false e = let eq = same_boot e in let on : nat_eq d.incoming.place.inc d.outgoing.present.head ≡ true = grind (arith, nat_tests, eq) in h.stands.credited a d at ∙ ap (λ t. cond t (credited_in d.outgoing.present.entries) []) (sym on)

  agree : (u m : ℕ) → count key_cmp (credited_of met a) (credited_key u m) ≡ count key_cmp given (credited_key u m)
  agree u m = ap (λ cs. count key_cmp cs (credited_key u m)) (credited_met fresh M a a ∙ ap (λ t. cond (fresh && t) [] (credited_of M a)) (nat_itself a)) ∙ by fresh
    where
      by : (f : Bool) → count key_cmp (cond (f && true) [] (credited_of M a)) (credited_key u m) ≡ count key_cmp (cond f [] d.outgoing.present.entries) (credited_key u m)
      by true = refl
      by false = ap (λ cs. count key_cmp cs (credited_key u m)) (h.stands.credited a d at) ∙ credited_shown d.outgoing.present.entries u m

  -- others ask and are credited as before
  demand_others : (l : Ledger) (b : ℕ) → cond (nat_eq a b) l (demand_of met b) ≡ cond (nat_eq a b) l (demand_of M b)
  demand_others l b = elim (nat_eq a b) as (λ t. nat_eq a b ≡ t → cond t l (demand_of met b) ≡ cond t l (demand_of M b)) [
    | true ↦ λ _. refl
    | false ↦ λ t. demand_stays fresh M a b t
  ] refl

  abbrev moved : CoreRecord
  moved = record x { allotment = z }

  -- the master that it has become, from what is asked of it
  stands_from : (N : Master) → SameParts M N → Allots z c N → IsTidy N → credited_of N a ≡ credited_after news a d → ((b : ℕ) → nat_eq a b ≡ false → credited_of N b ≡ credited_of M b) → StandsMid news moved (record { cluster = c; state = N; sides = r.sides })
  stands_from N parts allots tidy mine_is others = stands_told (credited_after news) x z x.known x.serving x.reported r h N (ap (λ t. t.cluster) done.table)
      (record { epoch = parts.epoch; jobs = parts.jobs ∙ h.stands.jobs; bans = parts.bans ∙ h.stands.bans; serving_is = parts.serving ∙ h.stands.serving; reported_is = parts.reported ∙ h.stands.reported })
      (λ b. refl) allots tidy
      (λ b e there. elim (nat_eq a b) as (λ t. nat_eq a b ≡ t → credited_of N b ≡ credited_after news b e) [
        | true ↦ λ t.
            let same = number_is a b t in
            let one : Some (Some d) ≡ Some (Some e) = sym at ∙ ap (slice_get x.apps) same ∙ there in
            let is_d : d ≡ e = cc in
            subst (λ (n : ℕ). credited_of N n ≡ credited_after news n e) same (mine_is ∙ ap (credited_after news a) is_d)
        | false ↦ λ t. others b t ∙ sym (other b e t there)
      ] refl)
      (λ b unknown. elim (nat_eq a b) as (λ t. nat_eq a b ≡ t → credited_of N b ≡ []) [
        | true ↦ λ t. absurd (let f : true ≡ false = sym known ∙ ap (is_known x.known.jobs) (number_is a b t) ∙ unknown in cc)
        | false ↦ λ t. others b t ∙ h.stands.uncredited b unknown
      ] refl)

  -- nothing that counts came: its demand is empty
  abbrev Emptied : Master → Type 0
  Emptied N = (b : ℕ) → demand_of N b ≡ cond (nat_eq a b) nothing (demand_of M b)

  emptied_stands : live ≡ false → (N : Master) → SameParts M N → N.table ≡ M.table → N.line ≡ M.line → Emptied N → credited_of N a ≡ credited_of met a → ((b : ℕ) → nat_eq a b ≡ false → credited_of N b ≡ credited_of M b) → StandsMid news moved (record { cluster = c; state = N; sides = r.sides })
  emptied_stands dead N parts table line empty mine_is others = stands_from N parts
      (allots_alike z c (record M { demands = put nat_cmp a nothing M.demands }) N (done.dead dead c M h.stands.allots) (record {
        numbers = ap job_numbers parts.jobs;
        jobs = λ b. ap (λ js. record_of js b) parts.jobs;
        table = table;
        demands = λ b. empty b ∙ sym (put_at a b nothing nothing M.demands);
        usable = λ m. (λ i. has_number m (parts.reported i) && not (has_number m (parts.bans i)));
        line = line;
      }))
      (λ s e. ap (λ t. count spot_cmp t s) table ∙ h.stands.tidy s (sym (ap (has_number s.machine) parts.reported) ∙ e))
      (mine_is ∙ kept_is ∙ sym (mine ∙ ap (numbers_set key_cmp kept) (done.dead_numbers dead)))
      others

  -- a demand counts: what it gives back is credited
  abbrev Alive : Master
  Alive = record met { demands = put nat_cmp a D met.demands; table = credit a (credited_of met a) D.entries met.table; credited = put nat_cmp a (raise_credited (credited_of met a) D.entries) met.credited }

  numbers_are : live ≡ true → numbers ≡ newly_credited c (unit_count M.jobs a) given es
  numbers_are alive = done.alive_numbers alive ∙ (λ i. newly_credited (h.stands.cluster i) (length (units_alike (as_known x.allotment.table.jobs) M.jobs (λ b. h.stands.allots.placing.jobs b) a i)) given es)

  alive_stands : live ≡ true → StandsMid news moved (record { cluster = c; state = Alive; sides = r.sides })
  alive_stands alive =
      let parts = met_parts fresh M a in
      stands_from Alive (record { epoch = parts.epoch; jobs = parts.jobs; bans = parts.bans; serving = parts.serving; reported = parts.reported })
      (allots_alike z c (record M { demands = put nat_cmp a D M.demands; table = credit a (credited_of met a) D.entries M.table }) Alive
      ((done.alive alive).stands c M d.incoming.received.head (credited_of met a) h.stands.allots agree) (record {
        numbers = ap job_numbers parts.jobs;
        jobs = λ b. ap (λ js. record_of js b) parts.jobs;
        table = ap (credit a (credited_of met a) D.entries) (met_table fresh M a);
        demands = λ b. put_at a b D nothing met.demands ∙ demand_others D b ∙ sym (put_at a b D nothing M.demands);
        usable = λ m. (λ i. has_number m (parts.reported i) && not (has_number m (parts.bans i)));
        line = met_line fresh M a;
      }))
      (λ s e. credit_none a (credited_of met a) D.entries met.table s (ap (λ t. count spot_cmp t s) (met_table fresh M a) ∙ h.stands.tidy s (sym (ap (has_number s.machine) parts.reported) ∙ e)))
      (put_at a a (raise_credited (credited_of met a) D.entries) [] met.credited ∙ ap (λ t. cond t (raise_credited (credited_of met a) D.entries) (credited_of met a)) (nat_itself a)
      ∙ raised_as c (unit_count M.jobs a) es (credited_of met a) given done.sorted (all_given (credited_of met a) given es agree)
      ∙ (λ i. numbers_set key_cmp (kept_is i) (sym (numbers_are alive) i)) ∙ sym mine)
      (λ b off. put_at a b (raise_credited (credited_of met a) D.entries) [] met.credited ∙ ap (λ t. cond t (raise_credited (credited_of met a) D.entries) (credited_of met b)) off ∙ credits_stay fresh M a b off)

  -- any other demand counts as empty
  abbrev Dead : Master
  Dead = record met { demands = put nat_cmp a nothing met.demands }

  dead_stands : live ≡ false → StandsMid news moved (record { cluster = c; state = Dead; sides = r.sides })
  dead_stands dead =
      let parts = met_parts fresh M a in
      emptied_stands dead Dead (record { epoch = parts.epoch; jobs = parts.jobs; bans = parts.bans; serving = parts.serving; reported = parts.reported }) (met_table fresh M a) (met_line fresh M a)
      (λ b. put_at a b nothing nothing met.demands ∙ demand_others nothing b) refl (credits_stay fresh M a)

  met_stands : live ≡ false → fresh ≡ true → StandsMid news moved (record { cluster = c; state = met; sides = r.sides })
  met_stands dead new = emptied_stands dead met (met_parts fresh M a) (met_table fresh M a) (met_line fresh M a) (λ b. demand_met fresh M a b ∙ ap (λ f. cond (f && nat_eq a b) nothing (demand_of M b)) new) refl (credits_stay fresh M a)

  -- whether the demand counts
  abbrev Counts : Bool
  Counts = nat_eq D.head met.epoch && is_live met.jobs a

  counts_is : Counts ≡ (nat_eq d.incoming.received.head x.epoch && not (has_ended x.known.jobs a))
  counts_is =
      let parts = met_parts fresh M a in
      (λ i. nat_eq d.incoming.received.head ((parts.epoch ∙ h.stands.epoch) i) && (ap (λ js. is_live js a) (parts.jobs ∙ h.stands.jobs) ∙ live_is x.known.jobs a known) i)

  told_stands : StandsMid news moved (record { cluster = c; state = told_of M fresh taken (app_id a) D; sides = r.sides })
  told_stands = elim taken as (λ t. taken ≡ t → StandsMid news moved (record { cluster = c; state = cond t (take_demand met a D) met; sides = r.sides })) [
    | true ↦ λ t. elim Counts as (λ l. Counts ≡ l → StandsMid news moved (record { cluster = c; state = cond l Alive Dead; sides = r.sides })) [
      | true ↦ λ l. alive_stands (live_when ∙ (λ i. t i && (sym counts_is ∙ l) i))
      | false ↦ λ l. dead_stands (live_when ∙ ap (λ b. taken && b) (sym counts_is ∙ l) ∙ and_false taken)
    ] refl
    | false ↦ λ t. met_stands (live_when ∙ ap (λ b. b && (nat_eq d.incoming.received.head x.epoch && not (has_ended x.known.jobs a))) t) (sym (or_false fresh) ∙ ap (λ b. fresh || b) (sym t) ∙ told)
  ] refl

  pub demanding_stands : StandsMid news moved (demanding fresh taken r a)
  demanding_stands = subst (λ (g : Ledger). StandsMid news moved (record { cluster = c; state = told_of M fresh taken (app_id a) (counted c M.jobs a g); sides = r.sides })) (sym (h.stands.apps a d at).got) told_stands

-- the slot of a known job, as it was read
pub slot_at : (x : CoreRecord) → IsKept x → (a : ℕ) → is_known x.known.jobs a ≡ true → (o p : Option App) → o ≡ get_or x.apps a o → o ≡ p → slice_get x.apps a ≡ Some p
slot_at x kept a known o p read is = slice_get_read x.apps (length x.apps) a o refl (kept.apps a known) read ∙ ap Some is

-- it is not empty
pub slot_there : (x : CoreRecord) → IsKept x → (a : ℕ) → is_known x.known.jobs a ≡ true → (o : Option App) → o ≡ get_or x.apps a o → o ≡ None → ⊥
slot_there x kept a known o read is = let f : false ≡ true = kept.slots a None (slot_at x kept a known o None read is) ∙ known in cc

-- where its demand counts still, a change that was taken of it names the keys at which it asks otherwise
pub asked_live : (x : CoreRecord) (a : ℕ) (fresh taken live : Bool) (d : App) → slice_get x.apps a ≡ Some (Some d) → live ≡ (taken && (nat_eq d.incoming.received.head x.epoch && not (has_ended x.known.jobs a)))
    → (o : Option ChangeRecord) → IfSome o (λ change. ChangesAsked a fresh taken change x) → IfSome o (λ change. fresh ≡ false → live ≡ true → ToldButAt change.entries a d.incoming.received.entries d.outgoing.present.entries x.allotment)
asked_live x a fresh taken live d at live_when o asks =
    IfSome_then o asks (λ change asked old on.
    let counts = both_true taken (nat_eq d.incoming.received.head x.epoch && not (has_ended x.known.jobs a)) (sym live_when ∙ on) in
    asked.asks d at old counts.0 (number_is d.incoming.received.head x.epoch (both_true (nat_eq d.incoming.received.head x.epoch) (not (has_ended x.known.jobs a)) counts.1).0))

-- a core takes what came of an application
pub demand_changes : (x : CoreRecord) → IsNear x → IsSound x.allotment.table → (a : ℕ) (fresh taken live : Bool) (d : App) → slice_get x.apps a ≡ Some (Some d) → HasBoots (λ b. fresh && nat_eq b a) x → is_known x.known.jobs a ≡ true → (fresh || taken) ≡ true
    → (z : AllotmentRecord) (numbers : List (Key × ℕ)) → IsDemanded a fresh live d x.allotment z numbers → live ≡ (taken && (nat_eq d.incoming.received.head x.epoch && not (has_ended x.known.jobs a)))
    → (news : StepChanges) → IsCredit (record { 0 = a }) numbers news → Changes news (λ r. demanding fresh taken r a) x (record x { allotment = z })
demand_changes x near sound a fresh taken live d at boots known told z numbers done live_when news is = record {
  mid = mid_by x near sound z done.touches.spots done.table x.known x.serving x.reported news boots (λ b off. not_new fresh a b (sym (ap (λ o. is_job o b) is.job_is) ∙ off)) (same_jobs x.known.jobs)
      (record {
        numbers = subst (AreNumbers key_cmp greatest_grant) (sym is.credited_is) done.numbers_are;
        kinds = subst (AllByRecursion (λ (e : Key × ℕ). nat_eq e.0.what credited_what ≡ true)) (sym is.credited_is) done.kinds;
        admitted = is.admitted_is;
        machines = is.machines_are;
      })
      (ap (λ o. with_reported o x.reported.numbers) (sym is.reported_is)) refl near.kept.rising near.kept.below;
  stands = λ r h. demanding_stands x near a fresh taken live d at boots known told z numbers done live_when news is r h;
  within = λ n w. within_soon n x (record x { allotment = z }) refl refl (let t = done.touches.turns in omega (arith, t)) w;
}
