-- In every state each running master rests: nothing is placeable.
use Rattle.std.proofs.Common.{◌≡◌, ℕ, Bool, true, false, cond, not, nat_eq, nat_lt, List, [], ◌∷◌, length, Option, Some, None, refl, sym, ◌∙◌, ap, subst, arith}
use Rattle.std.specs.Prelude.{⊤, ◌&&◌, ◌||◌}
use Rattle.std.specs.Option.{unwrap_or, option_map}
use Rattle.std.specs.Ordering.{nat_cmp, eq_by_cmp}
use Rattle.std.specs.Cmp.{nat_cmp_total}
use Rattle.std.specs.FinMap.Entries.{find, put, where_key, find-put, find-where_key}
use Rattle.std.proofs.lemmas.Bool.Decides.{nat_tests}
use Rattle.fuxi_terms.specs.declared.Key.{Key}
use Rattle.fuxi_terms.specs.Cluster.{ClusterRecord, JobRecord, has_machine}
use Rattle.fuxi_terms.specs.Keys.{key_cmp}
use Rattle.spec_net.specs.Net.{Net, Id, Packet, Heard, heard_of, is_taken}
use Rattle.spec_net.specs.Ledgers.{Ledger, nothing, at_key}
use Rattle.fuxi_terms.specs.TallyKeys.{want_key}
use Rattle.spec_net.specs.Channels.{is_agent, is_app, content}
use Rattle.fuxi_terms.specs.Jobs.{KnownJob, job_of, is_known, is_live, unit_count, eight_places}
use Rattle.fuxi_terms.specs.Numbers.{without_number}
use Rattle.spec_roles.specs.Masters.{Master}
use Rattle.spec_roles.specs.Placing.{placeable}
use Rattle.spec_roles.specs.HardState.{with_job, with_ended, raised, HardState}
use Rattle.spec_roles.specs.MasterSteps.{talks, ready, is_there, counted, take_report, take_demand, meet_app, adopts, master_party, ended_in, banned_in, new_master}
use Rattle.spec_world.specs.Parties.{told, received}
use Rattle.fuxi_terms.proofs.Booleans.{either, number_is}
use Rattle.fuxi_terms.proofs.KeyOrders.{same_key}
use Rattle.spec_world.proofs.SettledLemmas.{ranged_same, ready_rests}
use Rattle.spec_world.proofs.LeftLemmas.{left_out}
use Rattle.spec_world.proofs.EventsWalk.{KeptBy, with_ready, act_keeps, run_keeps, unasked}
use Rattle.spec_roles.specs.Preemption.{preempted}
use Rattle.spec_world.specs.World.{World, Step, empty_world}
use Rattle.spec_world.specs.Events.{Event, act}
use Rattle.spec_world.specs.Runs.{run}
use Rattle.spec_world.specs.Good.{IsRangedMaster, IsResting}
use Rattle.spec_roles.proofs.MapLemmas.{with_back}

-- an entry of a map after a put is the new one or an old one
pub record Found {A : Type 0} (P : A → Type 0) (o : Option A) : Type 0 where
  pub has : (x : A) → o ≡ Some x → P x

put_found : {A : Type 0} (P : A → Type 0) (k : ℕ) (v : A) (es : List (ℕ × A)) (q : ℕ) → P v → Found P (find nat_cmp q es) → Found P (find nat_cmp q (put nat_cmp k v es))
put_found P k v es q new old = subst (Found P) (sym (find-put nat_cmp nat_cmp_total q k v es)) (elim (eq_by_cmp nat_cmp q k) as (λ b. Found P (cond b (Some v) (find nat_cmp q es))) [
  | true ↦ record { has = λ x e. let same : v ≡ x = cc in subst P same new }
  | false ↦ old
])

-- of a unit that is not there nothing is wanted
more_units : (jobs : List KnownJob) (j : JobRecord) (a u : ℕ) → nat_lt u (unit_count (with_job j jobs) a) ≡ false → nat_lt u (unit_count jobs a) ≡ false
more_units [] j a u h = grind (arith, nat_tests)
more_units (k ∷ ks) j a u h = elim (nat_eq k.job.number a) as (λ b. nat_lt u (length (unwrap_or (option_map (λ j. j.job.units) (cond b (Some k) (job_of (with_job j ks) a))) [])) ≡ false
    → nat_lt u (length (unwrap_or (option_map (λ j. j.job.units) (cond b (Some k) (job_of ks a))) [])) ≡ false) [
      | true ↦ λ h. h
      | false ↦ λ h. more_units ks j a u h
    ] h

-- a job that ends keeps its number of units
pub ended_units : (jobs : List KnownJob) (a b : ℕ) → unit_count (with_ended a jobs) b ≡ unit_count jobs b
ended_units [] a b = refl
ended_units (k ∷ ks) a b = elim (nat_eq k.job.number a) as (λ t. length (unwrap_or (option_map (λ j. j.job.units) (let k' : KnownJob = cond t (record { job = k.job; ended = true }) k in cond (nat_eq k'.job.number b) (Some k') (job_of (with_ended a ks) b))) []) ≡ unit_count (k ∷ ks) b) [
  | true ↦ elim (nat_eq k.job.number b) as (λ s. length (unwrap_or (option_map (λ (j : KnownJob). j.job.units) (cond s (Some (record { job = k.job; ended = true })) (job_of (with_ended a ks) b))) []) ≡ length (unwrap_or (option_map (λ (j : KnownJob). j.job.units) (cond s (Some k) (job_of ks b))) [])) [ true ↦ refl | false ↦ ended_units ks a b ]
  | false ↦ elim (nat_eq k.job.number b) as (λ s. length (unwrap_or (option_map (λ (j : KnownJob). j.job.units) (cond s (Some k) (job_of (with_ended a ks) b))) []) ≡ length (unwrap_or (option_map (λ (j : KnownJob). j.job.units) (cond s (Some k) (job_of ks b))) [])) [ true ↦ refl | false ↦ ended_units ks a b ]
]

-- what a demand after a put wants
put_wanted : (a b : ℕ) (d : Ledger) (demands : List (ℕ × Ledger)) (k : Key) → (nat_eq b a ≡ true → at_key d k ≡ 0) → at_key (unwrap_or (find nat_cmp b demands) nothing) k ≡ 0 → at_key (unwrap_or (find nat_cmp b (put nat_cmp a d demands)) nothing) k ≡ 0
put_wanted a b d demands k new old = ap (λ o. at_key (unwrap_or o nothing) k) (find-put nat_cmp nat_cmp_total b a d demands) ∙ elim (eq_by_cmp nat_cmp b a) as (λ t. eq_by_cmp nat_cmp b a ≡ t → at_key (unwrap_or (cond t (Some d) (find nat_cmp b demands)) nothing) k ≡ 0) [
  | true ↦ λ t. new (tie b a t)
  | false ↦ λ _. old
] refl
  where
    tie : (b a : ℕ) → eq_by_cmp nat_cmp b a ≡ true → nat_eq b a ≡ true
    tie b a t = grind (arith, nat_tests, t)

-- what is counted of a demand wants nothing of a unit that is not there
counted_wants : (c : ClusterRecord) (jobs : List KnownJob) (a u : ℕ) (d : Ledger) → nat_lt u (unit_count jobs a) ≡ false → at_key (counted c jobs a d) (want_key u) ≡ 0
counted_wants c jobs a u d h =
    let p = is_there c (unit_count jobs a) in
    ap (λ o. unwrap_or o 0) (find-where_key key_cmp p (want_key u) (λ x t. ap p (sym (same_key (want_key u) x t))) d.entries)
    ∙ ap (λ b. unwrap_or (cond b (find key_cmp (want_key u) d.entries) None) 0) (ap (λ b. b && (nat_eq 1 1 || cond (nat_eq 1 3) (is_there c 0 (want_key u)) (has_machine c 0))) h)

-- a master that takes a report or a demand
reported_ranged : (c : ClusterRecord) (M : Master) (m : ℕ) (l : Ledger) → has_machine c m ≡ true → IsRangedMaster c M → IsRangedMaster c (take_report M m l)
reported_ranged c M m l there r = either (IsRangedMaster c) (adopts M m l) _ M
    (λ _. record {
      reported = λ k h. elim (nat_eq k m) as (λ b. nat_eq k m ≡ b → has_machine c k ≡ true) [
        | true ↦ λ e. subst (λ x. has_machine c x ≡ true) (sym (number_is k m e)) there
        | false ↦ λ e. r.reported k (with_back k m M.reported h e)
      ] refl;
      wanted = r.wanted;
    })
    (λ _. r)

demand_ranged : (c : ClusterRecord) (M : Master) (a : ℕ) (d : Ledger) → ((u : ℕ) → nat_lt u (unit_count M.jobs a) ≡ false → at_key d (want_key u) ≡ 0) → IsRangedMaster c M → IsRangedMaster c (take_demand M a d)
demand_ranged c M a d few r = either (IsRangedMaster c) (nat_eq d.head M.epoch && is_live M.jobs a) _ _
    (λ _. record { reported = r.reported; wanted = λ b u h. put_wanted a b d M.demands (want_key u) (λ e. few u (subst (λ x. nat_lt u (unit_count M.jobs x) ≡ false) (number_is b a e) h)) (r.wanted b u h) })
    (λ _. record { reported = r.reported; wanted = λ b u h. put_wanted a b nothing M.demands (want_key u) (λ _. refl) (r.wanted b u h) })

meet_ranged : (c : ClusterRecord) (fresh : Bool) (M : Master) (a : ℕ) → IsRangedMaster c M → IsRangedMaster c (meet_app fresh M a)
meet_ranged c true M a r = record { reported = r.reported; wanted = λ b u h. put_wanted a b nothing M.demands (want_key u) (λ _. refl) (r.wanted b u h) }
meet_ranged c false M a r = r

meet_jobs : (fresh : Bool) (M : Master) (a : ℕ) → (meet_app fresh M a).jobs ≡ M.jobs
meet_jobs true M a = refl
meet_jobs false M a = refl

-- a master talks to agents of its machines
pub talks_machine : (c : ClusterRecord) (M : Master) (q : Id) → talks c M q ≡ true → is_agent q ≡ true → has_machine c q.number ≡ true
talks_machine c M q t e =
    let role : q.role ≡ 2 = number_is q.role 2 e in
    let no : is_app q ≡ false = grind (arith, nat_tests, role) in
    let known = is_known M.jobs q.number in
    elim (has_machine c q.number) as (λ b. ((is_agent q && b) || (is_app q && known)) ≡ true → b ≡ true) [
      | true ↦ λ _. refl
      | false ↦ λ t. let f : ((is_agent q && false) || (is_app q && known)) ≡ false = ap (λ x. (x && false) || (is_app q && known)) e ∙ ap (λ y. y && known) no in cc
    ] t

-- and else to applications
pub talks_app : (c : ClusterRecord) (M : Master) (q : Id) → talks c M q ≡ true → is_agent q ≡ false → is_app q ≡ true
talks_app c M q t other = by (is_app q) (sym (ap (λ b. (b && has_machine c q.number) || (is_app q && is_known M.jobs q.number)) other) ∙ t)
  where
    by : (b : Bool) → ((false && has_machine c q.number) || (b && is_known M.jobs q.number)) ≡ true → b ≡ true
    by true e = refl
    by false e = cc

told_ranged : (c : ClusterRecord) (net : Net Ledger) (M : Master) (h : Heard) (x : Packet) → talks c M x.from.id ≡ true → IsRangedMaster c M → IsRangedMaster c (told M h x.from.id (received c M net x))
told_ranged c net M h x t r =
    let n = x.from.id.number in
    let C = content net x in
    let D = counted c M.jobs n C in
    let M1 = meet_app h.fresh M n in
    elim (is_agent x.from.id) as (λ b. is_agent x.from.id ≡ b → IsRangedMaster c (cond b (cond (is_taken h.what) (take_report M n (cond b C D)) M) (cond (is_taken h.what) (take_demand M1 n (cond b C D)) M1))) [
      | true ↦ λ e. either (IsRangedMaster c) (is_taken h.what) (take_report M n C) M (λ _. reported_ranged c M n C (talks_machine c M x.from.id t e) r) (λ _. r)
      | false ↦ λ e.
          let r1 = meet_ranged c h.fresh M n r in
          let few : (u : ℕ) → nat_lt u (unit_count M1.jobs n) ≡ false → at_key D (want_key u) ≡ 0 = λ u k. counted_wants c M.jobs n u C (subst (λ js. nat_lt u (unit_count js n) ≡ false) (meet_jobs h.fresh M n) k) in
          either (IsRangedMaster c) (is_taken h.what) (take_demand M1 n D) M1 (λ _. demand_ranged c M1 n D few r1) (λ _. r1)
    ] refl

-- all running masters rest
pub record AllRest (c : ClusterRecord) (masters : List (ℕ × Master)) : Type 0 where
  pub rests : (e : ℕ) → Found (IsResting c) (find nat_cmp e masters)

-- those of a step
pub record StepRests (s : Step) : Type 0 where
  pub all : AllRest s.world.cluster s.world.masters

end_rests : (c : ClusterRecord) (masters : List (ℕ × Master)) (N : Master) → AllRest c masters → IsRangedMaster c N → AllRest c (with_ready c N masters)
end_rests c masters N s r = let R = ready c N in record { rests = λ e. put_found (IsResting c) R.epoch R masters e (ready_rests c N r) (s.rests e) }

stopped_rests : (c : ClusterRecord) (masters : List (ℕ × Master)) (e : ℕ) → AllRest c masters → AllRest c (where_key nat_cmp (λ k. not (nat_eq k e)) masters)
stopped_rests c masters e b = record {
  rests = λ q.
      subst (Found (IsResting c)) (sym (left_out e q masters))
      (elim (not (nat_eq q e)) as (λ t. Found (IsResting c) (cond t (find nat_cmp q masters) None)) [ true ↦ b.rests q | false ↦ record { has = λ x none. cc } ]);
}

new_ranged : (c : ClusterRecord) (h : HardState) (e : ℕ) → IsRangedMaster c (new_master h e)
new_ranged c h e = record { reported = λ m h. cc; wanted = λ a u h. refl }

job_ranged : (c : ClusterRecord) (M : Master) (j : JobRecord) → IsRangedMaster c M → IsRangedMaster c (record M { jobs = with_job j M.jobs })
job_ranged c M j r = record { reported = r.reported; wanted = λ a u h. r.wanted a u (more_units M.jobs j a u h) }

ended_ranged : (c : ClusterRecord) (M : Master) (a : ℕ) → IsRangedMaster c M → IsRangedMaster c (ended_in M a)
ended_ranged c M a r = record {
  reported = r.reported;
  wanted = λ b u h. put_wanted a b nothing M.demands (want_key u) (λ _. refl) (r.wanted b u (sym (ap (λ n. nat_lt u n) (ended_units M.jobs a b)) ∙ h));
}

same_ranged : (c : ClusterRecord) (M N : Master) → N.jobs ≡ M.jobs → N.demands ≡ M.demands → N.reported ≡ M.reported → IsRangedMaster c M → IsRangedMaster c N
same_ranged c M N jobs demands reported r = ranged_same c M N (record { jobs = jobs; demands = demands; reported = reported }) r

-- of a world
abbrev all_rest : ClusterRecord → HardState → List (ℕ × Master) → Type 0
all_rest = λ c _ masters. AllRest c masters

masters_rest : (c : ClusterRecord) (h : HardState) (masters : List (ℕ × Master)) → AllRest c masters → KeptBy all_rest (λ _. ⊤) c h masters
masters_rest c h masters b = record {
  starts = λ e _ _. end_rests c masters (new_master (raised h e) e) b (new_ranged c (raised h e) e);
  stops = λ e _. stopped_rests c masters e b;
  submits = λ e M j f _ _ _. end_rests c masters (record M { jobs = with_job (eight_places j) M.jobs }) b (job_ranged c M (eight_places j) (ranged e M f));
  finishes = λ e M a f _. end_rests c masters (ended_in M a) b (ended_ranged c M a (ranged e M f));
  bans = λ e M m f _. end_rests c masters (banned_in M m) b (same_ranged c M (banned_in M m) refl refl refl (ranged e M f));
  unbans = λ e M m f _. end_rests c masters (record M { bans = without_number m M.bans }) b (same_ranged c M (record M { bans = without_number m M.bans }) refl refl refl (ranged e M f));
  begins = λ e M f. end_rests c masters (record M { serving = true }) b (same_ranged c M (record M { serving = true }) refl refl refl (ranged e M f));
  preempts = λ e M p f _ _. end_rests c masters (preempted M p) b (same_ranged c M (preempted M p) refl refl refl (ranged e M f));
  hears = λ e M net x f t. let k = heard_of net (master_party M) (talks c M) x in end_rests c masters (told M k x.from.id (received c M net x)) b (told_ranged c net M k x t (ranged e M f));
}
  where
    ranged : (e : ℕ) (M : Master) → find nat_cmp e masters ≡ Some M → IsRangedMaster c M
    ranged e M f = ((b.rests e).has M f).ranged

-- each event
pub act_rests : (w : World) (e : Event) → AllRest w.cluster w.masters → StepRests (act w e)
act_rests w e b = record { all = (act_keeps all_rest (λ _. ⊤) masters_rest w e tt b).it }

-- in every state nothing is placeable in any running master
pub nothing_placeable : (c : ClusterRecord) (es : List Event) (e : ℕ) (M : Master) → find nat_cmp e (run c es).masters ≡ Some M → (a u m : ℕ) → placeable (run c es).cluster M a u m ≡ false
nothing_placeable c es e M found = (((run_keeps all_rest (λ _. ⊤) masters_rest es (empty_world c) (unasked es) (record { rests = λ q. record { has = λ x none. cc } })).it.rests e).has M found).settled
