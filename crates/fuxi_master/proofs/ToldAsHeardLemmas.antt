-- That what a master was told of demands is what it received is kept by each step.
use Rattle.std.proofs.Common.{◌≡◌, ℕ, ◌<◌, ◌≤◌, Bool, true, false, cond, not, nat_eq, List, [], ◌∷◌, length, Option, Some, refl, sym, ◌∙◌, ap, subst, arith}
use Rattle.std.specs.Prelude.{◌&&◌, ◌||◌}
use Rattle.std.specs.Option.{unwrap_or, option_map}
use Rattle.std.specs.Ordering.{nat_cmp}
use Rattle.std.specs.FinMap.Entries.{put, find, where_key}
use Rattle.fuxi_terms.specs.Cluster.{ClusterRecord, JobRecord}
use Rattle.fuxi_terms.specs.Jobs.{KnownJob, job_of, is_known, is_live}
use Rattle.fuxi_terms.specs.declared.Key.{Key}
use Rattle.fuxi_terms.specs.Counts.{count}
use Rattle.fuxi_terms.specs.Keys.{key_cmp}
use Rattle.fuxi_terms.specs.TallyKeys.{back_key, credited_key}
use Rattle.fuxi_terms.proofs.Booleans.{nat_itself, number_is, and_false, or_false, eq_turned}
use Rattle.spec_net.specs.Net.{Id}
use Rattle.spec_net.specs.Ledgers.{Ledger, nothing, at_key, tally_ledger}
use Rattle.spec_net.specs.Channels.{app_id}
use Rattle.spec_net.specs.Sides.{Side, new_side, resynced_side}
use Rattle.spec_roles.specs.HardState.{with_job, with_ended}
use Rattle.spec_roles.specs.Masters.{Master, demand_of, credited_of}
use Rattle.spec_roles.specs.Placing.{line_up}
use Rattle.spec_roles.specs.MasterSteps.{is_there, counted, credit, raise_credited, phased, ready, meet_app, take_demand, told_of, ended_in, is_one_of, peers}
use Rattle.spec_roles.specs.MasterRoles.{MasterRole, publish_alone, offers_alone, ends_alone, master_resynced}
use Rattle.fuxi_master.specs.Cores.{CoreRecord, StandsFor}
use Rattle.fuxi_master.specs.Commands.{changed_by, admitting}
use Rattle.fuxi_master.specs.Heard.{demanding}
use Rattle.fuxi_master.specs.ToldAsHeard.{IsToldAsHeard, IsHeardOnly}
use Rattle.fuxi_master.proofs.DemandTaken.{SameParts, credits_stay, demand_met, demand_stays, met_parts}
use Rattle.fuxi_master.proofs.CreditedAlready.{raised_covers}
use Rattle.fuxi_master.proofs.KnownJobs.{behind_other}
use Rattle.fuxi_master.proofs.Readied.{serving_same}
use Rattle.fuxi_master.proofs.PeersSides.{published_got, resynced_at}
use Rattle.fuxi_master.proofs.Told.{put_at}

-- the same jobs and demands, and the same received
pub told_alike : (but : ℕ → Bool) (c : ClusterRecord) (M N : Master) (sides after : Id → Side) → N.epoch ≡ M.epoch → N.jobs ≡ M.jobs → N.demands ≡ M.demands → N.credited ≡ M.credited → ((a : ℕ) → (after (app_id a)).got ≡ (sides (app_id a)).got)
    → IsToldAsHeard but (record { cluster = c; state = M; sides = sides }) → IsToldAsHeard but (record { cluster = c; state = N; sides = after })
told_alike but c M N sides after epoch jobs demands credited got t = record {
  told = λ a off live head.
      ap (λ ds. unwrap_or (find nat_cmp a ds) nothing) demands
      ∙ t.told a off (ap (λ js. is_live js a) (sym jobs) ∙ live) (ap (λ (l : Ledger). l.head) (sym (got a)) ∙ head ∙ epoch)
      ∙ (λ i. counted c (sym jobs i) a (sym (got a) i));
  credits = λ a u m off.
      subst (λ (ds : List (ℕ × Ledger)). at_key (unwrap_or (find nat_cmp a ds) nothing) (back_key u m) ≤ count key_cmp (credited_of N a) (credited_key u m)) (sym demands)
      (subst (λ (cs : List (ℕ × List (Key × ℕ))). at_key (demand_of M a) (back_key u m) ≤ count key_cmp (unwrap_or (find nat_cmp a cs) []) (credited_key u m)) (sym credited) (t.credits a u m off));
}

-- the end of a step
pub told_ends : (but : ℕ → Bool) (r : MasterRole) (even_if_equal : List Id) → IsToldAsHeard but r → IsToldAsHeard but (ends_alone r.cluster r.sides r.state even_if_equal)
told_ends but r even_if_equal t =
    let c = r.cluster in
    let L = line_up (phased c r.state) in
    let same = serving_same c L in
    told_alike but c r.state (ready c r.state) r.sides (publish_alone r.sides (offers_alone c r.sides (ready c r.state) even_if_equal)) same.epoch same.jobs same.demands same.credited
    (λ a. published_got (offers_alone c r.sides (ready c r.state) even_if_equal) r.sides (app_id a)) t

-- a resync
pub told_resynced : (r : MasterRole) → IsToldAsHeard (λ _. false) r → IsToldAsHeard (λ _. false) (master_resynced r)
told_resynced r t = told_alike (λ _. false) r.cluster r.state r.state r.sides (master_resynced r).sides refl refl refl refl
    (λ a. ap (λ (e : Side). e.got) (resynced_at (peers r.cluster r.state) r.sides (app_id a)) ∙ by (is_one_of (app_id a) (peers r.cluster r.state)) (r.sides (app_id a))) t
  where
    by : (b : Bool) (e : Side) → (cond b (resynced_side e) e).got ≡ e.got
    by true e = refl
    by false e = refl

-- a start: nothing was received
pub told_first : (c : ClusterRecord) (M : Master) (even_if_equal : List Id) → 0 < M.epoch → M.demands ≡ [] → IsToldAsHeard (λ _. false) (ends_alone c (λ q. new_side) M even_if_equal)
told_first c M even_if_equal positive none = told_ends (λ _. false) (record { cluster = c; state = M; sides = λ q. new_side }) even_if_equal
    (record {
      told = λ a off live head. absurd (let zero : 0 ≡ M.epoch = head in omega (arith, positive, zero));
      credits = λ a u m off. subst (λ (ds : List (ℕ × Ledger)). at_key (unwrap_or (find nat_cmp a ds) nothing) (back_key u m) ≤ count key_cmp (credited_of M a) (credited_key u m)) (sym none) (omega arith);
    })

-- what counts of a demand is told by the job
abbrev counted_of : ClusterRecord → Option KnownJob → Ledger → Ledger
counted_of c o d = tally_ledger d.head (where_key key_cmp (is_there c (length (unwrap_or (option_map (λ (k : KnownJob). k.job.units) o) []))) d.entries)

-- a job more, of which nothing was received
pub told_admitted : (x : CoreRecord) → 0 < x.epoch → (j : JobRecord) → is_known x.known.jobs j.number ≡ false → (r : MasterRole) → StandsFor x r → IsToldAsHeard (λ _. false) r → IsToldAsHeard (λ _. false) (changed_by (admitting j) r)
told_admitted x positive j unknown r h t = record {
  told = λ a off live head. elim (nat_eq j.number a) as (λ b. nat_eq j.number a ≡ b → demand_of r.state a ≡ counted r.cluster (with_job j r.state.jobs) a (r.sides (app_id a)).got) [
    | true ↦ λ e.
        let n = number_is j.number a e in
        let new : r.sides (app_id a) ≡ new_side = h.stands.unheard a (ap (is_known x.known.jobs) (sym n) ∙ unknown) in
        let bare : 0 ≡ r.state.epoch = ap (λ (s : Side). s.got.head) (sym new) ∙ head in
        let epoch = h.stands.epoch in
        absurd (omega (arith, positive, bare, epoch))
    | false ↦ λ e.
        let same = behind_other j r.state.jobs a e in
        t.told a off (ap (λ (o : Option KnownJob). unwrap_or (option_map (λ (k : KnownJob). not k.ended) o) false) (sym same) ∙ live) head
        ∙ ap (λ (o : Option KnownJob). counted_of r.cluster o (r.sides (app_id a)).got) (sym same)
  ] refl;
  credits = t.credits;
}

-- a job that ends: others are as before
other_at_end : (a b : ℕ) → nat_eq a b ≡ false → (js : List KnownJob) → job_of (with_ended a js) b ≡ job_of js b
other_at_end a b off [] = refl
other_at_end a b off (j ∷ js) = elim (nat_eq j.job.number a) as (λ t. nat_eq j.job.number a ≡ t → cond (nat_eq (cond t (record { job = j.job; ended = true }) j).job.number b) (Some (cond t (record { job = j.job; ended = true }) j)) (job_of (with_ended a js) b) ≡ cond (nat_eq j.job.number b) (Some j) (job_of js b)) [
  | true ↦ λ e.
      let far : nat_eq j.job.number b ≡ false = ap (λ n. nat_eq n b) (number_is j.job.number a e) ∙ off in
      ap (λ t. cond t (Some (record { job = j.job; ended = true })) (job_of (with_ended a js) b)) far ∙ other_at_end a b off js ∙ ap (λ t. cond t (Some j) (job_of js b)) (sym far)
  | false ↦ λ _. ap (cond (nat_eq j.job.number b) (Some j)) (other_at_end a b off js)
] refl

dead_at_end : (a : ℕ) (js : List KnownJob) → is_live (with_ended a js) a ≡ false
dead_at_end a [] = refl
dead_at_end a (j ∷ js) = elim (nat_eq j.job.number a) as (λ t. nat_eq j.job.number a ≡ t → unwrap_or (option_map (λ (k : KnownJob). not k.ended) (cond (nat_eq (cond t (record { job = j.job; ended = true }) j).job.number a) (Some (cond t (record { job = j.job; ended = true }) j)) (job_of (with_ended a js) a))) false ≡ false) [
  | true ↦ λ e. ap (λ t. unwrap_or (option_map (λ (k : KnownJob). not k.ended) (cond t (Some (record { job = j.job; ended = true })) (job_of (with_ended a js) a))) false) e
  | false ↦ λ e. ap (λ t. unwrap_or (option_map (λ (k : KnownJob). not k.ended) (cond t (Some j) (job_of (with_ended a js) a))) false) e ∙ dead_at_end a js
] refl

pub told_ended : (a : ℕ) (r : MasterRole) → IsToldAsHeard (λ _. false) r → IsToldAsHeard (λ _. false) (changed_by (λ M. ended_in M a) r)
told_ended a r t = record {
  told = λ b off live head. elim (nat_eq a b) as (λ q. nat_eq a b ≡ q → demand_of (ended_in r.state a) b ≡ counted r.cluster (with_ended a r.state.jobs) b (r.sides (app_id b)).got) [
    | true ↦ λ e. absurd (let f : true ≡ false = sym live ∙ ap (is_live (with_ended a r.state.jobs)) (sym (number_is a b e)) ∙ dead_at_end a r.state.jobs in cc)
    | false ↦ λ e.
        let same = other_at_end a b e r.state.jobs in
        put_at a b nothing nothing r.state.demands ∙ ap (λ q. cond q nothing (demand_of r.state b)) e
        ∙ t.told b off (ap (λ (o : Option KnownJob). unwrap_or (option_map (λ (k : KnownJob). not k.ended) o) false) (sym same) ∙ live) head
        ∙ ap (λ (o : Option KnownJob). counted_of r.cluster o (r.sides (app_id b)).got) (sym same)
  ] refl;
  credits = λ b u m off. subst (λ (d : Ledger). at_key d (back_key u m) ≤ count key_cmp (credited_of r.state b) (credited_key u m)) (sym (put_at a b nothing nothing r.state.demands))
      (elim (nat_eq a b) as (λ q. at_key (cond q nothing (demand_of r.state b)) (back_key u m) ≤ count key_cmp (credited_of r.state b) (credited_key u m)) [ true ↦ omega arith | false ↦ t.credits b u m off ]);
}

-- what came of an application is taken
module _ (a : ℕ) (fresh taken : Bool) (r : MasterRole) (only : IsHeardOnly a fresh taken r) where
  abbrev M : Master
  M = r.state

  abbrev D : Ledger
  D = counted r.cluster M.jobs a (r.sides (app_id a)).got

  abbrev met : Master
  met = meet_app fresh M a

  abbrev after : Master
  after = told_of M fresh taken (app_id a) D

  -- another job asks as before
  put_other : (b : ℕ) → nat_eq a b ≡ false → (l : Ledger) → unwrap_or (find nat_cmp b (put nat_cmp a l met.demands)) nothing ≡ demand_of M b
  put_other b off l = put_at a b l nothing met.demands ∙ ap (λ q. cond q l (demand_of met b)) off ∙ demand_stays fresh M a b off

  other_asks : (b : ℕ) → nat_eq a b ≡ false → demand_of after b ≡ demand_of M b
  other_asks b off = elim taken as (λ t. demand_of (cond t (take_demand met a D) met) b ≡ demand_of M b) [
    | true ↦ elim (nat_eq D.head met.epoch && is_live met.jobs a) as (λ q. demand_of (cond q (record met { demands = put nat_cmp a D met.demands; table = credit a (credited_of met a) D.entries met.table; credited = put nat_cmp a (raise_credited (credited_of met a) D.entries) met.credited }) (record met { demands = put nat_cmp a nothing met.demands })) b ≡ demand_of M b) [
      | true ↦ put_other b off D
      | false ↦ put_other b off nothing
    ]
    | false ↦ demand_stays fresh M a b off
  ]

  -- the job itself asks what was received, where that counts
  itself_asks : (fresh || taken) ≡ true → is_live M.jobs a ≡ true → (r.sides (app_id a)).got.head ≡ M.epoch → demand_of after a ≡ D
  itself_asks told live head = elim taken as (λ t. taken ≡ t → demand_of (cond t (take_demand met a D) met) a ≡ D) [
    | true ↦ λ _.
        let parts = met_parts fresh M a in
        let counts : (nat_eq D.head met.epoch && is_live met.jobs a) ≡ true =
        (λ i. nat_eq (head i) (parts.epoch i) && is_live (parts.jobs i) a) ∙ (λ i. nat_itself M.epoch i && live i) in
        ap (λ q. demand_of (cond q (record met { demands = put nat_cmp a D met.demands; table = credit a (credited_of met a) D.entries met.table; credited = put nat_cmp a (raise_credited (credited_of met a) D.entries) met.credited }) (record met { demands = put nat_cmp a nothing met.demands })) a) counts
        ∙ put_at a a D nothing met.demands ∙ ap (λ q. cond q D (demand_of met a)) (nat_itself a)
    | false ↦ λ t. absurd (only.bare (sym (or_false fresh) ∙ ap (λ q. fresh || q) (sym t) ∙ told) t head)
  ] refl

  same_after : SameParts M after
  same_after =
      let parts = met_parts fresh M a in
      elim taken as (λ t. SameParts M (cond t (take_demand met a D) met)) [
        | true ↦ elim (nat_eq D.head met.epoch && is_live met.jobs a) as (λ q. SameParts M (cond q (record met { demands = put nat_cmp a D met.demands; table = credit a (credited_of met a) D.entries met.table; credited = put nat_cmp a (raise_credited (credited_of met a) D.entries) met.credited }) (record met { demands = put nat_cmp a nothing met.demands }))) [
          | true ↦ record { epoch = parts.epoch; jobs = parts.jobs; bans = parts.bans; serving = parts.serving; reported = parts.reported }
          | false ↦ record { epoch = parts.epoch; jobs = parts.jobs; bans = parts.bans; serving = parts.serving; reported = parts.reported }
        ]
        | false ↦ parts
      ]

  -- another job is credited as before
  other_credits : (b : ℕ) → nat_eq a b ≡ false → credited_of after b ≡ credited_of M b
  other_credits b off = elim taken as (λ t. credited_of (cond t (take_demand met a D) met) b ≡ credited_of M b) [
    | true ↦ elim (nat_eq D.head met.epoch && is_live met.jobs a) as (λ q. credited_of (cond q (record met { demands = put nat_cmp a D met.demands; table = credit a (credited_of met a) D.entries met.table; credited = put nat_cmp a (raise_credited (credited_of met a) D.entries) met.credited }) (record met { demands = put nat_cmp a nothing met.demands })) b ≡ credited_of M b) [
      | true ↦ put_at a b (raise_credited (credited_of met a) D.entries) [] met.credited ∙ ap (λ q. cond q (raise_credited (credited_of met a) D.entries) (credited_of met b)) off ∙ credits_stay fresh M a b off
      | false ↦ credits_stay fresh M a b off
    ]
    | false ↦ credits_stay fresh M a b off
  ]

  -- what the job itself gives back is credited: the demand that counts, or none
  itself_credits : (fresh || taken) ≡ true → (u m : ℕ) → at_key (demand_of after a) (back_key u m) ≤ count key_cmp (credited_of after a) (credited_key u m)
  itself_credits told u m = elim taken as (λ t. taken ≡ t → Paid (cond t (take_demand met a D) met)) [
    | true ↦ λ _. elim (nat_eq D.head met.epoch && is_live met.jobs a) as (λ q. Paid (cond q (record met { demands = put nat_cmp a D met.demands; table = credit a (credited_of met a) D.entries met.table; credited = put nat_cmp a (raise_credited (credited_of met a) D.entries) met.credited }) (record met { demands = put nat_cmp a nothing met.demands }))) [
      | true ↦
          subst (λ (d : Ledger). at_key d (back_key u m) ≤ count key_cmp (unwrap_or (find nat_cmp a (put nat_cmp a (raise_credited (credited_of met a) D.entries) met.credited)) []) (credited_key u m)) (sym (itself D nothing met.demands))
          (subst (λ cs. at_key D (back_key u m) ≤ count key_cmp cs (credited_key u m)) (sym (itself (raise_credited (credited_of met a) D.entries) [] met.credited)) (raised_covers (credited_of met a) D.entries u m))
      | false ↦ subst (λ (d : Ledger). at_key d (back_key u m) ≤ count key_cmp (credited_of met a) (credited_key u m)) (sym (itself nothing nothing met.demands)) (omega arith)
    ]
    | false ↦ λ t.
        let new : fresh ≡ true = sym (or_false fresh) ∙ ap (λ q. fresh || q) (sym t) ∙ told in
        let none : demand_of met a ≡ nothing = demand_met fresh M a a ∙ (λ i. cond (new i && nat_itself a i) nothing (demand_of M a)) in
        subst (λ (d : Ledger). at_key d (back_key u m) ≤ count key_cmp (credited_of met a) (credited_key u m)) (sym none) (omega arith)
  ] refl
    where
      Paid : Master → Type 0
      Paid N = at_key (demand_of N a) (back_key u m) ≤ count key_cmp (credited_of N a) (credited_key u m)

      itself : {X : Type 0} (v none : X) (xs : List (ℕ × X)) → unwrap_or (find nat_cmp a (put nat_cmp a v xs)) none ≡ v
      itself v none xs = put_at a a v none xs ∙ ap (λ q. cond q v (unwrap_or (find nat_cmp a xs) none)) (nat_itself a)

  pub told_demanding : (fresh || taken) ≡ true → IsToldAsHeard (λ _. false) (demanding fresh taken r a)
  told_demanding told = record {
    told = λ b _ live head.
        let jobs = same_after.jobs in
        let epoch = same_after.epoch in
        let lives : is_live M.jobs b ≡ true = ap (λ js. is_live js b) (sym jobs) ∙ live in
        let now : (r.sides (app_id b)).got.head ≡ M.epoch = head ∙ epoch in
        (elim (nat_eq a b) as (λ q. nat_eq a b ≡ q → demand_of after b ≡ counted r.cluster M.jobs b (r.sides (app_id b)).got) [
          | true ↦ λ e.
              let n = number_is a b e in
              subst (λ (k : ℕ). demand_of after k ≡ counted r.cluster M.jobs k (r.sides (app_id k)).got) n
              (itself_asks told (subst (λ (k : ℕ). is_live M.jobs k ≡ true) (sym n) lives) (subst (λ (k : ℕ). (r.sides (app_id k)).got.head ≡ M.epoch) (sym n) now))
          | false ↦ λ e. other_asks b e ∙ only.others.told b (ap (λ q. (fresh || taken) && q) (eq_turned b a ∙ e) ∙ and_false (fresh || taken)) lives now
        ] refl) ∙ ap (λ js. counted r.cluster js b (r.sides (app_id b)).got) (sym jobs);
    credits = λ b u m _. elim (nat_eq a b) as (λ q. nat_eq a b ≡ q → at_key (demand_of after b) (back_key u m) ≤ count key_cmp (credited_of after b) (credited_key u m)) [
      | true ↦ λ e. subst (λ (k : ℕ). at_key (demand_of after k) (back_key u m) ≤ count key_cmp (credited_of after k) (credited_key u m)) (number_is a b e) (itself_credits told u m)
      | false ↦ λ e.
          subst (λ (d : Ledger). at_key d (back_key u m) ≤ count key_cmp (credited_of after b) (credited_key u m)) (sym (other_asks b e))
          (subst (λ (cs : List (Key × ℕ)). at_key (demand_of M b) (back_key u m) ≤ count key_cmp cs (credited_key u m)) (sym (other_credits b e))
          (only.others.credits b u m (ap (λ q. (fresh || taken) && q) (eq_turned b a ∙ e) ∙ and_false (fresh || taken))))
    ] refl;
  }
