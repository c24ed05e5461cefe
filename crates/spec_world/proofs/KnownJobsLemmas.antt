-- Jobs that are submitted or end stay known, with their units.
use Rattle.std.proofs.Common.{◌≡◌, ℕ, Bool, true, false, cond, not, nat_eq, List, [], ◌∷◌, Some, None, refl, sym, ◌∙◌, ap, subst}
use Rattle.std.specs.Prelude.{is_some}
use Rattle.std.specs.Option.{option_map, unwrap_or}
use Rattle.fuxi_terms.specs.Cluster.{JobRecord}
use Rattle.fuxi_terms.specs.Keys.{key_cmp}
use Rattle.fuxi_terms.specs.Counts.{count}
use Rattle.spec_net.specs.Net.{Net, at_index}
use Rattle.spec_net.specs.Ledgers.{Ledger, nothing, at_key}
use Rattle.fuxi_terms.specs.TallyKeys.{credited_key, back_key}
use Rattle.spec_net.specs.Channels.{master_id, app_id, party}
use Rattle.fuxi_terms.specs.Jobs.{KnownJob, job_of, is_known, is_live, units_of}
use Rattle.spec_roles.specs.Masters.{Master, credited_of}
use Rattle.spec_roles.specs.HardState.{with_job, with_ended}
use Rattle.spec_roles.specs.MasterSteps.{master_party, ended_in}
use Rattle.spec_world.specs.Good.{IsCredited, KnowsMore}
use Rattle.fuxi_terms.proofs.Booleans.{number_is}

-- A job behind the others
pub old_job : (jobs : List KnownJob) (j : JobRecord) (a : ℕ) → is_known jobs a ≡ true → job_of (with_job j jobs) a ≡ job_of jobs a
old_job [] j a e = cc
old_job (k ∷ ks) j a e = elim (nat_eq k.job.number a) as (λ b. is_some (cond b (Some k) (job_of ks a)) ≡ true → cond b (Some k) (job_of (with_job j ks) a) ≡ cond b (Some k) (job_of ks a)) [ true ↦ λ _. refl | false ↦ λ e. old_job ks j a e ] e

abbrev new_of : JobRecord → KnownJob
new_of j = record { job = j; ended = false }

new_job : (jobs : List KnownJob) (j : JobRecord) (a : ℕ) → is_known jobs a ≡ false → job_of (with_job j jobs) a ≡ cond (nat_eq j.number a) (Some (record { job = j; ended = false })) None
new_job [] j a e = refl
new_job (k ∷ ks) j a e = elim (nat_eq k.job.number a) as (λ b. is_some (cond b (Some k) (job_of ks a)) ≡ false → cond b (Some k) (job_of (with_job j ks) a) ≡ cond (nat_eq j.number a) (Some (record { job = j; ended = false })) None) [ true ↦ λ e. cc | false ↦ λ e. new_job ks j a e ] e

-- a submitted job
pub job_added : (jobs : List KnownJob) (j : JobRecord) → KnowsMore jobs (with_job j jobs)
job_added jobs j = record { known = λ a k. let same = old_job jobs j a k in (ap is_some same ∙ k, ap (λ o. unwrap_or (option_map (λ (j : KnownJob). j.job.units) o) []) same) }

-- the same new job behind both
pub both_added : (jobs jobs' : List KnownJob) (j : JobRecord) → is_known jobs' j.number ≡ false → KnowsMore jobs jobs' → KnowsMore (with_job j jobs) (with_job j jobs')
both_added jobs jobs' j new more = record { known = λ a k. by a (is_known jobs a) refl k }
  where
    by : (a : ℕ) (b : Bool) → is_known jobs a ≡ b → is_known (with_job j jobs) a ≡ true → (is_known (with_job j jobs') a ≡ true) × (units_of (with_job j jobs') a ≡ units_of (with_job j jobs) a)
    by a true e k =
        let m = more.known a e in
        let here = old_job jobs j a e in
        let there = old_job jobs' j a m.0 in
        (ap is_some there ∙ m.0, ap (λ o. unwrap_or (option_map (λ (j : KnownJob). j.job.units) o) []) there ∙ m.1 ∙ sym (ap (λ o. unwrap_or (option_map (λ (j : KnownJob). j.job.units) o) []) here))
    by a false e k =
        let here = new_job jobs j a e in
        let same : j.number ≡ a = number_of (nat_eq j.number a) refl (sym (ap is_some here) ∙ k) in
        let there = new_job jobs' j a (subst (λ n. is_known jobs' n ≡ false) same new) in
        (ap is_some there ∙ sym (ap is_some here) ∙ k, ap (λ o. unwrap_or (option_map (λ (j : KnownJob). j.job.units) o) []) (there ∙ sym here))
      where
        number_of : (b : Bool) → nat_eq j.number a ≡ b → is_some (cond b (Some (new_of j)) None) ≡ true → j.number ≡ a
        number_of true t s = number_is j.number a t
        number_of false t s = cc

-- a job that was not known has no place and nothing credited
pub added_credited : (net : Net Ledger) (M : Master) (j : JobRecord) → IsCredited net M → IsCredited net (record M { jobs = with_job j M.jobs })
added_credited net M j h = record {
  credits = λ a alive u m. by a (is_known M.jobs a) refl alive u m;
  stranger = λ a none. h.stranger a (before a none);
  uncredited = λ a none. h.uncredited a (before a none);
}
  where
    by : (a : ℕ) (b : Bool) → is_known M.jobs a ≡ b → is_live (with_job j M.jobs) a ≡ true → (u m : ℕ) → count key_cmp (credited_of M a) (credited_key u m) ≡ at_key (at_index nothing (net.histories (party (app_id a) (net.links (master_party M) (app_id a)).known) master_id) (net.links (master_party M) (app_id a)).seq) (back_key u m)
    by a true e alive u m = h.credits a (sym (ap (λ o. unwrap_or (option_map (λ (j : KnownJob). not j.ended) o) false) (old_job M.jobs j a e)) ∙ alive) u m
    by a false e alive u m =
        ap (λ cs. count key_cmp cs (credited_key u m)) (h.uncredited a e)
        ∙ sym (ap (λ n. at_key (at_index nothing (net.histories (party (app_id a) (net.links (master_party M) (app_id a)).known) master_id) n) (back_key u m)) (h.stranger a e))

    before : (a : ℕ) → is_known (with_job j M.jobs) a ≡ false → is_known M.jobs a ≡ false
    before a none = at (is_known M.jobs a) refl
      where
        at : (b : Bool) → is_known M.jobs a ≡ b → is_known M.jobs a ≡ false
        at false e = e
        at true e = let yes : is_known (with_job j M.jobs) a ≡ true = ap is_some (old_job M.jobs j a e) ∙ e in cc

-- A job that ends
ended_known : (a : ℕ) (jobs : List KnownJob) (b : ℕ) → is_known (with_ended a jobs) b ≡ is_known jobs b
ended_known a [] b = refl
ended_known a (k ∷ ks) b = elim (nat_eq k.job.number a) as (λ t. is_some (let k' : KnownJob = cond t (record { job = k.job; ended = true }) k in cond (nat_eq k'.job.number b) (Some k') (job_of (with_ended a ks) b)) ≡ is_some (cond (nat_eq k.job.number b) (Some k) (job_of ks b))) [
  | true ↦ one (ended_known a ks b) (nat_eq k.job.number b) (record { job = k.job; ended = true })
  | false ↦ one (ended_known a ks b) (nat_eq k.job.number b) k
]
  where
    one : is_known (with_ended a ks) b ≡ is_known ks b → (s : Bool) (x : KnownJob) → is_some (cond s (Some x) (job_of (with_ended a ks) b)) ≡ is_some (cond s (Some k) (job_of ks b))
    one before true x = refl
    one before false x = before

ended_live : (a : ℕ) (jobs : List KnownJob) (b : ℕ) → is_live (with_ended a jobs) b ≡ true → is_live jobs b ≡ true
ended_live a [] b e = e
ended_live a (k ∷ ks) b e = elim (nat_eq k.job.number a) as (λ t. unwrap_or (option_map (λ (j : KnownJob). not j.ended) (let k' : KnownJob = cond t (record { job = k.job; ended = true }) k in cond (nat_eq k'.job.number b) (Some k') (job_of (with_ended a ks) b))) false ≡ true
    → unwrap_or (option_map (λ (j : KnownJob). not j.ended) (cond (nat_eq k.job.number b) (Some k) (job_of ks b))) false ≡ true) [
      | true ↦ λ e. now (ended_live a ks b) (nat_eq k.job.number b) e
      | false ↦ λ e. other (ended_live a ks b) (nat_eq k.job.number b) e
    ] e
  where
    now : (is_live (with_ended a ks) b ≡ true → is_live ks b ≡ true) → (s : Bool) → unwrap_or (option_map (λ (j : KnownJob). not j.ended) (cond s (Some (record { job = k.job; ended = true })) (job_of (with_ended a ks) b))) false ≡ true → unwrap_or (option_map (λ (j : KnownJob). not j.ended) (cond s (Some k) (job_of ks b))) false ≡ true
    now before true e = cc
    now before false e = before e

    other : (is_live (with_ended a ks) b ≡ true → is_live ks b ≡ true) → (s : Bool) → unwrap_or (option_map (λ (j : KnownJob). not j.ended) (cond s (Some k) (job_of (with_ended a ks) b))) false ≡ true → unwrap_or (option_map (λ (j : KnownJob). not j.ended) (cond s (Some k) (job_of ks b))) false ≡ true
    other before true e = e
    other before false e = before e

-- a job that ends keeps its units
pub ended_units_of : (a : ℕ) (jobs : List KnownJob) (b : ℕ) → units_of (with_ended a jobs) b ≡ units_of jobs b
ended_units_of a [] b = refl
ended_units_of a (k ∷ ks) b = elim (nat_eq k.job.number a) as (λ t. unwrap_or (option_map (λ (j : KnownJob). j.job.units) (let k' : KnownJob = cond t (record { job = k.job; ended = true }) k in cond (nat_eq k'.job.number b) (Some k') (job_of (with_ended a ks) b))) [] ≡ units_of (k ∷ ks) b) [
  | true ↦ one (ended_units_of a ks b) (nat_eq k.job.number b) (record { job = k.job; ended = true }) refl
  | false ↦ one (ended_units_of a ks b) (nat_eq k.job.number b) k refl
]
  where
    one : units_of (with_ended a ks) b ≡ units_of ks b → (s : Bool) (x : KnownJob) → x.job.units ≡ k.job.units → unwrap_or (option_map (λ (j : KnownJob). j.job.units) (cond s (Some x) (job_of (with_ended a ks) b))) [] ≡ unwrap_or (option_map (λ (j : KnownJob). j.job.units) (cond s (Some k) (job_of ks b))) []
    one before true x e = e
    one before false x e = before

-- and stays known
pub ended_knows : (a : ℕ) (jobs jobs' : List KnownJob) → KnowsMore jobs jobs' → KnowsMore jobs (with_ended a jobs')
ended_knows a jobs jobs' more = record { known = λ b k. let m = more.known b k in (ended_known a jobs' b ∙ m.0, ended_units_of a jobs' b ∙ m.1) }

-- in two lists
pub both_ended : (a : ℕ) (jobs jobs' : List KnownJob) → KnowsMore jobs jobs' → KnowsMore (with_ended a jobs) (with_ended a jobs')
both_ended a jobs jobs' more = record { known = λ b k. let m = more.known b (sym (ended_known a jobs b) ∙ k) in (ended_known a jobs' b ∙ m.0, ended_units_of a jobs' b ∙ m.1 ∙ sym (ended_units_of a jobs b)) }

-- and what was credited to it
pub ended_credited : (net : Net Ledger) (M : Master) (a : ℕ) → IsCredited net M → IsCredited net (ended_in M a)
ended_credited net M a h = record {
  credits = λ b alive u m. h.credits b (ended_live a M.jobs b alive) u m;
  stranger = λ b none. h.stranger b (sym (ended_known a M.jobs b) ∙ none);
  uncredited = λ b none. h.uncredited b (sym (ended_known a M.jobs b) ∙ none);
}
