-- A core whose table, knowledge or phase changed stands for the master with that state.
use Rattle.std.proofs.Common.{◌≡◌, ℕ, Bool, true, false, cond, nat_eq, List, [], Some, slice_get, refl, sym, ◌∙◌, ap}
use Rattle.std.specs.Option.{unwrap_or}
use Rattle.std.specs.Ordering.{nat_cmp}
use Rattle.std.specs.FinMap.Entries.{put, find, find-put}
use Rattle.std.proofs.lemmas.Cmp.{nat_cmp_total}
use Rattle.fuxi_terms.specs.declared.Key.{Key}
use Rattle.fuxi_terms.specs.Jobs.{is_known}
use Rattle.hard_state.specs.Knowledge.{Knowledge}
use Rattle.failover.specs.Reported.{Reported}
use Rattle.spec_roles.specs.Masters.{Master, credited_of}
use Rattle.spec_roles.specs.MasterRoles.{MasterRole}
use Rattle.allotment.specs.Allotted.{AllotmentRecord, Allots}
use Rattle.ledger_updates.specs.AllShown.{App}
use Rattle.fuxi_master.specs.Cores.{CoreRecord, IsTidy, StandsWith, StandsFor}
use Rattle.fuxi_terms.proofs.NumbersLemmas.{same_number}

-- what a job has in a list by job, after one is put
pub put_at : {X : Type 0} (a b : ℕ) (v : X) (none : X) (xs : List (ℕ × X)) → unwrap_or (find nat_cmp b (put nat_cmp a v xs)) none ≡ cond (nat_eq a b) v (unwrap_or (find nat_cmp b xs) none)
put_at {X} a b v none xs = ap (λ o. unwrap_or o none) (find-put nat_cmp nat_cmp_total b a v xs) ∙ ap (λ t. unwrap_or (cond t (Some v) (find nat_cmp b xs)) none) (same_number a b) ∙ split (nat_eq a b)
  where
    split : (t : Bool) → unwrap_or (cond t (Some v) (find nat_cmp b xs)) none ≡ cond t v (unwrap_or (find nat_cmp b xs) none)
    split true = refl
    split false = refl

-- what a master has become, beside its table, demands and line
pub record IsTold (known : Knowledge) (serving : Bool) (reported : Reported) (M N : Master) : Type 0 where
  pub epoch : N.epoch ≡ M.epoch
  pub jobs : N.jobs ≡ known.jobs
  pub bans : N.bans ≡ known.bans
  pub serving_is : N.serving ≡ serving
  pub reported_is : N.reported ≡ reported.numbers

pub stands_told : (credited : ℕ → App → List (Key × ℕ)) (x : CoreRecord) (z : AllotmentRecord) (known : Knowledge) (serving : Bool) (reported : Reported) (r : MasterRole) → StandsFor x r → (N : Master)
    → z.table.cluster ≡ x.allotment.table.cluster → IsTold known serving reported r.state N → ((b : ℕ) → is_known known.jobs b ≡ is_known x.known.jobs b) → Allots z r.cluster N → IsTidy N
    → ((b : ℕ) (d : App) → slice_get x.apps b ≡ Some (Some d) → credited_of N b ≡ credited b d) → ((b : ℕ) → is_known x.known.jobs b ≡ false → credited_of N b ≡ [])
    → StandsWith credited (record x { known = known; serving = serving; reported = reported; allotment = z }) (record { cluster = r.cluster; state = N; sides = r.sides })
stands_told credited x z known serving reported r h N cluster told same allots tidy credits uncredited = record {
  cluster = cluster ∙ h.stands.cluster;
  epoch = told.epoch ∙ h.stands.epoch;
  jobs = told.jobs;
  bans = told.bans;
  serving = told.serving_is;
  reported = told.reported_is;
  allots = allots;
  tidy = tidy;
  agents = h.stands.agents;
  apps = h.stands.apps;
  credited = credits;
  unheard = λ a e. h.stands.unheard a (sym (same a) ∙ e);
  uncredited = λ a e. uncredited a (sym (same a) ∙ e);
}
