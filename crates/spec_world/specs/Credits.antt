-- What is given back, and what masters credit of it.
use Rattle.std.specs.Prelude.{◌≡◌, ℕ, zero, suc, ◌+◌, ◌-◌, ◌≤◌, Bool, true, cond, nat_eq, nat_lt, ◌&&◌, List, [], ◌∷◌, length, take}
use Rattle.std.specs.List.{sum_by}
use Rattle.std.specs.Ordering.{nat_cmp}
use Rattle.std.specs.FinMap.Entries.{find}
use Rattle.fuxi_terms.specs.Cluster.{ClusterRecord}
use Rattle.fuxi_terms.specs.Keys.{key_cmp}
use Rattle.fuxi_terms.specs.Counts.{count}
use Rattle.spec_net.specs.Ledgers.{Ledger, nothing, at_key}
use Rattle.fuxi_terms.specs.TallyKeys.{credited_key, back_key}
use Rattle.spec_net.specs.Channels.{master_id, app_id, party}
use Rattle.spec_net.specs.Net.{at_index}
use Rattle.fuxi_terms.specs.Jobs.{is_live}
use Rattle.spec_roles.specs.Masters.{credited_of}
use Rattle.spec_world.specs.World.{World}
use Rattle.spec_roles.specs.MasterSteps.{master_party}
use Rattle.spec_roles.specs.Refusals.{with_found}
use Rattle.spec_world.specs.Events.{Event}
use Rattle.spec_world.specs.Runs.{run}

-- what an application gave back of a unit on a machine in its first n demands: each rise of the number from one to the next
abbrev pub given_back_by : List Ledger → ℕ → ℕ → ℕ → ℕ
given_back_by h u m zero = 0
given_back_by h u m (suc n) = given_back_by h u m n + (at_key (at_index nothing h (suc n)) (back_key u m) - at_key (at_index nothing h n) (back_key u m))

-- what the master of an epoch has credited to a boot of an application, where it runs and the job has not ended
abbrev pub credited_in : World → ℕ → ℕ → ℕ → ℕ → ℕ → ℕ
credited_in w a b u m e = with_found (find nat_cmp e w.masters) 0 (λ M.
    cond (is_live M.jobs a && nat_eq (w.net.links (master_party M) (app_id a)).known b) (count key_cmp (credited_of M a) (credited_key u m)) 0)

abbrev pub rises_from : ℕ → List ℕ → Bool
rises_from e [] = true
rises_from e (f ∷ fs) = nat_lt e f && rises_from f fs

-- A give-back is credited at most once. Each master is asked at a moment of its own, so that those that stopped count too: together
-- they credit no more than was given back
abbrev pub AllCreditedOnce : ClusterRecord → List Event → Type 0
AllCreditedOnce c events = (a b u m : ℕ) (moment : ℕ → ℕ) (epochs : List ℕ) → rises_from 0 epochs ≡ true
    → let h = (run c events).net.histories (party (app_id a) b) master_id in
    sum_by (λ e. credited_in (run c (take (moment e) events)) a b u m e) epochs ≤ given_back_by h u m (length h)
