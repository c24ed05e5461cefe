-- A banned machine stays bare.
use Rattle.std.proofs.Common.{◌≡◌, ℕ, zero, suc, ◌+◌, Bool, true, false, cond, not, nat_eq, List, Some, None, Ok, refl, ◌∙◌, ap, arith}
use Rattle.std.specs.Prelude.{◌&&◌}
use Rattle.std.specs.Ordering.{nat_cmp, eq_by_cmp}
use Rattle.std.specs.FinMap.Entries.{put}
use Rattle.fuxi_terms.specs.Cluster.{ClusterRecord}
use Rattle.fuxi_terms.specs.Counts.{count}
use Rattle.fuxi_terms.specs.Jobs.{is_live}
use Rattle.fuxi_terms.specs.Keys.{Spot, spot_cmp}
use Rattle.fuxi_terms.specs.Numbers.{has_number, with_number}
use Rattle.fuxi_terms.specs.Tables.{spot, with_grant, without_grants, Table}
use Rattle.fuxi_terms.proofs.Booleans.{both_true, either, number_is}
use Rattle.fuxi_terms.proofs.CountsLemmas.{tied}
use Rattle.fuxi_terms.proofs.KeyOrders.{same_spot}
use Rattle.spec_net.specs.Net.{Id}
use Rattle.spec_net.specs.Ledgers.{Ledger, nothing}
use Rattle.spec_roles.specs.HardState.{HardState}
use Rattle.spec_roles.specs.Masters.{Master, credited_of}
use Rattle.spec_roles.specs.MasterSteps.{phased, ready, adopted, credit, raise_credited, take_demand, meet_app, told_of, new_master, MasterChange, Changed, change_of}
use Rattle.spec_roles.specs.Placing.{first_placeable, granted, settle, settled, all_out, line_up, placeable, may_grow, accepts, has_room, is_usable}
use Rattle.spec_roles.specs.Preemption.{Plan}
use Rattle.spec_roles.specs.Transitions.{IsBare}
use Rattle.spec_roles.proofs.MapLemmas.{with_back, without_back}
use Rattle.spec_roles.proofs.PlacingEnds.{is_placeable}
use Rattle.spec_roles.proofs.TransitionsLemmas.{EachChange, changed_has, EachHeard, heard_has, count_granted, count_left, count_without, adopted_beside, credit_falls, plan_tried}

turned : (b : Bool) → not b ≡ true → b ≡ false
turned true e = cc
turned false e = refl

-- a grant on a machine that is not banned leaves the others bare
grant_bare : (bans : List ℕ) (table : Table) (s q : Spot) → has_number s.machine bans ≡ false → has_number q.machine bans ≡ true → count spot_cmp table q ≡ 0 → count spot_cmp (with_grant table s) q ≡ 0
grant_bare bans table s q free banned none = count_granted table s q ∙ by (eq_by_cmp spot_cmp q s) refl
  where
    by : (b : Bool) → eq_by_cmp spot_cmp q s ≡ b → cond b (count spot_cmp table s + 1) (count spot_cmp table q) ≡ 0
    by true e = let same : has_number q.machine bans ≡ has_number s.machine bans = ap (λ (x : Spot). has_number x.machine bans) (same_spot q s (tied _ e)) in absurd (let f : ⊥ = cc in f)
    by false e = none

-- where a pair is placeable its machine is not banned
placeable_free : (c : ClusterRecord) (M : Master) (s : Spot) → placeable c M s.job s.unit s.machine ≡ true → has_number s.machine M.bans ≡ false
placeable_free c M s p =
    let accepted = (both_true (accepts c M s.job s.unit s.machine) (has_room c M s.job s.unit s.machine) (both_true (may_grow c M s.job s.unit) (accepts c M s.job s.unit s.machine && has_room c M s.job s.unit s.machine) p).1).0 in
    let usable = (both_true (is_usable M s.job s.unit s.machine) _ accepted).0 in
    turned (has_number s.machine M.bans) (both_true (not (has_number s.machine M.bans)) _ (both_true (has_number s.machine M.reported) _ usable).1).0

settle_bare : (c : ClusterRecord) (fuel : ℕ) (M : Master) → IsBare M → IsBare (settle c fuel M)
settle_bare c zero M h = h
settle_bare c (suc fuel) M h = elim (first_placeable c M) as (λ o. first_placeable c M ≡ o → IsBare (elim o as (λ _. Master) [ None ↦ M | Some s ↦ settle c fuel (granted M s) ])) [
  | None ↦ λ _. h
  | Some s ↦ λ e. settle_bare c fuel (granted M s) (record { bare = λ a u m b. grant_bare M.bans M.table s (spot a u m) (placeable_free c M s (is_placeable c M s e)) b (h.bare a u m b) })
] refl

-- the end of a step
pub ready_bare : (c : ClusterRecord) (M : Master) → IsBare M → IsBare (ready c M)
ready_bare c M h = let N = line_up (phased c M) in let k : IsBare N = record { bare = h.bare } in
    elim N.serving as (λ b. IsBare (elim b as (λ _. Master) [ true ↦ settled c N | false ↦ N ])) [ true ↦ settle_bare c (all_out N) N k | false ↦ k ]

pub new_bare : (h : HardState) (e : ℕ) → IsBare (new_master h e)
new_bare h e = record { bare = λ a u m b. refl }

abbrev pub ChangedBare : MasterChange → Master → Type 0
ChangedBare x N = IsBare N

left_bare : (b : Bool) (n : ℕ) → n ≡ 0 → cond b n 0 ≡ 0
left_bare true n e = e
left_bare false n e = refl

-- each change
pub each_change : (c : ClusterRecord) (M : Master) → IsBare M → EachChange c M ChangedBare
each_change c M h = record {
  admits = λ j. record { bare = h.bare };
  ends = λ a. record { bare = λ b u m k. count_left (λ s. not (nat_eq s.job a)) M.table (spot b u m) ∙ left_bare (not (nat_eq b a)) _ (h.bare b u m k) };
  bans = λ n. record { bare = λ a u m k. count_left (λ s. not (nat_eq s.machine n)) M.table (spot a u m) ∙ banned n a u m k (nat_eq m n) refl };
  unbans = λ n. record { bare = λ a u m k. h.bare a u m (without_back m n M.bans k) };
  begins = record { bare = h.bare };
  preempts = λ p _ e. record { bare = λ a u m k. grant_bare M.bans (without_grants M.table p.losers) p.served (spot a u m) (plan_tried c M p e).candidate.usable.banned k (none p a u m k) };
}
  where
    banned : (n a u m : ℕ) → has_number m (with_number n M.bans) ≡ true → (b : Bool) → nat_eq m n ≡ b → cond (not b) (count spot_cmp M.table (spot a u m)) 0 ≡ 0
    banned n a u m k true e = refl
    banned n a u m k false e = h.bare a u m (with_back m n M.bans k e)

    none : (p : Plan) (a u m : ℕ) → has_number m M.bans ≡ true → count spot_cmp (without_grants M.table p.losers) (spot a u m) ≡ 0
    none p a u m k = let l = count_without p.losers M.table (spot a u m) in let z = h.bare a u m k in omega (arith, l, z)

pub changes_bare : (c : ClusterRecord) (M : Master) (x : MasterChange) (d : Changed) → IsBare M → change_of c M x ≡ Ok d → IsBare (ready c d.state)
changes_bare c M x d h e = ready_bare c d.state (changed_has c M ChangedBare (each_change c M h) x d e)

met_bare : (fresh : Bool) (M : Master) (a : ℕ) → IsBare M → IsBare (meet_app fresh M a)
met_bare true M a h = record { bare = h.bare }
met_bare false M a h = h

each_heard : (M : Master) (fresh : Bool) (from : Id) (l : Ledger) → IsBare M → EachHeard M fresh from l IsBare
each_heard M fresh from l h = record {
  same = λ _. h;
  reports = λ _ _. record { bare = λ a u m k. either (λ t. count spot_cmp t (spot a u m) ≡ 0) (has_number from.number M.bans) M.table (adopted M.jobs from.number l.rows M.table) (λ _. h.bare a u m k) (λ free. reported a u m k free (nat_eq m from.number) refl) };
  meets = λ _. met_bare fresh M from.number h;
  demands = λ _. demanded (meet_app fresh M from.number) (met_bare fresh M from.number h);
}
  where
    reported : (a u m : ℕ) → has_number m M.bans ≡ true → has_number from.number M.bans ≡ false → (b : Bool) → nat_eq m from.number ≡ b → count spot_cmp (adopted M.jobs from.number l.rows M.table) (spot a u m) ≡ 0
    reported a u m k free true e = let same : has_number m M.bans ≡ has_number from.number M.bans = ap (λ n. has_number n M.bans) (number_is m from.number e) in absurd (let f : ⊥ = cc in f)
    reported a u m k free false e = adopted_beside M.jobs from.number l.rows M.table (spot a u m) e ∙ h.bare a u m k

    demanded : (N : Master) → IsBare N → IsBare (take_demand N from.number l)
    demanded N k = either IsBare (nat_eq l.head N.epoch && is_live N.jobs from.number)
        (record N { demands = put nat_cmp from.number l N.demands; table = credit from.number (credited_of N from.number) l.entries N.table; credited = put nat_cmp from.number (raise_credited (credited_of N from.number) l.entries) N.credited })
        (record N { demands = put nat_cmp from.number nothing N.demands })
        (λ _. record { bare = λ a u m b. let f = credit_falls from.number (credited_of N from.number) l.entries N.table (spot a u m) in let z = k.bare a u m b in omega (arith, f, z) }) (λ _. record { bare = k.bare })

pub hearing_bare : (c : ClusterRecord) (M : Master) (fresh taken : Bool) (from : Id) (l : Ledger) → IsBare M → IsBare (ready c (told_of M fresh taken from l))
hearing_bare c M fresh taken from l h = ready_bare c (told_of M fresh taken from l) (heard_has M fresh taken from l IsBare (each_heard M fresh from l h))
