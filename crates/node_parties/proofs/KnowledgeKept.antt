-- What a master knows of the hard state stays, whatever it hears and is commanded.
use Rattle.std.proofs.Common.{◌≡◌, ℕ, zero, suc, Bool, true, false, cond, not, nat_eq, List, [], ◌∷◌, Option, Some, None, Result, Ok, Err, refl, sym, ◌∙◌, ap, subst, ◌<◌}
use Rattle.std.specs.Prelude.{◌&&◌}
use Rattle.fuxi_terms.proofs.Booleans.{either}
use Rattle.fuxi_terms.specs.Cluster.{ClusterRecord}
use Rattle.fuxi_terms.specs.Counts.{then_do}
use Rattle.fuxi_terms.specs.Jobs.{eight_places, is_live}
use Rattle.fuxi_terms.specs.Numbers.{with_number, without_number}
use Rattle.spec_net.specs.Net.{Id, is_taken}
use Rattle.spec_net.specs.Ledgers.{Ledger}
use Rattle.spec_net.specs.Channels.{is_agent}
use Rattle.spec_net.specs.Sides.{Parcel, HeardSide, hears_side}
use Rattle.spec_roles.specs.HardState.{HardState, HardEvent, Submission, Finishing, Banning, Unbanning, hard_after, hard_tests, with_ended, with_job}
use Rattle.spec_roles.specs.Masters.{Master}
use Rattle.spec_roles.specs.Placing.{first_placeable, granted, settle, settled, all_out, line_up}
use Rattle.spec_roles.specs.Preemption.{Plan, plan_of, preempted}
use Rattle.fuxi_terms.specs.Cluster.{has_group, has_machine}
use Rattle.spec_roles.specs.Refusals.{Refusal, AlreadyServing, NotServing, NothingToPreempt, NoGroup, NoMachine, first_refusal, job_tests, unless_fault, with_found}
use Rattle.spec_roles.specs.MasterSteps.{phased, ready, adopts, take_report, take_demand, meet_app, told_of, said, talks, master_party, MasterChange, Admits, Ends, Bans, Unbans, Begins, Preempts, Changed, change_of, changed_to, changes, writes, MasterCommand, Submits, Finishes, BansMachine, UnbansMachine, StartsServing, MakesRoom, Commanded, command_of}
use Rattle.spec_roles.specs.MasterRoles.{MasterRole, MasterHeard, master_changed, master_commanded, master_told, master_hears_alone, report_excess}
use Rattle.hard_state.specs.HardFiles.{Kept}
use Rattle.fuxi_master.specs.Cores.{MasterRecord, StandsFor}
use Rattle.node_core.specs.Roles.{Role, OfAgent, OfApp, OfMaster}
use Rattle.node_parties.specs.MasterParties.{NodeRecord, IsMasterOf, IsTied, StandsAs}

pub record SameKnowledge (M N : Master) : Type 0 where
  pub epoch : N.epoch ≡ M.epoch
  pub jobs : N.jobs ≡ M.jobs
  pub bans : N.bans ≡ M.bans

pub same : (M : Master) → SameKnowledge M M
same M = record { epoch = refl; jobs = refl; bans = refl }

then_same : (M N O : Master) → SameKnowledge M N → SameKnowledge N O → SameKnowledge M O
then_same M N O s t = record { epoch = t.epoch ∙ s.epoch; jobs = t.jobs ∙ s.jobs; bans = t.bans ∙ s.bans }

settle_same : (c : ClusterRecord) (fuel : ℕ) (M : Master) → SameKnowledge M (settle c fuel M)
settle_same c zero M = same M
settle_same c (suc fuel) M = elim (first_placeable c M) as (λ o. SameKnowledge M (elim o as (λ _. Master) [ None ↦ M | Some s ↦ settle c fuel (granted M s) ])) [
  | None ↦ same M
  | Some s ↦ let k = settle_same c fuel (granted M s) in record { epoch = k.epoch; jobs = k.jobs; bans = k.bans }
]

pub ready_same : (c : ClusterRecord) (M : Master) → SameKnowledge M (ready c M)
ready_same c M = let N = line_up (phased c M) in
    elim N.serving as (λ b. SameKnowledge M (elim b as (λ _. Master) [ true ↦ settled c N | false ↦ N ])) [
      | true ↦ let k = settle_same c (all_out N) N in record { epoch = k.epoch; jobs = k.jobs; bans = k.bans }
      | false ↦ record { epoch = refl; jobs = refl; bans = refl }
    ]

-- A packet that is heard
reported : (M : Master) (m : ℕ) (l : Ledger) → SameKnowledge M (take_report M m l)
reported M m l = either (SameKnowledge M) (adopts M m l) _ M (λ _. record { epoch = refl; jobs = refl; bans = refl }) (λ _. same M)

met : (fresh : Bool) (M : Master) (a : ℕ) → SameKnowledge M (meet_app fresh M a)
met true M a = record { epoch = refl; jobs = refl; bans = refl }
met false M a = same M

demanded : (M N : Master) (a : ℕ) (l : Ledger) → SameKnowledge M N → SameKnowledge M (take_demand N a l)
demanded M N a l s = either (SameKnowledge M) (nat_eq l.head N.epoch && is_live N.jobs a) _ _ (λ _. record { epoch = s.epoch; jobs = s.jobs; bans = s.bans }) (λ _. record { epoch = s.epoch; jobs = s.jobs; bans = s.bans })

told_same : (M : Master) (fresh taken : Bool) (from : Id) (l : Ledger) → SameKnowledge M (told_of M fresh taken from l)
told_same M fresh taken from l =
    let N = meet_app fresh M from.number in
    either (SameKnowledge M) (is_agent from) (cond taken (take_report M from.number l) M) (cond taken (take_demand N from.number l) N)
    (λ _. either (SameKnowledge M) taken (take_report M from.number l) M (λ _. reported M from.number l) (λ _. same M))
    (λ _. either (SameKnowledge M) taken (take_demand N from.number l) N (λ _. demanded M N from.number l (met fresh M from.number)) (λ _. met fresh M from.number))

heard_told : (r : MasterRole) (from : Id) (h : HeardSide) → SameKnowledge r.state (master_told r from h).role.state
heard_told r from h =
    let l = said r.cluster r.state from h.side.got in
    let M = told_of r.state h.fresh (is_taken h.what) from l in
    then_same r.state M (ready r.cluster M) (told_same r.state h.fresh (is_taken h.what) from l) (ready_same r.cluster M)

pub heard_same : (r : MasterRole) (x : Parcel) → SameKnowledge r.state (master_hears_alone (report_excess r.cluster r.state) r x).role.state
heard_same r x =
    let from = x.packet.from.id in
    let h = hears_side (master_party r.state) true (report_excess r.cluster r.state from) (r.sides from) x in
    either (λ (m : MasterHeard). SameKnowledge r.state m.role.state) (talks r.cluster r.state from) (master_told r from h) _ (λ _. heard_told r from h) (λ _. same r.state)

-- A change for which nothing is written
abbrev pub IsAlike : Master → Result Changed Refusal → Type 0
IsAlike M (Ok d) = SameKnowledge M d.state
IsAlike M (Err f) = Unit {0}

unless_alike : (M : Master) (o : Option Refusal) (r : Result Changed Refusal) → IsAlike M r → IsAlike M (elim o as (λ _. Result Changed Refusal) [ None ↦ r | Some f ↦ Err f ])
unless_alike M None r k = k
unless_alike M (Some f) r k = tt

pub begins_alike : (c : ClusterRecord) (M : Master) → IsAlike M (change_of c M Begins)
begins_alike c M = unless_alike M (first_refusal ((M.serving, AlreadyServing) ∷ [])) (changed_to (record M { serving = true })) (record { epoch = refl; jobs = refl; bans = refl })

found_alike : (M : Master) (o : Option Plan) → IsAlike M (with_found o (Err NothingToPreempt) (λ p. changed_to (preempted M p)))
found_alike M None = tt
found_alike M (Some p) = record { epoch = refl; jobs = refl; bans = refl }

pub preempts_alike : (c : ClusterRecord) (M : Master) → IsAlike M (change_of c M Preempts)
preempts_alike c M =
    unless_alike M (first_refusal ((not M.serving, NotServing) ∷ [])) (with_found (plan_of c M) (Err NothingToPreempt) (λ p. changed_to (preempted M p))) (found_alike M (plan_of c M))

-- A command leaves a master that knows the hard state that is written
pub record Knows (h : HardState) (M : Master) : Type 0 where
  pub jobs : M.jobs ≡ h.jobs
  pub bans : M.bans ≡ h.bans
  pub epoch : M.epoch ≡ h.fence
  pub begun : 0 < M.epoch

abbrev IsKnown : Result Commanded Refusal → Type 0
IsKnown (Ok k) = Knows k.hard k.change.state
IsKnown (Err f) = Unit {0}

tested_known : (tests : List (Bool × Refusal)) (r : Result Commanded Refusal) → IsKnown r → IsKnown (unless_fault tests r)
tested_known tests r known = by (first_refusal tests)
  where
    by : (o : Option Refusal) → IsKnown (elim o as (λ _. Result Commanded Refusal) [ None ↦ r | Some f ↦ Err f ])
    by None = known
    by (Some f) = tt

written_known : (c : ClusterRecord) (h : HardState) (M : Master) (v : HardEvent) (x : MasterChange) → IsKnown (changes c (hard_after h M.epoch v) M x) → IsKnown (writes c h M v x)
written_known c h M v x known = by (first_refusal (hard_tests h M.epoch v))
  where
    by : (o : Option Refusal) → IsKnown (then_do (elim o as (λ _. Result HardState Refusal) [ None ↦ Ok (hard_after h M.epoch v) | Some f ↦ Err f ]) (λ k. changes c k M x))
    by None = known
    by (Some f) = tt

alike_known : (h : HardState) (M : Master) (res : Result Changed Refusal) → Knows h M → IsAlike M res → IsKnown (then_do res (λ (d : Changed). Ok (record { hard = h; change = d })))
alike_known h M (Ok d) k same = record { jobs = same.jobs ∙ k.jobs; bans = same.bans ∙ k.bans; epoch = same.epoch ∙ k.epoch; begun = subst (λ n. 0 < n) (sym same.epoch) k.begun }
alike_known h M (Err f) k same = tt

command_known : (c : ClusterRecord) (h : HardState) (M : Master) (x : MasterCommand) → Knows h M → IsKnown (command_of c h M x)
command_known c h M (Submits j) k =
    let v = Submission (eight_places j) in
    let x = Admits (eight_places j) in
    tested_known ((not (has_group c j.group), NoGroup) ∷ job_tests c.resources j) (writes c h M v x)
    (written_known c h M v x (record { jobs = ap (with_job (eight_places j)) k.jobs; bans = k.bans; epoch = k.epoch; begun = k.begun }))
command_known c h M (Finishes a) k = written_known c h M (Finishing a) (Ends a) (record { jobs = ap (with_ended a) k.jobs; bans = k.bans; epoch = k.epoch; begun = k.begun })
command_known c h M (BansMachine m) k =
    tested_known ((not (has_machine c m), NoMachine) ∷ []) (writes c h M (Banning m) (Bans m))
    (written_known c h M (Banning m) (Bans m) (record { jobs = k.jobs; bans = ap (with_number m) k.bans; epoch = k.epoch; begun = k.begun }))
command_known c h M (UnbansMachine m) k =
    tested_known ((not (has_machine c m), NoMachine) ∷ []) (writes c h M (Unbanning m) (Unbans m))
    (written_known c h M (Unbanning m) (Unbans m) (record { jobs = k.jobs; bans = ap (without_number m) k.bans; epoch = k.epoch; begun = k.begun }))
command_known c h M StartsServing k = alike_known h M (change_of c M Begins) k (begins_alike c M)
command_known c h M MakesRoom k = alike_known h M (change_of c M Preempts) k (preempts_alike c M)

abbrev pub KnowsAfter : Result (MasterRole × HardState) Refusal → Type 0
KnowsAfter (Ok p) = Knows p.1 p.0.state
KnowsAfter (Err f) = Unit {0}

pub commanded_knows : (h : HardState) (r : MasterRole) (x : MasterCommand) → Knows h r.state → KnowsAfter (master_commanded r h x)
commanded_knows h r x k = by (command_of r.cluster h r.state x) (command_known r.cluster h r.state x k)
  where
    by : (res : Result Commanded Refusal) → IsKnown res → KnowsAfter (then_do res (λ (k : Commanded). Ok (master_changed r k.change, k.hard)))
    by (Ok d) known = let s = ready_same r.cluster d.change.state in
        record { jobs = s.jobs ∙ known.jobs; bans = s.bans ∙ known.bans; epoch = s.epoch ∙ known.epoch; begun = subst (λ n. 0 < n) (sym s.epoch) known.begun }
    by (Err f) known = tt

-- The node stands for the master that knows the same
pub still_of : (h : HardState) (r s : MasterRole) (hard : Kept) (m n : MasterRecord) → IsMasterOf h r (record { hard = hard; master = m }) → StandsFor n.core s → SameKnowledge r.state s.state → IsMasterOf h s (record { hard = hard; master = n })
still_of h r s hard m n of stands k = record { value = of.value; stands = stands; jobs = k.jobs ∙ of.jobs; bans = k.bans ∙ of.bans; epoch = k.epoch ∙ of.epoch; begun = subst (λ n. 0 < n) (sym k.epoch) of.begun }

pub tied_by : (x : NodeRecord) (p : Role) → StandsAs x p → IsTied x
tied_by x (OfAgent r) s = elim s [ ]
tied_by x (OfApp r) s = elim s [ ]
tied_by x (OfMaster h r) s = record { hard = h; role = r; stands = s }
