-- The written steps of masters, by the tests that pass.
use Rattle.std.proofs.Common.{◌≡◌, ℕ, Bool, true, false, not, nat_lt, List, [], ◌∷◌, ◌++◌, length, Option, Some, None, Result, Ok, Err, refl, ◌∙◌, ap}
use Rattle.std.specs.Ordering.{nat_cmp}
use Rattle.std.specs.FinMap.Entries.{find}
use Rattle.fuxi_terms.specs.Cluster.{ClusterRecord}
use Rattle.fuxi_terms.specs.Counts.{then_do}
use Rattle.fuxi_terms.specs.Limits.{most_masters}
use Rattle.spec_net.specs.Channels.{master_id, party}
use Rattle.spec_roles.specs.Refusals.{Refusal, NotRunning, TooManyMasters, first_refusal, with_found}
use Rattle.spec_roles.specs.HardState.{HardState, HardEvent, Raise, hard_step, is_not_rising}
use Rattle.spec_roles.specs.Masters.{Master}
use Rattle.spec_roles.specs.MasterSteps.{Changed, Commanded, MasterChange, MasterCommand, change_of, changes, command_of, writes}
use Rattle.spec_world.specs.World.{World, Step, on_result, prints_nothing, refused}
use Rattle.spec_world.specs.Parties.{end_step}
use Rattle.spec_world.specs.Events.{commanded, start_master}
use Rattle.spec_refinement.specs.PartyJoins.{master_starts}

-- A test that passes
pub none_before : (t : Bool × Refusal) (ts : List (Bool × Refusal)) → t.0 ≡ false → first_refusal (t ∷ ts) ≡ first_refusal ts
none_before (true, r) ts e = cc
none_before (false, r) ts e = refl

-- What a command does where the master runs
abbrev pub told_step : World → Result Commanded Refusal → Step
told_step w r = on_result w r (λ k. prints_nothing (end_step (record w { hard = k.hard }) w.net k.change.state k.change.even_if_equal))

pub told_is : (w : World) (e : ℕ) (x : MasterCommand) (M : Master) → find nat_cmp e w.masters ≡ Some M → commanded w e x ≡ told_step w (command_of w.cluster w.hard M x)
told_is w e x M runs = ap (λ o. with_found o (refused w NotRunning) (λ M. told_step w (command_of w.cluster w.hard M x))) runs

pub none_told : (w : World) (e : ℕ) (x : MasterCommand) → find nat_cmp e w.masters ≡ None → commanded w e x ≡ refused w NotRunning
none_told w e x none = ap (λ o. with_found o (refused w NotRunning) (λ M. told_step w (command_of w.cluster w.hard M x))) none

-- Writings
pub writes_refused : (c : ClusterRecord) (h : HardState) (M : Master) (v : HardEvent) (x : MasterChange) (r : Refusal) → hard_step h M.epoch v ≡ Err r → writes c h M v x ≡ Err r
writes_refused c h M v x r is = ap (λ y. then_do y (λ k. changes c k M x)) is

pub writes_done : (c : ClusterRecord) (h : HardState) (M : Master) (v : HardEvent) (x : MasterChange) (k : HardState) (d : Changed) → hard_step h M.epoch v ≡ Ok k → change_of c M x ≡ Ok d → writes c h M v x ≡ Ok (record { hard = k; change = d })
writes_done c h M v x k d is to = ap (λ y. then_do y (λ k. changes c k M x)) is ∙ ap (λ y. then_do y (λ (d : Changed). Ok (record { hard = k; change = d }))) to

-- Starts
abbrev start_step : World → ℕ → Result HardState Refusal → Step
start_step w e r = on_result w r (λ h. prints_nothing (master_starts w h (w.ran ++ party master_id e ∷ []) e))

abbrev start_at : World → ℕ → Option Refusal → Step
start_at w e o = elim o as (λ _. Step) [ None ↦ start_step w e (hard_step w.hard e Raise) | Some r ↦ refused w r ]

start_rises : (w : World) (e : ℕ) → nat_lt w.hard.fence e ≡ true → first_refusal (is_not_rising w.hard e ∷ (not (nat_lt (length w.masters) most_masters), TooManyMasters most_masters) ∷ [])
    ≡ first_refusal ((not (nat_lt (length w.masters) most_masters), TooManyMasters most_masters) ∷ [])
start_rises w e above = none_before (is_not_rising w.hard e) ((not (nat_lt (length w.masters) most_masters), TooManyMasters most_masters) ∷ []) (ap not above)

start_tested : (w : World) (e : ℕ) → nat_lt w.hard.fence e ≡ true → nat_lt (length w.masters) most_masters ≡ true → start_master w e ≡ start_step w e (hard_step w.hard e Raise)
start_tested w e above few = ap (start_at w e) (start_rises w e above ∙ none_before (not (nat_lt (length w.masters) most_masters), TooManyMasters most_masters) [] (ap not few))

pub start_refused : (w : World) (e : ℕ) (r : Refusal) → nat_lt w.hard.fence e ≡ true → nat_lt (length w.masters) most_masters ≡ true → hard_step w.hard e Raise ≡ Err r → start_master w e ≡ refused w r
start_refused w e r above few is = start_tested w e above few ∙ ap (start_step w e) is

pub start_done : (w : World) (e : ℕ) (k : HardState) → nat_lt w.hard.fence e ≡ true → nat_lt (length w.masters) most_masters ≡ true → hard_step w.hard e Raise ≡ Ok k
    → start_master w e ≡ prints_nothing (master_starts w k (w.ran ++ party master_id e ∷ []) e)
start_done w e k above few is = start_tested w e above few ∙ ap (start_step w e) is
