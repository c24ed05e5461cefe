-- What holds of the refusal of a command and of the step that it makes, holds of the command.
use Rattle.std.proofs.Common.{◌≡◌, ℕ, Bool, true, false, not, List, [], ◌∷◌, Option, Some, None, Result, Ok, Err, refl}
use Rattle.fuxi_terms.specs.Counts.{then_do}
use Rattle.spec_roles.specs.Refusals.{Refusal, first_refusal, unless_fault, with_found, AlreadyServing, NotServing, NoGroup, NoMachine, NothingToPreempt, job_tests}
use Rattle.spec_roles.specs.HardState.{HardState, HardEvent, hard_tests, hard_after, hard_step, finished, banned, unbanned, submit_tests, submitted, with_job, Finishing, Banning, Unbanning, Submission, finish_tests, ban_tests, unban_tests}
use Rattle.spec_roles.specs.MasterSteps.{Changed, Commanded, ended_in, banned_in, command_of, Submits, Finishes, BansMachine, UnbansMachine, StartsServing, MakesRoom}
use Rattle.spec_world.specs.World.{World, Step, refused, on_result}
use Rattle.spec_roles.specs.Masters.{Master}
use Rattle.fuxi_terms.specs.Cluster.{JobRecord, has_group, has_machine}
use Rattle.spec_roles.specs.Preemption.{Plan, plan_of, preempted}
use Rattle.fuxi_terms.specs.Numbers.{without_number}
use Rattle.fuxi_terms.specs.Jobs.{eight_places}
use Rattle.spec_net.specs.Channels.{app_id}

-- what holds of what is found, and where nothing is
pub found_has : {A B : Type 0} (P : B → Type 0) (o : Option A) (b : B) (f : A → B) → P b → ((x : A) → o ≡ Some x → P (f x)) → P (with_found o b f)
found_has P None b f h k = h
found_has P (Some x) b f h k = k x refl

module _ (P : Step → Type 0) (w : World) (stays : (r : Refusal) → P (refused w r)) where
  -- one writing to the hard state
  pub hard_has : (h : HardState) (e : ℕ) (v : HardEvent) (f : HardState → Step) → (first_refusal (hard_tests h e v) ≡ None → P (f (hard_after h e v))) → P (on_result w (hard_step h e v) f)
  hard_has h e v f made = elim (first_refusal (hard_tests h e v)) as (λ o. first_refusal (hard_tests h e v) ≡ o → P (on_result w (elim o as (λ _. Result HardState Refusal) [ None ↦ Ok (hard_after h e v) | Some r ↦ Err r ]) f)) [
    | None ↦ λ t. made t
    | Some r ↦ λ t. stays r
  ] refl

  -- a command that is written first, behind tests of its own
  pub wrote_has : (tests : List (Bool × Refusal)) (h : HardState) (e : ℕ) (v : HardEvent) (g : HardState → Commanded) (f : Commanded → Step)
      → (first_refusal tests ≡ None → first_refusal (hard_tests h e v) ≡ None → P (f (g (hard_after h e v)))) → P (on_result w (unless_fault tests (then_do (hard_step h e v) (λ k. Ok (g k)))) f)
  wrote_has tests h e v g f made = elim (first_refusal tests) as (λ o. first_refusal tests ≡ o → P (on_result w (elim o as (λ _. Result Commanded Refusal) [ None ↦ then_do (hard_step h e v) (λ k. Ok (g k)) | Some r ↦ Err r ]) f)) [
    | None ↦ λ t. elim (first_refusal (hard_tests h e v)) as (λ o. first_refusal (hard_tests h e v) ≡ o → P (on_result w (then_do (elim o as (λ _. Result HardState Refusal) [ None ↦ Ok (hard_after h e v) | Some r ↦ Err r ]) (λ k. Ok (g k))) f)) [
      | None ↦ λ s. made t s
      | Some r ↦ λ s. stays r
    ] refl
    | Some r ↦ λ t. stays r
  ] refl

  -- a command of the master alone
  pub changed_has : (tests : List (Bool × Refusal)) (h : HardState) (d : Changed) (f : Commanded → Step) → P (f (record { hard = h; change = d }))
      → P (on_result w (then_do (unless_fault tests (Ok d)) (λ (d : Changed). Ok (record { hard = h; change = d }))) f)
  changed_has tests h d f made = elim (first_refusal tests) as (λ o. P (on_result w (then_do (elim o as (λ _. Result Changed Refusal) [ None ↦ Ok d | Some r ↦ Err r ]) (λ (d : Changed). Ok (record { hard = h; change = d }))) f)) [
    | None ↦ made
    | Some r ↦ stays r
  ]

  -- the same of one that first has to find something
  pub found_changed_has : {A : Type 0} (tests : List (Bool × Refusal)) (h : HardState) (o : Option A) (r : Refusal) (g : A → Changed) (f : Commanded → Step) → (first_refusal tests ≡ None → (x : A) → o ≡ Some x → P (f (record { hard = h; change = g x })))
      → P (on_result w (then_do (unless_fault tests (with_found o (Err r) (λ x. Ok (g x)))) (λ (d : Changed). Ok (record { hard = h; change = d }))) f)
  found_changed_has {A} tests h o r g f made = elim (first_refusal tests) as (λ t. first_refusal tests ≡ t → P (on_result w (then_do (elim t as (λ _. Result Changed Refusal) [ None ↦ with_found o (Err r) (λ x. Ok (g x)) | Some r ↦ Err r ]) (λ (d : Changed). Ok (record { hard = h; change = d }))) f)) [
    | None ↦ λ t. elim o as (λ (o' : Option A). o ≡ o' → P (on_result w (then_do (with_found o' (Err r) (λ x. Ok (g x))) (λ (d : Changed). Ok (record { hard = h; change = d }))) f)) [
      | None ↦ λ _. stays r
      | Some x ↦ λ e. made t x e
    ] refl
    | Some s ↦ λ _. stays s
  ] refl

-- each command of a master
module _ (P : Step → Type 0) (w : World) (stays : (r : Refusal) → P (refused w r)) (M : Master) (f : Commanded → Step) where
  pub submits_has : (j : JobRecord) → (first_refusal ((not (has_group w.cluster j.group), NoGroup) ∷ job_tests w.cluster.resources j) ≡ None → first_refusal (submit_tests w.hard M.epoch (eight_places j)) ≡ None → P (f (record { hard = submitted w.hard (eight_places j); change = record { state = record M { jobs = with_job (eight_places j) M.jobs }; even_if_equal = app_id j.number ∷ [] } })))
      → P (on_result w (command_of w.cluster w.hard M (Submits j)) f)
  submits_has j made = wrote_has P w stays ((not (has_group w.cluster j.group), NoGroup) ∷ job_tests w.cluster.resources j) w.hard M.epoch (Submission (eight_places j))
      (λ k. record { hard = k; change = record { state = record M { jobs = with_job (eight_places j) M.jobs }; even_if_equal = app_id j.number ∷ [] } }) f made

  -- a job that ends
  pub finishes_has : (a : ℕ) → (first_refusal (finish_tests w.hard M.epoch a) ≡ None → P (f (record { hard = finished w.hard a; change = record { state = ended_in M a; even_if_equal = [] } }))) → P (on_result w (command_of w.cluster w.hard M (Finishes a)) f)
  finishes_has a made = wrote_has P w stays [] w.hard M.epoch (Finishing a) (λ k. record { hard = k; change = record { state = ended_in M a; even_if_equal = [] } }) f (λ _ t. made t)

  -- a ban
  pub bans_has : (m : ℕ) → (first_refusal (ban_tests w.hard M.epoch m) ≡ None → P (f (record { hard = banned w.hard m; change = record { state = banned_in M m; even_if_equal = [] } }))) → P (on_result w (command_of w.cluster w.hard M (BansMachine m)) f)
  bans_has m made = wrote_has P w stays ((not (has_machine w.cluster m), NoMachine) ∷ []) w.hard M.epoch (Banning m) (λ k. record { hard = k; change = record { state = banned_in M m; even_if_equal = [] } }) f (λ _ t. made t)

  -- a ban lifted
  pub unbans_has : (m : ℕ) → (first_refusal (unban_tests w.hard M.epoch m) ≡ None → P (f (record { hard = unbanned w.hard m; change = record { state = record M { bans = without_number m M.bans }; even_if_equal = [] } }))) → P (on_result w (command_of w.cluster w.hard M (UnbansMachine m)) f)
  unbans_has m made = wrote_has P w stays ((not (has_machine w.cluster m), NoMachine) ∷ []) w.hard M.epoch (Unbanning m) (λ k. record { hard = k; change = record { state = record M { bans = without_number m M.bans }; even_if_equal = [] } }) f (λ _ t. made t)

  -- serving from here on
  pub begins_has : P (f (record { hard = w.hard; change = record { state = record M { serving = true }; even_if_equal = [] } })) → P (on_result w (command_of w.cluster w.hard M StartsServing) f)
  begins_has made = changed_has P w stays ((M.serving, AlreadyServing) ∷ []) w.hard (record { state = record M { serving = true }; even_if_equal = [] }) f made

  -- a preemption, of a master that serves
  pub serving_makes_room_has : ((p : Plan) → M.serving ≡ true → plan_of w.cluster M ≡ Some p → P (f (record { hard = w.hard; change = record { state = preempted M p; even_if_equal = [] } }))) → P (on_result w (command_of w.cluster w.hard M MakesRoom) f)
  serving_makes_room_has made = found_changed_has P w stays ((not M.serving, NotServing) ∷ []) w.hard (plan_of w.cluster M) NothingToPreempt (λ p. record { state = preempted M p; even_if_equal = [] }) f (λ t p e. made p (serves M.serving t) e)
    where
      serves : (b : Bool) → first_refusal ((not b, NotServing) ∷ []) ≡ None → b ≡ true
      serves true t = refl
      serves false t = cc

  -- of any
  pub makes_room_has : ((p : Plan) → plan_of w.cluster M ≡ Some p → P (f (record { hard = w.hard; change = record { state = preempted M p; even_if_equal = [] } }))) → P (on_result w (command_of w.cluster w.hard M MakesRoom) f)
  makes_room_has made = serving_makes_room_has (λ p _ e. made p e)
