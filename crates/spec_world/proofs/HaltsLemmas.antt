-- What a stop within a writing leaves.
use Rattle.std.proofs.Common.{◌≡◌, ℕ, ◌≤◌, Bool, true, false, cond, not, nat_eq, nat_lt, List, [], ◌∷◌, ◌++◌, length, map, Option, Some, None, Result, Ok, Err, refl, sym, ◌∙◌, ap, subst, arith}
use Rattle.std.specs.Prelude.{⊤}
use Rattle.std.specs.Ordering.{nat_cmp}
use Rattle.std.specs.FinMap.Entries.{find, where_key}
use Rattle.std.proofs.lemmas.Bool.Decides.{nat_tests}
use Rattle.fuxi_terms.specs.Cluster.{ClusterRecord}
use Rattle.fuxi_terms.specs.Jobs.{job_numbers}
use Rattle.fuxi_terms.specs.Limits.{most_masters}
use Rattle.fuxi_terms.proofs.Booleans.{either, nat_itself}
use Rattle.spec_net.specs.Channels.{app_id, master_id, party}
use Rattle.spec_net.specs.Net.{Starts, move}
use Rattle.spec_roles.specs.HardState.{HardState, Raise, hard_after, hard_tests, is_not_rising}
use Rattle.spec_roles.specs.Masters.{Master}
use Rattle.spec_roles.specs.MasterSteps.{new_master}
use Rattle.spec_roles.specs.Refusals.{NotRising, NotRunning, Refusal, TooManyMasters, first_refusal, with_found}
use Rattle.spec_world.specs.Events.{Ban, Event, Finish, Halt, StartMaster, Submit, Unban, act, counted_in, halted, is_writing, is_written, without_master, world_step, writer_of}
use Rattle.spec_world.specs.Halts.{Halts, StopsNobody, is_start}
use Rattle.spec_world.specs.Parties.{end_step}
use Rattle.spec_world.specs.Runs.{run}
use Rattle.spec_world.specs.EventSteps.{IsDone}
use Rattle.spec_world.specs.World.{Step, World, empty_world, on_result, prints_nothing, refused}
use Rattle.spec_world.proofs.EventsWalk.{run_keeps, unasked}
use Rattle.spec_world.proofs.InvariantKept.{always, left_fence, not_refused}
use Rattle.spec_world.proofs.LeftLemmas.{left_by, left_out}
use Rattle.spec_world.proofs.StartsLemmas.{IsGone, events_gone, gone_of, run_append, stopped_epochs}

-- A master that writes and is not started by it runs
record Runs (w : World) (e : ℕ) : Type 0 where
  master : Master
  runs : find nat_cmp e w.masters ≡ Some master

running : (w : World) (e : ℕ) (o : Option Master) (f : Master → Step) → find nat_cmp e w.masters ≡ o → (with_found o (refused w NotRunning) f).lines ≡ [] → Runs w e
running w e None f is done = cc
running w e (Some M) f is done = record { master = M; runs = is }

writer_runs : (w : World) (x : Event) → is_writing x ≡ true → is_start x ≡ false → (act w x).lines ≡ [] → Runs w (writer_of x)
writer_runs w (Submit e j) writes other done = running w e _ _ refl done
writer_runs w (Finish e a) writes other done = running w e _ _ refl done
writer_runs w (Ban e m) writes other done = running w e _ _ refl done
writer_runs w (Unban e m) writes other done = running w e _ _ refl done
writer_runs w x writes other done = cc

-- A start is done exactly where its tests pass
abbrev start_tests : World → ℕ → List (Bool × Refusal)
start_tests w e = is_not_rising w.hard e ∷ (not (nat_lt (length w.masters) most_masters), TooManyMasters most_masters) ∷ []

abbrev started : World → ℕ → HardState → Step
started w e h = prints_nothing (end_step (record w { hard = h; ran = w.ran ++ party master_id e ∷ [] }) (move w.net (Starts (party master_id e))) (new_master h e) (map app_id (job_numbers h.jobs)))

abbrev tried : World → ℕ → Option Refusal → Option Refusal → Step
tried w e first second = elim first as (λ _. Step) [
  | None ↦ on_result w (elim second as (λ _. Result HardState Refusal) [ None ↦ Ok (hard_after w.hard e Raise) | Some r ↦ Err r ]) (started w e)
  | Some r ↦ refused w r
]

passed : (w : World) (e : ℕ) (first second : Option Refusal) → (tried w e first second).lines ≡ [] → (first ≡ None) × (second ≡ None)
passed w e None None done = (refl, refl)
passed w e None (Some r) done = cc
passed w e (Some r) second done = cc

fewer_left : (p : ℕ → Bool) (es : List (ℕ × Master)) → length (where_key nat_cmp p es) ≤ length es
fewer_left p [] = omega arith
fewer_left p (x ∷ es) = let rest = fewer_left p es in either (λ (l : List (ℕ × Master)). length l ≤ length (x ∷ es)) (p x.0) (x ∷ where_key nat_cmp p es) (where_key nat_cmp p es) (λ _. omega (arith, rest)) (λ _. omega (arith, rest))

-- a start that is done is done too where fewer masters run
starts_again : (w v : World) (e : ℕ) → v.hard ≡ w.hard → length v.masters ≤ length w.masters → (act w (StartMaster e)).lines ≡ [] → (act v (StartMaster e)).lines ≡ []
starts_again w v e hard fewer done =
    let p = passed w e (first_refusal (start_tests w e)) (first_refusal (hard_tests w.hard e Raise)) done in
    let many = not (nat_lt (length w.masters) most_masters) in
    let first = not_refused (not (nat_lt w.hard.fence e)) (NotRising w.hard.fence) ((many, TooManyMasters most_masters) ∷ []) p.0 in
    let room = (not_refused many (TooManyMasters most_masters) [] first.1).0 in
    let few : not (nat_lt (length v.masters) most_masters) ≡ false = grind (arith, nat_tests, room, fewer) in
    let tests : first_refusal (start_tests v e) ≡ None = ap (λ (h : HardState). first_refusal (is_not_rising h e ∷ (not (nat_lt (length v.masters) most_masters), TooManyMasters most_masters) ∷ [])) hard
    ∙ ap (λ b. first_refusal ((b, NotRising w.hard.fence) ∷ (not (nat_lt (length v.masters) most_masters), TooManyMasters most_masters) ∷ [])) first.0 ∙ ap (λ b. first_refusal ((b, TooManyMasters most_masters) ∷ [])) few in
    let writes : first_refusal (hard_tests v.hard e Raise) ≡ None = ap (λ (h : HardState). first_refusal (hard_tests h e Raise)) hard ∙ p.1 in
    ap (λ o. (tried v e o (first_refusal (hard_tests v.hard e Raise))).lines) tests ∙ ap (λ o. (tried v e None o).lines) writes

start_again : (x : Event) → is_start x ≡ true → (w v : World) → v.hard ≡ w.hard → length v.masters ≤ length w.masters → (act w x).lines ≡ [] → (act v x).lines ≡ []
start_again (StartMaster e) start w v hard fewer done = starts_again w v e hard fewer done
start_again x start w v hard fewer done = cc

-- A stop of a line that would not be refused
module _ (c : ClusterRecord) (before : List Event) (calls : ℕ) (all : Bool) (x : Event) (writes : is_writing x ≡ true) (done : IsDone (run c before) x) where
  abbrev w : World
  w = counted_in (run c before)

  abbrev e : ℕ
  e = writer_of x

  abbrev hard : HardState
  hard = cond (is_written calls all) (act (counted_in (run c before)) x).world.hard (run c before).hard

  step_is : world_step (run c before) (Halt calls all x) ≡ halted w e (is_written calls all) (act w x).world []
  step_is = ap (λ ls. halted w e (is_written calls all) (act w x).world ls) done

  none_left : find nat_cmp e (where_key nat_cmp (λ k. not (nat_eq k e)) w.masters) ≡ None
  none_left = left_out e e w.masters ∙ ap (λ b. cond (not b) (find nat_cmp e w.masters) None) (nat_itself e)

  world_is : run c (before ++ Halt calls all x ∷ []) ≡ without_master w e hard
  world_is = run_append before (Halt calls all x ∷ []) (empty_world c) ∙ ap (λ (s : Step). s.world) step_is

  -- the fence does not fall
  fence_stays : w.hard.fence ≤ hard.fence
  fence_stays = either (λ (h : HardState). w.hard.fence ≤ h.fence) (is_written calls all) (act w x).world.hard w.hard
      (λ _. let l = (left_by (λ _. ⊤) w calls all x tt).it done in subst (λ (h : HardState). w.hard.fence ≤ h.fence) (sym l.is) (left_fence (λ _. ⊤) w.cluster w.hard w.masters e l.which)) (λ _. omega arith)

  is_gone : is_start x ≡ false → IsGone e hard (where_key nat_cmp (λ k. not (nat_eq k e)) w.masters)
  is_gone other =
      let r = writer_runs w x writes other done in
      let ran = ((always c before).masters e r.master r.runs).ran in
      let up = fence_stays in
      record { below = omega (arith, ran, up); gone = none_left; epochs = stopped_epochs e w.masters (λ k N f. ((always c before).masters k N f).epoch) }

  pub halts_so : (after : List Event) → Halts c before after calls all x
  halts_so after = record {
    lines = ap (λ (s : Step). s.lines) step_is;
    world = ap (λ (s : Step). s.world) step_is;
    gone = ap (λ (v : World). find nat_cmp e v.masters) world_is ∙ none_left;
    stays = λ other.
        ap (λ (v : World). find nat_cmp e v.masters) (run_append before (Halt calls all x ∷ after) (empty_world c))
        ∙ (run_keeps (gone_of e) (λ _. ⊤) (events_gone e) after (world_step (run c before) (Halt calls all x)).world (unasked after) (subst (λ (s : Step). IsGone e s.world.hard s.world.masters) (sym step_is) (is_gone other))).it.gone;
    starts = λ start unwritten. start_again x start w (counted_in (run c (before ++ Halt calls all x ∷ []))) (ap (λ (v : World). v.hard) world_is ∙ ap (λ b. cond b (act w x).world.hard (run c before).hard) unwritten)
        (subst (λ (v : World). length v.masters ≤ length w.masters) (sym world_is) (fewer_left (λ k. not (nat_eq k e)) w.masters)) done;
  }

-- of a refused line
pub stops_nobody : (w : World) (x : Event) (r : Refusal) → StopsNobody w x r
stops_nobody w x r calls all is = ap (λ ls. halted (counted_in w) (writer_of x) (is_written calls all) (world_step w x).world ls) is
