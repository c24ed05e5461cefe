-- The commands of masters in each world that the hard state and the masters are of.
use Rattle.std.proofs.Common.{Bor, ◌≡◌, ℕ, ◌<◌, true, false, nat_lt, [], ◌∷◌, ◌++◌, length, Option, Some, None, is_some, Ok, Err, refl, sym, ◌∙◌, ap, subst, arith, append-nil}
use Rattle.std.specs.Ordering.{nat_cmp}
use Rattle.std.specs.FinMap.Entries.{find}
use Rattle.std.specs.Map.{keys_of}
use Rattle.std.specs.Option.{option_copied, unwrap_or}
use Rattle.std.proofs.lemmas.Bool.Decides.{nat_tests}
use Rattle.std.proofs.lemmas.List.{length-map}
use Rattle.fuxi_terms.specs.Limits.{most_masters}
use Rattle.spec_net.specs.Channels.{master_id, party}
use Rattle.spec_roles.specs.Refusals.{Refusal as WrittenRefusal, NotRunning, with_found}
use Rattle.spec_roles.specs.HardState.{HardState, Raise, hard_step}
use Rattle.spec_roles.specs.Masters.{Master}
use Rattle.spec_roles.specs.MasterSteps.{MasterCommand}
use Rattle.spec_world.specs.World.{World, Step, prints_nothing, refused}
use Rattle.spec_world.specs.Events.{commanded, start_master, stop_master, without_master}
use Rattle.spec_refinement.specs.PartyJoins.{master_starts}
use Rattle.schedule_replay.specs.Held.{Held, IsOpen}
use Rattle.fuxi_master.specs.Cores.{MasterRecord}
use Rattle.running_parties.specs.Slots.{SlotsRecord, AreWithin, slot_at}
use Rattle.running_parties.specs.RunningMasters.{AreMastersOf, AreMastersOver, CommandRefusedIn, MasterAt, MasterRunsAs, MasterStartInWorld, ObeyInWorld, ObeysOneIn, StopsIn, epochs_of, master_steps}
use Rattle.schedule_text.specs.declared.refusal.Refusal.{Refusal}
use Rattle.schedule_text.specs.declared.refusal.Refusal.TheVariants as why
use Rattle.schedule_text.specs.Printing.{as_refusal}
use Rattle.schedule_replay.specs.MasterCommands.{AreGoverned, Governs, GovernsIn, IsGoverned, IsGoverning, IsRefused, MayStart, TakesStep, governing}
use Rattle.fuxi_terms.proofs.Lookups.{none_is}
use Rattle.schedule_replay.specs.Moves.{Leaves}
use Rattle.schedule_replay.proofs.RestStands.{leaves_by}
use Rattle.schedule_replay.proofs.CommandSteps.{start_done, start_refused}

-- A command, done or refused by the masters over the hard state
pub obeyed : (e : ℕ) (x : MasterCommand) (old new : Held) (ms after : SlotsRecord MasterRecord) (answer : Option (Option Refusal)) → IsOpen new → ObeyInWorld e x old.hard.value new.hard.value ms after answer
    → Governs (λ w. commanded w e x) (governing old ms) (governing new after) (unwrap_or answer (Some why.NotRunning))
obeyed e x old new ms after answer rests obeys w s = by answer (obeys w s.good s.stand s.hard)
  where
    still : (f : WrittenRefusal) → CommandRefusedIn w e x new.hard.value after f → IsGoverning w (governing new after)
    still f h = record { good = s.good; order = s.order; hard = h.hard; rests = rests; stand = h.stand }

    by : (answer : Option (Option Refusal)) → ObeysOneIn w e x new.hard.value after answer → GovernsIn w (commanded w e x) (governing new after) (unwrap_or answer (Some why.NotRunning))
    by None h = record { same = still NotRunning h; is = h.same }
    by (Some None) h = record { hard = h.hard; rests = rests; stand = h.stand; leaves = leaves_by w _ e h.role h.acts; quiet = h.quiet }
    by (Some (Some r)) h = record { same = still (as_refusal r) h; is = h.same }

-- the masters that are governed stand over the hard state
pub over : (checkpoint : Held) (ms : SlotsRecord MasterRecord) → AreGoverned (governing checkpoint ms) → AreMastersOver checkpoint.hard.value ms
over checkpoint ms g = record { world = g.world; good = g.of.good; stand = g.of.stand; hard = g.of.hard }

-- The master that runs
pub record RunsIn (w : World) (e : ℕ) : Type 0 where
  pub master : Master
  pub is : find nat_cmp e w.masters ≡ Some master

pub runs_in : (w : World) (e : ℕ) → is_some (find nat_cmp e w.masters) ≡ true → RunsIn w e
runs_in w e some = by (find nat_cmp e w.masters) refl some
  where
    by : (o : Option Master) → find nat_cmp e w.masters ≡ o → is_some o ≡ true → RunsIn w e
    by None is some = cc
    by (Some M) is some = record { master = M; is = is }

-- who runs, by the law of those who do, as it is called for
abbrev pub MastersRun : Type 0
MastersRun = (w : World) (x : SlotsRecord MasterRecord) → AreMastersOf w x → (e : ℕ) → MasterAt w e (slot_at x e)

pub master_here : MastersRun → (w : World) (x : SlotsRecord MasterRecord) (e : ℕ) (m : MasterRecord) → AreMastersOf w x → slot_at x e ≡ Some m → MasterRunsAs w e m.core
master_here run w x e m s is = subst (MasterAt w e) is (run w x s e)

pub some_runs : MastersRun → (w : World) (x : SlotsRecord MasterRecord) (e : ℕ) → AreMastersOf w x → is_some (slot_at x e) ≡ is_some (find nat_cmp e w.masters)
some_runs run w x e s = by (slot_at x e) (run w x s e)
  where
    by : (o : Option MasterRecord) → MasterAt w e o → is_some o ≡ is_some (find nat_cmp e w.masters)
    by None none = ap is_some (sym none)
    by (Some m) r = ap is_some (sym r.runs)

pub runs_as : MastersRun → (w : World) (x : SlotsRecord MasterRecord) (e : ℕ) (o : Option (Bor MasterRecord)) → option_copied o ≡ slot_at x e → AreMastersOf w x → is_some o ≡ is_some (find nat_cmp e w.masters)
runs_as run w x e o is s = copied o ∙ ap is_some is ∙ some_runs run w x e s
  where
    copied : (o : Option (Bor MasterRecord)) → is_some o ≡ is_some (option_copied o)
    copied None = refl
    copied (Some m) = refl

-- Starts
pub may_start : (w : World) (e fence count : ℕ) (checkpoint : Held) (ms : SlotsRecord MasterRecord) → IsGoverning w (governing checkpoint ms) → fence ≡ checkpoint.hard.value.fence → fence < e → count ≡ length ms.slots → epochs_of w.masters ≡ keys_of ms.slots → count < most_masters
    → MayStart w e
may_start w e fence count checkpoint ms s is above counted same few =
    let fenced : fence ≡ w.hard.fence = is ∙ ap (λ (h : HardState). h.fence) s.hard in
    let as_many : count ≡ length w.masters = counted ∙ sym (length-map ms.slots (λ x. x.0)) ∙ sym (ap length same) ∙ length-map w.masters (λ x. x.0) in
    record { above = subst (λ n. n < e) fenced above; few = subst (λ n. n < most_masters) as_many few }

tested_above : (w : World) (e : ℕ) → w.hard.fence < e → nat_lt w.hard.fence e ≡ true
tested_above w e above = grind (arith, nat_tests, above)

tested_few : (w : World) → length w.masters < most_masters → nat_lt (length w.masters) most_masters ≡ true
tested_few w few = grind (arith, nat_tests, few)

pub raise_refused : (w : World) (e : ℕ) (r : WrittenRefusal) → MayStart w e → hard_step w.hard e Raise ≡ Err r → start_master w e ≡ refused w r
raise_refused w e r may says = start_refused w e r (tested_above w e may.above) (tested_few w may.few) says

pub raise_done : (w : World) (e : ℕ) (k : HardState) → MayStart w e → hard_step w.hard e Raise ≡ Ok k → start_master w e ≡ prints_nothing (master_starts w k (w.ran ++ party master_id e ∷ []) e)
raise_done w e k may is = start_done w e k (tested_above w e may.above) (tested_few w may.few) is

pub starts_refused : (w : World) (e : ℕ) (old new : Held) (ms : SlotsRecord MasterRecord) (r : Refusal) → IsGoverning w (governing old ms) → MayStart w e → hard_step old.hard.value e Raise ≡ Err (as_refusal r) → new ≡ old → IsRefused w (start_master w e) (governing new ms) r
starts_refused w e old new ms r s may says same = record {
  same = subst (λ y. IsGoverning w (governing y ms)) (sym same) s;
  is = raise_refused w e (as_refusal r) may (subst (λ h. hard_step h e Raise ≡ Err (as_refusal r)) s.hard says);
}

pub starts_done : (w : World) (e : ℕ) (old new : Held) (ms after : SlotsRecord MasterRecord) → IsGoverning w (governing old ms) → MayStart w e → IsOpen new → hard_step old.hard.value e Raise ≡ Ok new.hard.value
    → MasterStartInWorld w.cluster new.hard.value e ms after → IsGoverned w (start_master w e) (governing new after)
starts_done w e old new ms after s may rests done starts =
    let same = s.hard in
    let k = new.hard.value in
    let h = starts w s.good s.stand refl may.above in
    let step = raise_done w e k may (ap (λ h. hard_step h e Raise) (sym same) ∙ done) in
    subst (λ y. IsGoverned w y (governing new after)) (sym step) (record { hard = refl; rests = rests; stand = h.stand; leaves = leaves_by w _ e _ h.acts; quiet = refl })

-- Steps: a start and a stop take none
pub may_step : (old new : SlotsRecord MasterRecord) → ((n : ℕ) → AreWithin master_steps n old → AreWithin master_steps n new) → TakesStep old new
may_step old new stays n within = record { within = λ e m runs. let le = (stays n within).within e m runs in omega (arith, le) }

-- Stops, after which the agents and the applications see what they saw
pub stop_leaves : (w : World) (e : ℕ) (h : HardState) → Leaves w (without_master w e h)
stop_leaves w e h = record { agents = record { seen = λ n. refl; boots = λ n. refl }; apps = record { seen = λ n. refl; boots = λ n. refl }; packets = sym (append-nil _); cluster = refl; events = refl }

abbrev stop_at : World → ℕ → Option Master → Step
stop_at w e o = with_found o (refused w NotRunning) (λ M. prints_nothing (without_master w e w.hard))

pub stop_done : (w : World) (e : ℕ) (old new : SlotsRecord MasterRecord) (checkpoint : Held) → IsGoverning w (governing checkpoint old) → StopsIn w e new true → IsGoverned w (stop_master w e) (governing checkpoint new)
stop_done w e old new checkpoint s stops =
    let r = runs_in w e (sym stops.answers) in
    let step : stop_master w e ≡ prints_nothing (without_master w e w.hard) = ap (stop_at w e) r.is in
    subst (λ t. IsGoverned w t (governing checkpoint new)) (sym step) (record { hard = s.hard; rests = s.rests; stand = stops.left w.hard; leaves = stop_leaves w e w.hard; quiet = refl })

pub stop_refused : (w : World) (e : ℕ) (old new : SlotsRecord MasterRecord) (checkpoint : Held) → IsGoverning w (governing checkpoint old) → StopsIn w e new false → IsRefused w (stop_master w e) (governing checkpoint new) why.NotRunning
stop_refused w e old new checkpoint s stops =
    let step : stop_master w e ≡ refused w NotRunning = ap (stop_at w e) (none_is _ (sym stops.answers)) in
    record { same = record { good = s.good; order = s.order; hard = s.hard; rests = s.rests; stand = subst (λ (t : Step). AreMastersOf t.world new) step stops.stand }; is = step }
